-- What is answered line by line: feeding an input byte by byte answers on its lines.
use mathlib.Core.Path.{◌≡◌, refl, sym, ◌∙◌, ap}
use mathlib.Core.Logic.{◌⊎◌, inl, inr}
use mathlib.Core.Bool.{Bool, false}
use mathlib.Core.List.{List, [], ◌∷◌, ◌++◌}
use Prim.Native.Nat.{ℕ, zero, suc, ◌+◌, ◌≤◌, ◌<◌}
use native.Mathlib.Omega.{arith}
use lib.ListN.{length, take, replicate, length-replicate}
use Rattle.base.specs.Meaning.{pick}
use Rattle.base.proofs.Tests.{same}
use Rattle.refusal.specs.declared.Reason.TheVariants.{Line}
use Rattle.refusal.specs.Meaning.{refusal}
use Rattle.hexline.specs.declared.Frame.{Frame}
use Rattle.hexline.specs.Meaning.{NoFrame, good_frame}
use Rattle.hexline.specs.Reading.{frame_of}
use Rattle.hexline.proofs.Meaning.{Read, decided, frame_read, bad_read, front}
use Rattle.loader.specs.declared.Loader.{Loader}
use Rattle.loader.specs.Reading.{fed_of as pieceFed, close_answer}
use Rattle.frames.specs.declared.Frames.{Frames}
use Rattle.loader.specs.Meaning.{fed_all}
use Rattle.frames.specs.Meaning.{limit, AreFrames}
use Rattle.frames.specs.Reading.{counted_of, fresh_of, ended_of, with_of, took_of, byte_of, fed_of, answered_of, last_of, closed_of}
use Rattle.frames.proofs.Feeding.{counted_more, byte_full, byte_newline, byte_char, last_bad, last_good, closed_last, bad_answered, full_answered}
use Rattle.frames.proofs.Held.{Holds, nothing_held, held_read, Longer, longer}
use Rattle.frames.proofs.Ended.{fed_line, bad_line, good_ended, bad_ended}
use Rattle.frames.proofs.Lines.{lines_in, more_than, newline, char}
use Rattle.std.specs.Prelude.{Option, None, is_some, IsNone, Result, Err}
use Rattle.std.specs.Option.{option_map_or}
use Rattle.frames.specs.declared.Failure.{Failure}
use Rattle.frames.specs.declared.Failure.TheVariants.{Refused, TooBig}

-- what is answered on lines, behind n lines that were fed to l
abbrev pub judge : ℕ → Loader → Bool → List (List ℕ) → Result (Unit {0}) Failure
judge n l big [] = pick big (Err TooBig) (answered_of (close_answer l))
judge n l big (x ∷ xs) =
    option_map_or (λ g. judge (n + 1) (pieceFed l (take g.len g.bytes)) big xs) (frame_of x) (Err (Refused (refusal Line (n + 1))))

module _ (n : ℕ) (l : Loader) (big : Bool) (x : List ℕ) (xs : List (List ℕ)) where
  pub judge_good : (bs : List ℕ) → frame_of x ≡ good_frame bs → judge n l big (x ∷ xs) ≡ judge (n + 1) (pieceFed l bs) big xs
  judge_good bs e =
      ap (λ (o : Option Frame). option_map_or (λ g. judge (n + 1) (pieceFed l (take g.len g.bytes)) big xs) o (Err (Refused (refusal Line (n + 1))))) e
      ∙ ap (λ (z : List ℕ). judge (n + 1) (pieceFed l z) big xs) (front bs)

  pub judge_bad : frame_of x ≡ None → judge n l big (x ∷ xs) ≡ Err (Refused (refusal Line (n + 1)))
  judge_bad e =
      ap (λ (o : Option Frame). option_map_or (λ g. judge (n + 1) (pieceFed l (take g.len g.bytes)) big xs) o (Err (Refused (refusal Line (n + 1))))) e

-- a state before a line is bad: p is held, and k bytes are left to the limit
pub record Fine (f : Frames) (p : List ℕ) (k : ℕ) : Type 0 where
  pub none_bad : IsNone f.bad
  pub room : f.taken + k ≡ 4194304
  pub few : f.ended ≤ f.taken
  pub held : Holds f.line f.len p

pub fresh_fine : Fine fresh_of [] limit
unfolding fresh_of
fresh_fine = record { none_bad = refl; room = omega arith; few = omega arith; held = nothing_held (replicate 128 0) (length-replicate {A = ℕ} 128 0) }

-- the end of the line that is held
module _ (f : Frames) (p : List ℕ) (h : Holds f.line f.len p) (few : f.ended ≤ 4194304) where
  ended_good : (bs : List ℕ) → frame_of p ≡ good_frame bs → ended_of f ≡ fed_line f (pieceFed f.loader bs) (f.ended + 1)
  ended_good bs e =
      sym
      (good_ended f (f.ended + 1) (sym (counted_more f.ended few)) _ (pieceFed f.loader bs) (held_read f.line f.len p h ∙ e) (ap (λ (z : List ℕ). pieceFed f.loader z) (sym (front bs))))

  ended_bad : frame_of p ≡ None → ended_of f ≡ bad_line f (f.ended + 1)
  ended_bad e = sym (bad_ended f (f.ended + 1) (sym (counted_more f.ended few)) (held_read f.line f.len p h ∙ e))

-- the end of the input
at_end : (f : Frames) (p : List ℕ) (k : ℕ) → Fine f p k → closed_of f ≡ judge f.ended f.loader false (p ∷ [])
at_end f p k i = closed_last f i.none_bad (omega (arith, i.room)) ∙ go (decided p)
  where
    go : Read p ⊎ (NoFrame p × (frame_of p ≡ None)) → last_of (ended_of f) ≡ judge f.ended f.loader false (p ∷ [])
    go (inl r) =
        ap last_of (ended_good f p i.held (omega (arith, i.room, i.few)) r.bs r.read)
        ∙ last_good (fed_line f (pieceFed f.loader r.bs) (f.ended + 1)) i.none_bad
        ∙ sym (judge_good f.ended f.loader false p [] r.bs r.read)
    go (inr n) =
        ap last_of (ended_bad f p i.held (omega (arith, i.room, i.few)) n.1)
        ∙ last_bad (bad_line f (f.ended + 1)) (f.ended + 1) refl
        ∙ sym (judge_bad f.ended f.loader false p [] n.1)

-- what is left of an input is answered by its lines
abbrev pub Loads : List ℕ → ℕ → Type 0
Loads s k = (f : Frames) (p : List ℕ) → Fine f p k → closed_of (fed_of f s) ≡ judge f.ended f.loader (more_than k s) (lines_in p k s)

module _ (b : ℕ) (s : List ℕ) (k : ℕ) (ih : Loads s k) (f : Frames) (p : List ℕ) (i : Fine f p (suc k)) where
  few_taken : f.taken < 4194304
  few_taken = omega (arith, i.room)

  one_taken : counted_of f.taken ≡ f.taken + 1
  one_taken = counted_more f.taken (omega (arith, few_taken))

  -- a newline
  at_newline : b ≡ 10 → closed_of (fed_of (byte_of f b) s) ≡ judge f.ended f.loader (more_than k s) (lines_in p (suc k) (b ∷ s))
  at_newline e =
      ap (λ (g : Frames). closed_of (fed_of g s)) (byte_newline f b i.none_bad few_taken e)
      ∙ go (decided p)
      ∙ ap (λ (ls : List (List ℕ)). judge f.ended f.loader (more_than k s) ls) (sym (newline p s k b e))
    where
      go : Read p ⊎ (NoFrame p × (frame_of p ≡ None)) → closed_of (fed_of (ended_of (took_of f)) s) ≡ judge f.ended f.loader (more_than k s) (p ∷ lines_in [] k s)
      go (inl r) =
          ap (λ (g : Frames). closed_of (fed_of g s)) (ended_good (took_of f) p i.held (omega (arith, i.room, i.few)) r.bs r.read)
          ∙ ih (fed_line (took_of f) (pieceFed f.loader r.bs) (f.ended + 1)) []
          (record { none_bad = i.none_bad; room = omega (arith, i.room, one_taken); few = omega (arith, i.few, one_taken); held = nothing_held f.line i.held.0 })
          ∙ sym (judge_good f.ended f.loader (more_than k s) p (lines_in [] k s) r.bs r.read)
      go (inr n) =
          ap (λ (g : Frames). closed_of (fed_of g s)) (ended_bad (took_of f) p i.held (omega (arith, i.room, i.few)) n.1)
          ∙ bad_answered s (bad_line (took_of f) (f.ended + 1)) (f.ended + 1) refl
          ∙ sym (judge_bad f.ended f.loader (more_than k s) p (lines_in [] k s) n.1)

  -- a character of a line
  longer_loads : (g : Frames) → Longer (took_of f) g (p ++ (b ∷ [])) → closed_of (fed_of g s) ≡ judge f.ended f.loader (more_than k s) (lines_in (p ++ (b ∷ [])) k s)
  longer_loads g w =
      ih g (p ++ (b ∷ []))
      (record {
        none_bad = ap is_some w.bad_same ∙ i.none_bad;
        room = omega (arith, i.room, one_taken, w.taken_same);
        few = omega (arith, i.few, one_taken, w.taken_same, w.ended_same);
        held = w.held;
      })
      ∙ ap (λ (n : ℕ). judge n g.loader (more_than k s) (lines_in (p ++ (b ∷ [])) k s)) w.ended_same
      ∙ ap (λ (l : Loader). judge f.ended l (more_than k s) (lines_in (p ++ (b ∷ [])) k s)) w.loader_same

  at_char : (b ≡ 10 → ⊥) → closed_of (fed_of (byte_of f b) s) ≡ judge f.ended f.loader (more_than k s) (lines_in p (suc k) (b ∷ s))
  at_char e =
      ap (λ (g : Frames). closed_of (fed_of g s)) (byte_char f b i.none_bad few_taken e)
      ∙ longer_loads (with_of (took_of f) b) (longer (took_of f) b p i.held)
      ∙ ap (λ (ls : List (List ℕ)). judge f.ended f.loader (more_than k s) ls) (sym (char p s k b e))

  at_byte : (b ≡ 10) ⊎ ((b ≡ 10) → ⊥) → closed_of (fed_of (byte_of f b) s) ≡ judge f.ended f.loader (more_than k s) (lines_in p (suc k) (b ∷ s))
  at_byte (inl e) = at_newline e
  at_byte (inr e) = at_char e

-- the limit is reached
at_limit : (b : ℕ) (s : List ℕ) (f : Frames) (p : List ℕ) → Fine f p 0 → closed_of (fed_of (byte_of f b) s) ≡ Err TooBig
at_limit b s f p i =
    ap (λ (g : Frames). closed_of (fed_of g s)) (byte_full f b i.none_bad (omega (arith, i.room)))
    ∙ full_answered s (took_of f) i.none_bad (omega (arith, i.room, counted_more f.taken (omega (arith, i.room))))

pub loads : (s : List ℕ) (k : ℕ) → Loads s k
unfolding fed_of
loads [] k f p i = at_end f p k i
loads (b ∷ s) zero f p i = at_limit b s f p i
loads (b ∷ s) (suc k) f p i = at_byte b s k (loads s k) f p i (same b 10)

-- lines that are all frames
pub judge_frames : (ls ps : List (List ℕ)) (n : ℕ) (l : Loader) (big : Bool) → AreFrames ls ps → judge n l big ls ≡ pick big (Err TooBig) (answered_of (close_answer (fed_all l ps)))
judge_frames [] [] n l big a = refl
judge_frames [] (p ∷ ps) n l big a = absurd a
judge_frames (x ∷ ls) [] n l big a = absurd a
judge_frames (x ∷ ls) (p ∷ ps) n l big a = judge_good n l big x ls p (frame_read x p a.0) ∙ judge_frames ls ps (n + 1) (pieceFed l p) big a.1

-- a first one that is none
pub judge_first : (before ps : List (List ℕ)) (line : List ℕ) (after : List (List ℕ)) (n : ℕ) (l : Loader) (big : Bool) → AreFrames before ps → NoFrame line → judge n l big (before ++ (line ∷ after)) ≡ Err (Refused (refusal Line (n + length before + 1)))
judge_first [] [] line after n l big a none =
    let e : n + 1 ≡ n + 0 + 1 = omega arith in
    judge_bad n l big line after (bad_read line none) ∙ ap (λ (m : ℕ). Err (Refused (refusal Line m))) e
judge_first [] (p ∷ ps) line after n l big a none = absurd a
judge_first (x ∷ before) [] line after n l big a none = absurd a
judge_first (x ∷ before) (p ∷ ps) line after n l big a none =
    let e : n + 1 + length before + 1 ≡ n + length (x ∷ before) + 1 = omega arith in
    judge_good n l big x (before ++ (line ∷ after)) p (frame_read x p a.0)
    ∙ judge_first before ps line after (n + 1) (pieceFed l p) big a.1 none
    ∙ ap (λ (m : ℕ). Err (Refused (refusal Line m))) e

-- lines are all frames, or there is a first one that is none
pub record Pieces (ls : List (List ℕ)) : Type 0 where
  pub ps : List (List ℕ)
  pub are : AreFrames ls ps

pub record FirstBad (ls : List (List ℕ)) : Type 0 where
  pub before : List (List ℕ)
  pub line : List ℕ
  pub after : List (List ℕ)
  pub ps : List (List ℕ)
  pub all : ls ≡ before ++ (line ∷ after)
  pub are : AreFrames before ps
  pub none : NoFrame line

pub pieces : (ls : List (List ℕ)) → Pieces ls ⊎ FirstBad ls
pieces [] = inl (record { ps = []; are = tt })
pieces (x ∷ ls) = go (decided x) (pieces ls)
  where
    go : Read x ⊎ (NoFrame x × (frame_of x ≡ None)) → Pieces ls ⊎ FirstBad ls → Pieces (x ∷ ls) ⊎ FirstBad (x ∷ ls)
    go (inr n) y = inr (record { before = []; line = x; after = ls; ps = []; all = refl; are = tt; none = n.0 })
    go (inl r) (inl y) = inl (record { ps = r.bs ∷ y.ps; are = (r.frame, y.are) })
    go (inl r) (inr y) =
        inr (record { before = x ∷ y.before; line = y.line; after = y.after; ps = r.bs ∷ y.ps; all = ap (λ (z : List (List ℕ)). x ∷ z) y.all; are = (r.frame, y.are); none = y.none })
