-- What the program answers: for any input and any cutting of it into chunks, exactly what the paper says (`Answers`, specs/Meaning.antt).
use mathlib.Core.Path.{◌≡◌, refl, sym, ◌∙◌, ap, subst}
use mathlib.Core.Logic.{◌↔◌, ◌⊎◌, inl, inr}
use mathlib.Core.Bool.{Bool}
use mathlib.Core.List.{List, [], ◌∷◌, ◌++◌}
use Prim.Native.Nat.{ℕ, ◌+◌, ◌≤◌, ◌<◌}
use native.Mathlib.Omega.{arith}
use lib.ListN.{length, take}
use Rattle.base.specs.Meaning.{pick}
use Rattle.base.proofs.Tests.{below}
use Rattle.refusal.specs.declared.Reason.TheVariants.{Line}
use Rattle.refusal.specs.declared.Refusal.{Refusal}
use Rattle.refusal.specs.Meaning.{refusal}
use Rattle.loader.specs.Reading.{fresh_of as no_piece, close_answer}
use Rattle.frames.specs.declared.Frames.{Frames}
use Rattle.loader.specs.Meaning.{fed_all, together}
use Rattle.frames.specs.Meaning.{limit, loader_says, AreFrames, Reads, BadLine, first_bad, Answers, bad_line, too_big, closed, fed_chunks, outcome_text, output_of}
use Rattle.frames.specs.Reading.{fresh_of, fed_of, answered_of, closed_of}
use Rattle.frames.proofs.Feeding.{joined, bad_stays}
use Rattle.frames.proofs.Lines as lines
use Rattle.frames.proofs.Lines.{lines_in, more_than, more, no_more, reads_lines, behind_limit}
use Rattle.frames.proofs.Texts.{text_in_front}
use Rattle.frames.proofs.Judged.{judge, judge_frames, judge_first, fresh_fine, loads, Pieces, FirstBad, pieces}
use Rattle.std.specs.Prelude.{IsSome, Result, Ok, Err}
use Rattle.frames.specs.declared.Failure.{Failure}
use Rattle.frames.specs.declared.Failure.TheVariants.{Refused, TooBig}

-- chunks are one input
pub chunks_joined : (f : Frames) (cs : List (List ℕ)) → fed_chunks f cs ≡ fed_of f (together cs)
unfolding fed_of
chunks_joined f [] = refl
chunks_joined f (c ∷ cs) = chunks_joined (fed_of f c) cs ∙ sym (joined f c (together cs))

judged : (s : List ℕ) → closed_of (fed_of fresh_of s) ≡ judge 0 no_piece (more_than limit s) (lines_in [] limit s)
unfolding fresh_of
judged s = loads s limit fresh_of [] fresh_fine

judged_lines : (s : List ℕ) (ls : List (List ℕ)) → Reads s ls → closed_of (fed_of fresh_of s) ≡ judge 0 no_piece (more_than limit s) ls
judged_lines s ls r = judged s ∙ ap (λ (z : List (List ℕ)). judge 0 no_piece (more_than limit s) z) (reads_lines s ls r)

-- what the paper says is answered
says : (s : List ℕ) (o : Result (Unit {0}) Failure) → Answers loader_says s o → closed_of (fed_of fresh_of s) ≡ o
says s o (bad_line i (first_bad before line after ps r are none q) e) =
    let n : 0 + length before + 1 ≡ i = omega (arith, q) in
    judged_lines s (before ++ (line ∷ after)) r
    ∙ judge_first before ps line after 0 no_piece (more_than limit s) are none
    ∙ ap (λ (m : ℕ). Err (Refused (refusal Line m))) n
    ∙ sym e
says s o (too_big ls ps r are h e) =
    judged_lines s ls r
    ∙ judge_frames ls ps 0 no_piece (more_than limit s) are
    ∙ ap (λ (t : Bool). pick t (Err TooBig) (answered_of (close_answer (fed_all no_piece ps)))) (more limit s h)
    ∙ sym e
says s o (closed ls ps r are h e) =
    judged_lines s ls r
    ∙ judge_frames ls ps 0 no_piece (more_than limit s) are
    ∙ ap (λ (t : Bool). pick t (Err TooBig) (answered_of (close_answer (fed_all no_piece ps)))) (no_more limit s h)
    ∙ sym e

-- and what is answered the paper says
said : (s : List ℕ) → Answers loader_says s (closed_of (fed_of fresh_of s))
said s = go (lines.read s)
  where
    so : (o : Result (Unit {0}) Failure) → Answers loader_says s o → Answers loader_says s (closed_of (fed_of fresh_of s))
    so o a = subst (λ (x : Result (Unit {0}) Failure). Answers loader_says s x) (sym (says s o a)) a

    by : (ls : List (List ℕ)) → Reads s ls → Pieces ls ⊎ FirstBad ls → (limit < length s) ⊎ (length s ≤ limit) → Answers loader_says s (closed_of (fed_of fresh_of s))
    by ls r (inl p) (inl h) = so (Err TooBig) (too_big ls p.ps r p.are h refl)
    by ls r (inl p) (inr h) = so (answered_of (close_answer (fed_all no_piece p.ps))) (closed ls p.ps r p.are h refl)
    by ls r (inr b) h =
        so (Err (Refused (refusal Line (length b.before + 1))))
        (bad_line (length b.before + 1) (first_bad b.before b.line b.after b.ps (subst (λ (x : List (List ℕ)). Reads s x) b.all r) b.are b.none refl) refl)

    go : lines.Read s → Answers loader_says s (closed_of (fed_of fresh_of s))
    go f = by f.ls f.reads (pieces f.ls) (below limit (length s))

-- any input, cut into chunks in any way, is answered as the paper says, and only so
pub exactly : (cs : List (List ℕ)) (o : Result (Unit {0}) Failure) → (closed_of (fed_chunks fresh_of cs) ≡ o) ↔ Answers loader_says (together cs) o
exactly cs o = (
  λ (e : closed_of (fed_chunks fresh_of cs) ≡ o). subst (λ (x : Result (Unit {0}) Failure). Answers loader_says (together cs) x) (sym (ap closed_of (chunks_joined fresh_of cs)) ∙ e) (said (together cs)),
  λ (a : Answers loader_says (together cs) o). ap closed_of (chunks_joined fresh_of cs) ∙ says (together cs) o a,
)

abbrev place_of : Result (Unit {0}) Failure → ℕ
place_of (Ok tt) = 0
place_of (Err (Refused r)) = r.place
place_of (Err TooBig) = 0

not_big : (r : Refusal) → ◌≡◌ {A = Result (Unit {0}) Failure} (Err TooBig) (Err (Refused r)) → ⊥
not_big r e = let z : ◌≡◌ {A = ℕ} 0 1 = cc in omega (arith, z)

-- LINE is answered for the first bad line, and for nothing else unless the loader answers it
pub line_exactly : ((ls ps : List (List ℕ)) (i : ℕ) → AreFrames ls ps → answered_of (close_answer (fed_all no_piece ps)) ≡ Err (Refused (refusal Line i)) → ⊥) → (cs : List (List ℕ)) (i : ℕ) → (closed_of (fed_chunks fresh_of cs) ≡ Err (Refused (refusal Line i))) ↔ BadLine (together cs) i
line_exactly never cs i = (
  λ (e : closed_of (fed_chunks fresh_of cs) ≡ Err (Refused (refusal Line i))). back (Err (Refused (refusal Line i))) refl ((exactly cs (Err (Refused (refusal Line i)))).0 e),
  λ (b : BadLine (together cs) i). (exactly cs (Err (Refused (refusal Line i)))).1 (bad_line i b refl),
)
  where
    back : (o : Result (Unit {0}) Failure) → o ≡ Err (Refused (refusal Line i)) → Answers loader_says (together cs) o → BadLine (together cs) i
    back o e (bad_line j b q) = let n : j ≡ i = ap place_of (sym q ∙ e) in subst (λ (x : ℕ). BadLine (together cs) x) n b
    back o e (too_big ls ps r are h q) = absurd (not_big (refusal Line i) (sym q ∙ e))
    back o e (closed ls ps r are h q) = absurd (never ls ps i are (sym q ∙ e))

-- what is written is the text of that answer
pub text_written : (cs : List (List ℕ)) (o : Result (Unit {0}) Failure) → Answers loader_says (together cs) o → let w = output_of (outcome_text (closed_of (fed_chunks fresh_of cs))) in take w.len w.bytes ≡ outcome_text o
text_written cs o a = text_in_front (outcome_text (closed_of (fed_chunks fresh_of cs))) ∙ ap (λ (x : Result (Unit {0}) Failure). outcome_text x) ((exactly cs o).1 a)

-- where the program may stop reading: behind a bad line nothing changes the state
pub stops_bad : (f : Frames) (cs : List (List ℕ)) → IsSome f.bad → fed_chunks f cs ≡ f
stops_bad f cs h = chunks_joined f cs ∙ bad_stays (together cs) f h

-- and behind one byte more than the limit nothing changes the answer
pub stops_big : (s t : List ℕ) → limit < length s → closed_of (fed_of fresh_of (s ++ t)) ≡ closed_of (fed_of fresh_of s)
stops_big s t h =
    let b = behind_limit limit [] s t h in
    judged (s ++ t)
    ∙ ap (λ (x : Bool). judge 0 no_piece x (lines_in [] limit (s ++ t))) b.1
    ∙ ap (λ (z : List (List ℕ)). judge 0 no_piece (more_than limit s) z) b.0
    ∙ sym (judged s)
