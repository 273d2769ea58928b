-- What a line is read as: a frame of the bytes that it spells, and a bad line exactly where it spells none.
use mathlib.Core.Path.{◌≡◌, refl, sym, ◌∙◌, ap, subst}
use mathlib.Core.Logic.{◌⊎◌, inl, inr}
use mathlib.Core.List.{List, [], ◌∷◌}
use Prim.Native.Nat.{ℕ, ◌+◌, ◌/◌, ◌%◌, ◌≤◌, ◌<◌}
use native.Mathlib.Numerals.{add-one}
use native.Mathlib.Omega.{arith}
use lib.ListN.{length, take, drop, set, replicate, length-replicate}
use lib.Seq.{sets, take-append_seam}
use Rattle.std.specs.Prelude.{Option, Some, None, IfSome}
use Rattle.base.specs.Meaning.{Bytes}
use Rattle.base.specs.Reading.{over}
use Rattle.base.proofs.Tests.{below}
use Rattle.base.proofs.Over.{stores}
use Rattle.text.specs.Reading.{digit_of}
use Rattle.hexline.specs.declared.Frame.{Frame}
use Rattle.hexline.specs.Meaning.{spelled, IsFrame, NoFrame, good_frame}
use Rattle.hexline.specs.Reading.{pair_value, bytes_from, frame_of}
use Rattle.hexline.proofs.Steps.{too_long, not_long, goes_on, no_byte}
use Rattle.hexline.proofs.Digits.{digits_pair, pair_digits}

abbrev framed : ℕ → List ℕ → Option Frame
framed n xs = Some (record { len = n; bytes = xs })

-- the bytes that the rest of a line spells, behind k bytes
record Spells (k : ℕ) (xs line : List ℕ) : Type 0 where
  bs : List ℕ
  same : line ≡ spelled bs
  all : Bytes bs
  read : bytes_from k xs line ≡ framed (k + length bs) (sets xs k bs)

-- or that it spells none
abbrev Spoilt : ℕ → List ℕ → List ℕ → Type 0
Spoilt k xs line = ((bs : List ℕ) → Bytes bs → line ≡ spelled bs → ⊥) × (bytes_from k xs line ≡ None)

not_cons : (a : ℕ) (s : List ℕ) → a ∷ s ≡ [] → ⊥
not_cons a s e = omega (arith, ap length e)

alone : (a : ℕ) (bs : List ℕ) → Bytes bs → a ∷ [] ≡ spelled bs → ⊥
alone a [] y e = not_cons a [] e
alone a (b ∷ bs) y e = omega (arith, ap length e)

-- a frame of a longer line
framed_same : (k n : ℕ) (xs ys : List ℕ) → n ≡ k → xs ≡ ys → framed n xs ≡ framed k ys
framed_same k n xs ys p q = λ i. framed (p i) (q i)

module _ (k : ℕ) (xs : List ℕ) (a b : ℕ) (s : List ℕ) where
  byte_read : (v : ℕ) → pair_value a b ≡ Some v → bytes_from k xs (a ∷ b ∷ s) ≡ bytes_from (k + 1) (set xs k v) s
  byte_read v e = goes_on k xs (a ∷ b ∷ s) (a ∷ b ∷ []) s refl refl k (k + 1) v refl refl e

  -- two characters that spell no byte
  none_spelled : pair_value a b ≡ None → (bs : List ℕ) → Bytes bs → a ∷ b ∷ s ≡ spelled bs → ⊥
  none_spelled h [] y e = not_cons a (b ∷ s) e
  none_spelled h (w ∷ ws) y e =
      let p : a ≡ digit_of (w / 16) = cc in
      let q : b ≡ digit_of (w % 16) = cc in
      let r : pair_value a b ≡ Some w = rw (p, q) (pair_digits w y.0) in
      let z : ◌≡◌ {A = Option ℕ} None (Some w) = sym h ∙ r in
      cc

  behind : ((bs : List ℕ) → Bytes bs → s ≡ spelled bs → ⊥) → (bs : List ℕ) → Bytes bs → a ∷ b ∷ s ≡ spelled bs → ⊥
  behind none [] y e = not_cons a (b ∷ s) e
  behind none (w ∷ ws) y e = let q : s ≡ spelled ws = cc in none ws y.1 q

  one_more : (v : ℕ) → pair_value a b ≡ Some v → Spells (k + 1) (set xs k v) s → Spells k xs (a ∷ b ∷ s)
  one_more v h f =
      let d = digits_pair a b v h in
      let p : a ≡ digit_of (v / 16) = sym d.1 in
      let q : b ≡ digit_of (v % 16) = sym d.2 in
      let r : s ≡ spelled f.bs = f.same in
      record {
        bs = v ∷ f.bs;
        same = cc;
        all = (d.0, f.all);
        read = byte_read v h ∙ f.read ∙ framed_same (k + length (v ∷ f.bs)) (k + 1 + length f.bs) (sets (set xs k v) (k + 1) f.bs) (sets xs k (v ∷ f.bs)) (omega arith) (ap (λ (j : ℕ). sets (set xs k v) j f.bs) (add-one k));
      }

spells : (k : ℕ) (xs line : List ℕ) → Spells k xs line ⊎ Spoilt k xs line
unfolding bytes_from
spells k xs [] = inl (record { bs = []; same = refl; all = tt; read = framed_same (k + 0) k xs xs (omega arith) refl })
spells k xs (a ∷ []) = inr (alone a, refl)
spells k xs (a ∷ b ∷ s) = go (pair_value a b) refl (λ v. spells (k + 1) (set xs k v) s)
  where
    more : (v : ℕ) → pair_value a b ≡ Some v → Spells (k + 1) (set xs k v) s ⊎ Spoilt (k + 1) (set xs k v) s → Spells k xs (a ∷ b ∷ s) ⊎ Spoilt k xs (a ∷ b ∷ s)
    more v h (inl f) = inl (one_more k xs a b s v h f)
    more v h (inr f) = inr (behind k xs a b s f.0, byte_read k xs a b s v h ∙ f.1)

    go : (x : Option ℕ) → pair_value a b ≡ x → ((v : ℕ) → Spells (k + 1) (set xs k v) s ⊎ Spoilt (k + 1) (set xs k v) s) → Spells k xs (a ∷ b ∷ s) ⊎ Spoilt k xs (a ∷ b ∷ s)
    go None h f = inr (none_spelled k xs a b s h, no_byte k xs (a ∷ b ∷ s) (a ∷ b ∷ []) s refl refl h)
    go (Some v) h f = more v h (f v)

-- a line has two digits for each byte
spelled_length : (bs : List ℕ) → length (spelled bs) ≡ length bs + length bs
spelled_length [] = refl
spelled_length (b ∷ bs) = omega (arith, spelled_length bs)

-- a line that is a frame, and is read so
pub record Read (line : List ℕ) : Type 0 where
  pub bs : List ℕ
  pub frame : IsFrame line bs
  pub read : frame_of line ≡ good_frame bs

-- each line is a frame and read as one, or none and read as a bad line
pub decided : (line : List ℕ) → Read line ⊎ (NoFrame line × (frame_of line ≡ None))
decided line = go (below 128 (length line)) (spells 0 (replicate 64 0) line)
  where
    go : (128 < length line) ⊎ (length line ≤ 128) → Spells 0 (replicate 64 0) line ⊎ Spoilt 0 (replicate 64 0) line → Read line ⊎ (NoFrame line × (frame_of line ≡ None))
    go (inl h) f = inr (λ (bs : List ℕ). λ (is : IsFrame line bs). omega (arith, ap length is.0, spelled_length bs, is.2), too_long line h)
    go (inr h) (inl f) =
        let l : length f.bs ≤ 64 = omega (arith, ap length f.same, spelled_length f.bs) in
        inl (record {
          bs = f.bs;
          frame = (f.same, f.all, l);
          read = not_long line h ∙ f.read ∙ framed_same (length f.bs) (0 + length f.bs) (sets (replicate 64 0) 0 f.bs) (over f.bs (replicate 64 0)) (omega arith) (stores f.bs (replicate 64 0) (omega (arith, length-replicate {A = ℕ} 64 0)));
        })
    go (inr h) (inr f) = inr (λ (bs : List ℕ). λ (is : IsFrame line bs). f.0 bs is.1 is.0, not_long line h ∙ f.1)

-- a line has at most one frame: the digits tell the bytes
pub one_frame : (line bs cs : List ℕ) → IsFrame line bs → IsFrame line cs → bs ≡ cs
one_frame line bs cs f g = go bs cs f.1 g.1 (sym f.0 ∙ g.0)
  where
    go : (bs cs : List ℕ) → Bytes bs → Bytes cs → spelled bs ≡ spelled cs → bs ≡ cs
    go [] [] y z e = refl
    go [] (c ∷ cs) y z e = absurd (omega (arith, ap length e))
    go (b ∷ bs) [] y z e = absurd (omega (arith, ap length e))
    go (b ∷ bs) (c ∷ cs) y z e =
        let p : digit_of (b / 16) ≡ digit_of (c / 16) = cc in
        let q : digit_of (b % 16) ≡ digit_of (c % 16) = cc in
        let r : spelled bs ≡ spelled cs = cc in
        let w : pair_value (digit_of (b / 16)) (digit_of (b % 16)) ≡ pair_value (digit_of (c / 16)) (digit_of (c % 16)) = rw (p, q) in
        let v : ◌≡◌ {A = Option ℕ} (Some b) (Some c) = sym (pair_digits b y.0) ∙ w ∙ pair_digits c z.0 in
        let u : b ≡ c = cc in
        let t : bs ≡ cs = go bs cs y.1 z.1 r in
        cc

-- a frame is read as its bytes
pub frame_read : (line bs : List ℕ) → IsFrame line bs → frame_of line ≡ good_frame bs
frame_read line bs is = go (decided line)
  where
    go : Read line ⊎ (NoFrame line × (frame_of line ≡ None)) → frame_of line ≡ good_frame bs
    go (inl r) = r.read ∙ ap good_frame (one_frame line r.bs bs r.frame is)
    go (inr n) = absurd (n.0 bs is)

-- the bytes of a frame stand in front
pub front : (bs : List ℕ) → take (length bs) (over bs (replicate 64 0)) ≡ bs
unfolding over
front bs = take-append_seam bs (drop (length bs) (replicate 64 0))

-- what is read as a frame is one of the bytes that stand in front
pub read_frame : (line : List ℕ) (f : Frame) → frame_of line ≡ Some f → IsFrame line (take f.len f.bytes)
read_frame line f e = go (decided line)
  where
    go : Read line ⊎ (NoFrame line × (frame_of line ≡ None)) → IsFrame line (take f.len f.bytes)
    go (inl r) =
        subst (λ (x : Option Frame). IfSome x (λ g. IsFrame line (take g.len g.bytes))) (sym r.read ∙ e) (subst (λ (z : List ℕ). IsFrame line z) (sym (front r.bs)) r.frame)
    go (inr n) = let z : ◌≡◌ {A = Option Frame} (Some f) None = sym e ∙ n.1 in cc

-- what is read as none is none
pub read_bad : (line : List ℕ) → frame_of line ≡ None → NoFrame line
read_bad line e = go (decided line)
  where
    go : Read line ⊎ (NoFrame line × (frame_of line ≡ None)) → NoFrame line
    go (inl r) = let z : good_frame r.bs ≡ None = sym r.read ∙ e in cc
    go (inr n) = n.0

-- no frame is read as a bad line
pub bad_read : (line : List ℕ) → NoFrame line → frame_of line ≡ None
bad_read line none = go (decided line)
  where
    go : Read line ⊎ (NoFrame line × (frame_of line ≡ None)) → frame_of line ≡ None
    go (inl r) = absurd (none r.bs r.frame)
    go (inr n) = n.1
