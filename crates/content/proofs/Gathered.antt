-- The bitmaps of glyphs, each taken from the address that its entry has: how many bytes they are, and each of them.
use mathlib.Core.Path.{◌≡◌, refl, sym, ◌∙◌, ap}
use mathlib.Core.List.{List, [], ◌∷◌, ◌++◌}
use Prim.Native.Nat.{ℕ, zero, suc, ◌+◌, ◌*◌, ◌≤◌, ◌<◌}
use native.Mathlib.Omega.{arith}
use native.Mathlib.Nat.{suc-mul}
use lib.ListN.{length, take, drop, length-append, length-drop, take-append-drop}
use lib.Seq.{drop-append-add, take-append_seam, drop-drop}
use Rattle.base.specs.Meaning.{Bytes}
use Rattle.base.proofs.Parts.{bytes_drop, bytes_take, bytes_append}
use Rattle.header.specs.declared.Font.{Font}
use Rattle.entries.specs.Meaning.{entry_at, address_at}
use Rattle.layout.specs.Reading.{gathered}
use Rattle.layout.proofs.Parts.{part_length}

-- where glyph i's bitmap stands
abbrev pub start_at : List ℕ → Font → ℕ → ℕ
start_at s f i = f.bitmaps + address_at s (entry_at f.entries i)

module _ (s : List ℕ) (f : Font) (c : ℕ) where
  -- k glyphs from the j-th on stand in the file
  abbrev pub Stand : ℕ → ℕ → Type 0
  Stand j k = (i : ℕ) → j ≤ i → i < j + k → start_at s f i + c ≤ length s

  -- they have c bytes each
  pub gathered_length : (j k : ℕ) → Stand j k → length (gathered s f c j k) ≡ k * c
  unfolding gathered
  gathered_length j zero p = omega arith
  gathered_length j (suc k) p =
      let x = take c (drop (start_at s f j) s) in
      omega (arith, length-append x (gathered s f c (suc j) k), part_length s c (start_at s f j) (p j (omega arith) (omega arith)), gathered_length (suc j) k (λ i a l. p i (omega arith) (omega arith)), suc-mul k c)

  -- the i-th of them
  pub nth_gathered : (j k i : ℕ) → Stand j k → i < k → take c (drop (i * c) (gathered s f c j k)) ≡ take c (drop (start_at s f (j + i)) s)
  unfolding gathered
  nth_gathered j zero i p l = absurd (omega arith)
  nth_gathered j (suc k) zero p l =
      let x = take c (drop (start_at s f j) s) in
      let lx = part_length s c (start_at s f j) (p j (omega arith) (omega arith)) in
      let z : 0 * c ≡ 0 = omega arith in
      let v : j ≡ j + 0 = omega arith in
      ap (λ (m : ℕ). take c (drop m (x ++ gathered s f c (suc j) k))) z ∙ ap (λ (m : ℕ). take m (x ++ gathered s f c (suc j) k)) (sym lx)
      ∙ take-append_seam x (gathered s f c (suc j) k) ∙ ap (λ (m : ℕ). take c (drop (start_at s f m) s)) v
  nth_gathered j (suc k) (suc i) p l =
      let x = take c (drop (start_at s f j) s) in
      let g = gathered s f c (suc j) k in
      let lx = part_length s c (start_at s f j) (p j (omega arith) (omega arith)) in
      let z : suc i * c ≡ length x + i * c = omega (arith, suc-mul i c) in
      let v : suc j + i ≡ j + suc i = omega arith in
      ap (λ (m : ℕ). take c (drop m (x ++ g))) z ∙ ap (take c) (drop-append-add x g (i * c))
      ∙ nth_gathered (suc j) k i (λ m a q. p m (omega arith) (omega arith)) (omega arith) ∙ ap (λ (m : ℕ). take c (drop (start_at s f m) s)) v

  -- they are a list, where each is as many of its bytes
  pub gathered_is : (j k : ℕ) (b : List ℕ) → length b ≡ k * c → ((i : ℕ) → i < k → take c (drop (start_at s f (j + i)) s) ≡ take c (drop (i * c) b)) → gathered s f c j k ≡ b
  unfolding gathered
  gathered_is j zero b e p = empty b (omega arith)
    where
      empty : (b : List ℕ) → length b ≡ 0 → [] ≡ b
      empty [] e = refl
      empty (x ∷ b) e = absurd (omega arith)
  gathered_is j (suc k) b e p =
      let v : j ≡ j + 0 = omega arith in
      let z : 0 * c ≡ 0 = omega arith in
      let first : take c (drop (start_at s f j) s) ≡ take c b = ap (λ (m : ℕ). take c (drop (start_at s f m) s)) v ∙ p 0 (omega arith) ∙ ap (λ (m : ℕ). take c (drop m b)) z in
      let others = gathered_is (suc j) k (drop c b) (omega (arith, length-drop c b, suc-mul k c))
      (λ i l. let u : suc j + i ≡ j + suc i = omega arith in let t : suc i * c ≡ c + i * c = omega (arith, suc-mul i c) in
      ap (λ (m : ℕ). take c (drop (start_at s f m) s)) u ∙ p (suc i) (omega arith) ∙ ap (λ (m : ℕ). take c (drop m b)) t ∙ sym (ap (take c) (drop-drop (i * c) c b))) in
      (λ i. first i ++ others i) ∙ take-append-drop c b

  -- they are bytes
  pub gathered_bytes : Bytes s → (j k : ℕ) → Bytes (gathered s f c j k)
  unfolding gathered
  gathered_bytes y j zero = tt
  gathered_bytes y j (suc k) =
      bytes_append (take c (drop (start_at s f j) s)) (gathered s f c (suc j) k) (bytes_take c (drop (start_at s f j) s) (bytes_drop (start_at s f j) s y)) (gathered_bytes y (suc j) k)
