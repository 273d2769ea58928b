-- The part of a piece that stands in a stretch of the file: how the code finds it, how long it is, and a piece in two.
use mathlib.Core.Path.{◌≡◌, refl, sym, ◌∙◌, ap}
use mathlib.Core.Logic.{◌⊎◌, inl, inr, ⊎_elim}
use mathlib.Core.List.{List, [], ◌∷◌, ◌++◌}
use Prim.Native.Nat.{ℕ, zero, suc, ◌+◌, ◌-◌, ◌≤◌, ◌<◌}
use native.Mathlib.Omega.{arith}
use lib.ListN.{length, take, drop, length-drop, drop_of_length-le}
use lib.Seq.{take_all, take-nil, drop-nil}
use Rattle.base.proofs.Tests.{below}
use Rattle.loader.specs.Reading.{part_of}

pub take_short : (k : ℕ) (p : List ℕ) → length (take k p) ≤ length p
take_short zero p = omega arith
take_short (suc k) [] = omega arith
take_short (suc k) (b ∷ p) = let h = take_short k p in omega arith

take_least : (k : ℕ) (p : List ℕ) → length (take k p) ≤ k
take_least zero p = omega arith
take_least (suc k) [] = omega arith
take_least (suc k) (b ∷ p) = let h = take_least k p in omega arith

drop_take : (a b : ℕ) (p : List ℕ) → a ≤ b → drop a (take b p) ≡ take (b - a) (drop a p)
drop_take zero b p h = let e : b - 0 ≡ b = omega arith in rw e
drop_take (suc a) zero p h = absurd (omega arith)
drop_take (suc a) (suc b) [] h = sym (take-nil (suc b - suc a))
drop_take (suc a) (suc b) (x ∷ p) h = let e : suc b - suc a ≡ b - a = omega arith in rw e (drop_take a b p (omega arith))

-- as the code finds it
module _ (total start end : ℕ) (p : List ℕ) (a b : ℕ) where
  pub found : (b ≤ length p) × (b ≤ end - total) × (b < length p → b ≡ end - total) → (a ≤ b) × (a ≤ start - total) × (a < b → a ≡ start - total) →
      take (b - a) (drop a p) ≡ part_of total start end p
  found (b0, b1, b2) (a0, a1, a2) =
      let e : take b p ≡ take (end - total) p = by_end (below b (length p)) in
      sym (drop_take a b p a0) ∙ by_start (below a b) ∙ ap (λ (x : List ℕ). drop (start - total) x) e
    where
      by_end : (b < length p) ⊎ (length p ≤ b) → take b p ≡ take (end - total) p
      by_end (inl h) = ap (λ (k : ℕ). take k p) (b2 h)
      by_end (inr h) = take_all b p h ∙ sym (take_all (end - total) p (omega arith))

      by_start : (a < b) ⊎ (b ≤ a) → drop a (take b p) ≡ drop (start - total) (take b p)
      by_start (inl h) = ap (λ (k : ℕ). drop k (take b p)) (a2 h)
      by_start (inr h) =
          let l = take_least b p in
          let x : length (take b p) ≤ a = omega arith in
          let y : length (take b p) ≤ start - total = omega arith in
          drop_of_length-le (take b p) {i = a} x ∙ sym (drop_of_length-le (take b p) {i = start - total} y)

-- how long it is
module _ (total start end : ℕ) (p : List ℕ) where
  pub part_later : length (part_of total start end p) ≤ length p
  part_later = let l = length-drop (start - total) (take (end - total) p) in let k = take_short (end - total) p in omega arith

  pub part_begins : total ≤ start → (length (part_of total start end p) ≡ 0 → ⊥) → start + length (part_of total start end p) ≤ total + length p
  part_begins h z = let l = length-drop (start - total) (take (end - total) p) in let k = take_short (end - total) p in omega arith

-- a piece in two
take_append : (k : ℕ) (p s : List ℕ) → take k (p ++ s) ≡ take k p ++ take (k - length p) s
take_append k [] s = let e : k - 0 ≡ k = omega arith in rw (e, take-nil k)
take_append zero (b ∷ p) s = let e : 0 - suc (length p) ≡ 0 = omega arith in rw e
take_append (suc k) (b ∷ p) s = let e : suc k - suc (length p) ≡ k - length p = omega arith in rw e (ap (λ (x : List ℕ). b ∷ x) (take_append k p s))

drop_append : (k : ℕ) (p s : List ℕ) → drop k (p ++ s) ≡ drop k p ++ drop (k - length p) s
drop_append k [] s = let e : k - 0 ≡ k = omega arith in rw (e, drop-nil k)
drop_append zero (b ∷ p) s = let e : 0 - suc (length p) ≡ 0 = omega arith in rw e
drop_append (suc k) (b ∷ p) s = let e : suc k - suc (length p) ≡ k - length p = omega arith in rw e (drop_append k p s)

module _ (total start end : ℕ) (p s : List ℕ) where
  pub part_append : part_of total start end (p ++ s) ≡ part_of total start end p ++ part_of (total + length p) start end s
  part_append =
      ap (λ (x : List ℕ). drop (start - total) x) (take_append (end - total) p s)
      ∙ drop_append (start - total) (take (end - total) p) (take (end - total - length p) s)
      ∙ ap (λ (x : List ℕ). part_of total start end p ++ x) (by (below (end - total) (length p)))
    where
      by : (end - total < length p) ⊎ (length p ≤ end - total) →
          drop (start - total - length (take (end - total) p)) (take (end - total - length p) s) ≡ part_of (total + length p) start end s
      by (inl h) =
          let a : end - total - length p ≡ 0 = omega arith in
          let b : end - (total + length p) ≡ 0 = omega arith in
          rw (a, b) (drop-nil (start - total - length (take (end - total) p)) ∙ sym (drop-nil (start - (total + length p))))
      by (inr h) =
          let l : length (take (end - total) p) ≡ length p = ap (λ (x : List ℕ). length x) (take_all (end - total) p h) in
          let a : end - total - length p ≡ end - (total + length p) = omega arith in
          let b : start - total - length p ≡ start - (total + length p) = omega arith in
          rw (l, a, b)

  -- a part that goes on behind the piece reaches its end
  pub part_reaches : (length (part_of (total + length p) start end s) ≡ 0 → ⊥) → (length (part_of total start end p) ≡ 0 → ⊥) → length (part_of total start end p) ≡ length p - (start - total)
  part_reaches z y =
      let l = length-drop (start - (total + length p)) (take (end - (total + length p)) s) in
      let k = take_least (end - (total + length p)) s in
      let e : length (take (end - total) p) ≡ length p = ap (λ (x : List ℕ). length x) (take_all (end - total) p (omega arith)) in
      length-drop (start - total) (take (end - total) p) ∙ ap (λ (n : ℕ). n - (start - total)) e

  -- and where nothing of it stood in the piece, it begins behind it
  pub part_starts : length (part_of total start end p) ≡ 0 → (length (part_of (total + length p) start end s) ≡ 0 → ⊥) → (total + length p ≤ start) ⊎ (length p ≡ 0)
  part_starts z y =
      let l = length-drop (start - (total + length p)) (take (end - (total + length p)) s) in
      let k = take_least (end - (total + length p)) s in
      let e : length (take (end - total) p) ≡ length p = ap (λ (x : List ℕ). length x) (take_all (end - total) p (omega arith)) in
      let d : length p - (start - total) ≡ 0 = sym (length-drop (start - total) (take (end - total) p) ∙ ap (λ (n : ℕ). n - (start - total)) e) ∙ z in
      ⊎_elim (λ (h : start < total). inr (omega arith)) (λ (h : total ≤ start). inl (omega arith)) (below start total)

-- a stretch that ends where it begins
pub part_none : (total start : ℕ) (p : List ℕ) → length (part_of total start start p) ≡ 0
part_none total start p = let l = length-drop (start - total) (take (start - total) p) in let k = take_least (start - total) p in omega arith

-- one behind the piece
pub part_behind : (total start end : ℕ) (p : List ℕ) → total + length p ≤ start → length (part_of total start end p) ≡ 0
part_behind total start end p h = let l = length-drop (start - total) (take (end - total) p) in let k = take_short (end - total) p in omega arith

-- one before it
pub part_before : (total start end : ℕ) (p : List ℕ) → end ≤ total → length (part_of total start end p) ≡ 0
part_before total start end p h = let l = length-drop (start - total) (take (end - total) p) in let k = take_least (end - total) p in omega arith

pub nothing : (s : List ℕ) → length s ≡ 0 → s ≡ []
nothing [] h = refl
nothing (b ∷ s) h = absurd (omega arith)
