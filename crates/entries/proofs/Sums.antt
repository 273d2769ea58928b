-- The sum of two signed numbers of 16 bits, worked out on numbers moved up by 32,768 each.
use mathlib.Core.Path.{◌≡◌, refl, sym, ◌∙◌, ap}
use mathlib.Core.Bool.{Bool, true, false}
use Prim.Native.Nat.{ℕ, suc, ◌+◌, ◌-◌, ◌≤◌, ◌<◌}
use native.Mathlib.Omega.{arith}
use lib.Dec.{ltb}
use lib.IntN.{pos, negsuc, sub_ℕ, ◌+ℤ◌}
use mathlib.Core.Logic.{◌⊎◌, inl, inr}
use borrow.Author.Tests.{lt-ltb, le-ltb, ltb-true}
use Rattle.base.proofs.Tests.{below}
use Rattle.entries.specs.Meaning.{signed16, count_of}

pub low : (v : ℕ) → v < 32768 → signed16 v ≡ pos v
unfolding signed16
low v h = rw (lt-ltb v 32768 h)

pub high : (v : ℕ) → 32768 ≤ v → v < 65536 → signed16 v ≡ negsuc (65535 - v)
unfolding signed16
high v h b = simp (le-ltb v 32768 h, lt-ltb v 65536 b) (ap negsuc (omega arith))

-- a difference as a count
count_sub : (a b : ℕ) → count_of (sub_ℕ a b) ≡ a - b
count_sub a b = go (ltb a b) refl
  where
    go : (t : Bool) → ltb a b ≡ t → count_of (sub_ℕ a b) ≡ a - b
    go true e = rw e (let h : a < b = ltb-true a b e in omega arith)
    go false e = rw e

-- what a number moved up by 32,768 is
abbrev pub Raised : ℕ → ℕ → Type 0
Raised v r = ((v < 32768 → r ≡ v + 32768) × (32768 ≤ v → r + 32768 ≡ v)) × (r < 65536)

pub sum_count : (a b x y : ℕ) → a < 65536 → b < 65536 → Raised a x → Raised b y → x + y - 65536 ≡ count_of (signed16 a +ℤ signed16 b)
sum_count a b x y ha hb p q = by (below a 32768) (below b 32768)
  where
    by : (a < 32768) ⊎ (32768 ≤ a) → (b < 32768) ⊎ (32768 ≤ b) → x + y - 65536 ≡ count_of (signed16 a +ℤ signed16 b)
    by (inl u) (inl v) = rw (low a u, low b v) (let e = p.0.0 u in let f = q.0.0 v in omega arith)
    by (inl u) (inr v) = rw (low a u, high b v hb) (let e = p.0.0 u in let f = q.0.1 v in let z : x + y - 65536 ≡ a - suc (65535 - b) = omega arith in z ∙ sym (count_sub a (suc (65535 - b))))
    by (inr u) (inl v) = rw (high a u ha, low b v) (let e = p.0.1 u in let f = q.0.0 v in let z : x + y - 65536 ≡ b - suc (65535 - a) = omega arith in z ∙ sym (count_sub b (suc (65535 - a))))
    by (inr u) (inr v) = rw (high a u ha, high b v hb) (let e = p.0.1 u in let f = q.0.1 v in omega arith)

pub sum_none : (a b x y : ℕ) → a < 65536 → b < 65536 → Raised a x → Raised b y → x + y < 65536 → 0 ≡ count_of (signed16 a +ℤ signed16 b)
sum_none a b x y ha hb p q h = let z : 0 ≡ x + y - 65536 = omega arith in z ∙ sum_count a b x y ha hb p q
