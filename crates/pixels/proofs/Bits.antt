-- Bytes by their bits: where the bits above a place are the same numbers, each of them is the same; where they differ, one of them does.
use mathlib.Core.Path.{◌≡◌, sym, ◌∙◌, ap, subst}
use mathlib.Core.Logic.{◌⊎◌, inl, inr}
use Prim.Native.Nat.{ℕ, zero, suc, ◌+◌, ◌-◌, ◌/◌, ◌%◌, ◌^◌, ◌≤◌, ◌<◌}
use native.Mathlib.Omega.{arith}
use native.Mathlib.Nat.{pow-suc, div-div-eq-div-mul}
use lib.Pow.{pow-add}
use Rattle.base.proofs.Tests.{same}
use Rattle.bitmap.specs.Meaning.{bit_of}

-- a number shifted down twice is shifted once
shifted : (a m t : ℕ) → a / 2 ^ (m + t) ≡ a / 2 ^ m / 2 ^ t
shifted a m t = ap (λ (n : ℕ). a / n) (pow-add 2 m t) ∙ sym (div-div-eq-div-mul a (2 ^ m) (2 ^ t))

-- shifted by one place more, it is halved
halved : (a m : ℕ) → a / 2 ^ suc m ≡ a / 2 ^ m / 2
halved a m = ap (λ (n : ℕ). a / n) (pow-suc 2 m) ∙ sym (div-div-eq-div-mul a (2 ^ m) 2)

-- a number is its half and its last bit
rejoined : (u v : ℕ) → u / 2 ≡ v / 2 → u % 2 ≡ v % 2 → u ≡ v
rejoined u v e d = omega arith

-- bytes whose top r bits are the same number have the same top r bits
pub top_bits : (a b r i : ℕ) → r ≤ 8 → i < r → a / 2 ^ (8 - r) ≡ b / 2 ^ (8 - r) → bit_of a i ≡ bit_of b i
top_bits a b r i h l e =
    let z : 8 - r + (r - 1 - i) ≡ 7 - i = omega arith in
    let s : a / 2 ^ (8 - r + (r - 1 - i)) ≡ b / 2 ^ (8 - r + (r - 1 - i)) = shifted a (8 - r) (r - 1 - i) ∙ ap (λ (v : ℕ). v / 2 ^ (r - 1 - i)) e ∙ sym (shifted b (8 - r) (r - 1 - i)) in
    ap (λ (v : ℕ). v % 2) (subst (λ (n : ℕ). a / 2 ^ n ≡ b / 2 ^ n) z s)

-- bytes whose top r bits are two numbers differ in one of their top r bits
pub other_bit : (a b : ℕ) → a < 256 → b < 256 → (r : ℕ) → r ≤ 8 → (a / 2 ^ (8 - r) ≡ b / 2 ^ (8 - r) → ⊥) → (i : ℕ) × (i < r) × (bit_of a i ≡ bit_of b i → ⊥)
other_bit a b ha hb zero h n = let e : a / 256 ≡ b / 256 = omega arith in absurd (n e)
other_bit a b ha hb (suc r) h n = go (same (a / 2 ^ (8 - r)) (b / 2 ^ (8 - r))) (other_bit a b ha hb r (omega arith))
  where
    half : (c : ℕ) → c / 2 ^ (8 - r) ≡ c / 2 ^ (7 - r) / 2
    half c = let z : 8 - r ≡ suc (7 - r) = omega arith in ap (λ (m : ℕ). c / 2 ^ m) z ∙ halved c (7 - r)

    go : (a / 2 ^ (8 - r) ≡ b / 2 ^ (8 - r)) ⊎ (a / 2 ^ (8 - r) ≡ b / 2 ^ (8 - r) → ⊥) → ((a / 2 ^ (8 - r) ≡ b / 2 ^ (8 - r) → ⊥) → (i : ℕ) × (i < r) × (bit_of a i ≡ bit_of b i → ⊥)) →
        (i : ℕ) × (i < suc r) × (bit_of a i ≡ bit_of b i → ⊥)
    go (inl e) f =
        let z : 7 - r ≡ 8 - suc r = omega arith in
        (r, omega arith, λ d. n (subst (λ (m : ℕ). a / 2 ^ m ≡ b / 2 ^ m) z (rejoined (a / 2 ^ (7 - r)) (b / 2 ^ (7 - r)) (sym (half a) ∙ e ∙ half b) d)))
    go (inr m) f = let t = f m in (t.0, omega (arith, t.1), t.2)

-- bytes that are not the same differ in one of their eight bits
pub byte_bit : (a b : ℕ) → a < 256 → b < 256 → (a ≡ b → ⊥) → (i : ℕ) × (i < 8) × (bit_of a i ≡ bit_of b i → ⊥)
byte_bit a b ha hb n = other_bit a b ha hb 8 (omega arith) (λ e. let d : a / 1 ≡ b / 1 = e in n (omega arith))
