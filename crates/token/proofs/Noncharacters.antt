-- The test for a noncharacter holds of the noncharacters and of nothing else; and some numbers that are none.
use mathlib.Core.Path.{◌≡◌, refl, sym, ◌∙◌}
use mathlib.Core.Bool.{Bool, true, false}
use mathlib.Core.Logic.{◌⊎◌, ◌↔◌, inl, inr}
use Prim.Native.Nat.{ℕ, ◌%◌, ◌≤◌, ◌<◌}
use native.Mathlib.Omega.{arith}
use lib.Dec.{leb}
use borrow.Author.Tests.{le-leb, leb-true}
use Rattle.base.proofs.Tests.{below}
use Rattle.base.proofs.Chain.{chain}
use Rattle.token.specs.Meaning.{Noncharacter}
use Rattle.token.specs.Reading.{is_noncharacter}

module _ (v : ℕ) where
  -- the test, range by range
  pub under : v < 0xFDD0 → false ≡ is_noncharacter v
  unfolding is_noncharacter
  under h = search chain depth 30

  pub among : (0xFDD0 ≤ v) × (v < 0xFDF0) → true ≡ is_noncharacter v
  unfolding is_noncharacter
  among h = search chain depth 30

  pub in_plane : (0xFDD0 ≤ v) × (0xFDF0 ≤ v) → leb 0xFFFE (v % 0x10000) ≡ is_noncharacter v
  unfolding is_noncharacter
  in_plane h = search chain depth 30

  -- the test holds of the noncharacters and of nothing else
  pub noncharacter_exactly : (is_noncharacter v ≡ true) ↔ Noncharacter v
  noncharacter_exactly = (λ e. there e (below v 0xFDD0) (below v 0xFDF0), back (below v 0xFDD0) (below v 0xFDF0))
    where
      there : is_noncharacter v ≡ true → (v < 0xFDD0) ⊎ (0xFDD0 ≤ v) → (v < 0xFDF0) ⊎ (0xFDF0 ≤ v) → Noncharacter v
      there e (inl h) y = absurd (let q : false ≡ true = under h ∙ e in let z : ◌≡◌ {A = ℕ} 0 1 = cc in omega arith)
      there e (inr h) (inl k) = inl (h, omega arith)
      there e (inr h) (inr k) = inr (leb-true 0xFFFE (v % 0x10000) (in_plane (h, k) ∙ e))

      back : (v < 0xFDD0) ⊎ (0xFDD0 ≤ v) → (v < 0xFDF0) ⊎ (0xFDF0 ≤ v) → Noncharacter v → is_noncharacter v ≡ true
      back (inl h) y (inl k) = absurd (omega (arith, k.0))
      back (inl h) y (inr k) = absurd (omega arith)
      back (inr h) (inl y) n = sym (among (h, y))
      back (inr h) (inr y) (inl k) = absurd (omega (arith, k.1))
      back (inr h) (inr y) (inr k) = sym (in_plane (h, y)) ∙ le-leb 0xFFFE (v % 0x10000) k

  -- what fails the test is no noncharacter, and what is none fails it
  pub noncharacter_no : is_noncharacter v ≡ false → Noncharacter v → ⊥
  noncharacter_no e n = let q : true ≡ false = sym (noncharacter_exactly.1 n) ∙ e in let z : ◌≡◌ {A = ℕ} 0 1 = cc in omega arith

  pub no_noncharacter : (Noncharacter v → ⊥) → is_noncharacter v ≡ false
  no_noncharacter n = go (is_noncharacter v) refl
    where
      go : (t : Bool) → is_noncharacter v ≡ t → is_noncharacter v ≡ false
      go true e = absurd (n (noncharacter_exactly.0 e))
      go false e = e

  -- a number below FDD0 is none, nor is a multiple of 64
  pub low : v < 0xFDD0 → Noncharacter v → ⊥
  low h (inl k) = omega (arith, k.0)
  low h (inr k) = omega arith

  pub round : v % 64 ≡ 0 → Noncharacter v → ⊥
  round h (inl k) = omega (arith, k.0, k.1)
  round h (inr k) = omega arith
