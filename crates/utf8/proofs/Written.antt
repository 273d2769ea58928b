-- The rows of Table 3-6 one by one, and the tests for a scalar value and for a value.
use mathlib.Core.Path.{◌≡◌, refl, sym, ◌∙◌}
use mathlib.Core.Logic.{◌⊎◌, ◌↔◌, inl, inr}
use mathlib.Core.Bool.{Bool, true, false}
use mathlib.Core.List.{List, [], ◌∷◌}
use Prim.Native.Nat.{ℕ, ◌+◌, ◌/◌, ◌%◌, ◌<◌, ◌≤◌}
use native.Mathlib.Omega.{arith}
use lib.Dec.{ltb}
use lib.ListN.{length}
use lib.Seq.{sets}
use Rattle.base.specs.Reading.{when, over}
use Rattle.token.specs.Reading.{is_noncharacter}
use Rattle.token.proofs.Noncharacters.{noncharacter_no, no_noncharacter}
use Rattle.base.proofs.Over.{stores}
use borrow.Author.Tests.{lt-ltb, le-ltb, ltb-true}
use Rattle.base.proofs.Tests.{below}
use Rattle.base.proofs.Chain.{chain}
use Rattle.utf8.specs.Meaning.{Scalar, Utf8Value, utf8_bytes}
use Rattle.utf8.specs.Reading.{is_scalar, is_utf8_value}

module _ (v : ℕ) where
  pub one_byte : v < 0x80 → v ∷ [] ≡ utf8_bytes v
  unfolding utf8_bytes
  one_byte h = rw (lt-ltb v 0x80 h)

  pub two_bytes : 0x80 ≤ v → v < 0x800 → (0xC0 + v / 64) ∷ (0x80 + v % 64) ∷ [] ≡ utf8_bytes v
  unfolding utf8_bytes
  two_bytes g h = rw (le-ltb v 0x80 g, lt-ltb v 0x800 h)

  pub three_bytes : 0x800 ≤ v → v < 0x10000 → (0xE0 + v / 4096) ∷ (0x80 + v / 64 % 64) ∷ (0x80 + v % 64) ∷ [] ≡ utf8_bytes v
  unfolding utf8_bytes
  three_bytes g h = let k : 0x80 ≤ v = omega arith in rw (le-ltb v 0x80 k, le-ltb v 0x800 g, lt-ltb v 0x10000 h)

  pub four_bytes : 0x10000 ≤ v → (0xF0 + v / 262144) ∷ (0x80 + v / 4096 % 64) ∷ (0x80 + v / 64 % 64) ∷ (0x80 + v % 64) ∷ [] ≡ utf8_bytes v
  unfolding utf8_bytes
  four_bytes g =
      let k : 0x80 ≤ v = omega arith in
      let l : 0x800 ≤ v = omega arith in
      rw (le-ltb v 0x80 k, le-ltb v 0x800 l, le-ltb v 0x10000 g)

  -- every scalar value is below 110000
  pub scalar_low : Scalar v → v < 0x110000
  scalar_low (inl h) = omega arith
  scalar_low (inr h) = h.1

  pub below_surrogates : v < 0xD800 → true ≡ is_scalar v
  unfolding is_scalar
  below_surrogates h = search chain depth 30

  pub surrogate : (0xD800 ≤ v) × (v < 0xE000) → false ≡ is_scalar v
  unfolding is_scalar
  surrogate h = search chain depth 30

  pub above_surrogates : (0xD800 ≤ v) × (0xE000 ≤ v) → ltb v 0x110000 ≡ is_scalar v
  unfolding is_scalar
  above_surrogates h = search chain depth 30

  -- the test holds of the scalar values and of nothing else
  pub scalar_exactly : (is_scalar v ≡ true) ↔ Scalar v
  scalar_exactly = (λ e. yes e (below v 0xD800) (below v 0xE000), back)
    where
      yes : is_scalar v ≡ true → (v < 0xD800) ⊎ (0xD800 ≤ v) → (v < 0xE000) ⊎ (0xE000 ≤ v) → Scalar v
      yes e (inl h) y = inl h
      yes e (inr h) (inl k) = absurd (let q : false ≡ true = surrogate (h, k) ∙ e in let z : ◌≡◌ {A = ℕ} 0 1 = cc in omega arith)
      yes e (inr h) (inr k) = inr (k, ltb-true v 0x110000 (above_surrogates (h, k) ∙ e))

      back : Scalar v → is_scalar v ≡ true
      back (inl h) = sym (below_surrogates h)
      back (inr (g, h)) = sym (above_surrogates (omega arith, g)) ∙ lt-ltb v 0x110000 h

  -- the test for a value
  pub noncharacter_no_value : is_noncharacter v ≡ true → false ≡ is_utf8_value v
  unfolding is_utf8_value when
  noncharacter_no_value e = rw e

  pub scalar_value : is_noncharacter v ≡ false → is_scalar v ≡ is_utf8_value v
  unfolding is_utf8_value when
  scalar_value e = rw e

  -- it holds of the values and of nothing else
  pub utf8_value_exactly : (is_utf8_value v ≡ true) ↔ Utf8Value v
  utf8_value_exactly = (λ e. there (is_noncharacter v) refl e, λ (h, n). sym (scalar_value (no_noncharacter v n)) ∙ scalar_exactly.1 h)
    where
      there : (t : Bool) → is_noncharacter v ≡ t → is_utf8_value v ≡ true → Utf8Value v
      there true p e = absurd (let q : false ≡ true = noncharacter_no_value p ∙ e in let z : ◌≡◌ {A = ℕ} 0 1 = cc in omega arith)
      there false p e = (scalar_exactly.0 (scalar_value p ∙ e), noncharacter_no v p)

-- a value's bytes stored one by one
pub stored : (v : ℕ) (xs vs : List ℕ) → vs ≡ utf8_bytes v → length (utf8_bytes v) ≤ length xs → (length vs ≡ length (utf8_bytes v)) × (sets xs 0 vs ≡ over (utf8_bytes v) xs)
stored v xs vs e h = rw (← e) (refl, stores vs xs (rw (← e) at h))
