-- What each coding writes: the test for a value holds of its values and of nothing else, and the lengths of what is written.
use mathlib.Core.Path.{◌≡◌, refl, sym, ◌∙◌}
use mathlib.Core.Bool.{true, false}
use mathlib.Core.Logic.{◌↔◌}
use mathlib.Core.List.{List, [], ◌∷◌}
use Prim.Native.Nat.{ℕ, ◌%◌, ◌≤◌}
use native.Mathlib.Omega.{arith}
use lib.ListN.{length}
use lib.Seq.{sets}
use Rattle.base.specs.Reading.{over}
use Rattle.base.proofs.Over.{stores}
use Rattle.utf8.specs.Meaning.{Scalar, utf8_bytes}
use Rattle.utf8.specs.Reading.{is_utf8_value, utf8_key}
use Rattle.ucs2.specs.Meaning.{Word, word_bytes}
use Rattle.ucs2.specs.Reading.{is_word}
use Rattle.utf8.proofs.Written.{utf8_value_exactly}
use Rattle.ucs2.proofs.Words.{word_exactly}
use Rattle.coding.specs.Reading.{mark_len, carries_of, key_of}
use Rattle.coding.specs.Meaning.{ValueOf, value_bytes, start_bytes, end_bytes}
use Rattle.coding.specs.declared.Coding.{Coding}
use Rattle.coding.specs.declared.Coding.TheVariants.{Utf8, Ucs2}

-- the test holds of the values and of nothing else
pub carries_exactly : (c : Coding) (v : ℕ) → (carries_of c v ≡ true) ↔ ValueOf c v
unfolding carries_of ValueOf
carries_exactly Utf8 v = utf8_value_exactly v
carries_exactly Ucs2 v = word_exactly v

-- what fails the test is no value
pub carries_no : (c : Coding) (v : ℕ) → carries_of c v ≡ false → ValueOf c v → ⊥
carries_no c v e p = let q : true ≡ false = sym ((carries_exactly c v).1 p) ∙ e in let z : ◌≡◌ {A = ℕ} 0 1 = cc in omega arith

pub start_len : (c : Coding) → mark_len c ≡ length (start_bytes c)
unfolding mark_len start_bytes
start_len Utf8 = refl
start_len Ucs2 = refl

pub end_len : (c : Coding) → mark_len c ≡ length (end_bytes c)
unfolding mark_len end_bytes
end_len Utf8 = refl
end_len Ucs2 = refl

-- bytes stored one by one
pub stored : (p xs vs : List ℕ) → vs ≡ p → length p ≤ length xs → (length vs ≡ length p) × (sets xs 0 vs ≡ over p xs)
stored p xs vs e h = rw (← e) (refl, stores vs xs (rw (← e) at h))

-- in UTF-8, and in PSF1's two bytes
module _ (c : Coding) where
  pub utf8_carries : (v : ℕ) → c ≡ Utf8 → is_utf8_value v ≡ carries_of c v
  unfolding carries_of
  utf8_carries v e = rw e

  pub ucs2_carries : (v : ℕ) → c ≡ Ucs2 → is_word v ≡ carries_of c v
  unfolding carries_of
  ucs2_carries v e = rw e

  pub utf8_key_lem : (v : ℕ) → c ≡ Utf8 → utf8_key v ≡ key_of c v
  unfolding key_of
  utf8_key_lem v e = rw e

  pub ucs2_key : (v : ℕ) → c ≡ Ucs2 → v % 0x10000 ≡ key_of c v
  unfolding key_of
  ucs2_key v e = rw e

  pub utf8_value : (v : ℕ) → c ≡ Utf8 → utf8_bytes v ≡ value_bytes c v
  unfolding value_bytes
  utf8_value v e = rw e

  pub ucs2_value : (v : ℕ) → c ≡ Ucs2 → word_bytes v ≡ value_bytes c v
  unfolding value_bytes
  ucs2_value v e = rw e

  pub utf8_scalar : (v : ℕ) → c ≡ Utf8 → ValueOf c v → Scalar v
  unfolding ValueOf
  utf8_scalar v e p = (rw e at p).0

  pub ucs2_word : (v : ℕ) → c ≡ Ucs2 → ValueOf c v → Word v
  unfolding ValueOf
  ucs2_word v e p = rw e at p

  pub utf8_start : c ≡ Utf8 → 0xFE ∷ [] ≡ start_bytes c
  unfolding start_bytes
  utf8_start e = rw e

  pub ucs2_start : c ≡ Ucs2 → 0xFE ∷ 0xFF ∷ [] ≡ start_bytes c
  unfolding start_bytes
  ucs2_start e = rw e

  pub utf8_end : c ≡ Utf8 → 0xFF ∷ [] ≡ end_bytes c
  unfolding end_bytes
  utf8_end e = rw e

  pub ucs2_end : c ≡ Ucs2 → 0xFF ∷ 0xFF ∷ [] ≡ end_bytes c
  unfolding end_bytes
  ucs2_end e = rw e

-- what a writer said of some bytes, said of the same bytes under another name
pub renamed : (p q xs ys : List ℕ) (k : ℕ) → p ≡ q → k ≡ length p → ys ≡ over p xs → (k ≡ length q) × (ys ≡ over q xs)
renamed p q xs ys k e f g = rw (← e) (f, g)
