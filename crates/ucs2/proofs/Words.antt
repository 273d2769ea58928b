-- The test for a value of PSF1's coding holds of its values and of nothing else.
use mathlib.Core.Path.{◌≡◌, refl, sym, ◌∙◌}
use mathlib.Core.Bool.{Bool, true, false}
use mathlib.Core.Logic.{◌↔◌}
use Prim.Native.Nat.{ℕ, ◌%◌, ◌≤◌, ◌<◌}
use native.Mathlib.Omega.{arith}
use lib.Dec.{ltb}
use borrow.Author.Tests.{lt-ltb, ltb-true, le-leb, lt-leb}
use Rattle.base.specs.Reading.{when}
use Rattle.token.specs.Reading.{is_noncharacter}
use Rattle.token.proofs.Noncharacters.{under, among, in_plane, noncharacter_no, no_noncharacter}
use Rattle.ucs2.specs.Meaning.{Word}
use Rattle.ucs2.specs.Reading.{is_word}

module _ (v : ℕ) where
  pub noncharacter_no_word : is_noncharacter v ≡ true → false ≡ is_word v
  unfolding is_word when
  noncharacter_no_word e = rw e

  pub below_marks : is_noncharacter v ≡ false → ltb v 0xFFFE ≡ is_word v
  unfolding is_word when
  below_marks e = rw e

  pub word_exactly : (is_word v ≡ true) ↔ Word v
  word_exactly = (λ e. there (is_noncharacter v) refl e, λ (h, n). sym (below_marks (no_noncharacter v n)) ∙ lt-ltb v 0xFFFE h)
    where
      there : (t : Bool) → is_noncharacter v ≡ t → is_word v ≡ true → Word v
      there true p e = absurd (let q : false ≡ true = noncharacter_no_word p ∙ e in let z : ◌≡◌ {A = ℕ} 0 1 = cc in omega arith)
      there false p e = (ltb-true v 0xFFFE (below_marks p ∙ e), noncharacter_no v p)

  -- the test, range by range
  pub word_under : v < 0xFDD0 → is_word v ≡ true
  word_under h = sym (below_marks (sym (under v h))) ∙ lt-ltb v 0xFFFE (omega arith)

  pub word_among : 0xFDD0 ≤ v → v < 0xFDF0 → is_word v ≡ false
  word_among g h = sym (noncharacter_no_word (sym (among v (g, h))))

  pub word_above : 0xFDF0 ≤ v → v < 0xFFFE → is_word v ≡ true
  word_above g h = sym (below_marks (sym (in_plane v (omega arith, g)) ∙ lt-leb 0xFFFE (v % 0x10000) (omega arith))) ∙ lt-ltb v 0xFFFE h

  pub word_mark : 0xFFFE ≤ v → v < 0x10000 → is_word v ≡ false
  word_mark g h = sym (noncharacter_no_word (sym (in_plane v (omega arith, omega arith)) ∙ le-leb 0xFFFE (v % 0x10000) (omega arith)))
