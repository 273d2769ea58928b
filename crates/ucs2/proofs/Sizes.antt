-- A token is no longer than the bytes that it is read from.
use mathlib.Core.List.{List, [], ◌∷◌}
use Prim.Native.Nat.{ℕ, ◌+◌, ◌*◌}
use native.Mathlib.Omega.{arith}
use lib.ListN.{length}
use lib.Dec.{eqb, ltb}
use Rattle.base.proofs.Tests.{by_test}
use Rattle.token.specs.Reading.{Step}
use Rattle.token.proofs.Sized.{Sized}
use Rattle.ucs2.specs.Reading.{read_ucs2, is_word}

pub read_sized : (s : List ℕ) → Sized (length s) (read_ucs2 s)
unfolding read_ucs2
read_sized [] = tt
read_sized (a ∷ []) = tt
read_sized (a ∷ (b ∷ s)) =
    let P : Step → Type 0 = Sized (length (a ∷ (b ∷ s))) in
    by_test P (is_word (a + 256 * b)) _ _ (λ _. (omega arith, omega arith)) (λ _.
    by_test P (ltb (a + 256 * b) 0xFFFE) _ _ (λ _. omega arith) (λ _.
    by_test P (eqb (a + 256 * b) 0xFFFE) _ _ (λ _. (omega arith, omega arith)) (λ _. (omega arith, omega arith))))
