-- Signed numbers of 16 bits as the machine holds them.
use mathlib.Core.Path.{◌≡◌, refl, sym, ap, ◌∙◌}
use mathlib.Core.Bool.{Bool, true, false}
use Prim.Native.Nat.{ℕ, suc, ◌-◌, ◌≤◌, ◌<◌}
use lib.Dec.{ltb}
use lib.IntN.{ℤ}
use lib.Signed.{mag}
use native.Mathlib.Omega.{arith}
use borrow.Author.Tests.{ltb-true, ltb-false}
use mir.Syntax.{w16, w32}
use mir.Val.{SFits, to_z, of_z}
use mir.Facts.{to_z-of_z, to_z_pos, to_z-neg}
use Rattle.entries.specs.Meaning.{signed16}
use Rattle.entries.proofs.Sums.{low, high}

-- two bytes as the machine's signed number
pub as_signed : (v : ℕ) → v < 65536 → to_z w16 v ≡ signed16 v
as_signed v b = go (ltb v 32768) refl
  where
    go : (t : Bool) → ltb v 32768 ≡ t → to_z w16 v ≡ signed16 v
    go true e = let h : v < 32768 = ltb-true v 32768 e in to_z_pos w16 {n = v} h ∙ sym (low v h)
    go false e = let h : 32768 ≤ v = ltb-false v 32768 e in let q : 65536 - suc (65535 - v) ≡ v = omega arith in rw q at (to_z-neg w16 (65535 - v) (omega arith)) ∙ sym (high v h b)

signed_mag : (v : ℕ) → v < 65536 → mag (signed16 v) < 32768
signed_mag v b = go (ltb v 32768) refl
  where
    go : (t : Bool) → ltb v 32768 ≡ t → mag (signed16 v) < 32768
    go true e = rw (low v (ltb-true v 32768 e)) (ltb-true v 32768 e)
    go false e = let h : 32768 ≤ v = ltb-false v 32768 e in rw (high v h b) (omega arith)

-- a field that holds such a number gives it back
pub field_kept : (r : ℤ) (v x : ℕ) → r ≡ signed16 v → v ≡ x → v < 65536 → to_z w32 (of_z w32 r) ≡ signed16 x
field_kept r v x e f b = ap (λ (z : ℤ). to_z w32 (of_z w32 z)) e ∙ to_z-of_z (fits v b) ∙ ap signed16 f
  where
    fits : (v : ℕ) → v < 65536 → SFits w32 (signed16 v)
    fits v b = record { sfits = omega (arith, signed_mag v b) }
