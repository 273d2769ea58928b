-- A PSF1 font is marked as having a table by bits 1 and 2 of its mode.
use mathlib.Core.Path.{◌≡◌, refl, sym, ◌∙◌, ap}
use mathlib.Core.Logic.{◌↔◌, ◌⊎◌, inl, inr}
use mathlib.Core.Bool.{Bool, true, false, ◌||◌, or-true}
use mathlib.Core.List.{List}
use Prim.Native.Nat.{ℕ, ◌/◌, ◌%◌, ◌≤◌, ◌<◌}
use native.Mathlib.Omega.{arith}
use lib.Dec.{eqb}
use lib.ListN.{get_or}
use borrow.Author.Tests.{eqb-true, eq-eqb}
use Rattle.base.proofs.Tests.{below}
use Rattle.header.specs.declared.Kind.TheVariants.{Psf1}
use Rattle.header.specs.declared.Font.{Font}
use Rattle.header.specs.Meaning.{psf1_table}
use Rattle.header.proofs.Known.{Psf1Known, source}
use Rattle.stages.specs.Reading.{through_entries}
use Rattle.stages.proofs.Cases.{passed_entries, passed_body}
use Rattle.std.specs.Prelude.{Ok}

-- bit 1 or bit 2
abbrev Bits : ℕ → Type 0
Bits m = (m / 2 % 2 ≡ 1) ⊎ (m / 4 % 2 ≡ 1)

by_bits : (m : ℕ) → (psf1_table m ≡ true) ↔ Bits m
unfolding psf1_table
by_bits m = (there (eqb (m / 2 % 2) 1) refl, back)
  where
    there : (t : Bool) → eqb (m / 2 % 2) 1 ≡ t → (t || eqb (m / 4 % 2) 1) ≡ true → Bits m
    there true q e = inl (eqb-true _ _ q)
    there false q e = inr (eqb-true _ _ e)

    back : Bits m → (eqb (m / 2 % 2) 1 || eqb (m / 4 % 2) 1) ≡ true
    back (inl e) = rw (eq-eqb _ _ e)
    back (inr e) = rw (eq-eqb _ _ e) (or-true (eqb (m / 2 % 2) 1))

-- of the modes up to 5, those from 2 on
by_modes : (m : ℕ) → m ≤ 5 → Bits m ↔ (2 ≤ m)
by_modes m h = (low, λ a. high a (below m 4))
  where
    low : Bits m → 2 ≤ m
    low (inl e) = omega (arith, e)
    low (inr e) = omega (arith, e)

    high : 2 ≤ m → (m < 4) ⊎ (4 ≤ m) → Bits m
    high a (inl l) = inl (omega arith)
    high a (inr l) = inr (omega arith)

module _ (s : List ℕ) (f : Font) (passed : through_entries s ≡ Ok f) (psf1 : f.kind ≡ Psf1) where
  known : Psf1Known s f
  known = (source s f Psf1 psf1 (passed_body s f (passed_entries s f passed).0).1).1

  pub mode_low : get_or s 2 0 ≤ 5
  mode_low = known.2

  pub marked_exactly : (f.table ≡ true) ↔ ((get_or s 2 0 / 2 % 2 ≡ 1) ⊎ (get_or s 2 0 / 4 % 2 ≡ 1))
  marked_exactly =
      let q : f.table ≡ psf1_table (get_or s 2 0) = sym (ap (λ (g : Font). g.table) known.0) in
      let b = by_bits (get_or s 2 0) in
      (λ e. b.0 (sym q ∙ e), λ h. q ∙ b.1 h)

  pub marked_from_two : (f.table ≡ true) ↔ (2 ≤ get_or s 2 0)
  marked_from_two =
      let b = marked_exactly in
      let m = by_modes (get_or s 2 0) mode_low in
      (λ e. m.0 (b.0 e), λ h. b.1 (m.1 h))
