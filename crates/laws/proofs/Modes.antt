-- PSF1's modes: which have a table, what is said of a file whose table is missing, and what comes back from PSF2. Bytes s holds of any slice;
-- of a font f that none of rows 1 to 9 applies to, `RowsTo9 s (gives f)`. `get_or s 2 0` is the mode.
use mathlib.Core.Path.{◌≡◌, ap}
use mathlib.Core.Logic.{◌↔◌, ◌⊎◌}
use mathlib.Core.Bool.{true}
use mathlib.Core.List.{List}
use Prim.Native.Nat.{ℕ, ◌/◌, ◌%◌, ◌≤◌}
use native.Mathlib.Omega.{arith}
use lib.ListN.{length, get_or, take}
use Rattle.base.specs.Meaning.{Bytes}
use Rattle.header.specs.declared.Kind.TheVariants.{Psf1}
use Rattle.header.specs.declared.Font.{Font}
use Rattle.stages.specs.Reading.{check_of}
use Rattle.conversion.specs.declared.Conversion.TheVariants.{Psf1ToPsf2, Psf2ToPsf1}
use Rattle.convert.specs.Reading.{converted_of, converted_into}
use Rattle.laws.specs.Meaning.{gives, refuses, says, RowsTo9, RoundTrip}
use Rattle.laws.proofs.Check.{passed_9}
use Rattle.laws.proofs.Marked.{mode_low, marked_exactly, marked_from_two}
use Rattle.laws.proofs.Tails.{nothing_cut, never_at_end}
use Rattle.laws.proofs.Converting.{wrote_said}
use Rattle.laws.proofs.Returning as inner

module _ (s : List ℕ) (y : Bytes s) (f : Font) (passes : RowsTo9 s (gives f)) (psf1 : f.kind ≡ Psf1) where
  -- "A table is there when either bit is set", bit 1 or bit 2 of the mode
  pub table_exactly : (f.table ≡ true) ↔ ((get_or s 2 0 / 2 % 2 ≡ 1) ⊎ (get_or s 2 0 / 4 % 2 ≡ 1))
  table_exactly = marked_exactly s f (passed_9 s f passes) psf1

  -- so, of the modes that are read, 0 and 1 have none, and 2 to 5 have one
  pub modes_exactly : (get_or s 2 0 ≤ 5) × ((f.table ≡ true) ↔ (2 ≤ get_or s 2 0))
  modes_exactly = (mode_low s f (passed_9 s f passes) psf1, marked_from_two s f (passed_9 s f passes) psf1)

  module _ (mode : 4 ≤ get_or s 2 0) where
    -- "A tableless mode 04 file now gets TABLE CUT", at its length; mode 05 likewise
    pub tableless_cut : length s ≡ f.end → says (check_of s) ≡ refuses 10 (length s)
    tableless_cut = nothing_cut s y f (passed_9 s f passes) (modes_exactly.1.1 (omega (arith, mode)))

    -- and bytes behind its bitmaps are a table's (demand 3): they are never TRAILING where they begin
    pub never_trailing : says (check_of s) ≡ refuses 12 f.end → ⊥
    never_trailing = never_at_end s y f (passed_9 s f passes) (modes_exactly.1.1 (omega (arith, mode)))

-- a PSF1 file that was converted to PSF2, into a buffer xs
module _ (s xs : List ℕ) (n : ℕ) (y : Bytes s) (there : says (converted_of Psf1ToPsf2 s (length xs)) ≡ gives n) where
  -- the way back is accepted where there is room for as many bytes as it had
  pub back_accepted : (m : ℕ) → length s ≤ m → says (converted_of Psf2ToPsf1 (take n (converted_into Psf1ToPsf2 s xs)) m) ≡ gives (length s)
  back_accepted m l = ap says (inner.back_accepted s xs n y (wrote_said _ n there) m l)

  -- and it comes back with all that it had, and with its bytes but for a mode of 4 or 5, which is 2 less
  pub round_trip : (ys : List ℕ) → length s ≤ length ys → RoundTrip s (take (length s) (converted_into Psf2ToPsf1 (take n (converted_into Psf1ToPsf2 s xs)) ys))
  round_trip = inner.round_trip s xs n y (wrote_said _ n there)
