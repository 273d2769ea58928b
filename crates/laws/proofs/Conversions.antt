-- The conversions. The calls answer `converted_of c s (length xs)` and leave `converted_into c s xs` in the buffer xs; Bytes s holds of any slice.
-- `Exact x rows`: x is an answer exactly when the rows say so of it.
use mathlib.Core.Path.{◌≡◌}
use mathlib.Core.Logic.{◌⊎◌}
use mathlib.Core.List.{List}
use Prim.Native.Nat.{ℕ, ◌+◌, ◌*◌}
use native.Mathlib.Omega.{arith}
use lib.ListN.{length, take}
use Rattle.base.specs.Meaning.{Bytes}
use Rattle.header.specs.declared.Kind.TheVariants.{Psf1, Psf2}
use Rattle.header.specs.declared.Font.{Font}
use Rattle.header.specs.Meaning.{char_size}
use Rattle.stages.specs.Reading.{check_of}
use Rattle.content.specs.Meaning.{Plain}
use Rattle.conversion.specs.declared.Conversion.{Conversion}
use Rattle.conversion.specs.declared.Conversion.TheVariants.{Psf1ToPsf2, Psf2ToPsf1, Psf2ToVfont2, Vfont2ToPsf2}
use Rattle.conversion.specs.Meaning.{source_kind, target_kind, front_len}
use Rattle.convert.specs.Reading.{converted_of, converted_into}
use Rattle.laws.specs.Meaning.{Exact, gives, refuses, says, ConversionRows, Keeps, Wrote}
use Rattle.laws.proofs.Converting as inner
use Rattle.laws.proofs.Converting.{stays, wrote_said, refused_said}
use Rattle.laws.proofs.Refusing.{conversion_rows}
use Rattle.std.specs.Prelude.{Ok}

-- the font's own refusal, 17 to 21 in their order, each exactly when its row says, and else the output is written and its length answered
pub conversion_exactly : (c : Conversion) (s : List ℕ) (m : ℕ) → Bytes s → Exact (says (converted_of c s m)) (ConversionRows c s m)
conversion_exactly = conversion_rows

-- the bytes before the table, n glyphs of char_size f bytes each: "32 + nc", "4 + nc", "32 + 18n + nc", "32 + nc"
pub front_lengths : (f : Font) →
    (front_len Psf1ToPsf2 f ≡ 32 + f.count * char_size f) × (front_len Psf2ToPsf1 f ≡ 4 + f.count * char_size f)
    × (front_len Psf2ToVfont2 f ≡ 32 + f.count * 18 + f.count * char_size f) × (front_len Vfont2ToPsf2 f ≡ 32 + f.count * char_size f)
unfolding front_len
front_lengths f = (omega arith, omega arith, omega arith, omega arith)

module _ (c : Conversion) (s xs : List ℕ) where
  -- "A refused conversion leaves the buffer untouched"
  pub untouched : (number p : ℕ) → says (converted_of c s (length xs)) ≡ refuses number p → converted_into c s xs ≡ xs
  untouched number p e = let r = refused_said _ number p e in stays c s xs r.0 r.1

  -- where a conversion answers that it wrote n bytes, the first n bytes of the buffer are a sound font of the target's kind, of which every call
  -- answers as of the source, and the rest of the buffer is as it was
  pub means : (n : ℕ) → Bytes s → says (converted_of c s (length xs)) ≡ gives n → Wrote c s n xs (converted_into c s xs)
  means n y e = inner.means c s xs n y (wrote_said _ n e)

-- there and back, where both steps are accepted: xs and ys are the two buffers
module _ (c d : Conversion) (s xs ys : List ℕ) (n k : ℕ) (y : Bytes s) (there : says (converted_of c s (length xs)) ≡ gives n)
    (back : says (converted_of d (take n (converted_into c s xs)) (length ys)) ≡ gives k) where
  -- any there and back keeps what the font has: "glyphs, metrics and mappings are the same"
  pub back_keeps : (f : Font) × (check_of s ≡ Ok f) × Keeps s f (take k (converted_into d (take n (converted_into c s xs)) ys)) (target_kind d)
  back_keeps = inner.back_keeps c d s xs ys n k y (wrote_said _ n there) (wrote_said _ k back)

  -- "A PSF2 file with header size 32, converted either way and back where both steps are accepted, gives its own bytes again. So, likewise,
  -- does a PSF1 file of mode 0 to 3 through PSF2."
  pub back_bytes : target_kind d ≡ source_kind c → (source_kind c ≡ Psf1) ⊎ (source_kind c ≡ Psf2) → Plain s (source_kind c) → take k (converted_into d (take n (converted_into c s xs)) ys) ≡ s
  back_bytes = inner.back_bytes c d s xs ys n k y (wrote_said _ n there) (wrote_said _ k back)
