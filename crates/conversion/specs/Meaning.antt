-- The conversions (document 01, "Conversions"): from which kind to which, how many bytes they write, and which entries of a vfont2 font PSF2
-- can carry.
use Rattle.std.specs.Prelude.{ℕ, ◌+◌, ◌*◌, ◌<◌, List}
use Rattle.header.specs.declared.Kind.{Kind}
use Rattle.header.specs.declared.Kind.TheVariants.{Psf1, Psf2, Vfont2}
use Rattle.header.specs.declared.Font.{Font}
use Rattle.header.specs.Meaning.{char_size, header_len, entry_len}
use Rattle.entries.specs.Meaning.{entry_at}
use Rattle.bitmap.specs.Meaning.{EvenGlyph}
use Rattle.conversion.specs.declared.Conversion.{Conversion}
use Rattle.conversion.specs.declared.Conversion.TheVariants.{Psf1ToPsf2, Psf2ToPsf1, Psf2ToVfont2, Vfont2ToPsf2}

-- the kind that a conversion wants
abbrev pub source_kind : Conversion → Kind
source_kind Psf1ToPsf2 = Psf1
source_kind Psf2ToPsf1 = Psf2
source_kind Psf2ToVfont2 = Psf2
source_kind Vfont2ToPsf2 = Vfont2

-- and the kind that it writes
abbrev pub target_kind : Conversion → Kind
target_kind Psf1ToPsf2 = Psf2
target_kind Psf2ToPsf1 = Psf1
target_kind Psf2ToVfont2 = Vfont2
target_kind Vfont2ToPsf2 = Psf2

-- "32 + 18n + nc", "32 + nc", "4 + nc": the bytes before the table
unfoldable pub front_len : Conversion → Font → ℕ
front_len c f = header_len (target_kind c) + f.count * entry_len (target_kind c) + f.count * char_size f

-- entry i is the first of n "that has no glyph or whose five metrics are not (greatest height, 0, 0, greatest width, greatest width)"
pub record FirstUneven (s : List ℕ) (h w n start i : ℕ) : Type 0 where
  pub within : i < n
  pub uneven : EvenGlyph s h w (entry_at start i) → ⊥
  pub first : (j : ℕ) → j < i → EvenGlyph s h w (entry_at start j)
