-- The bitmap questions on any bytes: "Bitmaps: ASK for the glyph, NO GLYPH, ASK for row and column", behind the font's own refusal.
-- `glyph_part` answers `glyph_part_of s g`, `row_part` answers `row_part_of s g y`, `pixel` answers `pixel_at s g y x`, `metrics` answers
-- `glyph_metrics_of s g`; `glyph` and `row` give `view_of s` of the first two. `Exact x rows`: x is an answer exactly when the rows say so of it.
use mathlib.Core.Path.{◌≡◌, refl}
use mathlib.Core.Logic.{◌⊎◌, inl, inr}
use mathlib.Core.List.{List}
use Prim.Native.Nat.{ℕ, ◌+◌, ◌*◌, ◌/◌, ◌%◌, ◌≤◌, ◌<◌}
use lib.ListN.{length, get_or}
use Rattle.base.specs.Meaning.{Bytes}
use Rattle.header.specs.declared.Kind.TheVariants.{Psf1, Psf2, Vfont2}
use Rattle.header.specs.declared.Font.{Font}
use Rattle.entries.specs.Meaning.{entry_at, address_at, size_at, rows_at, cols_at, Breaks}
use Rattle.bitmap.specs.Meaning.{bit_of, view_of}
use Rattle.stages.specs.Reading.{check_of}
use Rattle.content.specs.Meaning.{bitmap_in, NoGlyph}
use Rattle.content.proofs.Source.{unbroken}
use Rattle.fonts.specs.Reading.{glyph_part_of, row_part_of, pixel_at, glyph_metrics_of}
use Rattle.laws.specs.Meaning.{Exact, gives, part_says, says, GlyphPartRows, RowPartRows, PixelRows, MetricsRows, joined}
use Rattle.laws.proofs.Located.{part_rows, row_rows, pixel_rows, metrics_rows, bitmap_inside, rows_whole, pixel_of_lem}
use Rattle.std.specs.Prelude.{Ok}

module _ (s : List ℕ) (y : Bytes s) where
  pub glyph_exactly : (g : ℕ) → Exact (part_says (glyph_part_of s g)) (GlyphPartRows s g)
  glyph_exactly = part_rows s y

  pub row_exactly : (g i : ℕ) → Exact (part_says (row_part_of s g i)) (RowPartRows s g i)
  row_exactly = row_rows s y

  pub pixel_exactly : (g i j : ℕ) → Exact (says (pixel_at s g i j)) (PixelRows s g i j)
  pixel_exactly = pixel_rows s y

  pub metrics_exactly : (g : ℕ) → Exact (says (glyph_metrics_of s g)) (MetricsRows s g)
  metrics_exactly = metrics_rows s y

-- which bytes, rows and columns a glyph has: in PSF1 and PSF2 by the font's numbers, in vfont2 by its entry's
module _ (s : List ℕ) (f : Font) (g : ℕ) where
  abbrev Is : ℕ → ℕ → ℕ → ℕ → Type 0
  Is start len rows columns =
      ((bitmap_in s f g f.kind).start ≡ start) × ((bitmap_in s f g f.kind).len ≡ len) × ((bitmap_in s f g f.kind).height ≡ rows)
      × ((bitmap_in s f g f.kind).width ≡ columns)

  pub psf_bitmap : (f.kind ≡ Psf1) ⊎ (f.kind ≡ Psf2) → Is (f.bitmaps + g * f.size) f.size f.height f.width
  psf_bitmap (inl k) = rw k (refl, refl, refl, refl)
  psf_bitmap (inr k) = rw k (refl, refl, refl, refl)

  pub vfont2_bitmap : f.kind ≡ Vfont2 →
      Is (f.bitmaps + address_at s (entry_at f.entries g)) (size_at s (entry_at f.entries g)) (rows_at s (entry_at f.entries g)) (cols_at s (entry_at f.entries g))
  vfont2_bitmap k = rw k (refl, refl, refl, refl)

module _ (s : List ℕ) (y : Bytes s) (f : Font) (sound : check_of s ≡ Ok f) (g : ℕ) (l : g < f.count) where
  -- no entry of a sound font breaks a rule
  pub no_entry_breaks : f.kind ≡ Vfont2 → Breaks s f.size (entry_at f.entries g) → ⊥
  no_entry_breaks k = unbroken s f y sound k g l

  module _ (n : NoGlyph s f g f.kind → ⊥) where
    -- a glyph's bytes stand in the file
    pub glyph_inside : (bitmap_in s f g f.kind).start + (bitmap_in s f g f.kind).len ≤ length s
    glyph_inside = (bitmap_inside s y f sound g l n).0

    -- "The bitmap for a glyph is stored as height consecutive pixel rows": they are its rows, end to end
    pub rows_end_to_end : view_of s (glyph_part_of s g) ≡ joined (λ (i : ℕ). view_of s (row_part_of s g i)) 0 (bitmap_in s f g f.kind).height
    rows_end_to_end = rows_whole s y f sound g l n

    -- "Pixels run left to right from the top bit of a row's first byte; 1 is drawn": pixel j of row i is bit j of that row, from the top
    pub pixel_of_row : (i j : ℕ) → i < (bitmap_in s f g f.kind).height → j < (bitmap_in s f g f.kind).width →
        says (pixel_at s g i j) ≡ gives (bit_of (get_or (view_of s (row_part_of s g i)) (j / 8) 0) (j % 8))
    pixel_of_row = pixel_of_lem s y f sound g l n
