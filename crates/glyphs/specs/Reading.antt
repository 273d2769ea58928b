-- How glyph g of two fonts differs: its metrics, and its pixels.
use Rattle.std.specs.Prelude.{ℕ, Bool, ◌&&◌, List, take, drop, Result, Ok, Err, Option, Some, None}
use Rattle.std.specs.Ordering.{int_eq}
use Rattle.base.specs.Reading.{when}
use Rattle.header.specs.declared.Font.{Font}
use Rattle.entries.specs.declared.Metrics as M
use Rattle.bitmap.specs.declared.Bitmap.{Bitmap}
use Rattle.bitmap.specs.Meaning.{kind_metrics}
use Rattle.bitmap.specs.Reading.{bitmap_of}
use Rattle.pixels.specs.Reading.{same_pixels}
use Rattle.glyphs.specs.declared.Difference.{Difference}
use Rattle.glyphs.specs.declared.Difference.TheVariants.{First, Second, Metrics, Pixels, Items, Table}
use Rattle.refusal.specs.declared.Refusal.{Refusal}

-- whether two glyphs have the same metrics
unfoldable pub equal_metrics : M.Metrics → M.Metrics → Bool
equal_metrics a b =
    int_eq a.up b.up && (int_eq a.down b.down && (int_eq a.left b.left && (int_eq a.right b.right && int_eq a.logical b.logical)))

-- a bitmap's bytes
abbrev pub bytes_of : List ℕ → Bitmap → List ℕ
bytes_of s b = take b.len (drop b.start s)

-- 4: "pixels differ though metrics agree"
unfoldable pub pixel_kind : List ℕ → Bitmap → List ℕ → Bitmap → ℕ
pixel_kind s p o q = when (same_pixels (bytes_of s p) (bytes_of o q) p.height p.width) 0 4

-- 3: "metrics differ or just one has no glyph"; "two missing glyphs agree"
abbrev pub located_kind : List ℕ → Font → List ℕ → Font → ℕ → Result Bitmap Refusal → Result Bitmap Refusal → ℕ
located_kind s f o h g (Ok p) (Ok q) = when (equal_metrics (kind_metrics s f g f.kind) (kind_metrics o h g h.kind)) (pixel_kind s p o q) 3
located_kind s f o h g (Ok p) (Err r) = 3
located_kind s f o h g (Err r) (Ok q) = 3
located_kind s f o h g (Err r) (Err r') = 0

-- how glyph g differs: 3, 4, or 0 where it does not
unfoldable pub glyph_kind : List ℕ → Font → List ℕ → Font → ℕ → ℕ
glyph_kind s f o h g = located_kind s f o h g (bitmap_of s f g) (bitmap_of o h g)

-- a difference's number; 0 for none
abbrev pub kind_number : Option Difference → ℕ
kind_number None = 0
kind_number (Some First) = 1
kind_number (Some Second) = 2
kind_number (Some Metrics) = 3
kind_number (Some Pixels) = 4
kind_number (Some Items) = 5
kind_number (Some Table) = 6
