-- What a font is, whatever its kind of file: how many glyphs it has and whether it has a table; for each glyph its metrics and pixels, or
-- that it has none; its descriptions.
use Rattle.std.specs.Prelude.{ℕ, ◌≤◌, ◌<◌, ◌≡◌, Bool, true, false, List, [], length, get_or, Ok}
use Rattle.std.proofs.Math.Option.{Option, none, some}
use Rattle.base.specs.Meaning.{le32}
use Rattle.table.specs.Meaning.{Desc, encode, Readable}
use Rattle.header.specs.declared.Kind.{Kind}
use Rattle.header.specs.declared.Kind.TheVariants.{Psf1, Psf2, Vfont2}
use Rattle.header.specs.declared.Font.{Font}
use Rattle.entries.specs.declared.Metrics.{Metrics}
use Rattle.entries.specs.Meaning.{entry_at, size_at}
use Rattle.bitmap.specs.declared.Bitmap.{Bitmap}
use Rattle.bitmap.specs.Meaning.{even_bitmap, entry_bitmap, kind_metrics, pixel_in}
use Rattle.stages.specs.Meaning.{coding_of, tail_of}
use Rattle.stages.specs.Reading.{check_of}

-- a glyph as it is drawn: its metrics, its rows and columns, and each of their pixels, 1 where it is drawn
pub record Drawing : Type 0 where
  pub metrics : Metrics
  pub rows : ℕ
  pub columns : ℕ
  pub pixel : ℕ → ℕ → ℕ

-- the content of a font: a drawing for each glyph below the count, or none; a description for each glyph of a font with a table
pub record Content : Type 0 where
  pub count : ℕ
  pub table : Bool
  pub glyph : ℕ → Option Drawing
  pub descriptions : List Desc

-- where glyph g's bitmap stands
abbrev pub bitmap_in : List ℕ → Font → ℕ → Kind → Bitmap
bitmap_in s f g Psf1 = even_bitmap f g
bitmap_in s f g Psf2 = even_bitmap f g
bitmap_in s f g Vfont2 = entry_bitmap s f (entry_at f.entries g)

-- "Size 0 means no glyph"
abbrev pub NoGlyph : List ℕ → Font → ℕ → Kind → Type 0
NoGlyph s f g Psf1 = ⊥
NoGlyph s f g Psf2 = ⊥
NoGlyph s f g Vfont2 = size_at s (entry_at f.entries g) ≡ 0

-- glyph g of a font is drawn so
abbrev pub Draws : List ℕ → Font → ℕ → Option Drawing → Type 0
Draws s f g none = NoGlyph s f g f.kind
Draws s f g (some d) =
    (NoGlyph s f g f.kind → ⊥) × (kind_metrics s f g f.kind ≡ d.metrics)
    × ((bitmap_in s f g f.kind).height ≡ d.rows) × ((bitmap_in s f g f.kind).width ≡ d.columns)
    × ((y x : ℕ) → y < d.rows → x < d.columns → pixel_in s (bitmap_in s f g f.kind) y x ≡ d.pixel y x)

-- "A reading is n descriptions as lists of items, glyph 0's first, whose bytes in the font's coding, end to end, are the tail."
abbrev pub Describes : List ℕ → Font → Bool → List Desc → Type 0
Describes s f true ds = (length ds ≡ f.count) × Readable (coding_of f.kind) ds × (tail_of s f ≡ encode (coding_of f.kind) ds)
Describes s f false ds = ds ≡ []

-- the content of an accepted file
pub record HasContent (s : List ℕ) (m : Content) : Type 0 where
  pub font : Font
  pub sound : check_of s ≡ Ok font
  pub count : font.count ≡ m.count
  pub table : font.table ≡ m.table
  pub glyphs : (g : ℕ) → g < m.count → Draws s font g (m.glyph g)
  pub described : Describes s font m.table m.descriptions

-- two drawings are the same: metrics, rows, columns and each pixel
abbrev pub SameDrawing : Option Drawing → Option Drawing → Type 0
SameDrawing none none = Unit {0}
SameDrawing none (some e) = ⊥
SameDrawing (some d) none = ⊥
SameDrawing (some d) (some e) =
    (d.metrics ≡ e.metrics) × (d.rows ≡ e.rows) × (d.columns ≡ e.columns) × ((y x : ℕ) → y < d.rows → x < d.columns → d.pixel y x ≡ e.pixel y x)

-- two contents are the same
pub record SameContent (m m' : Content) : Type 0 where
  pub count : m.count ≡ m'.count
  pub table : m.table ≡ m'.table
  pub glyphs : (g : ℕ) → g < m.count → SameDrawing (m.glyph g) (m'.glyph g)
  pub descriptions : m.descriptions ≡ m'.descriptions

-- a header with no extra bytes: PSF1's mode says no more than the count and the table, the others' headers end behind their fields
abbrev pub Plain : List ℕ → Kind → Type 0
Plain s Psf1 = get_or s 2 0 ≤ 3
Plain s Psf2 = le32 s 8 ≡ 32
Plain s Vfont2 = le32 s 8 ≡ 32
