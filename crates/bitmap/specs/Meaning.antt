-- A glyph's bitmap and metrics: where it stands, how large it is, its pixels (document 01; source documents 000 and 004).
use Rattle.std.specs.Prelude.{ℕ, ◌+◌, ◌-◌, ◌*◌, ◌/◌, ◌%◌, ◌^◌, ◌≡◌, List, [], pos, get_or, take, drop, Result, Ok, Err}
use Rattle.header.specs.declared.Kind.{Kind}
use Rattle.header.specs.declared.Kind.TheVariants.{Psf1, Psf2, Vfont2}
use Rattle.header.specs.declared.Font.{Font}
use Rattle.header.specs.Meaning.{row_bytes}
use Rattle.entries.specs.declared.Metrics.{Metrics}
use Rattle.entries.specs.Meaning.{entry_at, address_at, size_at, metrics_at, rows_at, cols_at, HasGlyph}
use Rattle.bitmap.specs.declared.Bitmap as B
use Rattle.bitmap.specs.declared.Part.{Part}
use Rattle.refusal.specs.declared.Refusal.{Refusal}

-- glyph g of a font whose bitmaps have one size: "The bitmap for a glyph is stored as height consecutive pixel rows"
abbrev pub even_bitmap : Font → ℕ → B.Bitmap
even_bitmap f g = record { start = f.bitmaps + g * f.size; len = f.size; height = f.height; width = f.width }

-- the glyph of the dispatch entry at an offset
abbrev pub entry_bitmap : List ℕ → Font → ℕ → B.Bitmap
entry_bitmap s f at = record { start = f.bitmaps + address_at s at; len = size_at s at; height = rows_at s at; width = cols_at s at }

-- "(height, 0, 0, width, width)"
abbrev pub even_metrics : ℕ → ℕ → Metrics
even_metrics h w = record { up = pos h; down = pos 0; left = pos 0; right = pos w; logical = pos w }

-- an entry that has a glyph which fills a height and a width: its five metrics are "(height, 0, 0, width, width)"
abbrev pub EvenGlyph : List ℕ → ℕ → ℕ → ℕ → Type 0
EvenGlyph s h w at = HasGlyph s at × (metrics_at s at ≡ even_metrics h w)

-- a glyph's five metrics: those of its entry; in PSF1 and PSF2, where a glyph fills its height and width, (height, 0, 0, width, width)
abbrev pub kind_metrics : List ℕ → Font → ℕ → Kind → Metrics
kind_metrics s f g Psf1 = even_metrics f.height f.width
kind_metrics s f g Psf2 = even_metrics f.height f.width
kind_metrics s f g Vfont2 = metrics_at s (entry_at f.entries g)

-- "each pixel row consists of width bits followed by some filler bits in order to fill an integral number of (8-bit) bytes"
abbrev pub row_start : B.Bitmap → ℕ → ℕ
row_start b y = b.start + y * row_bytes b.width

-- bit i of a byte, counted from the top bit
abbrev pub bit_of : ℕ → ℕ → ℕ
bit_of b i = b / 2 ^ (7 - i) % 2

-- "Pixels run left to right from the top bit of a row's first byte; 1 is drawn."
abbrev pub pixel_in : List ℕ → B.Bitmap → ℕ → ℕ → ℕ
pixel_in s b y x = bit_of (get_or s (row_start b y + x / 8) 0) (x % 8)

-- the part of a file that an answer names: "the part alone, of length 0 if refused"
abbrev pub view_of : List ℕ → Result Part Refusal → List ℕ
view_of s (Ok p) = take p.len (drop p.start s)
view_of s (Err r) = []
