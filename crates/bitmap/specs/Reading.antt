-- What the bitmap questions answer on a font whose parts stand in the file. "Bitmaps: ASK for the glyph, NO GLYPH, ASK for row and column."
use Rattle.std.specs.Prelude.{ℕ, ◌+◌, List, ltb, Result, Ok, Err}
use Rattle.base.specs.Reading.{when}
use Rattle.refusal.specs.Meaning.{refusal, refusal_at}
use Rattle.refusal.specs.declared.Reason.TheVariants.{Ask, NoGlyph, Entry as BrokenEntry}
use Rattle.entries.specs.Meaning.{entry_at, address_at, size_at}
use Rattle.entries.specs.Reading.{entry_of}
use Rattle.entries.specs.declared.Entry.{Entry}
use Rattle.entries.specs.declared.Entry.TheVariants.{Empty, Glyph, Broken}
use Rattle.header.specs.declared.Kind.{Kind}
use Rattle.header.specs.declared.Kind.TheVariants.{Psf1, Psf2, Vfont2}
use Rattle.header.specs.declared.Font.{Font}
use Rattle.header.specs.Meaning.{row_bytes}
use Rattle.bitmap.specs.Meaning.{even_bitmap, kind_metrics, row_start, pixel_in}
use Rattle.bitmap.specs.declared.Bitmap.{Bitmap}
use Rattle.bitmap.specs.declared.Part.{Part}
use Rattle.entries.specs.declared.Metrics.{Metrics}
use Rattle.refusal.specs.declared.Refusal.{Refusal}

-- glyph g, whose dispatch entry stands at an offset. "Size 0 means no glyph." No entry of a checked font is broken.
abbrev pub entry_located : List ℕ → Font → ℕ → ℕ → Entry → Result Bitmap Refusal
entry_located s f g at Empty = Err (refusal NoGlyph 0)
entry_located s f g at (Glyph r c) = Ok (record { start = f.bitmaps + address_at s at; len = size_at s at; height = r; width = c })
entry_located s f g at Broken = Err (refusal_at BrokenEntry at g)

abbrev pub kind_bitmap : List ℕ → Font → ℕ → Kind → Result Bitmap Refusal
kind_bitmap s f g Psf1 = Ok (even_bitmap f g)
kind_bitmap s f g Psf2 = Ok (even_bitmap f g)
kind_bitmap s f g Vfont2 = entry_located s f g (entry_at f.entries g) (entry_of s f.size (entry_at f.entries g))

-- glyph g's bitmap
unfoldable pub bitmap_of : List ℕ → Font → ℕ → Result Bitmap Refusal
bitmap_of s f g = when (ltb g f.count) (kind_bitmap s f g f.kind) (Err (refusal Ask 0))

-- where its bytes stand
abbrev pub whole_of : Result Bitmap Refusal → Result Part Refusal
whole_of (Ok b) = Ok (record { start = b.start; len = b.len })
whole_of (Err r) = Err r

-- where a row stands
abbrev pub row_of : Result Bitmap Refusal → ℕ → Result Part Refusal
row_of (Ok b) y = when (ltb y b.height) (Ok (record { start = row_start b y; len = row_bytes b.width })) (Err (refusal Ask 0))
row_of (Err r) y = Err r

-- a pixel
abbrev pub pixel_of : List ℕ → Result Bitmap Refusal → ℕ → ℕ → Result ℕ Refusal
pixel_of s (Ok b) y x = when (ltb y b.height) (when (ltb x b.width) (Ok (pixel_in s b y x)) (Err (refusal Ask 0))) (Err (refusal Ask 0))
pixel_of s (Err r) y x = Err r

-- its metrics
abbrev pub metrics_of : List ℕ → Font → ℕ → Result Bitmap Refusal → Result Metrics Refusal
metrics_of s f g (Ok b) = Ok (kind_metrics s f g f.kind)
metrics_of s f g (Err r) = Err r
