-- A written font (document 01, "Conversions"): a header, the dispatch table of a vfont2 file, the bitmaps, the table.
use Rattle.std.specs.Prelude.{ℕ, zero, suc, ◌+◌, ◌*◌, List, [], ◌∷◌, ◌++◌, Bool, length, take, drop}
use Rattle.base.specs.Reading.{bytes16, bytes32}
use Rattle.header.specs.declared.Kind.{Kind}
use Rattle.header.specs.declared.Kind.TheVariants.{Psf1, Psf2, Vfont2}
use Rattle.header.specs.declared.Font.{Font}
use Rattle.header.specs.Meaning.{char_size}
use Rattle.header.specs.Reading.{header_bytes}
use Rattle.entries.specs.Meaning.{entry_at, address_at}

-- the five metrics: "up = height, down = 0, left = 0, right = logical width = width"
unfoldable pub metrics_bytes : ℕ → ℕ → List ℕ
metrics_bytes height width = bytes16 height ++ bytes16 0 ++ bytes16 0 ++ bytes16 width ++ bytes16 width

-- an entry: address, size, metrics
unfoldable pub entry_bytes : ℕ → ℕ → ℕ → ℕ → List ℕ
entry_bytes address c height width = bytes32 address ++ bytes32 c ++ metrics_bytes height width

-- the entries of glyphs of c bytes each, at these addresses
unfoldable pub entries_at : ℕ → ℕ → ℕ → List ℕ → List ℕ
entries_at c height width [] = []
entries_at c height width (a ∷ addresses) = entry_bytes a c height width ++ entries_at c height width addresses

-- "Entry i has address i × c": the addresses of k glyphs from the i-th on
unfoldable pub evenly : ℕ → ℕ → ℕ → List ℕ
evenly c i zero = []
evenly c i (suc k) = i * c ∷ evenly c (suc i) k

-- the dispatch table, of a kind that has one
abbrev pub dispatch_bytes : Kind → ℕ → ℕ → ℕ → List ℕ → List ℕ
dispatch_bytes Psf1 c height width addresses = []
dispatch_bytes Psf2 c height width addresses = []
dispatch_bytes Vfont2 c height width addresses = entries_at c height width addresses

-- the number at 20: "bytes per glyph", or "the total of bitmap bytes"
abbrev pub field_at20 : Kind → ℕ → List ℕ → ℕ
field_at20 Psf1 c bitmaps = c
field_at20 Psf2 c bitmaps = c
field_at20 Vfont2 c bitmaps = length bitmaps

-- n glyphs of c bytes, a height and a width, as a file of a kind
unfoldable pub font_bytes : Kind → Bool → ℕ → ℕ → ℕ → ℕ → List ℕ → List ℕ → List ℕ → List ℕ
font_bytes k table n c height width addresses bitmaps tail =
    header_bytes k table n (field_at20 k c bitmaps) height width ++ dispatch_bytes k c height width addresses ++ bitmaps ++ tail

-- the bitmaps of k glyphs of c bytes from the i-th on, each at the address that its entry has
unfoldable pub gathered : List ℕ → Font → ℕ → ℕ → ℕ → List ℕ
gathered s f c i zero = []
gathered s f c i (suc k) = take c (drop (f.bitmaps + address_at s (entry_at f.entries i)) s) ++ gathered s f c (suc i) k

-- the bitmaps of all glyphs, end to end
abbrev pub kind_glyphs : List ℕ → Font → Kind → List ℕ
kind_glyphs s f Psf1 = take (f.count * f.size) (drop f.bitmaps s)
kind_glyphs s f Psf2 = take (f.count * f.size) (drop f.bitmaps s)
kind_glyphs s f Vfont2 = gathered s f (char_size f) 0 f.count

unfoldable pub glyphs_in : List ℕ → Font → List ℕ
glyphs_in s f = kind_glyphs s f f.kind
