-- The three kinds of file: what each fixes, and what its header says (source document 000 for PSF1 and PSF2, 004 for vfont2).
use Rattle.std.specs.Prelude.{ℕ, ◌+◌, ◌*◌, ◌/◌, ◌%◌, List, [], ◌∷◌, Bool, ◌||◌, eqb}
use Rattle.base.specs.Meaning.{pick, le32}
use Rattle.header.specs.declared.Kind.{Kind}
use Rattle.header.specs.declared.Kind.TheVariants.{Psf1, Psf2, Vfont2}
use Rattle.header.specs.declared.Font.{Font}
use Rattle.header.specs.declared.Fields.{Fields}

-- "Each kind carries its own magic, fixed header length and first bitmap rule as constants of that kind."
abbrev pub magic_of : Kind → List ℕ
magic_of Psf1 = 0x36 ∷ 0x04 ∷ []
magic_of Psf2 = 0x72 ∷ 0xB5 ∷ 0x4A ∷ 0x86 ∷ []
magic_of Vfont2 = 0x27 ∷ 0x5B ∷ 0xA4 ∷ 0x68 ∷ []

abbrev pub header_len : Kind → ℕ
header_len Psf1 = 4
header_len Psf2 = 32
header_len Vfont2 = 32

-- the bytes that stand for each glyph between the header's end and the first bitmap: "n entries of 18 bytes"
abbrev pub entry_len : Kind → ℕ
entry_len Psf1 = 0
entry_len Psf2 = 0
entry_len Vfont2 = 18

-- "256 glyphs, or 512 if bit 0 of the mode is set"
unfoldable pub psf1_count : ℕ → ℕ
psf1_count mode = pick (eqb (mode % 2) 1) 512 256

-- of bits 1 and 2 of the mode: "A table is there when either bit is set."
unfoldable pub psf1_table : ℕ → Bool
psf1_table mode = eqb (mode / 2 % 2) 1 || eqb (mode / 4 % 2) 1

-- the file limit: "over 1,048,576 bytes" is too long
abbrev pub limit : ℕ
limit = 1048576

-- the bytes of a row of so many pixels: "(width + 7) / 8, rounded down"
abbrev pub row_bytes : ℕ → ℕ
row_bytes w = (w + 7) / 8

-- "charsize = height * ((width + 7) / 8)": the bytes of a bitmap
unfoldable pub glyph_bytes : ℕ → ℕ → ℕ
glyph_bytes h w = h * row_bytes w

-- what a font's header says, from the fields of its kind, where its bitmaps begin and where they end
abbrev pub header_font : Kind → Fields → ℕ → ℕ → Font
header_font k f begin stop = record {
  kind = k;
  count = f.count;
  entries = f.header;
  bitmaps = begin;
  size = f.size;
  height = f.height;
  width = f.width;
  end = stop;
  table = f.table;
}

-- a PSF1 font of so many glyphs of so many bytes: "Width 8, height equal to the size byte. Bitmaps at offset 4."
abbrev pub psf1_font : ℕ → ℕ → Bool → Font
psf1_font n size t =
    header_font Psf1 (record { header = header_len Psf1; count = n; size = size; height = size; width = 8; table = t }) (header_len Psf1)
    (header_len Psf1 + n * size)

-- the fields that PSF2 and vfont2 have at the same places: "at 4 version, 8 header size, 12 flags, 16 glyph count n, 20 bytes per glyph"
-- (vfont2: "the total of bitmap bytes"), "24 height, 28 width. Flag bit 0 says that a table follows the bitmaps."
abbrev pub fields_of : List ℕ → Fields
fields_of s = record { header = le32 s 8; count = le32 s 16; size = le32 s 20; height = le32 s 24; width = le32 s 28; table = eqb (le32 s 12) 1 }

-- PSF2: "Bitmaps start at the header size."
abbrev pub psf2_font : Fields → Font
psf2_font f = header_font Psf2 f f.header (f.header + f.count * f.size)

-- vfont2: "At the header size stands the dispatch table, n entries of 18 bytes. Bitmaps follow, then the table if flagged."
abbrev pub vfont2_font : Fields → Font
vfont2_font f = header_font Vfont2 f (f.header + f.count * entry_len Vfont2) (f.header + f.count * entry_len Vfont2 + f.size)

-- bytes per glyph of a font whose glyphs all have its height and width
abbrev pub char_size : Font → ℕ
char_size f = glyph_bytes f.height f.width
