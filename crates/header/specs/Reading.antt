-- What a header says: refusals 2 to 7 of document 01 in their order, or the font that it describes; and the headers that are written.
use Rattle.std.specs.Prelude.{ℕ, ◌+◌, List, [], ◌∷◌, ◌++◌, Bool, not, ltb, eqb, length, get_or, Result, Ok, Err, Option, Some, None}
use Rattle.base.specs.Meaning.{pick, le32}
use Rattle.base.specs.Reading.{when, starts_with, bytes32}
use Rattle.refusal.specs.Meaning.{refusal}
use Rattle.refusal.specs.declared.Reason.TheVariants.{Kind, HeaderCut, Version, HeaderSize, Count, Shape}
use Rattle.header.specs.declared.Kind.{Kind as KindOf}
use Rattle.header.specs.declared.Kind.TheVariants.{Psf1, Psf2, Vfont2}
use Rattle.header.specs.declared.Fields.{Fields}
use Rattle.header.specs.Meaning.{magic_of, header_len, psf1_count, psf1_table, glyph_bytes, psf1_font, fields_of, psf2_font, vfont2_font}
use Rattle.header.specs.declared.Font.{Font}
use Rattle.refusal.specs.declared.Refusal.{Refusal}

-- the kind whose magic a file begins with
unfoldable pub kind_of : List ℕ → Option KindOf
kind_of s =
    when (starts_with (magic_of Psf1) s) (Some Psf1)
    (when (starts_with (magic_of Psf2) s) (Some Psf2)
    (when (starts_with (magic_of Vfont2) s) (Some Vfont2)
    None))

-- PSF1, "36 04, a mode byte, a size byte": 3, 4 and 7
unfoldable pub psf1_says : List ℕ → Result Font Refusal
psf1_says s =
    when (ltb (length s) (header_len Psf1)) (Err (refusal HeaderCut (length s)))
    (when (ltb 5 (get_or s 2 0)) (Err (refusal Version 2))
    (when (eqb (get_or s 3 0) 0) (Err (refusal Shape 3))
    (Ok (psf1_font (psf1_count (get_or s 2 0)) (get_or s 3 0) (psf1_table (get_or s 2 0))))))

-- what PSF2 and vfont2 have at the same places: 3 to 6
unfoldable pub head_of : List ℕ → Result Fields Refusal
head_of s =
    when (ltb (length s) (header_len Psf2)) (Err (refusal HeaderCut (length s)))
    (when (not (eqb (le32 s 4) 0)) (Err (refusal Version 4))
    (when (ltb 1 (le32 s 12)) (Err (refusal Version 12))
    (when (ltb (le32 s 8) (header_len Psf2)) (Err (refusal HeaderSize 8))
    (when (ltb 4096 (le32 s 8)) (Err (refusal HeaderSize 8))
    (when (eqb (le32 s 16) 0) (Err (refusal Count 16))
    (when (ltb 4096 (le32 s 16)) (Err (refusal Count 16))
    (Ok (fields_of s))))))))

-- PSF2: 7. "Bytes per glyph = height × ((width + 7) / 8), rounded down."
unfoldable pub psf2_shaped : Fields → Result Font Refusal
psf2_shaped f =
    when (ltb f.height 1) (Err (refusal Shape 24))
    (when (ltb 255 f.height) (Err (refusal Shape 24))
    (when (ltb f.width 1) (Err (refusal Shape 28))
    (when (ltb 255 f.width) (Err (refusal Shape 28))
    (when (not (eqb f.size (glyph_bytes f.height f.width))) (Err (refusal Shape 20))
    (Ok (psf2_font f))))))

-- vfont2: 7
unfoldable pub vfont2_shaped : Fields → Result Font Refusal
vfont2_shaped f =
    when (ltb 255 f.height) (Err (refusal Shape 24))
    (when (ltb 255 f.width) (Err (refusal Shape 28))
    (Ok (vfont2_font f)))

-- the fields' refusal, or what follows on them
abbrev pub on_fields : (Fields → Result Font Refusal) → Result Fields Refusal → Result Font Refusal
on_fields shaped (Ok f) = shaped f
on_fields shaped (Err r) = Err r

abbrev pub named_says : List ℕ → Option KindOf → Result Font Refusal
named_says s (Some Psf1) = psf1_says s
named_says s (Some Psf2) = on_fields psf2_shaped (head_of s)
named_says s (Some Vfont2) = on_fields vfont2_shaped (head_of s)
named_says s None = Err (refusal Kind 0)

-- refusals 2 to 7, or the font that the header describes
unfoldable pub says_of : List ℕ → Result Font Refusal
says_of s = named_says s (kind_of s)

-- four numbers of four bytes each
unfoldable pub fields : ℕ → ℕ → ℕ → ℕ → List ℕ
fields a b c d = bytes32 a ++ bytes32 b ++ bytes32 c ++ bytes32 d

-- the flags: bit 0 for a table
unfoldable pub flags_of : Bool → ℕ
flags_of table = pick table 1 0

-- "Mode is 1 for 512 glyphs plus 2 for a table."
unfoldable pub mode_of : ℕ → Bool → ℕ
mode_of n table = pick (eqb n 512) 1 0 + pick table 2 0

-- version, header size and flags
unfoldable pub fixed_fields : Bool → List ℕ
fixed_fields table = bytes32 0 ++ bytes32 (header_len Psf2) ++ bytes32 (flags_of table)

-- "Written headers are 32 bytes (4 for PSF1), version 0": magic, mode, size byte; or magic, version, header size, flags, n, the number at
-- 20, height, width
unfoldable pub header_bytes : KindOf → Bool → ℕ → ℕ → ℕ → ℕ → List ℕ
header_bytes Psf1 table n size height width = magic_of Psf1 ++ (mode_of n table ∷ height ∷ [])
header_bytes Psf2 table n size height width = magic_of Psf2 ++ fixed_fields table ++ fields n size height width
header_bytes Vfont2 table n size height width = magic_of Vfont2 ++ fixed_fields table ++ fields n size height width
