-- What comes before the first byte of a conversion is written (rows 17 to 20): the font's own refusal, WRONG KIND, GLYPHS, VALUE, SIZE, in
-- this order; or the font and how long the output is. And the output.
use Rattle.std.specs.Prelude.{ℕ, zero, suc, ◌+◌, List, Bool, true, false, not, ltb, eqb, length, take, Result, Ok, Err, Option, Some, None}
use Rattle.base.specs.Reading.{when}
use Rattle.base.specs.Meaning.{le16}
use Rattle.refusal.specs.Meaning.{refusal, refusal_at, no_glyph}
use Rattle.table.specs.Reading.{table_of}
use Rattle.refusal.specs.declared.Reason.TheVariants.{WrongKind, Glyphs, Value, Size}
use Rattle.coding.specs.declared.Coding.TheVariants.{Utf8, Ucs2}
use Rattle.transcode.specs.Reading.{table_len, recoded}
use Rattle.header.specs.declared.Kind.{Kind}
use Rattle.header.specs.declared.Kind.TheVariants.{Psf1, Psf2, Vfont2}
use Rattle.header.specs.declared.Font.{Font}
use Rattle.header.specs.Meaning.{limit, char_size}
use Rattle.entries.specs.Meaning.{entry_at, size_at}
use Rattle.layout.specs.Reading.{font_bytes, glyphs_in, evenly}
use Rattle.stages.specs.Meaning.{coding_of, tail_of}
use Rattle.stages.specs.Reading.{and_then, told_at, check_of}
use Rattle.conversion.specs.declared.Conversion.{Conversion}
use Rattle.conversion.specs.declared.Conversion.TheVariants.{Psf1ToPsf2, Psf2ToPsf1, Psf2ToVfont2, Vfont2ToPsf2}
use Rattle.conversion.specs.Meaning.{source_kind, target_kind, front_len}
use Rattle.refusal.specs.declared.Refusal.{Refusal}

abbrev pub same_kind : Kind → Kind → Bool
same_kind Psf1 Psf1 = true
same_kind Psf1 Psf2 = false
same_kind Psf1 Vfont2 = false
same_kind Psf2 Psf1 = false
same_kind Psf2 Psf2 = true
same_kind Psf2 Vfont2 = false
same_kind Vfont2 Psf1 = false
same_kind Vfont2 Psf2 = false
same_kind Vfont2 Vfont2 = true

-- 17: "the call wants another kind"
unfoldable pub of_kind : Kind → Font → Result Font Refusal
of_kind k f = when (same_kind k f.kind) (Ok f) (Err (refusal WrongKind 0))

-- a font of the kind that a call wants
unfoldable pub opened_of : Kind → List ℕ → Result Font Refusal
opened_of k s = and_then (check_of s) (of_kind k)

-- 18 to PSF1: "GLYPHS if n is not 256 or 512 (place 16), then if the width is not 8 (place 28)"
unfoldable pub is_psf1_count : ℕ → Bool
is_psf1_count n = when (eqb n 256) true (eqb n 512)

unfoldable pub suits_psf1 : Font → Result (Unit {0}) Refusal
suits_psf1 f = when (not (is_psf1_count f.count)) (Err (refusal Glyphs 16)) (when (not (eqb f.width 8)) (Err (refusal Glyphs 28)) (Ok tt))

-- whether the entry at an offset has a glyph, with the metrics (height, 0, 0, width, width)
unfoldable pub is_even : List ℕ → ℕ → ℕ → ℕ → Bool
is_even s height width at =
    when (eqb (size_at s at) 0) false
    (when (not (eqb (le16 s (at + 8)) height)) false
    (when (not (eqb (le16 s (at + 10)) 0)) false
    (when (not (eqb (le16 s (at + 12)) 0)) false
    (when (not (eqb (le16 s (at + 14)) width)) false
    (eqb (le16 s (at + 16)) width)))))

-- k entries from entry i on, of a table that begins at an offset: the first that is not even
unfoldable pub evenness : List ℕ → ℕ → ℕ → ℕ → ℕ → ℕ → Option ℕ
evenness s height width start zero i = None
evenness s height width start (suc k) i = when (is_even s height width (entry_at start i)) (evenness s height width start k (suc i)) (Some i)

-- 18 from vfont2: "GLYPHS, place that entry's start", and its number
abbrev pub even_suits : Font → Option ℕ → Result (Unit {0}) Refusal
even_suits f None = Ok tt
even_suits f (Some i) = Err (refusal_at Glyphs (entry_at f.entries i) i)

-- 18
unfoldable pub suits_of : Conversion → List ℕ → Font → Result (Unit {0}) Refusal
suits_of Psf1ToPsf2 s f = Ok tt
suits_of Psf2ToPsf1 s f = suits_psf1 f
suits_of Psf2ToVfont2 s f = Ok tt
suits_of Vfont2ToPsf2 s f = even_suits f (evenness s f.height f.width f.entries f.count 0)

-- the bytes of the table in the target's coding; or the first value that it can't carry
unfoldable pub measured_of : Conversion → List ℕ → Result ℕ ℕ
measured_of Psf1ToPsf2 tail = table_len Ucs2 Utf8 tail
measured_of Psf2ToPsf1 tail = table_len Utf8 Ucs2 tail
measured_of Psf2ToVfont2 tail = Ok (length tail)
measured_of Vfont2ToPsf2 tail = Ok (length tail)

-- 20: "the output is over 1,048,576 bytes"
unfoldable pub fitting : Font → ℕ → Result (Font × ℕ) Refusal
fitting f need = when (ltb limit need) (Err (refusal Size 0)) (Ok (f, need))

-- the glyph that a tail's answer tells
abbrev pub glyph_told : Result (Unit {0}) Refusal → ℕ
glyph_told (Ok tt) = no_glyph
glyph_told (Err r) = r.glyph

-- the glyph that is told where a font's table is cut at a place of its tail
unfoldable pub glyph_at : Font → List ℕ → ℕ → ℕ
glyph_at f tail k = glyph_told (told_at f.end (table_of (coding_of f.kind) f.count (take k tail)))

-- 19: "value's first byte", and the glyph that lists it
abbrev pub measured_then : Conversion → Font → List ℕ → Result ℕ ℕ → Result (Font × ℕ) Refusal
measured_then c f tail (Ok t) = fitting f (front_len c f + t)
measured_then c f tail (Err k) = Err (refusal_at Value (f.end + k) (glyph_at f tail k))

abbrev pub suits_then : Result (Unit {0}) Refusal → Result (Font × ℕ) Refusal → Result (Font × ℕ) Refusal
suits_then (Ok tt) next = next
suits_then (Err r) next = Err r

abbrev pub opened_then : Result Font Refusal → (Font → Result (Font × ℕ) Refusal) → Result (Font × ℕ) Refusal
opened_then (Ok f) next = next f
opened_then (Err r) next = Err r

-- 18 to 20
unfoldable pub prepared_on : Conversion → List ℕ → Font → Result (Font × ℕ) Refusal
prepared_on c s f = suits_then (suits_of c s f) (measured_then c f (tail_of s f) (measured_of c (tail_of s f)))

-- the font's own, 17 to 20
unfoldable pub prepared_of : Conversion → List ℕ → Result (Font × ℕ) Refusal
prepared_of c s = opened_then (opened_of (source_kind c) s) (prepared_on c s)

-- the table "in the target's coding"
abbrev pub table_in : Conversion → List ℕ → List ℕ
table_in Psf1ToPsf2 tail = recoded Ucs2 Utf8 tail
table_in Psf2ToPsf1 tail = recoded Utf8 Ucs2 tail
table_in Psf2ToVfont2 tail = tail
table_in Vfont2ToPsf2 tail = tail

-- the output: a header, "entry i has address i × c", the bitmaps, the table
unfoldable pub output_of : Conversion → List ℕ → Font → List ℕ
output_of c s f =
    font_bytes (target_kind c) f.table f.count (char_size f) f.height f.width (evenly (char_size f) 0 f.count) (glyphs_in s f)
    (table_in c (tail_of s f))
