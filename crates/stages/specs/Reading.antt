-- The check of a font, stage by stage (document 01, "The numbers said back"): its size (1), what its header says (2 to 7), its length (8),
-- its entries (9), its tail (10 to 12). Each stage hands a refusal through.
use Rattle.std.specs.Prelude.{ℕ, ◌+◌, List, Bool, not, ltb, eqb, length, Result, Ok, Err}
use Rattle.base.specs.Meaning.{pick}
use Rattle.base.specs.Reading.{when}
use Rattle.refusal.specs.Meaning.{refusal, refusal_at}
use Rattle.refusal.specs.declared.Reason.TheVariants.{TooLong, BodyCut, Entry, TableCut, TableBad, Trailing}
use Rattle.table.specs.Reading.{table_of}
use Rattle.header.specs.declared.Kind.{Kind}
use Rattle.header.specs.declared.Kind.TheVariants.{Psf1, Psf2, Vfont2}
use Rattle.header.specs.declared.Font.{Font}
use Rattle.header.specs.Meaning.{limit}
use Rattle.header.specs.Reading.{says_of}
use Rattle.entries.specs.Meaning.{entry_at}
use Rattle.entries.specs.Reading.{scan_of}
use Rattle.stages.specs.Meaning.{coding_of, tail_of}
use Rattle.refusal.specs.declared.Refusal.{Refusal}
use Rattle.table.specs.declared.Fault.{Fault}
use Rattle.table.specs.declared.Fault.TheVariants.{Cut, Bad, Trailing as Over}

-- the next stage of a font, or the refusal of one before it
abbrev pub and_then : Result Font Refusal → (Font → Result Font Refusal) → Result Font Refusal
and_then (Ok f) next = next f
and_then (Err r) next = Err r

-- 8: "file ends before the bitmaps do", for a file of so many bytes
unfoldable pub sized : ℕ → Font → Result Font Refusal
sized len f = when (ltb len f.end) (Err (refusal BodyCut len)) (Ok f)

-- the rest of 9: "then a greatest height, then width, is wrong"
unfoldable pub greatest_of : Font → ℕ → ℕ → Result Font Refusal
greatest_of f h w =
    when (not (eqb f.height h)) (Err (refusal Entry 24))
    (when (not (eqb f.width w)) (Err (refusal Entry 28))
    (Ok f))

-- 9: "a vfont2 entry breaks a rule", place "first such entry's start", and its number
abbrev pub scanned : Font → Result (ℕ × ℕ) ℕ → Result Font Refusal
scanned f (Err i) = Err (refusal_at Entry (entry_at f.entries i) i)
scanned f (Ok (h, w)) = greatest_of f h w

abbrev pub kind_entries : List ℕ → Font → Kind → Result Font Refusal
kind_entries s f Psf1 = Ok f
kind_entries s f Psf2 = Ok f
kind_entries s f Vfont2 = scanned f (scan_of s f.size f.entries f.count 0 0 0)

unfoldable pub entries_of : List ℕ → Font → Result Font Refusal
entries_of s f = kind_entries s f f.kind

-- a table's answer, where the table begins at e, its place an offset in the file; the glyph of CUT and BAD is "the number of descriptions complete
-- before the place"
abbrev pub fault_at : ℕ → Fault → Refusal
fault_at e (Cut k g) = refusal_at TableCut (e + k) g
fault_at e (Bad k g) = refusal_at TableBad (e + k) g
fault_at e (Over k) = refusal Trailing (e + k)

abbrev pub told_at : ℕ → Result (Unit {0}) Fault → Result (Unit {0}) Refusal
told_at e (Ok tt) = Ok tt
told_at e (Err t) = Err (fault_at e t)

-- a font by what its tail says
abbrev pub passed : Font → Result (Unit {0}) Refusal → Result Font Refusal
passed f (Ok tt) = Ok f
passed f (Err r) = Err r

abbrev pub answered : Font → Result (Unit {0}) Fault → Result Font Refusal
answered f a = passed f (told_at f.end a)

-- what a font's table says
abbrev pub table_tail : List ℕ → Font → Result (Unit {0}) Refusal
table_tail s f = told_at f.end (table_of (coding_of f.kind) f.count (tail_of s f))

-- "bytes after the bitmaps of a font without" a table
unfoldable pub bare_of : List ℕ → Font → Result Font Refusal
bare_of s f = when (ltb f.end (length s)) (Err (refusal Trailing f.end)) (Ok f)

-- 10 to 12
unfoldable pub tailed : List ℕ → Font → Result Font Refusal
tailed s f = pick f.table (answered f (table_of (coding_of f.kind) f.count (tail_of s f))) (bare_of s f)

-- refusals 1 to 8 in their order
unfoldable pub through_body : List ℕ → Result Font Refusal
through_body s = when (ltb limit (length s)) (Err (refusal TooLong limit)) (and_then (says_of s) (sized (length s)))

-- refusals 1 to 9
unfoldable pub through_entries : List ℕ → Result Font Refusal
through_entries s = and_then (through_body s) (entries_of s)

-- refusal 12 of a font without a table
unfoldable pub unless_table : List ℕ → Font → Result Font Refusal
unless_table s f = pick f.table (Ok f) (bare_of s f)

-- 10 to 12 of a font with a table
unfoldable pub tabled : List ℕ → Font → Result Font Refusal
tabled s f = pick f.table (passed f (table_tail s f)) (Ok f)

-- refusals 1 to 9, and 12 of a font without a table
unfoldable pub through_bare : List ℕ → Result Font Refusal
through_bare s = and_then (through_entries s) (unless_table s)

-- the same, with whether there is a table still to be checked
abbrev pub to_table : Result Font Refusal → Result (Bool × Font) Refusal
to_table (Ok f) = Ok (f.table, f)
to_table (Err r) = Err r

-- refusals 1 to 12, or what the font is
unfoldable pub check_of : List ℕ → Result Font Refusal
check_of s = and_then (through_entries s) (tailed s)
