-- Document 01, "The numbers said back": a refusal is a reason, which has its number, and a place; and document 02, W7: "Every refusal record gains a
-- glyph number".
use Rattle.std.specs.Prelude.{ℕ}
use Rattle.refusal.specs.declared.Reason.{Reason}
use Rattle.refusal.specs.declared.Reason.TheVariants.{TooLong, Kind, HeaderCut, Version, HeaderSize, Count, Shape, BodyCut, Entry, TableCut, TableBad, Trailing, Ask, NoTable, Unmapped, NoGlyph, WrongKind, Glyphs, Value, Size, Room, Late, Line, Have, NotThere}
use Rattle.refusal.specs.declared.Refusal.{Refusal}

-- the column "No"
abbrev pub number_of : Reason → ℕ
number_of TooLong = 1
number_of Kind = 2
number_of HeaderCut = 3
number_of Version = 4
number_of HeaderSize = 5
number_of Count = 6
number_of Shape = 7
number_of BodyCut = 8
number_of Entry = 9
number_of TableCut = 10
number_of TableBad = 11
number_of Trailing = 12
number_of Ask = 13
number_of NoTable = 14
number_of Unmapped = 15
number_of NoGlyph = 16
number_of WrongKind = 17
number_of Glyphs = 18
number_of Value = 19
number_of Size = 20
number_of Room = 21
-- document 02, W2: "LATE (22, place 0) for a piece or close after the close", "LINE (23, place the line's number from 1) for a bad line"
number_of Late = 22
number_of Line = 23
-- W4: "HAVE (24) if the glyph already lists it as a single, NOT THERE (25) if a drop finds none, both place 0"
number_of Have = 24
number_of NotThere = 25

-- a reason and a place, the columns "Name" and "Place", and a glyph number
abbrev pub refusal_at : Reason → ℕ → ℕ → Refusal
refusal_at why place glyph = record { reason = why; place = place; glyph = glyph }

-- "4,096 in all other cases"
abbrev pub no_glyph : ℕ
no_glyph = 4096

abbrev pub refusal : Reason → ℕ → Refusal
refusal why place = refusal_at why place no_glyph
