-- Each answer of the public calls as the struct that C reads: no refusal and the answer's numbers, or the refusal and zeros.
-- include/lavandol.h says the same in C.
use Rattle.std.specs.Prelude.{ℕ, pos, ltb, Bool, true, false, Result, Ok, Err}
use Rattle.base.specs.Meaning.{pick}
use Rattle.refusal.specs.declared.Refusal.{Refusal}
use Rattle.refusal.specs.Meaning.{number_of, no_glyph}
use Rattle.header.specs.declared.Kind.{Kind}
use Rattle.header.specs.declared.Kind.TheVariants.{Psf1, Psf2, Vfont2}
use Rattle.table.specs.declared.Item as I
use Rattle.table.specs.declared.Item.TheVariants.{Single, Start, Value, End}
use Rattle.answers.specs.declared.LavRefusal.{LavRefusal}
use Rattle.answers.specs.declared.LavFont.{LavFont}
use Rattle.answers.specs.declared.LavPart.{LavPart}
use Rattle.answers.specs.declared.LavMetrics.{LavMetrics}
use Rattle.answers.specs.declared.LavItem.{LavItem}
use Rattle.answers.specs.declared.LavNumber.{LavNumber}
use Rattle.answers.specs.declared.LavDifferences.{LavDifferences}
use Rattle.bitmap.specs.declared.Part.{Part}
use Rattle.entries.specs.declared.Metrics.{Metrics}
use Rattle.header.specs.declared.Font.{Font}
use Rattle.table.specs.declared.Item.{Item}
use Rattle.differences.specs.declared.Uncompared.{Uncompared}
use Rattle.differences.specs.declared.Uncompared.TheVariants.{First, Second, Neither}

-- a glyph number, or 4,096 where it is none that a glyph can have
abbrev pub glyph_told : ℕ → ℕ
glyph_told g = pick (ltb g no_glyph) g no_glyph

-- a refusal: document 01's number (the column "No", `number_of`) and place, and its glyph
abbrev pub refusal_told : Refusal → LavRefusal
refusal_told r = record { number = number_of r.reason; glyph = glyph_told r.glyph; place = r.place }

-- the call is answered: LAV_OK, place 0, no glyph
abbrev pub no_refusal : LavRefusal
no_refusal = record { number = 0; glyph = no_glyph; place = 0 }

-- feeding's answer: the piece is taken, or LATE
abbrev pub reply_told : Result (Unit {0}) Refusal → LavRefusal
reply_told (Ok tt) = no_refusal
reply_told (Err r) = refusal_told r

-- LAV_PSF1, LAV_PSF2, LAV_VFONT2
abbrev pub kind_number : Kind → ℕ
kind_number Psf1 = 1
kind_number Psf2 = 2
kind_number Vfont2 = 3

-- a yes or no as C's 1 or 0
abbrev pub flag_number : Bool → ℕ
flag_number true = 1
flag_number false = 0

-- the check's answer
abbrev pub refused_font : Refusal → LavFont
refused_font r =
    record {
      refusal = refusal_told r;
      kind = 0;
      count = 0;
      height = 0;
      width = 0;
      table = 0;
      entries = 0;
      bitmaps = 0;
      size = 0;
      end = 0;
    }

abbrev pub font_answer : Result Font Refusal → LavFont
font_answer (Ok f) =
    record {
      refusal = no_refusal;
      kind = kind_number f.kind;
      count = f.count;
      height = f.height;
      width = f.width;
      table = flag_number f.table;
      entries = f.entries;
      bitmaps = f.bitmaps;
      size = f.size;
      end = f.end;
    }
font_answer (Err r) = refused_font r

-- a part of the file
abbrev pub refused_part : Refusal → LavPart
refused_part r = record { refusal = refusal_told r; offset = 0; length = 0 }

abbrev pub part_answer : Result Part Refusal → LavPart
part_answer (Ok p) = record { refusal = no_refusal; offset = p.start; length = p.len }
part_answer (Err r) = refused_part r

-- a glyph's metrics
abbrev pub refused_metrics : Refusal → LavMetrics
refused_metrics r = record { refusal = refusal_told r; up = pos 0; down = pos 0; left = pos 0; right = pos 0; logical = pos 0 }

abbrev pub metrics_answer : Result Metrics Refusal → LavMetrics
metrics_answer (Ok m) = record { refusal = no_refusal; up = m.up; down = m.down; left = m.left; right = m.right; logical = m.logical }
metrics_answer (Err r) = refused_metrics r

-- one number, and the refusals of the calls that answer so
abbrev pub number_answer : ℕ → LavNumber
number_answer n = record { refusal = no_refusal; number = n }

abbrev pub refused_number : Refusal → LavNumber
refused_number r = record { refusal = refusal_told r; number = 0 }

-- what a call that gives one number answers: a pixel (1 is drawn), the glyph that a lookup found, how many bytes a conversion wrote, how long a
-- font is after an edit
abbrev pub number_result : Result ℕ Refusal → LavNumber
number_result (Ok n) = number_answer n
number_result (Err r) = refused_number r

-- LAV_SINGLE, LAV_START, LAV_VALUE_IN_SEQUENCE, LAV_END; a mark has the value 0
abbrev pub item_answer : I.Item → LavItem
item_answer (Single v) = record { refusal = no_refusal; kind = 1; value = v }
item_answer Start = record { refusal = no_refusal; kind = 2; value = 0 }
item_answer (Value v) = record { refusal = no_refusal; kind = 3; value = v }
item_answer End = record { refusal = no_refusal; kind = 4; value = 0 }

-- an item of a description
abbrev pub refused_item : Refusal → LavItem
refused_item r = record { refusal = refusal_told r; kind = 0; value = 0 }

abbrev pub walk_answer : Result Item Refusal → LavItem
walk_answer (Ok i) = item_answer i
walk_answer (Err r) = refused_item r

-- how many pairs of differences two fonts have; or the refusal, and whose it is
abbrev pub compared_answer : Result ℕ Uncompared → LavDifferences
compared_answer (Ok n) = record { refusal = no_refusal; font = 0; count = n }
compared_answer (Err (First r)) = record { refusal = refusal_told r; font = 1; count = 0 }
compared_answer (Err (Second r)) = record { refusal = refusal_told r; font = 2; count = 0 }
compared_answer (Err (Neither r)) = record { refusal = refusal_told r; font = 0; count = 0 }
