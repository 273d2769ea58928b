-- The names and words of a listing, and its first line.
use mathlib.Core.Path.{◌≡◌, refl}
use mathlib.Core.Bool.{Bool, true, false}
use mathlib.Core.List.{◌++◌}
use Prim.Native.Nat.{◌≤◌}
use native.Mathlib.Omega.{arith}
use lib.ListN.{length}
use Rattle.header.specs.declared.Kind.{Kind}
use Rattle.header.specs.declared.Kind.TheVariants.{Psf1, Psf2, Vfont2}
use Rattle.header.specs.declared.Font.{Font}
use Rattle.text.specs.Meaning.{number_text}
use Rattle.listing.specs.Meaning.{kind_text, table_word, first_line}

-- no kind's name is longer than 7 bytes, and no word at the line's end than 6
pub kind_7 : (k : Kind) → length (kind_text k) ≤ 7
kind_7 Psf1 = omega arith
kind_7 Psf2 = omega arith
kind_7 Vfont2 = omega arith

pub word_6 : (t : Bool) → length (table_word t) ≤ 6
word_6 true = omega arith
word_6 false = omega arith

pub first_line_lem : (f : Font) → first_line f ≡ kind_text f.kind ++ number_text f.count 32 ++ number_text f.height 32 ++ number_text f.width 32 ++ table_word f.table
unfolding first_line
first_line_lem f = refl
