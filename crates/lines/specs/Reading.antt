-- The lines, piece by piece over the items of a table.
use Rattle.std.specs.Prelude.{ℕ, ◌+◌, Bool, true, false, List, [], ◌∷◌, ◌++◌}
use Rattle.base.specs.Meaning.{pick}
use Rattle.text.specs.Reading.{numeral}
use Rattle.coding.specs.declared.Coding.{Coding}
use Rattle.table.specs.declared.Item.{Item}
use Rattle.table.specs.declared.Item.TheVariants.{Single, Start, Value, End}
use Rattle.table.specs.Reading.{is_end, items_in}

-- an item: a single is a blank and its value; a sequence is a blank and, for each value, `+` and the value; the end is a newline
abbrev pub item_text : Item → List ℕ
item_text (Single v) = 32 ∷ numeral 16 v
item_text Start = 32 ∷ []
item_text (Value v) = 43 ∷ numeral 16 v
item_text End = 10 ∷ []

-- an item of glyph g, the glyph's number in front of it where it is the first of the description
unfoldable pub piece_of : Bool → ℕ → Item → List ℕ
piece_of fresh g i = pick fresh (numeral 10 g) [] ++ item_text i

-- the glyph that the item after an item of glyph g belongs to
abbrev pub next_glyph : ℕ → Item → ℕ
next_glyph g (Single v) = g
next_glyph g Start = g
next_glyph g (Value v) = g
next_glyph g End = g + 1

-- the lines of items, the first an item of glyph g, fresh where it is the first of the description
unfoldable pub lines_of : ℕ → Bool → List Item → List ℕ
lines_of g fresh [] = []
lines_of g fresh (i ∷ is) = piece_of fresh g i ++ lines_of (next_glyph g i) (is_end i) is

-- the lines of a tail's items, as far as it can be read
unfoldable pub table_text : Coding → List ℕ → List ℕ
table_text c s = lines_of 0 true (items_in c s)
