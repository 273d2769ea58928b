-- The descriptions of document 01's small font, walked and looked up: glyph 0 lists 41, glyph 1 lists C5 and the sequence 41 30A.
-- With a third glyph that lists 41 again, and the sequence of one value C5.
use mathlib.Core.Path.{◌≡◌, refl}
use mathlib.Core.List.{List, [], ◌∷◌, map}
use Prim.Native.Nat.{ℕ}
use Rattle.table.specs.declared.Item.TheVariants.{Single, Start, Value, End}
use Rattle.table.specs.Meaning.{Desc, items}
use Rattle.lookup.specs.Reading.{item_at, find_value, goes_on, is_whole, find_sequence_from, find_sequence}
use Rattle.std.specs.Prelude.{Some, None}

abbrev pub small : List Desc
small =
    record { singles = 0x41 ∷ []; sequences = [] }
    ∷ record { singles = 0xC5 ∷ []; sequences = record { first = 0x41; others = 0x30A ∷ [] } ∷ [] }
    ∷ record { singles = 0x41 ∷ []; sequences = record { first = 0xC5; others = [] } ∷ [] }
    ∷ []

pub walked : map (λ (k : ℕ). item_at 1 k (items small)) (0 ∷ 1 ∷ 2 ∷ 3 ∷ 4 ∷ 5 ∷ []) ≡ Some (Single 0xC5) ∷ Some Start ∷ Some (Value 0x41) ∷ Some (Value 0x30A) ∷ Some End ∷ None ∷ []
unfolding item_at
walked = refl

pub values_found : map (λ (v : ℕ). find_value v 0 (items small)) (0x41 ∷ 0xC5 ∷ 0x30A ∷ []) ≡ Some 0 ∷ Some 1 ∷ None ∷ []
unfolding find_value
values_found = refl

pub sequences-found :
    map (λ (vs : List ℕ). find_sequence vs (items small)) ((0x41 ∷ 0x30A ∷ []) ∷ (0x41 ∷ []) ∷ (0xC5 ∷ []) ∷ [] ∷ []) ≡ Some 1 ∷ None ∷ Some 2 ∷ None ∷ []
unfolding find_sequence_from goes_on is_whole
sequences-found = refl
