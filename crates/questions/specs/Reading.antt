-- What the questions about a table answer on a sound font (document 01): "Lookups and walks: NO TABLE, then ASK, then UNMAPPED."
use Rattle.std.specs.Prelude.{ℕ, Bool, true, false, List, [], ◌∷◌, ltb, Result, Ok, Err, Option, Some, None}
use Rattle.base.specs.Meaning.{pick}
use Rattle.base.specs.Reading.{when}
use Rattle.refusal.specs.Meaning.{refusal}
use Rattle.refusal.specs.declared.Reason.TheVariants.{Ask, NoTable, Unmapped}
use Rattle.header.specs.declared.Font.{Font}
use Rattle.table.specs.declared.Item as I
use Rattle.table.specs.Reading.{items_in}
use Rattle.lookup.specs.Reading.{item_at, find_value, find_sequence}
use Rattle.stages.specs.Meaning.{coding_of, tail_of}
use Rattle.stages.specs.Reading.{fault_at}
use Rattle.refusal.specs.declared.Refusal.{Refusal}
use Rattle.table.specs.declared.Item.{Item}
use Rattle.table.specs.declared.Fault.{Fault}

-- the items of a font's table, in the order of the file
abbrev pub font_items : List ℕ → Font → List I.Item
font_items s f = items_in (coding_of f.kind) (tail_of s f)

-- what a walk found
abbrev pub walk_of : Option Item → Result Item Refusal
walk_of (Some i) = Ok i
walk_of None = Err (refusal Ask 0)

-- item k of glyph g
abbrev pub item_on : List ℕ → ℕ → ℕ → Font → Result Item Refusal
item_on s g k f = pick f.table (walk_of (item_at g k (font_items s f))) (Err (refusal NoTable 0))

-- what was found, as a glyph
abbrev pub lookup_of : Option ℕ → Result ℕ Refusal
lookup_of (Some g) = Ok g
lookup_of None = Err (refusal Unmapped 0)

-- the lowest glyph that lists v as a single
abbrev pub value_on : List ℕ → ℕ → Font → Result ℕ Refusal
value_on s v f = pick f.table (when (ltb 0x10FFFF v) (Err (refusal Ask 0)) (lookup_of (find_value v 0 (font_items s f)))) (Err (refusal NoTable 0))

-- whether a sequence may be asked: it is not empty, and no value is above 10FFFF
unfoldable pub any_high : List ℕ → Bool
any_high [] = false
any_high (v ∷ vs) = when (ltb 0x10FFFF v) true (any_high vs)

abbrev pub askable : List ℕ → Bool
askable [] = false
askable (v ∷ vs) = pick (any_high (v ∷ vs)) false true

-- the lowest glyph that lists the sequence vs
abbrev pub sequence_on : List ℕ → List ℕ → Font → Result ℕ Refusal
sequence_on s vs f = pick f.table (when (askable vs) (lookup_of (find_sequence vs (font_items s f))) (Err (refusal Ask 0))) (Err (refusal NoTable 0))

-- an answer on a font whose tail passed, or the refusal of its tail
abbrev pub after_tail : (Font → Result ℕ Refusal) → Result Font Refusal → Result ℕ Refusal
after_tail answer (Ok f) = answer f
after_tail answer (Err r) = Err r

-- what a lookup in one pass with the table's check says, in a file whose table begins at e: the table's refusal, then ASK, then what was found
abbrev pub lookup_told : ℕ → Bool → Result (Option ℕ) Fault → Result ℕ Refusal
lookup_told e asked (Ok (Some g)) = pick asked (Ok g) (Err (refusal Ask 0))
lookup_told e asked (Ok None) = pick asked (Err (refusal Unmapped 0)) (Err (refusal Ask 0))
lookup_told e asked (Err t) = Err (fault_at e t)
