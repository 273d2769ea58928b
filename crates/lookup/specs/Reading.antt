-- Looking things up on items, as far as a tail can be read.
use Rattle.std.specs.Prelude.{List, [], ◌∷◌, ℕ, zero, suc, ◌+◌, Bool, true, false, eqb, get_or, Result, Ok, Err, Option, Some, None}
use Rattle.table.specs.declared.Item.{Item}
use Rattle.base.specs.Meaning.{pick}
use Rattle.table.specs.declared.Item.TheVariants.{Single, Start, Value, End}
use Rattle.table.specs.Reading.{step_items, table_place}
use Rattle.table.specs.Skipping.{Phase, singles, opened, filled, is_opened, is_inside}
use Rattle.table.specs.declared.Fault.{Fault}
use Rattle.table.specs.declared.Fault.TheVariants.{Cut as TableCut, Bad as TableBad, Trailing}
use Rattle.lookup.specs.declared.Asked.{Asked}
use Rattle.lookup.specs.declared.Asked.TheVariants.{Value as AskedValue, Sequence as AskedSequence}
use Rattle.token.specs.declared.Token.TheVariants.{Value as TokenValue, Start as TokenStart, End as TokenEnd}
use Rattle.token.specs.declared.Malformed.TheVariants.{Cut, Bad}
use Rattle.token.specs.Reading.{Step}

-- item k of description g
unfoldable pub item_at : ℕ → ℕ → List Item → Option Item
item_at g k [] = None
item_at zero zero (i ∷ is) = Some i
item_at zero (suc k) (Single v ∷ is) = item_at zero k is
item_at zero (suc k) (Start ∷ is) = item_at zero k is
item_at zero (suc k) (Value v ∷ is) = item_at zero k is
item_at zero (suc k) (End ∷ is) = None
item_at (suc g) k (Single v ∷ is) = item_at (suc g) k is
item_at (suc g) k (Start ∷ is) = item_at (suc g) k is
item_at (suc g) k (Value v ∷ is) = item_at (suc g) k is
item_at (suc g) k (End ∷ is) = item_at g k is

-- the first description, counted from g, that has v as a single
unfoldable pub find_value : ℕ → ℕ → List Item → Option ℕ
find_value v g [] = None
find_value v g (Single w ∷ is) = pick (eqb w v) (Some g) (find_value v g is)
find_value v g (Start ∷ is) = find_value v g is
find_value v g (Value w ∷ is) = find_value v g is
find_value v g (End ∷ is) = find_value v (g + 1) is

-- whether a sequence that is like vs so far goes on like it with v, where ws is still to come of vs
unfoldable pub goes_on : Bool → ℕ → List ℕ → Bool
goes_on false v ws = false
goes_on true v [] = false
goes_on true v (w ∷ ws) = eqb w v

-- whether it is all of vs
unfoldable pub is_whole : Bool → List ℕ → Bool
is_whole false ws = false
is_whole true [] = true
is_whole true (w ∷ ws) = false

-- a list without its first element
abbrev pub rest : List ℕ → List ℕ
rest [] = []
rest (w ∷ ws) = ws

-- the first description, counted from g, with a sequence that is vs; alike where the sequence that is being read is like vs
-- so far, and then ws is what is still to come of vs
unfoldable pub find_sequence_from : List ℕ → ℕ → Bool → List ℕ → List Item → Option ℕ
find_sequence_from vs g alike ws [] = None
find_sequence_from vs g alike ws (Single v ∷ is) = find_sequence_from vs g alike ws is
find_sequence_from vs g alike ws (Start ∷ is) = pick (is_whole alike ws) (Some g) (find_sequence_from vs g true vs is)
find_sequence_from vs g alike ws (Value v ∷ is) = find_sequence_from vs g (goes_on alike v ws) (rest ws) is
find_sequence_from vs g alike ws (End ∷ is) = pick (is_whole alike ws) (Some g) (find_sequence_from vs (g + 1) false ws is)

-- the first description that lists the sequence vs
abbrev pub find_sequence : List ℕ → List Item → Option ℕ
find_sequence vs is = find_sequence_from vs 0 false vs is

-- A lookup in one pass with the check.

-- whether a sequence is asked for, and the values of what is asked for
abbrev pub is_sequence : Asked → Bool
is_sequence (AskedValue v) = false
is_sequence (AskedSequence vs) = true

abbrev pub values_of : Asked → List ℕ
values_of (AskedValue v) = v ∷ []
values_of (AskedSequence vs) = vs.now

-- what is asked for: the first of vs as a single, or the sequence vs
abbrev pub find_asked : Bool → List ℕ → List Item → Option ℕ
find_asked false vs is = find_value (get_or vs 0 0) 0 is
find_asked true vs is = find_sequence vs is

-- what was found, where the table is complete; else what its check says

abbrev pub looked_of : Option ℕ → Result (Unit {0}) Fault → Result (Option ℕ) Fault
looked_of w (Ok tt) = Ok w
looked_of w (Err e) = Err e

-- the place in the tail that is told
abbrev pub looked_place : Result (Option ℕ) Fault → ℕ
looked_place (Ok w) = 0
looked_place (Err e) = table_place (Err e)

-- what is asked for, from a phase of a description on, counted from g: just after a start mark the sequence that is read is like vs so far
abbrev pub find_from : Bool → List ℕ → ℕ → Phase → List Step → Option ℕ
find_from false vs g p xs = find_value (get_or vs 0 0) g (step_items (is_inside p) xs)
find_from true vs g p xs = find_sequence_from vs g (is_opened p) vs (step_items (is_inside p) xs)

-- whether steps are exactly the values vs, and then a mark
unfoldable pub sequence_in : List ℕ → List Step → Bool
sequence_in vs [] = false
sequence_in [] (Ok (TokenValue w, next) ∷ xs) = false
sequence_in (v ∷ vs) (Ok (TokenValue w, next) ∷ xs) = pick (eqb v w) (sequence_in vs xs) false
sequence_in [] (Ok (TokenStart, next) ∷ xs) = true
sequence_in (v ∷ vs) (Ok (TokenStart, next) ∷ xs) = false
sequence_in [] (Ok (TokenEnd, next) ∷ xs) = true
sequence_in (v ∷ vs) (Ok (TokenEnd, next) ∷ xs) = false
sequence_in vs (Err t ∷ xs) = false

-- whether what is asked for begins with the value w, the first of the steps xs, in a phase
abbrev pub begins_at : Bool → List ℕ → Phase → ℕ → List Step → Bool
begins_at false vs singles w xs = eqb w (get_or vs 0 0)
begins_at false vs opened w xs = false
begins_at false vs filled w xs = false
begins_at true vs singles w xs = false
begins_at true vs opened w xs = sequence_in vs xs
begins_at true vs filled w xs = false
