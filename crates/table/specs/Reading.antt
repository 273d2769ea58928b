-- The items that a list of bytes is, one by one, as far as it can be read; and what the check of a table answers: the grammar followed
-- step by step.
use Rattle.std.specs.Prelude.{Bool, true, false, List, [], ◌∷◌, ℕ, zero, suc, ◌-◌, ◌+◌, length, drop, Result, Ok, Err, Option, Some, None}
use Rattle.coding.specs.declared.Coding.{Coding}
use Rattle.table.specs.declared.Item.{Item}
use Rattle.table.specs.declared.Item.TheVariants.{Single, Start, Value, End}
use Rattle.coding.specs.Reading.{read_token}
use Rattle.table.specs.declared.Fault.{Fault}
use Rattle.table.specs.declared.Fault.TheVariants.{Cut as TableCut, Bad as TableBad, Trailing}
use Rattle.token.specs.declared.Token.TheVariants.{Value as TokenValue, Start as TokenStart, End as TokenEnd}
use Rattle.token.specs.declared.Malformed.TheVariants.{Cut, Bad}
use Rattle.token.specs.Reading.{Step, behind}

-- what was read at a place, its places counted from the front
abbrev pub step_of : ℕ → Step → Step
step_of at (Ok (t, l)) = Ok (t, at + l)
step_of at (Err m) = Err (behind at m)

-- the step from a place on
abbrev pub step_at : Coding → List ℕ → ℕ → Step
step_at c s at = step_of at (read_token c (drop at s))

-- the value of a step, and the place after it, if it is a value's
abbrev pub value_of : Step → Option (ℕ × ℕ)
value_of (Ok (TokenValue v, next)) = Some (v, next)
value_of (Ok (TokenStart, next)) = None
value_of (Ok (TokenEnd, next)) = None
value_of (Err m) = None

-- what stands from the place after a step on; nothing where reading stops
abbrev pub after_step : Step → (ℕ → List Step) → List Step
after_step (Ok (t, next)) f = f next
after_step (Err m) f = []

-- the steps of a list of bytes that stands at a place, where so many of its bytes belong to the step before
unfoldable pub steps_from : Coding → ℕ → ℕ → List ℕ → List Step
steps_from c at k [] = []
steps_from c at (suc k) (b ∷ s) = steps_from c (suc at) k s
steps_from c at zero (b ∷ s) =
    step_of at (read_token c (b ∷ s))
    ∷ after_step (step_of at (read_token c (b ∷ s))) (λ next. steps_from c (suc at) (next - suc at) s)

-- all steps from a place of a list on
abbrev pub steps_at : Coding → List ℕ → ℕ → List Step
steps_at c s at = steps_from c at 0 (drop at s)

-- a value as an item: a single before the first start mark of its description, inside a sequence after it
unfoldable pub value_item : Bool → ℕ → Item
value_item false v = Single v
value_item true v = Value v

-- whether an item ends its description
abbrev pub is_end : Item → Bool
is_end (Single v) = false
is_end Start = false
is_end (Value v) = false
is_end End = true

-- steps as items
unfoldable pub step_items : Bool → List Step → List Item
step_items inside [] = []
step_items inside (Ok (TokenValue v, next) ∷ xs) = value_item inside v ∷ step_items inside xs
step_items inside (Ok (TokenStart, next) ∷ xs) = Start ∷ step_items true xs
step_items inside (Ok (TokenEnd, next) ∷ xs) = End ∷ step_items false xs
step_items inside (Err m ∷ xs) = []

-- the items that a list of bytes is, as far as it can be read
abbrev pub items_in : Coding → List ℕ → List Item
items_in c s = step_items false (steps_from c 0 0 s)

-- how many descriptions end among items
abbrev pub ends_in : List Item → ℕ
ends_in [] = 0
ends_in (Single v ∷ is) = ends_in is
ends_in (Start ∷ is) = ends_in is
ends_in (Value v ∷ is) = ends_in is
ends_in (End ∷ is) = suc (ends_in is)

-- the answer at the end of the bytes, with g descriptions complete and n still to come
abbrev pub at_end : ℕ → ℕ → ℕ → Result (Unit {0}) Fault
at_end g zero at = Ok tt
at_end g (suc n) at = Err (TableCut at g)

-- the answer on steps from a place on, of bytes that end at e: g descriptions complete, n still to end, opened just after a start mark
unfoldable pub check_steps : ℕ → ℕ → ℕ → Bool → ℕ → List Step → Result (Unit {0}) Fault
check_steps e g n opened at [] = at_end g n at
check_steps e g zero opened at (x ∷ xs) = Err (Trailing at)
check_steps e g (suc n) opened at (Ok (TokenValue v, next) ∷ xs) = check_steps e g (suc n) false next xs
check_steps e g (suc n) true at (Ok (TokenStart, next) ∷ xs) = Err (TableBad (next - 1) g)
check_steps e g (suc n) false at (Ok (TokenStart, next) ∷ xs) = check_steps e g (suc n) true next xs
check_steps e g (suc n) true at (Ok (TokenEnd, next) ∷ xs) = Err (TableBad (next - 1) g)
check_steps e g (suc n) false at (Ok (TokenEnd, next) ∷ xs) = check_steps e (suc g) n false next xs
check_steps e g (suc n) opened at (Err Cut ∷ xs) = Err (TableCut e g)
check_steps e g (suc n) opened at (Err (Bad k) ∷ xs) = Err (TableBad k g)

-- the answer on a tail that must be n descriptions
abbrev pub table_of : Coding → ℕ → List ℕ → Result (Unit {0}) Fault
table_of c n s = check_steps (length s) 0 n false 0 (steps_from c 0 0 s)

-- its place in the tail
abbrev pub fault_place : Fault → ℕ
fault_place (TableCut k g) = k
fault_place (TableBad k g) = k
fault_place (Trailing k) = k

abbrev pub table_place : Result (Unit {0}) Fault → ℕ
table_place (Ok tt) = 0
table_place (Err t) = fault_place t
