-- A table's items in another coding: their bytes, how many those are, and the first value that the coding can't carry.
use Rattle.std.specs.Prelude.{ℕ, ◌+◌, ◌≡◌, List, [], ◌∷◌, ◌++◌, length, Result, Ok, Err}
use Rattle.coding.specs.declared.Coding.{Coding}
use Rattle.table.specs.Meaning.{bytes, OfCoding}
use Rattle.base.specs.Reading.{when}
use Rattle.coding.specs.Reading.{carries_of, mark_len}
use Rattle.coding.specs.Meaning.{value_bytes}
use Rattle.table.specs.declared.Item.{Item}
use Rattle.table.specs.Reading.{steps_from, items_in}
use Rattle.token.specs.declared.Token.TheVariants.{Value as TokenValue, Start as TokenStart, End as TokenEnd}
use Rattle.token.specs.declared.Malformed.TheVariants.{Cut, Bad}
use Rattle.token.specs.Reading.{Step}

-- the bytes that a tail's items are in another coding
unfoldable pub recoded : Coding → Coding → List ℕ → List ℕ
recoded from to s = bytes to (items_in from s)

-- steps from a place on, with n bytes before them: how many bytes in all, or the place of the first value that is none of the coding's
unfoldable pub measure : Coding → ℕ → ℕ → List Step → Result ℕ ℕ
measure to at n [] = Ok n
measure to at n (Ok (TokenValue v, next) ∷ xs) = when (carries_of to v) (measure to next (n + length (value_bytes to v)) xs) (Err at)
measure to at n (Ok (TokenStart, next) ∷ xs) = measure to next (n + mark_len to) xs
measure to at n (Ok (TokenEnd, next) ∷ xs) = measure to next (n + mark_len to) xs
measure to at n (Err t ∷ xs) = Ok n

-- how many bytes a tail's items are in another coding; or the place in the tail of the first value, singles and sequences alike, that
-- the coding can't carry
unfoldable pub table_len : Coding → Coding → List ℕ → Result ℕ ℕ
table_len from to s = measure to 0 0 (steps_from from 0 0 s)

-- items, written in one coding from a place on, of which the first whose value another coding can't carry stands at a place:
-- everything before it is carried, and it isn't
pub record FirstUncarried (from to : Coding) (is : List Item) (at place : ℕ) : Type 0 where
  pub before : List Item
  pub item : Item
  pub after : List Item
  pub same : is ≡ before ++ (item ∷ after)
  pub carried : OfCoding to before
  pub uncarried : OfCoding to (item ∷ []) → ⊥
  pub here : place ≡ at + length (bytes from before)
