-- Whether the descriptions that stand at two places have the same items, and where each ends: step by step, side by side. It holds on any
-- tails, as far as they can be read.
use Rattle.std.specs.Prelude.{Bool, true, false, List, [], ◌∷◌, ℕ, ◌+◌, eqb, Ok, Err}
use Rattle.base.specs.Reading.{when}
use Rattle.coding.specs.declared.Coding.{Coding}
use Rattle.table.specs.Reading.{steps_at}
use Rattle.descriptions.specs.declared.Ends.{Ends}
use Rattle.token.specs.declared.Token.TheVariants.{Value as TokenValue, Start as TokenStart, End as TokenEnd}
use Rattle.token.specs.declared.Token.{Token}
use Rattle.token.specs.Reading.{Step}

-- the token of a step; where reading stops, a description ends as at an end mark
abbrev pub token_of : Step → Token
token_of (Ok (t, next)) = t
token_of (Err t) = TokenEnd

-- a step as a number: 0 where a description ends, or reading does; 1 for a start mark; v + 2 for a value v
abbrev pub code_of : Step → ℕ
code_of (Ok (TokenValue v, next)) = v + 2
code_of (Ok (TokenStart, next)) = 1
code_of (Ok (TokenEnd, next)) = 0
code_of (Err t) = 0

-- the place after a step that stands at a place; that place, where reading stops
abbrev pub next_of : ℕ → Step → ℕ
next_of at (Ok (t, next)) = next
next_of at (Err t) = at

-- whether two lists of steps have the same values and marks up to the end of their first descriptions; nothing differs from no steps
unfoldable pub same_steps : List Step → List Step → Bool
same_steps [] ys = true
same_steps (x ∷ xs) [] = true
same_steps (x ∷ xs) (y ∷ ys) = when (eqb (code_of x) (code_of y)) (when (eqb (code_of x) 0) true (same_steps xs ys)) false

-- the place after the first description, on steps from a place on
unfoldable pub end_from : ℕ → List Step → ℕ
end_from at [] = at
end_from at (x ∷ xs) = when (eqb (code_of x) 0) (next_of at x) (end_from (next_of at x) xs)

-- the same of the descriptions at two places of two tails
abbrev pub same_at : Coding → List ℕ → ℕ → Coding → List ℕ → ℕ → Bool
same_at c s a d t b = same_steps (steps_at c s a) (steps_at d t b)

abbrev pub end_at : Coding → List ℕ → ℕ → ℕ
end_at c s a = end_from a (steps_at c s a)

-- both
abbrev pub ends_of : Coding → List ℕ → ℕ → Coding → List ℕ → ℕ → Ends
ends_of c s a d t b = record { same = same_at c s a d t b; first = end_at c s a; second = end_at d t b }
