-- Where a single stands in a table, step by step: past the descriptions before its glyph's, then among that one's singles.
use Rattle.std.specs.Prelude.{List, [], ◌∷◌, ℕ, zero, suc, eqb, Ok, Err}
use Rattle.base.specs.Meaning.{pick}
use Rattle.coding.specs.declared.Coding.{Coding}
use Rattle.table.specs.Reading.{steps_at}
use Rattle.mapping.specs.declared.Mapping.{Mapping}
use Rattle.mapping.specs.declared.Mapping.TheVariants.{Listed, Unlisted}
use Rattle.token.specs.declared.Token.TheVariants.{Value as TokenValue, Start as TokenStart, End as TokenEnd}
use Rattle.token.specs.declared.Malformed.TheVariants.{Cut, Bad}
use Rattle.token.specs.Reading.{Step}

-- the place after g descriptions, on steps from a place on; where they stop, if that is before
unfoldable pub place_after : ℕ → ℕ → List Step → ℕ
place_after zero at xs = at
place_after (suc g) at [] = at
place_after (suc g) at (Ok (TokenValue v, next) ∷ xs) = place_after (suc g) next xs
place_after (suc g) at (Ok (TokenStart, next) ∷ xs) = place_after (suc g) next xs
place_after (suc g) at (Ok (TokenEnd, next) ∷ xs) = place_after g next xs
place_after (suc g) at (Err t ∷ xs) = at

-- the first v among the values up to the next mark, on steps from a place on: its place and the place after it; else that mark's place
unfoldable pub single_from : ℕ → ℕ → List Step → Mapping
single_from v at [] = Unlisted at
single_from v at (Ok (TokenValue w, next) ∷ xs) = pick (eqb w v) (Listed at next) (single_from v next xs)
single_from v at (Ok (TokenStart, next) ∷ xs) = Unlisted at
single_from v at (Ok (TokenEnd, next) ∷ xs) = Unlisted at
single_from v at (Err t ∷ xs) = Unlisted at

-- where description g of a tail starts
unfoldable pub description_at : Coding → ℕ → List ℕ → ℕ
description_at c g s = place_after g 0 (steps_at c s 0)

-- where glyph g of a tail lists v as a single, or its singles end
unfoldable pub mapping_of : Coding → ℕ → ℕ → List ℕ → Mapping
mapping_of c g v s = single_from v (description_at c g s) (steps_at c s (description_at c g s))
