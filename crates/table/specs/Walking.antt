-- A walk over a tail, step by step: what is left of it, and what a call of `next` gives.
use Rattle.std.specs.Prelude.{◌≡◌, List, ℕ, ◌-◌, ◌≤◌, ◌<◌, length, Ok, Err, Option, MatchOption}
use Rattle.std.specs.Iterator.{Count, at_most}
use Rattle.token.specs.Reading.{Step}
use Rattle.coding.specs.declared.Coding.{Coding}
use Rattle.table.specs.declared.Steps.{Steps}
use Rattle.table.specs.declared.Items.{Items}
use Rattle.table.specs.declared.Item.{Item}
use Rattle.table.specs.Reading.{steps_at, step_items}
use Rattle.table.specs.Bounds.{StepSays}

-- the steps that are left
abbrev pub steps_left : Steps → List Step
steps_left w = steps_at w.coding w.tail.now w.at

-- a walk that begins at a place
abbrev pub Begins : Coding → List ℕ → ℕ → Steps → Type 0
Begins c s at w = (w.coding ≡ c) × (w.tail.now ≡ s) × (w.at ≡ at)

-- a walk over bytes that stands at a place
abbrev pub Along : List ℕ → ℕ → Steps → Type 0
Along s at w = (w.tail.now ≡ s) × (w.at ≡ at)

-- the place behind a step, in bytes that end at e: their end where none can be read
abbrev pub place_behind : ℕ → Step → ℕ
place_behind e (Ok (t, next)) = next
place_behind e (Err m) = e

-- a step of a walk, which goes on behind it; none at the end of the bytes
abbrev pub WalksOn : Steps → Option Step → Steps → Type 0
WalksOn w r v =
    (v.coding ≡ w.coding) × (v.tail ≡ w.tail)
    × MatchOption r ((length w.tail.now ≤ w.at) × (v.at ≡ w.at)) (λ x. (w.at < length w.tail.now) × StepSays w.coding w.tail.now w.at x × (v.at ≡ place_behind (length w.tail.now) x))

-- no more steps than bytes are left
abbrev pub bytes_left : Steps → Count
bytes_left w = at_most (length w.tail.now - w.at)

-- the items that are left of a walk inside a sequence or before one
abbrev pub items_left : Items → List Item
items_left w = step_items w.inside (steps_left w.steps)
