-- Bounds of a step, and that it goes on within the list.
use Rattle.std.specs.Prelude.{List, [], ◌∷◌, ℕ, ◌≤◌, ◌<◌, length, ◌≡◌, Ok, Err}
use Rattle.coding.specs.declared.Coding.{Coding}
use Rattle.table.specs.Reading.{steps_at}
use Rattle.token.specs.declared.Malformed.TheVariants.{Cut, Bad}
use Rattle.token.specs.Reading.{Step, Fits}

-- a step whose place is a number of the machine
abbrev pub StepFits : Step → Type 0
StepFits (Ok (t, next)) = next < 18446744073709551616
StepFits (Err m) = Fits m

-- what a step says: that it goes on within the list, and the steps from its place on
abbrev pub StepSays : Coding → List ℕ → ℕ → Step → Type 0
StepSays c s at (Ok (t, next)) = (at < next) × (next ≤ length s) × (steps_at c s at ≡ Ok (t, next) ∷ steps_at c s next)
StepSays c s at (Err Cut) = at < length s → steps_at c s at ≡ Err Cut ∷ []
StepSays c s at (Err (Bad k)) = (at ≤ k) × (k < length s) × (steps_at c s at ≡ Err (Bad k) ∷ [])
