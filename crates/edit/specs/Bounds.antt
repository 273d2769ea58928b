-- What an edit knows of the place that it found.
use Rattle.std.specs.Prelude.{ℕ, ◌≤◌, ◌<◌, Result, Ok, Err}
use Rattle.utf8.specs.Meaning.{Scalar}
use Rattle.header.specs.Meaning.{limit}
use Rattle.mapping.specs.declared.Mapping.{Mapping}
use Rattle.refusal.specs.declared.Refusal.{Refusal}
use Rattle.mapping.specs.declared.Mapping.TheVariants.{Listed, Unlisted}

-- it stands within a font of len bytes, no longer than a file may be, and a value to add is one of UTF-8
abbrev pub SoughtWithin : ℕ → ℕ → Result Mapping Refusal → Type 0
SoughtWithin len v (Ok (Listed at next)) = (at < next) × (next ≤ len) × (len ≤ limit)
SoughtWithin len v (Ok (Unlisted at)) = (at ≤ len) × (len ≤ limit) × Scalar v
SoughtWithin len v (Err r) = Unit {0}

-- and the font in a buffer of so many bytes
abbrev pub SoughtInside : ℕ → ℕ → ℕ → Result Mapping Refusal → Type 0
SoughtInside room len v (Ok (Listed at next)) = (len ≤ room) × (at < next) × (next ≤ len) × (len ≤ limit)
SoughtInside room len v (Ok (Unlisted at)) = (len ≤ room) × (at ≤ len) × (len ≤ limit) × Scalar v
SoughtInside room len v (Err r) = Unit {0}
