-- Bounds of the places found.
use Rattle.std.specs.Prelude.{ℕ, ◌≤◌, ◌<◌}
use Rattle.mapping.specs.declared.Mapping.{Mapping}
use Rattle.mapping.specs.declared.Mapping.TheVariants.{Listed, Unlisted}

-- they stand within so many bytes
abbrev pub MappingWithin : ℕ → Mapping → Type 0
MappingWithin n (Listed at next) = (at < next) × (next ≤ n)
MappingWithin n (Unlisted at) = at ≤ n
