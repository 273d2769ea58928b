-- What the inner calls ask of a record and a piece: a piece within the file limit, and fewer bytes held than an entry has.
use Rattle.std.specs.Prelude.{List, ℕ, ◌+◌, ◌≤◌, ◌<◌, length}
use Rattle.unfinished.specs.declared.Held.{Held}

abbrev pub Fitting : ℕ → Held → List ℕ → Type 0
Fitting total h p = (total + length p ≤ 1048576) × (h.len < 18)
