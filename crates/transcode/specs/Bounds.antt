-- Bounds of the answer.
use Rattle.std.specs.Prelude.{ℕ, ◌*◌, ◌≤◌, ◌<◌, Result, Ok, Err}

-- the bounds of the answer on a tail of so many bytes
abbrev pub MeasuredWithin : ℕ → Result ℕ ℕ → Type 0
MeasuredWithin m (Ok n) = n ≤ 4 * m
MeasuredWithin m (Err k) = k < m
