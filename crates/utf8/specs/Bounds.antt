-- Bounds of what was read, and the row that a first byte has.
use Rattle.std.specs.Prelude.{ℕ, ◌≤◌, ◌<◌, ◌≡◌, Result, Ok, Err}
use Rattle.token.specs.declared.Malformed.{Malformed}
use Rattle.utf8.specs.declared.Lead.{Lead}
use Rattle.utf8.specs.Reading.{lead_of}

-- a value that was read is below a number, and so many bytes long
abbrev pub Reached : ℕ → ℕ → Result (ℕ × ℕ) Malformed → Type 0
Reached n k (Ok (v, l)) = (v < n) × (l ≡ k)
Reached n k (Err t) = Unit {0}

-- the row of a first byte whose values have n bytes, more than one
abbrev pub RowOf : ℕ → ℕ → Lead → Type 0
RowOf n b l = (l ≡ lead_of b) × (l.len ≡ n) × (2 ≤ n) × (n ≤ 4)
