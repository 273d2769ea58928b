-- What a move leaves in a buffer, and a piece put into a list or taken out of it.
use Rattle.std.specs.Prelude.{ℕ, ◌+◌, List, ◌++◌, take, drop}
use Rattle.base.specs.Reading.{over}

-- p laid over xs from index a on; the rest of xs as it was
unfoldable pub laid : ℕ → List ℕ → List ℕ → List ℕ
laid a p xs = over (take a xs ++ p) xs

-- a piece put into t at `at`
unfoldable pub inserted : ℕ → List ℕ → List ℕ → List ℕ
inserted at p t = take at t ++ p ++ drop at t

-- n elements taken out of t at `at`
unfoldable pub removed : ℕ → ℕ → List ℕ → List ℕ
removed at n t = take at t ++ drop (at + n) t
