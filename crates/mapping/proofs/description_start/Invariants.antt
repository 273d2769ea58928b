use mathlib.Core.Path.{◌≡◌}
use Prim.Native.Nat.{◌-◌, ◌≤◌}
use lib.ListN.{length}
use Rattle.table.specs.Walking.{Along, steps_left}
use Rattle.mapping.specs.Reading.{place_after, description_at}
use Rattle.mapping.proofs.description_start.Given as goal

abbrev pub invariant-loop-left : goal.invariant-loop-left
invariant-loop-left l = Along l.tail l.at l.steps × (l.at ≤ length l.tail) × (place_after l.left l.at (steps_left l.steps) ≡ description_at l.fn.c l.g l.tail)

abbrev pub decreases-loop-left : goal.decreases-loop-left
decreases-loop-left l = length l.tail - l.at
