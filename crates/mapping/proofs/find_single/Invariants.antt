use mathlib.Core.Path.{◌≡◌}
use Prim.Native.Nat.{◌≤◌}
use lib.ListN.{length}
use Rattle.table.specs.Reading.{steps_at}
use Rattle.table.specs.Walking.{Along, steps_left}
use Rattle.mapping.specs.Reading.{single_from}
use Rattle.mapping.proofs.find_single.Given as goal

abbrev pub invariant-loop-step : goal.invariant-loop-step
invariant-loop-step l = Along l.tail l.at l.step-iterator × (l.at ≤ length l.tail) × (single_from l.v l.at (steps_left l.step-iterator) ≡ single_from l.v l.start (steps_at l.fn.c l.tail l.start))
