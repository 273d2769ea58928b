use mathlib.Core.Path.{◌≡◌}
use Prim.Native.Nat.{◌≤◌}
use lib.ListN.{length}
use Rattle.table.specs.Reading.{steps_at}
use Rattle.table.specs.Walking.{Begins}
use Rattle.descriptions.specs.Reading.{end_from}
use Rattle.descriptions.proofs.description_end.Given as goal

abbrev pub invariant-loop-step : goal.invariant-loop-step
invariant-loop-step l =
    Begins l.fn.c l.tail l.at l.step-iterator × (l.at ≤ length l.tail) × (end_from l.at (steps_at l.fn.c l.tail l.at) ≡ end_from l.start (steps_at l.fn.c l.tail l.start))
