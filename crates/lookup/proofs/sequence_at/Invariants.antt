use mathlib.Core.Path.{◌≡◌}
use Prim.Native.Nat.{◌≤◌}
use lib.ListN.{length, drop}
use Rattle.table.specs.Reading.{steps_at}
use Rattle.table.specs.Walking.{steps_left}
use Rattle.lookup.specs.Reading.{sequence_in}
use Rattle.lookup.proofs.sequence_at.Given as goal

abbrev pub invariant-loop-step : goal.invariant-loop-step
invariant-loop-step l = (l.m ≤ length l.vs) × (sequence_in (drop l.m l.vs) (steps_left l.step-iterator) ≡ sequence_in l.vs (steps_at l.fn.c l.tail l.start))
