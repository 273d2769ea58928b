use mathlib.Core.Path.{◌≡◌}
use Prim.Native.Nat.{◌*◌, ◌≤◌}
use lib.ListN.{length}
use Rattle.coding.specs.Reading.{mark_len}
use Rattle.table.specs.Walking.{Along, steps_left}
use Rattle.transcode.specs.Reading.{measure, table_len}
use Rattle.transcode.proofs.table_len.Given as goal

abbrev pub invariant-loop-step : goal.invariant-loop-step
invariant-loop-step l =
    Along l.tail l.at l.step-iterator × (l.at ≤ length l.tail) × (l.n ≤ 4 * l.at) × (l.mark ≡ mark_len l.to)
    × (measure l.to l.at l.n (steps_left l.step-iterator) ≡ table_len l.fn.from l.to l.tail)
