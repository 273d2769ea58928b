use mathlib.Core.Path.{◌≡◌}
use Prim.Native.Nat.{◌-◌}
use lib.ListN.{length}
use Rattle.table.specs.Reading.{steps_at}
use Rattle.table.specs.Walking.{Along, steps_left}
use Rattle.tablefeed.specs.Reading.{run_of}
use Rattle.tablefeed.proofs.run_through.Given as goal

abbrev pub invariant-loop-g : goal.invariant-loop-g
invariant-loop-g l =
    Along l.s l.at l.steps × (run_of l.g (l.n - l.g) l.after l.at (steps_left l.steps) ≡ run_of l.ended (l.n - l.ended) l.opened l.start (steps_at l.fn.c l.s l.start))

abbrev pub decreases-loop-g : goal.decreases-loop-g
decreases-loop-g l = length l.s - l.at
