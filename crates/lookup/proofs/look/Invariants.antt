use Prim.Native.Nat.{◌-◌}
use lib.ListN.{length}
use Rattle.lookup.proofs.Passing.{Goes}
use Rattle.lookup.specs.Reading.{is_sequence, values_of}
use Rattle.lookup.proofs.look.Given as goal

abbrev pub invariant-loop-left : goal.invariant-loop-left
invariant-loop-left l = Goes l.c l.tail l.n (is_sequence l.asked) (values_of l.asked) l.at l.left l.start

abbrev pub decreases-loop-left : goal.decreases-loop-left
decreases-loop-left l = length l.tail - l.at
