use mathlib.Core.Path.{◌≡◌}
use Prim.Native.Nat.{◌-◌}
use lib.Seq.{slice}
use Rattle.moves.specs.Reading.{laid}
use Rattle.moves.proofs.move_down.Given as goal

abbrev pub invariant-loop-i : goal.invariant-loop-i
invariant-loop-i l = l.buf ≡ laid (l.from - l.by) (slice l.from l.i l.initial.buf) l.initial.buf
