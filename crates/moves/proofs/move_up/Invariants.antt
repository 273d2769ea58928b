use mathlib.Core.Path.{◌≡◌}
use Prim.Native.Nat.{◌+◌, ◌≤◌}
use lib.Seq.{slice}
use Rattle.moves.specs.Reading.{laid}
use Rattle.moves.proofs.move_up.Given as goal

abbrev pub invariant-loop-i : goal.invariant-loop-i
invariant-loop-i l = (l.from ≤ l.i) × (l.buf ≡ laid (l.i + l.by) (slice l.i l.end l.initial.buf) l.initial.buf)
