use mathlib.Core.Path.{◌≡◌}
use Prim.Native.Nat.{◌+◌, ◌-◌, ◌*◌}
use Rattle.pixels.specs.Reading.{same_rows}
use Rattle.pixels.proofs.same_rows.Given as goal

abbrev pub invariant-loop-y : goal.invariant-loop-y
invariant-loop-y l = same_rows l.p l.q l.whole l.fillers (l.y * (l.whole + 1)) (l.height - l.y) ≡ same_rows l.p l.q l.whole l.fillers 0 l.height
