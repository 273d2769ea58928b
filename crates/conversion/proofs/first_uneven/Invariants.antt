use mathlib.Core.Path.{◌≡◌}
use Prim.Native.Nat.{◌-◌}
use Rattle.conversion.specs.Reading.{evenness}
use Rattle.conversion.proofs.first_uneven.Given as goal

abbrev pub invariant-loop-i : goal.invariant-loop-i
invariant-loop-i l = evenness l.file l.height l.width l.start (l.n - l.i) l.i ≡ evenness l.file l.height l.width l.start l.n 0
