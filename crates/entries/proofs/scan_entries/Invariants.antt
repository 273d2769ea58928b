use mathlib.Core.Path.{◌≡◌}
use Prim.Native.Nat.{◌-◌}
use Rattle.entries.specs.Reading.{scan_of}
use Rattle.entries.proofs.scan_entries.Given as goal

abbrev pub invariant-loop-i : goal.invariant-loop-i
invariant-loop-i l = scan_of l.file l.total l.start (l.n - l.i) l.i l.height l.width ≡ scan_of l.file l.total l.start l.n 0 0 0
