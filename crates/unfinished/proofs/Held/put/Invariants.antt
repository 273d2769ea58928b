use mathlib.Core.Path.{◌≡◌}
use mathlib.Core.List.{◌++◌}
use lib.ListN.{take}
use Rattle.base.specs.Reading.{over}
use Rattle.unfinished.proofs.Held.put.Given as goal

abbrev pub invariant-loop-i : goal.invariant-loop-i
invariant-loop-i l = l.bytes ≡ over (take l.start l.initial.bytes ++ take l.i l.s) l.initial.bytes
