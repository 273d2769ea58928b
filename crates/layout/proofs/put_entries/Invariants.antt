use Prim.Native.Nat.{◌-◌, ◌*◌}
use Rattle.base.proofs.Written.{Written}
use Rattle.layout.specs.Reading.{entries_at, evenly}
use Rattle.layout.proofs.put_entries.Given as goal

abbrev pub invariant-loop-i : goal.invariant-loop-i
invariant-loop-i l = Written (entries_at l.size l.height l.width (evenly l.size 0 l.n)) l.initial.out (l.i * 18) l.out (entries_at l.size l.height l.width (evenly l.size l.i (l.n - l.i)))
