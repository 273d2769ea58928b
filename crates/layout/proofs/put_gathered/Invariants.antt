use Prim.Native.Nat.{◌-◌, ◌*◌}
use Rattle.base.proofs.Written.{Written}
use Rattle.layout.specs.Reading.{gathered}
use Rattle.layout.proofs.put_gathered.Given as goal

abbrev pub invariant-loop-i : goal.invariant-loop-i
invariant-loop-i l = Written (gathered l.file l.f l.size 0 l.f.count) l.initial.out (l.i * l.size) l.out (gathered l.file l.f l.size l.i (l.f.count - l.i))
