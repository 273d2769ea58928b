use mathlib.Core.Path.{◌≡◌}
use Prim.Native.Nat.{◌-◌}
use lib.ListN.{replicate}
use Rattle.moves.specs.Reading.{laid}
use Rattle.moves.proofs.clear.Given as goal

abbrev pub invariant-loop-k : goal.invariant-loop-k
invariant-loop-k l = l.buf ≡ laid l.from (replicate (l.k - l.from) 0) l.initial.buf
