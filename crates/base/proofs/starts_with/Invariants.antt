use mathlib.Core.Path.{◌≡◌}
use lib.ListN.{drop}
use Rattle.base.specs.Reading.{starts_with}
use Rattle.base.proofs.starts_with.Given as goal

abbrev pub invariant-loop-i : goal.invariant-loop-i
invariant-loop-i l = starts_with (drop l.i l.m) (drop l.i l.s) ≡ starts_with l.m l.s
