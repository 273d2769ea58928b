use mathlib.Core.Path.{◌≡◌}
use Prim.Native.Nat.{◌+◌, ◌≤◌}
use lib.ListN.{length}
use Rattle.text.specs.Reading.{numeral}
use Rattle.text.proofs.numeral_len.Given as goal

abbrev pub invariant-loop-m : goal.invariant-loop-m
invariant-loop-m l = (2 ≤ l.radix) × (l.k + length (numeral l.radix l.m) ≡ length (numeral l.radix l.n) + 1) × (length (numeral l.radix l.n) ≤ 64)

abbrev pub decreases-loop-m : goal.decreases-loop-m
decreases-loop-m l = l.m
