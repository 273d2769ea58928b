use mathlib.Core.Path.{◌≡◌}
use Prim.Native.Nat.{◌≤◌}
use lib.ListN.{length}
use Rattle.table.specs.Walking.{Begins}
use Rattle.descriptions.specs.Reading.{ends_of}
use Rattle.descriptions.proofs.compare.Given as goal

abbrev pub invariant-loop-x : goal.invariant-loop-x
invariant-loop-x l =
    Begins l.c l.s l.a l.x-iterator × Begins l.d l.t l.b l.others × (l.a ≤ length l.s) × (l.b ≤ length l.t) × (ends_of l.c l.s l.a l.d l.t l.b ≡ ends_of l.c l.s l.from l.d l.t l.start)
