use mathlib.Core.Path.{◌≡◌}
use Prim.Native.Nat.{◌+◌, ◌*◌, ◌≤◌}
use lib.ListN.{length}
use Rattle.differences.specs.Reading.{common_pairs}
use Rattle.differences.specs.Walking.{glyphs_left, pairs_left}
use Rattle.differences.proofs.count_common.Given as goal

abbrev pub invariant-loop-p : goal.invariant-loop-p
invariant-loop-p l =
    (l.total + 2 * (glyphs_left l.p-iterator).bound ≤ 8192) × (l.total + length (pairs_left l.p-iterator) ≡ length (common_pairs l.a l.fn.f l.b l.fn.h))
