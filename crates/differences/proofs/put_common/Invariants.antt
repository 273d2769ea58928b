use Prim.Native.Nat.{◌+◌, ◌*◌, ◌≤◌}
use Rattle.base.proofs.Written.{Written}
use Rattle.differences.specs.Meaning.{numbers}
use Rattle.differences.specs.Reading.{common_pairs}
use Rattle.differences.specs.Walking.{glyphs_left, pairs_left}
use Rattle.differences.proofs.put_common.Given as goal

abbrev pub invariant-loop-p : goal.invariant-loop-p
invariant-loop-p l =
    (l.at + 4 * (glyphs_left l.p-iterator).bound ≤ 16384) × Written (numbers (common_pairs l.a l.fn.f l.b l.fn.h)) l.initial.out l.at l.out (numbers (pairs_left l.p-iterator))
