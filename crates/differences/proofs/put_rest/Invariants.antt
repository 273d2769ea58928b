use Prim.Native.Nat.{◌+◌, ◌-◌, ◌*◌, ◌≤◌}
use Rattle.base.proofs.Written.{Written}
use Rattle.std.specs.Prelude.{Some}
use Rattle.glyphs.specs.Reading.{kind_number}
use Rattle.differences.specs.Meaning.{numbers}
use Rattle.differences.specs.Reading.{rest_from}
use Rattle.differences.proofs.put_rest.Given as goal

abbrev pub invariant-loop-i : goal.invariant-loop-i
invariant-loop-i l = (l.at ≤ 2 * l.i) × Written (numbers (rest_from (kind_number (Some l.r)) l.count l.from)) l.initial.out l.at l.out (numbers (rest_from (kind_number (Some l.r)) (l.count - l.i) (l.from + l.i)))
