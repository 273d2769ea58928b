-- `base::copy` meets its contract: at each turn the bytes copied so far stand in front. Assumes room.
use native.Mathlib.Omega.{arith}
use mathlib.Core.Path.{refl}
use Rattle.base.specs.Reading.{over}
use Rattle.base.proofs.Over.{over_take}
use Rattle.base.proofs.copy.Goals as goal

pub loop-i-init : goal.loop-i-init
unfolding over
loop-i-init c = refl

pub loop-i-preserved : goal.loop-i-preserved
loop-i-preserved c = rw c.loop-i.invariant (over_take c.args.src.now c.args.out.now c.loop-i.i (omega arith) (omega arith))
