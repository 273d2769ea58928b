-- `base::starts_with` meets its contract: the bytes passed agree. Assumes nothing.
use native.Mathlib.Omega.{arith}
use mathlib.Core.Path.{◌∙◌}
use Rattle.base.proofs.Begins.{begins_whole, begins_other, begins_next}
use Rattle.base.proofs.starts_with.Goals as goal

pub returns-then-s-i : goal.returns-then-s-i
returns-then-s-i c = begins_other c.args.s.now c.args.m.now c.loop-i.i (omega arith) (omega arith) c.if-s-i.true ∙ c.loop-i.invariant

pub loop-i-preserved : goal.loop-i-preserved
loop-i-preserved c = begins_next c.args.s.now c.args.m.now c.loop-i.i (omega arith) (omega arith) c.if-s-i.false ∙ c.loop-i.invariant

pub returns : goal.returns
returns c = begins_whole c.args.s.now c.args.m.now c.loop-i.i (omega arith) ∙ c.loop-i.invariant
