-- `table::ucs2_step` meets its contract: the token that stands there makes the step. Assumes nothing.
use native.Mathlib.Omega.{arith}
use Rattle.coding.specs.declared.Coding.TheVariants.{Ucs2}
use Rattle.table.proofs.Firsts.{ucs2_step, fits, stepped}
use Rattle.table.specs.Reading.{step_of}
use Rattle.table.proofs.Stepping.{past_end}
use Rattle.table.proofs.ucs2_step.Goals as goal

pub returns-then-s-at : goal.returns-then-s-at
returns-then-s-at c = past_end _ _ _ c.if-s-at.true

pub step_of-requires : goal.step_of-requires
step_of-requires c = fits Ucs2 c.args.s.now c.args.at (step_of c.args.at c.read_ucs2-r.result) (omega arith) (ucs2_step c.args.s.now c.args.at c.if-s-at.false _ c.read_ucs2-r.ensures).1

pub returns : goal.returns
returns c = stepped Ucs2 c.args.s.now c.args.at _ _ c.step_of.ensures (ucs2_step c.args.s.now c.args.at c.if-s-at.false _ c.read_ucs2-r.ensures)
