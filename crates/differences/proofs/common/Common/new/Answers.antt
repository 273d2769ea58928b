-- `Common::new` meets its contract: all pairs are left. Assumes `Placed` of both fonts.
use native.Mathlib.Omega.{arith}
use Rattle.differences.proofs.Cases.{lent_is}
use Rattle.differences.proofs.common.Common.new.Goals as goal

pub returns-clause-pairs : goal.returns-clause-pairs
returns-clause-pairs c = lent_is c.args.a.now c.args.f c.args.b.now c.args.h _ _ _ _ _ c.coding_of.ensures c.coding_of-2.ensures (omega (arith, c.min.ensures)) c.compared_start.ensures.0 c.compared_start-2.ensures.0
