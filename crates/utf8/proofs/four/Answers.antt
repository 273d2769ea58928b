-- `utf8::four` meets its contract: three bytes, and then the fourth. Assumes nothing but what it asks.
use native.Mathlib.Omega.{arith}
use mathlib.Core.Path.{sym, ◌∙◌}
use Rattle.base.proofs.Handed.{handed_on}
use Rattle.utf8.proofs.Conts.{then_value, then_none}
use Rattle.utf8.proofs.four.Goals as goal

pub further-requires : goal.further-requires
further-requires c = let p = rw c.in_ok-w.was at c.three.ensures.1 in (omega (arith, p.0), omega arith)

pub returns-in_err-w : goal.returns-in_err-w
returns-in_err-w c = handed_on c.from_residual.result _ _ c.from_residual.ensures.1 (then_none c.args.s.now 1 1 c.args.l.lo c.args.l.hi c.args.v _ (sym c.in_err-w.was ∙ c.three.ensures.0))

pub returns : goal.returns
returns c = let p = rw c.in_ok-w.was at c.three.ensures.1 in then_value c.args.s.now 1 1 c.args.l.lo c.args.l.hi c.args.v _ _ (sym c.in_ok-w.was ∙ c.three.ensures.0) p.1 _ c.further.ensures.0
