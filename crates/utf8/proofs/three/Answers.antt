-- `utf8::three` meets its contract: the second byte, and then the third. Assumes nothing but what it asks.
use native.Mathlib.Omega.{arith}
use Prim.Native.Nat.{◌+◌, ◌*◌}
use mathlib.Core.Path.{refl, sym, ◌∙◌}
use Rattle.base.proofs.Handed.{handed_on}
use Rattle.utf8.proofs.Conts.{then_value, then_none, reached_low}
use Rattle.utf8.proofs.three.Goals as goal

pub returns-in_err-w : goal.returns-in_err-w
returns-in_err-w c = (handed_on c.from_residual.result _ _ c.from_residual.ensures.1 (then_none c.args.s.now 0 1 c.args.l.lo c.args.l.hi c.args.v _ (sym c.in_err-w.was ∙ c.further.ensures.0)), rw (handed_on c.from_residual.result _ _ c.from_residual.ensures.1 refl) tt)

pub returns : goal.returns
returns c = let p = rw c.in_ok-w.was at c.further.ensures.1 in (then_value c.args.s.now 0 1 c.args.l.lo c.args.l.hi c.args.v _ _ (sym c.in_ok-w.was ∙ c.further.ensures.0) p.1 _ c.further-2.ensures.0, reached_low (c.in_ok-w.w * 64 + 128) 532544 3 c.further-2.result (omega (arith, p.0)) c.further-2.ensures.1)
