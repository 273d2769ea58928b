-- `utf8::further` meets its contract: by the test of its bounds. Assumes nothing but what it asks.
use native.Mathlib.Omega.{arith}
use mathlib.Core.Path.{refl, sym, ◌∙◌}
use Rattle.utf8.proofs.Conts.{cut, outside, inside, bounds}
use Rattle.utf8.proofs.further.Goals as goal

pub returns-then-s-k : goal.returns-then-s-k
returns-then-s-k c = (cut c.args.s.now c.args.k c.args.lo c.args.hi c.args.v c.if-s-k.true, tt)

pub returns-then-not-inside : goal.returns-then-not-inside
returns-then-not-inside c = (outside c.args.s.now c.args.k c.args.lo c.args.hi c.args.v c.if-s-k.false (sym c.is_within-inside.ensures ∙ c.if-not-inside.true), tt)

pub six_more-requires : goal.six_more-requires
six_more-requires c = let b = bounds c.args.lo c.args.hi _ (sym c.is_within-inside.ensures ∙ c.if-not-inside.false) in (omega arith, omega (arith, b.0))

pub returns : goal.returns
returns c = (inside c.args.s.now c.args.k c.args.lo c.args.hi c.args.v c.if-s-k.false (sym c.is_within-inside.ensures ∙ c.if-not-inside.false) _ c.six_more.ensures.0, (c.six_more.ensures.1, refl))
