-- `Common::next` meets its contract: the pairs of one glyph more. Assumes nothing.
use native.Mathlib.Omega.{arith}
use Rattle.differences.proofs.Pairs.{common_end, read_next}
use Rattle.differences.proofs.common.CommonIterator.next.Goals as goal

pub returns-then-self-clause-steps : goal.returns-then-self-clause-steps
returns-then-self-clause-steps c = let z = common_end _ _ _ _ _ _ _ _ _ c.if-self.true in (z, z)

pub returns-clause-steps : goal.returns-clause-steps
returns-clause-steps c =
    let w = c.args.self.now in
    (omega (arith, c.if-self.false, w.first.2, w.both.0), read_next _ _ _ _ _ w.n w.g w.x w.y _ _ _ c.if-self.false c.compare.ensures c.compare-e.ensures.equal c.item_kind.ensures)
