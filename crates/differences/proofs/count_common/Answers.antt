-- `differences::count_common` meets its contract: one glyph more counted at each turn. Assumes `Placed` of both fonts.
use native.Mathlib.Omega.{arith}
use Rattle.differences.proofs.Pairs.{count_next}
use Rattle.differences.proofs.count_common.Goals as goal

pub loop-p-preserved : goal.loop-p-preserved
loop-p-preserved c =
    let l = c.in-Some.ensures.goes.on tt in
    let k = c.pair_count.ensures in
    let j = c.pair_count-in-loop-p.ensures in
    (omega (arith, l.2, k.1, j.1, c.loop-p.invariant.0), omega (arith, count_next _ _ _ _ _ c.in-Some.ensures.steps.1 _ _ k.0 j.0, c.loop-p.invariant.1))
