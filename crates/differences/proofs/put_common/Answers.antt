-- `differences::put_common` meets its contract: the pairs of one glyph more at each turn. Assumes `Placed` of both fonts, and room.
use mathlib.Core.Path.{refl, sym, ap}
use native.Mathlib.Omega.{arith}
use Rattle.base.proofs.Written.{begins_as, room, goes_on, ends, ends_at}
use Rattle.differences.specs.Meaning.{numbers}
use Rattle.differences.proofs.Pairs.{numbers_next, none_left, written_as}
use Rattle.differences.proofs.put_common.Goals as goal

pub loop-p-init : goal.loop-p-init
loop-p-init c = rw c.into_iter-p-iterator.ensures.into_iter_gives
    (let w = c.new-p-items.ensures in
    (omega (arith, w.glyphs), begins_as _ _ _ c.requires.2 (ap numbers (sym w.pairs))))

pub put_glyph-at-requires : goal.put_glyph-at-requires
put_glyph-at-requires c =
    let e = c.in-Some.ensures.steps in
    (e.0, room _ _ _ _ _ _ (written_as _ _ _ _ _ _ (numbers_next _ _ _ _ _ e.1) c.loop-p.invariant.1))

pub loop-p-preserved : goal.loop-p-preserved
loop-p-preserved c =
    let e = c.in-Some.ensures.steps in
    let l = c.in-Some.ensures.goes.on tt in
    let p = c.put_glyph-at.ensures in
    (omega (arith, l.2, p.1, c.loop-p.invariant.0), goes_on _ _ _ _ _ _ _ _ _ refl p.0 p.2 (written_as _ _ _ _ _ _ (numbers_next _ _ _ _ _ e.1) c.loop-p.invariant.1))

pub returns : goal.returns
returns c =
    let w = written_as _ _ _ _ _ _ (none_left _ c.in-None.ensures.steps.0) c.loop-p.invariant.1 in
    (ends_at _ _ _ _ w, omega (arith, c.loop-p.invariant.0), ends _ _ _ _ w)
