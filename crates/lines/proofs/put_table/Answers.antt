-- `lines::put_table` meets its contract: at each turn the lines written so far stand in front, and the others are left. Assumes room.
use mathlib.Core.Path.{sym, ◌∙◌, ap}
use native.Mathlib.Omega.{arith}
use Rattle.table.proofs.Walking.{items_begin}
use Rattle.text.proofs.Putting.{written_none, written_within, written_room, written_next, written_all}
use Rattle.lines.specs.Reading.{piece_of, lines_of}
use Rattle.lines.proofs.Pieces.{lines_ended, lines_on, lines_none, lines_either, on_all}
use Rattle.lines.proofs.put_table.Goals as goal

pub loop-item-init : goal.loop-item-init
loop-item-init c = rw c.into_iter-item-iterator.ensures.into_iter_gives
    (let w = items_begin c.args.c c.args.tail.now c.new-item-items.result c.new-item-items.ensures.0 c.new-item-items.ensures.1 in
    (omega (arith, w.1), written_none _ _ _ c.requires (on_all c.args.c c.args.tail.now ∙ ap (lines_of 0 _) (sym w.0))))

pub put_piece-l-requires : goal.put_piece-l-requires
put_piece-l-requires c = let e = lines_either _ _ _ _ _ c.in-Some.ensures.steps in written_room _ _ _ _ _ c.loop-item.invariant.1 _ _ e.1

pub overflow_add-n : goal.overflow_add-n
overflow_add-n c =
    let e = lines_either _ _ _ _ _ c.in-Some.ensures.steps in
    let k = written_within _ _ _ _ _ c.loop-item.invariant.1 (piece_of c.loop-item.fresh c.loop-item.g c.in-Some.item) e.0 e.1 in
    omega (arith, k, c.put_piece-l.ensures.0)

pub loop-item-preserved-then-fresh : goal.loop-item-preserved-then-fresh
loop-item-preserved-then-fresh c =
    let l = c.in-Some.ensures.goes.on tt in
    (omega (arith, l.2), written_next _ _ _ _ _ c.loop-item.invariant.1 _ _ (lines_ended _ _ _ _ _ c.in-Some.ensures.steps _ c.is_end-fresh.ensures c.if-fresh.true) _ _ c.put_piece-l.ensures)

pub loop-item-preserved : goal.loop-item-preserved
loop-item-preserved c =
    let l = c.in-Some.ensures.goes.on tt in
    (omega (arith, l.2), written_next _ _ _ _ _ c.loop-item.invariant.1 _ _ (lines_on _ _ _ _ _ c.in-Some.ensures.steps _ c.is_end-fresh.ensures c.if-fresh.false) _ _ c.put_piece-l.ensures)

pub returns : goal.returns
returns c = written_all _ _ _ _ _ c.loop-item.invariant.1 (lines_none _ _ _ c.in-None.ensures.steps.0)
