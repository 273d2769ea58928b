-- `lines::table_len` meets its contract: the bytes counted and those of the lines that are left are all lines. Assumes a tail that is listed.
use mathlib.Core.Path.{sym, ◌∙◌, ap}
use mathlib.Core.Bool.{true}
use native.Mathlib.Omega.{arith}
use lib.ListN.{length}
use Rattle.table.proofs.Walking.{items_begin}
use Rattle.lines.specs.Reading.{lines_of}
use Rattle.lines.proofs.Pieces.{lines_ended, lines_on, lines_none, on_all, length_turn, length_none}
use Rattle.lines.proofs.table_len.Goals as goal

pub loop-item-init : goal.loop-item-init
loop-item-init c = rw c.into_iter-item-iterator.ensures.into_iter_gives
    (let w = items_begin c.args.c c.args.tail.now c.new-item-items.result c.new-item-items.ensures.0 c.new-item-items.ensures.1 in
    (c.requires, omega (arith, w.1), omega (arith, w.1), omega (arith, ap length (ap (lines_of 0 true) w.0 ∙ sym (on_all c.args.c c.args.tail.now)))))

pub loop-item-preserved-then-fresh : goal.loop-item-preserved-then-fresh
loop-item-preserved-then-fresh c =
    let l = c.in-Some.ensures.goes.on tt in
    let k = c.piece_len-n.ensures.1 (omega arith) in (
      c.loop-item.invariant.0,
      omega (arith, l.2),
      omega (arith, l.2, k),
      length_turn _ _ _ _ _ _ (lines_ended _ _ _ _ _ c.in-Some.ensures.steps _ c.is_end-fresh.ensures c.if-fresh.true) c.piece_len-n.ensures.0 c.loop-item.invariant.3,
    )

pub loop-item-preserved : goal.loop-item-preserved
loop-item-preserved c =
    let l = c.in-Some.ensures.goes.on tt in
    let k = c.piece_len-n.ensures.1 (omega arith) in (
      c.loop-item.invariant.0,
      omega (arith, l.2),
      omega (arith, l.2, k),
      length_turn _ _ _ _ _ _ (lines_on _ _ _ _ _ c.in-Some.ensures.steps _ c.is_end-fresh.ensures c.if-fresh.false) c.piece_len-n.ensures.0 c.loop-item.invariant.3,
    )

pub returns : goal.returns
returns c = (length_none _ _ _ (lines_none _ _ _ c.in-None.ensures.steps.0) c.loop-item.invariant.3, omega (arith, c.loop-item.invariant.2))
