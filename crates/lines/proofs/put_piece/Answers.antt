-- `lines::put_piece` meets its contract: the number stands in front, and the item behind it. Assumes nothing.
use Prim.Native.Nat.{ℕ}
use native.Mathlib.Omega.{arith}
use mathlib.Core.List.{List}
use mathlib.Core.Path.{sym, ◌∙◌, ap}
use lib.ListN.{length}
use Rattle.text.proofs.Putting.{first_stands, behind_room, behind_stands}
use Rattle.lines.proofs.Pieces.{piece_fresh, piece_fresh_length, piece_plain}
use Rattle.text.specs.Reading.{numeral}
use Rattle.lines.specs.Reading.{item_text}
use Rattle.base.specs.Reading.{over}
use borrow.Author.Rules.{rules}
use Rattle.lines.proofs.put_piece.Goals as goal

pub put_numeral-a-requires : goal.put_numeral-a-requires
put_numeral-a-requires c = let e = piece_fresh_length c.args.fresh c.args.g c.args.i c.if-fresh.true in (omega arith, omega arith, omega arith)

pub slice_bounds-put_item-count : goal.slice_bounds-put_item-count
slice_bounds-put_item-count c = let e = piece_fresh_length c.args.fresh c.args.g c.args.i c.if-fresh.true in let s = first_stands (numeral 10 c.args.g) c.args.out.now c.put_numeral-a.new.out c.put_numeral-a.result (omega arith) c.put_numeral-a.ensures in omega (arith, s.0, s.1)

pub slice_bounds-put_item-start : goal.slice_bounds-put_item-start
slice_bounds-put_item-start c = let e = piece_fresh_length c.args.fresh c.args.g c.args.i c.if-fresh.true in let s = first_stands (numeral 10 c.args.g) c.args.out.now c.put_numeral-a.new.out c.put_numeral-a.result (omega arith) c.put_numeral-a.ensures in omega (arith, s.0, s.1)

pub put_item-l-requires : goal.put_item-l-requires
put_item-l-requires c = let e = piece_fresh_length c.args.fresh c.args.g c.args.i c.if-fresh.true in let s = first_stands (numeral 10 c.args.g) c.args.out.now c.put_numeral-a.new.out c.put_numeral-a.result (omega arith) c.put_numeral-a.ensures in behind_room (numeral 10 c.args.g) (item_text c.args.i) c.args.out.now c.put_numeral-a.new.out c.put_numeral-a.result s (omega (arith, s.0))

pub overflow_add-result : goal.overflow_add-result
overflow_add-result c = let e = piece_fresh_length c.args.fresh c.args.g c.args.i c.if-fresh.true in omega (arith, c.put_numeral-a.ensures.0, c.put_item-l.ensures.0)

pub returns-then-fresh : goal.returns-then-fresh
returns-then-fresh c = let e = piece_fresh_length c.args.fresh c.args.g c.args.i c.if-fresh.true in
    let q = piece_fresh c.args.fresh c.args.g c.args.i c.if-fresh.true in
    let s = first_stands (numeral 10 c.args.g) c.args.out.now c.put_numeral-a.new.out c.put_numeral-a.result (omega arith) c.put_numeral-a.ensures in
    let r = behind_stands (numeral 10 c.args.g) (item_text c.args.i) c.args.out.now c.put_numeral-a.new.out c.put_numeral-a.result s (omega (arith, s.0)) _ _ c.put_item-l.ensures in
    (r.0 ∙ sym (ap length q), r.2 ∙ sym (ap (λ (z : List ℕ). over z c.args.out.now) q))

pub put_item-requires : goal.put_item-requires
put_item-requires c = let e = ap length (piece_plain c.args.fresh c.args.g c.args.i c.if-fresh.false) in omega arith

pub returns : goal.returns
returns c = let q = piece_plain c.args.fresh c.args.g c.args.i c.if-fresh.false in (c.put_item.ensures.0 ∙ sym (ap length q), c.put_item.ensures.1 ∙ sym (ap (λ (z : List ℕ). over z c.args.out.now) q))
