-- `edit::sought_on` meets its contract: NO TABLE, ASK for the glyph, ASK for the value, then what was found. Assumes `Placed`.
use mathlib.Core.Path.{◌∙◌, ap}
use native.Mathlib.Omega.{arith}
use Rattle.edit.proofs.Cases as cases
use borrow.Author.Rules.{rules}
use Rattle.edit.proofs.sought_on.Goals as goal
use Rattle.std.specs.Prelude.{Err}

pub returns-then-f-g : goal.returns-then-f-g
returns-then-f-g c = record { equal = ap Err c.refuse.ensures ∙ cases.no_glyph c.args.file.now c.args.g c.args.v c.args.f c.if-f.true c.if-f-g.true; bounded = tt }

pub overflow_add-result : goal.overflow_add-result
overflow_add-result c = let n = cases.tail_length c.args.file.now c.args.f _ c.tail_of.ensures in
    let w = rw c.in-Listed.is at c.locate-m.ensures.bounded in
    omega (arith, n, w.0, w.1)

pub overflow_add-result-in-Listed : goal.overflow_add-result-in-Listed
overflow_add-result-in-Listed c = let n = cases.tail_length c.args.file.now c.args.f _ c.tail_of.ensures in
    let w = rw c.in-Listed.is at c.locate-m.ensures.bounded in
    omega (arith, n, w.1)

pub overflow_add-result-in-Unlisted : goal.overflow_add-result-in-Unlisted
overflow_add-result-in-Unlisted c = let n = cases.tail_length c.args.file.now c.args.f _ c.tail_of.ensures in
    let w = rw c.in-Unlisted.is at c.locate-m.ensures.bounded in
    omega (arith, n, w)

pub returns-in-Listed : goal.returns-in-Listed
returns-in-Listed c = let both = rw c.in-Listed.is at (cases.found c.args.file.now c.args.g c.args.v c.args.f c.if-f.true c.if-f-g.false _ c.is_scalar.ensures _ c.tail_of.ensures c.if-is_scalar.true (omega arith) (omega arith) _ c.locate-m.ensures.equal c.locate-m.ensures.bounded) in record { equal = both.0; bounded = both.1 }

pub returns-in-Unlisted : goal.returns-in-Unlisted
returns-in-Unlisted c = let both = rw c.in-Unlisted.is at (cases.found c.args.file.now c.args.g c.args.v c.args.f c.if-f.true c.if-f-g.false _ c.is_scalar.ensures _ c.tail_of.ensures c.if-is_scalar.true (omega arith) (omega arith) _ c.locate-m.ensures.equal c.locate-m.ensures.bounded) in record { equal = both.0; bounded = both.1 }

pub returns-then-f : goal.returns-then-f
returns-then-f c = record { equal = ap Err c.refuse-then-f.ensures ∙ cases.no_value c.args.file.now c.args.g c.args.v c.args.f c.if-f.true c.if-f-g.false _ c.is_scalar.ensures c.if-is_scalar.false; bounded = tt }

pub returns : goal.returns
returns c = record { equal = ap Err c.refuse-2.ensures ∙ cases.bare c.args.file.now c.args.g c.args.v c.args.f c.if-f.false; bounded = tt }
