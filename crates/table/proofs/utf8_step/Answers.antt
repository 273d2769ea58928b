-- `table::utf8_step` meets its contract: the first byte decides the step, or it is a value's. Assumes nothing.
use mathlib.Core.Path.{sym, ◌∙◌}
use native.Mathlib.Omega.{arith}
use Rattle.std.specs.Prelude.{Err}
use Rattle.coding.specs.declared.Coding.TheVariants.{Utf8}
use Rattle.token.specs.Reading.{behind}
use Rattle.table.proofs.Firsts.{first_one, first_start, first_end, value_step, fits}
use Rattle.table.proofs.Stepping.{past_end}
use Rattle.table.proofs.utf8_step.Goals as goal

pub returns-then-s-at : goal.returns-then-s-at
returns-then-s-at c = past_end _ _ _ c.if-s-at.true

pub returns-then-b-lt128 : goal.returns-then-b-lt128
returns-then-b-lt128 c = first_one c.args.s.now c.args.at c.if-s-at.false c.if-b-lt128.true _ c.from.ensures

pub returns-then-b : goal.returns-then-b
returns-then-b c = first_end c.args.s.now c.args.at c.if-s-at.false c.if-b.true

pub returns-then-b-2 : goal.returns-then-b-2
returns-then-b-2 c = first_start c.args.s.now c.args.at c.if-s-at.false c.if-b-2.true

pub overflow_add-result-in-Ok : goal.overflow_add-result-in-Ok
overflow_add-result-in-Ok c = let w = value_step c.args.s.now c.args.at c.if-s-at.false c.if-b-2.false c.if-b.false _ (sym c.in-Ok.is ∙ c.read_value-r.ensures) in omega (arith, w.1.1)

pub returns-in-Ok : goal.returns-in-Ok
returns-in-Ok c = value_step c.args.s.now c.args.at c.if-s-at.false c.if-b-2.false c.if-b.false _ (sym c.in-Ok.is ∙ c.read_value-r.ensures)

pub behind-requires : goal.behind-requires
behind-requires c = fits Utf8 c.args.s.now c.args.at (Err (behind c.args.at c.in-Err.m)) (omega arith) (value_step c.args.s.now c.args.at c.if-s-at.false c.if-b-2.false c.if-b.false _ (sym c.in-Err.is ∙ c.read_value-r.ensures)).1

pub returns-in-Err : goal.returns-in-Err
returns-in-Err c = rw c.behind.ensures (value_step c.args.s.now c.args.at c.if-s-at.false c.if-b-2.false c.if-b.false _ (sym c.in-Err.is ∙ c.read_value-r.ensures))
