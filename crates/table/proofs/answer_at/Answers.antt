-- `table::answer_at` meets its contract: behind the last description, or refused. Assumes nothing.
use borrow.Author.Tests.{eq-eqb, ne_eqb}
use Rattle.table.proofs.answer_at.Goals as goal

pub returns-then-p-eq0 : goal.returns-then-p-eq0
returns-then-p-eq0 c = rw (eq-eqb _ 0 c.if-p-eq0.true) c.ended.ensures

pub refused-requires : goal.refused-requires
refused-requires c = (c.requires.0.0, c.requires.2 c.if-p-eq0.false)

pub returns : goal.returns
returns c = rw (ne_eqb _ 0 c.if-p-eq0.false) c.refused.ensures
