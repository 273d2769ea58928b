-- `table::check_table` meets its contract: the check from the front of the table on.
use mathlib.Core.Path.{◌∙◌}
use mathlib.Core.Bool.{false}
use Rattle.table.proofs.Halting.{ended_there, fresh_stands, fresh_check}
use Rattle.table.proofs.check_table.Goals as goal

pub returns-then-n-eq0 : goal.returns-then-n-eq0
returns-then-n-eq0 c = c.ended.ensures ∙ rw c.if-n-eq0.true (ended_there c.args.c c.args.tail.now 0 false 0)

pub check_from-requires : goal.check_from-requires
check_from-requires c = fresh_stands c.args.c c.args.tail.now c.args.n _ c.cursor_at.ensures c.if-n-eq0.false

pub returns : goal.returns
returns c = c.check_from.ensures ∙ fresh_check c.args.c c.args.tail.now c.args.n _ c.cursor_at.ensures
