-- `stages::check_tail` meets its contract: the table's answer where there is one. Assumes `Placed`.
use borrow.Author.Rules.{rules}
use Rattle.stages.proofs.check_font_table.Reads as check-font-table-reads
use Rattle.stages.proofs.check_tail.Goals as goal

pub returns-then-table : goal.returns-then-table
returns-then-table c = rw c.if-table.true c.check_font_table.ensures
