-- `stages::check` meets its contract: up to the table, then the table. Assumes nothing.
use mathlib.Core.Path.{sym, ◌∙◌}
use Rattle.stages.proofs.Cases as cases
use Rattle.stages.proofs.check.Goals as goal

pub returns-in-Ok-check_tail-clause-equal : goal.returns-in-Ok-check_tail-clause-equal
returns-in-Ok-check_tail-clause-equal c = cases.checked_by c.args.file.now _ _ (sym c.in-Ok.is ∙ c.check_to_table.ensures.equal) _ (sym c.in-Ok-check_tail.is ∙ c.check_tail.ensures)

pub returns-in-Err-check_tail-clause-equal : goal.returns-in-Err-check_tail-clause-equal
returns-in-Err-check_tail-clause-equal c = cases.checked_by c.args.file.now _ _ (sym c.in-Ok.is ∙ c.check_to_table.ensures.equal) _ (sym c.in-Err-check_tail.is ∙ c.check_tail.ensures)

pub returns-in-Err-clause-equal : goal.returns-in-Err-clause-equal
returns-in-Err-clause-equal c = cases.refused_by c.args.file.now _ (sym c.in-Err.is ∙ c.check_to_table.ensures.equal)
