-- `table::step_at` meets its contract: by the coding. Assumes nothing.
use Rattle.table.proofs.step_at.Goals as goal

pub returns-in-Utf8 : goal.returns-in-Utf8
returns-in-Utf8 c = rw c.in-Utf8.is c.utf8_step.ensures

pub returns-in-Ucs2 : goal.returns-in-Ucs2
returns-in-Ucs2 c = rw c.in-Ucs2.is c.ucs2_step.ensures
