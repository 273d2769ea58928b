-- `questions::if_asked` meets its contract: by whether it may be asked. Assumes nothing.
use mathlib.Core.Path.{◌∙◌, ap}
use borrow.Author.Rules.{rules}
use Rattle.refusal.proofs.refuse.Reads as refuse-reads
use Rattle.questions.proofs.if_asked.Goals as goal
use Rattle.std.specs.Prelude.{Err}

pub returns : goal.returns
returns c = rw c.if-asked.false (ap Err c.refuse.ensures)
