-- `stages::check_bare` meets its contract: a table is left, or nothing follows the bitmaps. Assumes nothing.
use mathlib.Core.Path.{◌∙◌, ap}
use Rattle.stages.proofs.Cases as cases
use borrow.Author.Rules.{rules}
use Rattle.refusal.proofs.refuse.Reads as refuse-reads
use Rattle.stages.proofs.check_bare.Goals as goal

pub returns-then-f : goal.returns-then-f
returns-then-f c = cases.reached_table c.args.file.now c.args.f c.if-f.true

pub returns : goal.returns
returns c = cases.reached_end c.args.file.now c.args.f c.if-f.false c.if-f-file.false
