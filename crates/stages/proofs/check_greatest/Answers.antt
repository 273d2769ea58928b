-- `stages::check_greatest` meets its contract: each return is one case of the definition. Assumes nothing.
use native.Mathlib.Omega.{arith}
use mathlib.Core.Path.{◌∙◌, ap}
use Rattle.stages.proofs.Cases as cases
use borrow.Author.Rules.{rules}
use Rattle.stages.proofs.check_greatest.Goals as goal
use Rattle.std.specs.Prelude.{Err}

pub returns-then-f-height : goal.returns-then-f-height
returns-then-f-height c = ap Err c.refuse.ensures ∙ cases.height_wrong c.args.f c.args.height c.args.width (omega arith)

pub returns-then-f-width : goal.returns-then-f-width
returns-then-f-width c = ap Err c.refuse-then-f-width.ensures ∙ cases.width_wrong c.args.f c.args.height c.args.width (omega arith)

pub returns : goal.returns
returns c = cases.greatest_right c.args.f c.args.height c.args.width (omega arith)
