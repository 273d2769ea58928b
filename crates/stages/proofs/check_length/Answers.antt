-- `stages::check_length` meets its contract: both cases. Assumes nothing.
use native.Mathlib.Omega.{arith}
use mathlib.Core.Path.{◌∙◌, ap}
use Rattle.stages.proofs.Cases as cases
use borrow.Author.Rules.{rules}
use Rattle.stages.proofs.check_length.Goals as goal
use Rattle.std.specs.Prelude.{Err}

pub returns-then-len-f : goal.returns-then-len-f
returns-then-len-f c = ap Err c.refuse.ensures ∙ cases.body_cut _ _ (omega arith)

pub returns : goal.returns
returns c = cases.body_whole _ _ (omega arith)
