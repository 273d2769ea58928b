-- `stages::check_body` meets its contract: its size, what its header says, its length. Assumes nothing.
use native.Mathlib.Omega.{arith}
use mathlib.Core.Path.{sym, ◌∙◌, ap}
use Rattle.stages.proofs.Cases as cases
use Rattle.base.proofs.Handed.{handed_on}
use borrow.Author.Rules.{rules}
use Rattle.stages.proofs.check_body.Goals as goal
use Rattle.std.specs.Prelude.{Err}

pub returns-then-len-gt-LIMIT : goal.returns-then-len-gt-LIMIT
returns-then-len-gt-LIMIT c = record { equal = ap Err c.refuse.ensures ∙ cases.too_long c.args.file.now (omega arith); bounded = tt }

pub returns : goal.returns
returns c = let e = c.check_length.ensures ∙ cases.body_after c.args.file.now _ (sym c.says.ensures ∙ c.in_ok-f.was) (omega arith) in record { equal = e; bounded = cases.body_known c.args.file.now (omega (arith, c.type_inv.file 3)) _ e }

pub returns-in_err-f-clause-equal : goal.returns-in_err-f-clause-equal
returns-in_err-f-clause-equal c = handed_on c.from_residual.result _ _ c.from_residual.ensures.1 (cases.body_after c.args.file.now _ (sym c.says.ensures ∙ c.in_err-f.was) (omega arith))
