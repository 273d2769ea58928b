-- `stages::check_to_table` meets its contract: the stages before, then one more. Assumes nothing.
use native.Mathlib.Omega.{arith}
use mathlib.Core.Path.{sym, ◌∙◌, ap}
use Rattle.stages.specs.Reading.{to_table}
use Rattle.stages.proofs.Cases as cases
use Rattle.base.proofs.Handed.{handed_on}
use borrow.Author.Rules.{rules}
use Rattle.stages.proofs.check_bare.Reads as check-bare-reads
use Rattle.stages.proofs.check_dispatched.Reads as check-dispatched-reads
use Rattle.stages.proofs.check_to_table.Goals as goal

pub returns : goal.returns
returns c = let e = c.check_bare.ensures ∙ ap to_table (cases.bare_after c.args.file.now _ (sym c.check_dispatched.ensures.equal ∙ c.in_ok-f.was)) in record { equal = e; bounded = cases.reached_placed c.args.file.now (omega (arith, c.type_inv.file 3)) _ e }

pub returns-in_err-f-clause-equal : goal.returns-in_err-f-clause-equal
returns-in_err-f-clause-equal c = handed_on c.from_residual.result _ _ c.from_residual.ensures.1 (ap to_table (cases.bare_after c.args.file.now _ (sym c.check_dispatched.ensures.equal ∙ c.in_err-f.was)))
