-- `stages::check_dispatched` meets its contract: the stages before, then one more. Assumes nothing.
use native.Mathlib.Omega.{arith}
use mathlib.Core.Path.{sym, ◌∙◌}
use Rattle.stages.proofs.Cases as cases
use Rattle.base.proofs.Handed.{handed_on}
use borrow.Author.Rules.{rules}
use Rattle.stages.proofs.check_dispatched.Goals as goal

pub check_entries-requires : goal.check_entries-requires
check_entries-requires c = rw c.in_ok-f.was at c.check_body.ensures.bounded

pub returns : goal.returns
returns c = let e = c.check_entries.ensures ∙ cases.entries_after c.args.file.now _ (sym c.check_body.ensures.equal ∙ c.in_ok-f.was) in record { equal = e; bounded = cases.entries_known c.args.file.now (omega (arith, c.type_inv.file 3)) _ e }

pub returns-in_err-f-clause-equal : goal.returns-in_err-f-clause-equal
returns-in_err-f-clause-equal c = handed_on c.from_residual.result _ _ c.from_residual.ensures.1 (cases.entries_after c.args.file.now _ (sym c.check_body.ensures.equal ∙ c.in_err-f.was))
