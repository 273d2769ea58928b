-- `edit::sought_in` meets its contract: what opening the font says, then what was sought. Assumes nothing.
use mathlib.Core.Path.{◌∙◌}
use Rattle.base.proofs.Handed.{handed_on}
use Rattle.edit.proofs.Cases as cases
use Rattle.edit.proofs.sought_in.Goals as goal

pub sought_on-requires : goal.sought_on-requires
sought_on-requires c = let w = rw c.in_ok-f.was at c.opened.ensures.bounded in w.0

pub returns-in_err-f-clause-equal : goal.returns-in_err-f-clause-equal
returns-in_err-f-clause-equal c = handed_on c.from_residual.result _ _ c.from_residual.ensures.1 (cases.checked_as c.args.file.now c.args.g c.args.v _ _ c.opened.ensures.equal c.in_err-f.was)

pub returns-clause-equal : goal.returns-clause-equal
returns-clause-equal c = c.sought_on.ensures.equal ∙ cases.checked_as c.args.file.now c.args.g c.args.v _ _ c.opened.ensures.equal c.in_ok-f.was
