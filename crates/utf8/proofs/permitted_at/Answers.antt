-- `utf8::permitted_at` meets its contract: a value is tested, and all else stays. Assumes nothing.
use mathlib.Core.Path.{◌∙◌, ap, sym}
use Rattle.base.proofs.Handed.{handed_on}
use Rattle.token.proofs.Noncharacters.{noncharacter_exactly, noncharacter_no}
use Rattle.utf8.specs.Reading.{permitted_at}
use Rattle.utf8.proofs.Permitted.{permitted_value, permitted_none, permitted_other}
use Rattle.utf8.proofs.permitted_at.Goals as goal

pub returns-in_err-v : goal.returns-in_err-v
returns-in_err-v c = handed_on c.from_residual.result _ _ c.from_residual.ensures.1 (permitted_other c.args.k _ ∙ ap (permitted_at c.args.k) (sym c.in_err-v.was))

pub returns-then-is_noncharacter : goal.returns-then-is_noncharacter
returns-then-is_noncharacter c = permitted_none c.args.k _ _ ((noncharacter_exactly _).0 (sym c.is_noncharacter.ensures ∙ c.if-is_noncharacter.true)) ∙ ap (permitted_at c.args.k) (sym c.in_ok-v.was)

pub returns : goal.returns
returns c = permitted_value c.args.k _ _ (noncharacter_no _ (sym c.is_noncharacter.ensures ∙ c.if-is_noncharacter.false)) ∙ ap (permitted_at c.args.k) (sym c.in_ok-v.was)
