-- `conversion::suits_psf1` meets its contract: each return is one case of the definition. Assumes nothing.
use mathlib.Core.Path.{sym, ◌∙◌, ap}
use Rattle.conversion.proofs.Cases as cases
use Rattle.conversion.proofs.suits_psf1.Goals as goal
use Rattle.std.specs.Prelude.{Err}

pub returns-then-not-is_psf1_count : goal.returns-then-not-is_psf1_count
returns-then-not-is_psf1_count c = ap Err c.refuse.ensures ∙ cases.count_wrong c.args.f (sym c.is_psf1_count.ensures ∙ c.if-not-is_psf1_count.true)

pub returns : goal.returns
returns c = cases.width_eight c.args.f (sym c.is_psf1_count.ensures ∙ c.if-not-is_psf1_count.false) c.if-f-ne8.false
