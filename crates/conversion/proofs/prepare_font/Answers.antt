-- `conversion::prepare_font` meets its contract: 18, then 19 and 20. Assumes `Placed`, of a font of the conversion's kind.
use mathlib.Core.Path.{sym, ◌∙◌}
use Rattle.base.proofs.Handed.{handed_on}
use Rattle.conversion.proofs.Cases as cases
use Rattle.conversion.proofs.prepare_font.Goals as goal

pub returns-in_err-check_glyphs : goal.returns-in_err-check_glyphs
returns-in_err-check_glyphs c = handed_on c.from_residual.result _ _ c.from_residual.ensures.1 (cases.unsuited c.args.c c.args.file.now c.args.f _ (sym c.check_glyphs.ensures ∙ c.in_err-check_glyphs.was))

pub returns : goal.returns
returns c = c.measured.ensures ∙ cases.suited c.args.c c.args.file.now c.args.f (sym c.check_glyphs.ensures ∙ c.in_ok-check_glyphs.was)
