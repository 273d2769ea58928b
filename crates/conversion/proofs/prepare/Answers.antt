-- `conversion::prepare` meets its contract: the font's own and 17, then 18 to 20. Assumes nothing.
use mathlib.Core.Path.{sym, ◌∙◌, ap}
use Rattle.base.proofs.Handed.{handed_on}
use Rattle.conversion.proofs.Cases as cases
use Rattle.header.specs.declared.Kind.{Kind}
use Rattle.conversion.specs.Reading.{opened_of}
use Rattle.conversion.proofs.prepare.Goals as goal

pub prepare_font-requires : goal.prepare_font-requires
prepare_font-requires c = let w = rw c.in_ok-f.was at c.opened.ensures.bounded in (w.0, w.1 ∙ c.source_of.ensures)

pub returns-in_err-f : goal.returns-in_err-f
returns-in_err-f c = handed_on c.from_residual.result _ _ c.from_residual.ensures.1 (cases.opened_as c.args.c c.args.file.now _ (ap (λ (k : Kind). opened_of k c.args.file.now) (sym c.source_of.ensures) ∙ sym c.opened.ensures.equal ∙ c.in_err-f.was))

pub returns : goal.returns
returns c = c.prepare_font.ensures ∙ cases.opened_as c.args.c c.args.file.now _ (ap (λ (k : Kind). opened_of k c.args.file.now) (sym c.source_of.ensures) ∙ sym c.opened.ensures.equal ∙ c.in_ok-f.was)
