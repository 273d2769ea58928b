-- `conversion::check_glyphs` meets its contract: by the conversion. Assumes `Placed`, of a font of the conversion's kind.
use mathlib.Core.Path.{◌∙◌, ap}
use Rattle.conversion.proofs.Cases as cases
use Rattle.conversion.specs.declared.Conversion.TheVariants.{Psf1ToPsf2, Psf2ToPsf1, Psf2ToVfont2, Vfont2ToPsf2}
use Rattle.conversion.specs.Meaning.{source_kind}
use Rattle.conversion.proofs.check_glyphs.Goals as goal

pub suits_psf2-requires : goal.suits_psf2-requires
suits_psf2-requires c = (c.requires.0, c.requires.1 ∙ ap source_kind c.in-Vfont2ToPsf2.is)

pub returns-in-Psf1ToPsf2 : goal.returns-in-Psf1ToPsf2
returns-in-Psf1ToPsf2 c = cases.suits_is Psf1ToPsf2 c.args.c c.args.file.now c.args.f c.in-Psf1ToPsf2.is

pub returns-in-Psf2ToPsf1 : goal.returns-in-Psf2ToPsf1
returns-in-Psf2ToPsf1 c = c.suits_psf1.ensures ∙ cases.suits_is Psf2ToPsf1 c.args.c c.args.file.now c.args.f c.in-Psf2ToPsf1.is

pub returns-in-Psf2ToVfont2 : goal.returns-in-Psf2ToVfont2
returns-in-Psf2ToVfont2 c = cases.suits_is Psf2ToVfont2 c.args.c c.args.file.now c.args.f c.in-Psf2ToVfont2.is

pub returns-in-Vfont2ToPsf2 : goal.returns-in-Vfont2ToPsf2
returns-in-Vfont2ToPsf2 c = c.suits_psf2.ensures ∙ cases.suits_is Vfont2ToPsf2 c.args.c c.args.file.now c.args.f c.in-Vfont2ToPsf2.is
