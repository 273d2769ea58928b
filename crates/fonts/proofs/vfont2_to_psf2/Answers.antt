-- `fonts::vfont2_to_psf2` meets its contract: the conversion that it names. Assumes nothing.
use borrow.Author.Rules.{rules}
use Rattle.fonts.proofs.vfont2_to_psf2.Goals as goal

pub returns : goal.returns
returns c = record { answer = c.convert.ensures.answer; buffer = c.convert.ensures.buffer }
