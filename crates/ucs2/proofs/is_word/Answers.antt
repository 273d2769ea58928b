-- `ucs2::is_word` meets its contract: no noncharacter, and below the marks. Assumes nothing.
use mathlib.Core.Path.{◌∙◌, sym}
use Rattle.ucs2.proofs.Words.{noncharacter_no_word, below_marks}
use Rattle.ucs2.proofs.is_word.Goals as goal

pub returns-then-is_noncharacter : goal.returns-then-is_noncharacter
returns-then-is_noncharacter c = noncharacter_no_word c.args.v (sym c.is_noncharacter.ensures ∙ c.if-is_noncharacter.true)

pub returns : goal.returns
returns c = below_marks c.args.v (sym c.is_noncharacter.ensures ∙ c.if-is_noncharacter.false)
