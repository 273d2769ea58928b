-- `coding::carries` meets its contract: each coding's test. Assumes nothing.
use Rattle.coding.proofs.Written.{utf8_carries, ucs2_carries}
use mathlib.Core.Path.{◌∙◌}
use Rattle.coding.proofs.carries.Goals as goal

pub returns-in-Utf8 : goal.returns-in-Utf8
returns-in-Utf8 c = c.is_utf8_value.ensures ∙ utf8_carries c.args.c c.args.v c.in-Utf8.is

pub returns-in-Ucs2 : goal.returns-in-Ucs2
returns-in-Ucs2 c = c.is_word.ensures ∙ ucs2_carries c.args.c c.args.v c.in-Ucs2.is
