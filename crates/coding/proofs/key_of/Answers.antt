-- `coding::key_of` meets its contract: each coding's key. Assumes nothing.
use Rattle.coding.proofs.Written.{utf8_key_lem, ucs2_key}
use mathlib.Core.Path.{◌∙◌}
use Rattle.coding.proofs.key_of.Goals as goal

pub returns-in-Utf8 : goal.returns-in-Utf8
returns-in-Utf8 c = c.key_of.ensures ∙ utf8_key_lem c.args.c c.args.v c.in-Utf8.is

pub returns-in-Ucs2 : goal.returns-in-Ucs2
returns-in-Ucs2 c = ucs2_key c.args.c c.args.v c.in-Ucs2.is
