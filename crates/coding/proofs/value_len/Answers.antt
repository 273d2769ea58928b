-- `coding::value_len` meets its contract: each coding's length. Assumes nothing.
use Rattle.coding.proofs.Written.{utf8_value, ucs2_value}
use lib.ListN.{length}
use mathlib.Core.Path.{ap, ◌∙◌}
use native.Mathlib.Omega.{arith}
use Rattle.coding.proofs.value_len.Goals as goal

pub returns-in-Utf8 : goal.returns-in-Utf8
returns-in-Utf8 c = (c.len_utf8.ensures.0 ∙ ap length (utf8_value c.args.c c.args.v c.in-Utf8.is), c.len_utf8.ensures.1)

pub returns-in-Ucs2 : goal.returns-in-Ucs2
returns-in-Ucs2 c = (ap length (ucs2_value c.args.c c.args.v c.in-Ucs2.is), omega arith)
