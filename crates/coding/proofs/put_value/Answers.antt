-- `coding::put_value` meets its contract: each coding's writer. Assumes nothing.
use Rattle.coding.proofs.Written.{utf8_value, ucs2_value, utf8_scalar, ucs2_word, renamed}
use lib.ListN.{length}
use mathlib.Core.Path.{ap, refl}
use native.Mathlib.Omega.{arith}
use Rattle.coding.proofs.put_value.Goals as goal

pub put_utf8-requires : goal.put_utf8-requires
put_utf8-requires c = let e = ap length (utf8_value c.args.c c.args.v c.in-Utf8.is) in (utf8_scalar c.args.c c.args.v c.in-Utf8.is c.requires.0, omega arith)

pub put_ucs2-requires : goal.put_ucs2-requires
put_ucs2-requires c = let e = ap length (ucs2_value c.args.c c.args.v c.in-Ucs2.is) in (ucs2_word c.args.c c.args.v c.in-Ucs2.is c.requires.0, omega arith)

pub returns-in-Utf8 : goal.returns-in-Utf8
returns-in-Utf8 c = renamed _ _ _ _ _ (utf8_value c.args.c c.args.v c.in-Utf8.is) c.put_utf8.ensures.0 c.put_utf8.ensures.1

pub returns-in-Ucs2 : goal.returns-in-Ucs2
returns-in-Ucs2 c = renamed _ _ _ _ _ (ucs2_value c.args.c c.args.v c.in-Ucs2.is) refl c.put_ucs2.ensures
