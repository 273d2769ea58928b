-- `coding::put_end` meets its contract: the mark's bytes stored. Assumes nothing.
use Rattle.coding.proofs.Written.{stored, utf8_end, ucs2_end}
use lib.ListN.{length, length-set}
use mathlib.Core.Path.{ap}
use native.Mathlib.Omega.{arith}
use Rattle.coding.proofs.put_end.Goals as goal

pub bounds-out-0 : goal.bounds-out-0
bounds-out-0 c = let e = ap length (utf8_end c.args.c c.in-Utf8.is) in omega arith

pub bounds-out-0-in-Ucs2 : goal.bounds-out-0-in-Ucs2
bounds-out-0-in-Ucs2 c = let e = ap length (ucs2_end c.args.c c.in-Ucs2.is) in omega arith

pub bounds-out-1 : goal.bounds-out-1
bounds-out-1 c = let e = ap length (ucs2_end c.args.c c.in-Ucs2.is) in simp length-set (omega arith)

pub returns-in-Utf8 : goal.returns-in-Utf8
returns-in-Utf8 c = stored _ c.args.out.now _ (utf8_end c.args.c c.in-Utf8.is) (omega arith)

pub returns-in-Ucs2 : goal.returns-in-Ucs2
returns-in-Ucs2 c = stored _ c.args.out.now _ (ucs2_end c.args.c c.in-Ucs2.is) (omega arith)
