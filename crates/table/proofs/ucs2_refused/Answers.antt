-- `table::ucs2_refused` meets its contract: cut where a byte is missing, else bad at the second. Assumes nothing.
use native.Mathlib.Omega.{arith}
use Rattle.table.proofs.Plainly.{ucs2_cut, ucs2_bad}
use Rattle.table.proofs.ucs2_refused.Goals as goal

pub returns-then-s-at-lt2 : goal.returns-then-s-at-lt2
returns-then-s-at-lt2 c = ucs2_cut c.args.s.now _ c.args.at c.if-s-at-lt2.true

pub returns : goal.returns
returns c = ucs2_bad c.args.s.now _ c.args.at (omega arith) c.requires.1
