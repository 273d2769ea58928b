-- `psf1::Psf1::mode_of` meets its contract: the four modes. Assumes nothing.
use native.Mathlib.Omega.{arith}
use Rattle.header.proofs.Written.{mode_512, mode_256}
use Rattle.psf1.proofs.Psf1.mode_of.Goals as goal

pub returns-then-table : goal.returns-then-table
returns-then-table c = (mode_512 c.args.n c.args.table (omega arith)).0 c.if-table.true

pub returns-then-n-eq512 : goal.returns-then-n-eq512
returns-then-n-eq512 c = (mode_512 c.args.n c.args.table (omega arith)).1 c.if-table.false

pub returns-then-table-2 : goal.returns-then-table-2
returns-then-table-2 c = (mode_256 c.args.n c.args.table (omega arith)).0 c.if-table-2.true

pub returns : goal.returns
returns c = (mode_256 c.args.n c.args.table (omega arith)).1 c.if-table-2.false
