-- `conversion::is_psf1_count` meets its contract: both counts. Assumes nothing.
use Rattle.conversion.proofs.Cases as cases
use native.Mathlib.Omega.{arith}
use Rattle.conversion.proofs.is_psf1_count.Goals as goal

pub returns-then-n-eq256 : goal.returns-then-n-eq256
returns-then-n-eq256 c = cases.count_256 c.args.n (omega arith)

pub returns : goal.returns
returns c = cases.count_512 c.args.n (omega arith)
