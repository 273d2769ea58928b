-- `conversion::fit` meets its contract: both cases. Assumes nothing.
use native.Mathlib.Omega.{arith}
use Rattle.conversion.proofs.Cases as cases
use Rattle.conversion.proofs.fit.Goals as goal

pub returns : goal.returns
returns c = cases.fits _ _ (omega arith)
