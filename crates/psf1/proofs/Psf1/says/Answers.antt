-- `psf1::Psf1::says` meets its contract: each return is one case of the definition. Assumes nothing.
use native.Mathlib.Omega.{arith}
use mathlib.Core.Path.{◌∙◌, ap}
use Rattle.header.proofs.Cases as cases
use Prim.Native.Nat.{◌≤◌}
use native.Mathlib.Nat.{mul-le-mul}
use Rattle.psf1.proofs.Psf1.says.Goals as goal
use Rattle.std.specs.Prelude.{Err}

pub returns-then-len-lt-HEADER_LEN : goal.returns-then-len-lt-HEADER_LEN
returns-then-len-lt-HEADER_LEN c = ap Err c.refuse.ensures ∙ cases.psf1_cut c.args.file.now (omega arith)

pub returns-then-size-eq0 : goal.returns-then-size-eq0
returns-then-size-eq0 c = ap Err c.refuse-then-size-eq0.ensures ∙ cases.psf1_shape c.args.file.now (omega arith)

pub overflow_mul-result : goal.overflow_mul-result
overflow_mul-result c = let h : c.count_of-count.result ≤ 512 = omega arith in let w : c.from-size.result ≤ 255 = omega arith in omega (arith, mul-le-mul h w)

pub overflow_add-result : goal.overflow_add-result
overflow_add-result c = let h : c.count_of-count.result ≤ 512 = omega arith in let w : c.from-size.result ≤ 255 = omega arith in omega (arith, mul-le-mul h w)

pub returns : goal.returns
returns c = cases.psf1_read c.args.file.now c.count_of-count.result c.from-size.result _ _ c.count_of-count.ensures.0 (omega arith) c.table_of.ensures (omega arith) (omega arith)
