-- `header::glyph_bytes` meets its contract: at most 255 rows of at most 32 bytes. Assumes nothing.
use Rattle.header.specs.Meaning.{glyph_bytes}
use Prim.Native.Nat.{◌≤◌}
use native.Mathlib.Nat.{mul-le-mul}
use native.Mathlib.Omega.{arith}
use Rattle.header.proofs.glyph_bytes.Goals as goal

pub overflow_mul-result : goal.overflow_mul-result
overflow_mul-result c = let h : c.args.height ≤ 255 = omega arith in let w : c.row_bytes.result ≤ 32 = omega arith in omega (arith, mul-le-mul h w)

pub returns : goal.returns
unfolding glyph_bytes
returns c = let h : c.args.height ≤ 255 = omega arith in let w : c.row_bytes.result ≤ 32 = omega arith in (rw c.row_bytes.ensures.0, omega (arith, mul-le-mul h w))
