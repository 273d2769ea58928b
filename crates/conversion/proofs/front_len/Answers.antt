-- `conversion::front_len` meets its contract: header, entries and bitmaps. Assumes a font within the formats' bounds.
use native.Mathlib.Omega.{arith}
use Prim.Native.Nat.{◌≤◌}
use Rattle.conversion.proofs.Cases as cases
use native.Mathlib.Nat.{mul-le-mul}
use Rattle.conversion.proofs.front_len.Goals as goal

pub overflow_mul-result : goal.overflow_mul-result
overflow_mul-result c = let n : c.args.f.count ≤ 4096 = omega arith in let e : c.entry_len.result ≤ 18 = omega arith in omega (arith, mul-le-mul n e)

pub overflow_add-result : goal.overflow_add-result
overflow_add-result c = let n : c.args.f.count ≤ 4096 = omega arith in let e : c.entry_len.result ≤ 18 = omega arith in omega (arith, mul-le-mul n e)

pub overflow_mul-result-2 : goal.overflow_mul-result-2
overflow_mul-result-2 c = let n : c.args.f.count ≤ 4096 = omega arith in let z : c.glyph_bytes-size.result ≤ 8160 = omega arith in let e : c.entry_len.result ≤ 18 = omega arith in let h : c.header_len.result ≤ 32 = omega arith in omega (arith, mul-le-mul n z, mul-le-mul n e)

pub overflow_add-result-2 : goal.overflow_add-result-2
overflow_add-result-2 c = let n : c.args.f.count ≤ 4096 = omega arith in let z : c.glyph_bytes-size.result ≤ 8160 = omega arith in let e : c.entry_len.result ≤ 18 = omega arith in let h : c.header_len.result ≤ 32 = omega arith in omega (arith, mul-le-mul n z, mul-le-mul n e)

pub returns : goal.returns
returns c = let n : c.args.f.count ≤ 4096 = omega arith in let z : c.glyph_bytes-size.result ≤ 8160 = omega arith in let e : c.entry_len.result ≤ 18 = omega arith in let h : c.header_len.result ≤ 32 = omega arith in (cases.front_is c.args.c c.args.f c.target_of-kind.result c.header_len.result c.entry_len.result c.glyph_bytes-size.result c.target_of-kind.ensures c.header_len.ensures.0 c.entry_len.ensures.0 c.glyph_bytes-size.ensures.0, omega (arith, mul-le-mul n z, mul-le-mul n e))
