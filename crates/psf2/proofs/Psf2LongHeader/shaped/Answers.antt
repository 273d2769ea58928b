-- `psf2::Psf2::shaped` meets its contract: each return is one case of the definition. Assumes nothing.
use native.Mathlib.Omega.{arith}
use mathlib.Core.Path.{◌∙◌, ap}
use Rattle.header.proofs.Cases as cases
use Prim.Native.Nat.{◌≤◌}
use native.Mathlib.Nat.{mul-le-mul}
use Rattle.psf2.proofs.Psf2LongHeader.shaped.Goals as goal
use Rattle.std.specs.Prelude.{Err}

pub returns-then-f-lt1 : goal.returns-then-f-lt1
returns-then-f-lt1 c = ap Err c.refuse.ensures ∙ cases.height_low c.args.f (omega arith)

pub returns-then-f-gt255 : goal.returns-then-f-gt255
returns-then-f-gt255 c = ap Err c.refuse-then-f-gt255.ensures ∙ cases.height_high c.args.f (omega arith)

pub returns-then-f-lt1-2 : goal.returns-then-f-lt1-2
returns-then-f-lt1-2 c = ap Err c.refuse-then-f-lt1-2.ensures ∙ cases.width_low c.args.f (omega arith)

pub returns-then-f-gt255-2 : goal.returns-then-f-gt255-2
returns-then-f-gt255-2 c = ap Err c.refuse-then-f-gt255-2.ensures ∙ cases.width_high c.args.f (omega arith)

pub returns-then-f-glyph_bytes : goal.returns-then-f-glyph_bytes
returns-then-f-glyph_bytes c = ap Err c.refuse-then-f-glyph_bytes.ensures ∙ cases.size_wrong c.args.f (omega arith)

pub overflow_mul-result : goal.overflow_mul-result
overflow_mul-result c = let n : c.args.f.count ≤ 4096 = omega arith in let z : c.args.f.size ≤ 8160 = omega arith in omega (arith, mul-le-mul n z)

pub overflow_add-result : goal.overflow_add-result
overflow_add-result c = let n : c.args.f.count ≤ 4096 = omega arith in let z : c.args.f.size ≤ 8160 = omega arith in omega (arith, mul-le-mul n z)

pub returns : goal.returns
returns c = cases.psf2_read c.args.f _ (omega arith) (omega arith)
