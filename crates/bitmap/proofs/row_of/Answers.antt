-- `bitmap::row_of` meets its contract: the row stands in the bitmap. Assumes that the bitmap stands in the file.
use native.Mathlib.Omega.{arith}
use mathlib.Core.Path.{◌∙◌, ap}
use Rattle.bitmap.proofs.Places.{row_fits, row_read, row_below}
use Rattle.bitmap.proofs.row_of.Goals as goal
use Rattle.std.specs.Prelude.{Err}

pub overflow_mul-result : goal.overflow_mul-result
overflow_mul-result c = omega (arith, c.requires.0, row_fits c.args.file.now c.args.b c.requires.1 c.args.y c.if-y-b.true _ c.row_bytes-stride.ensures.0)

pub overflow_add-result : goal.overflow_add-result
overflow_add-result c = omega (arith, c.requires.0, row_fits c.args.file.now c.args.b c.requires.1 c.args.y c.if-y-b.true _ c.row_bytes-stride.ensures.0)

pub returns-then-y-b : goal.returns-then-y-b
returns-then-y-b c = record { equal = row_read c.args.file.now c.args.b c.requires.1 c.args.y c.if-y-b.true _ c.row_bytes-stride.ensures.0; bounded = row_fits c.args.file.now c.args.b c.requires.1 c.args.y c.if-y-b.true _ c.row_bytes-stride.ensures.0 }

pub returns : goal.returns
returns c = record { equal = ap Err c.refuse.ensures ∙ row_below c.args.b c.args.y c.if-y-b.false; bounded = tt }
