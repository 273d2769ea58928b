-- `bitmap::pixel_of` meets its contract: the pixel's byte stands in its row. Assumes that the bitmap stands in the file.
use native.Mathlib.Omega.{arith}
use mathlib.Core.Path.{◌∙◌, ap}
use Rattle.bitmap.proofs.Places.{row_fits, pixel_inside, pixel_read, pixel_beside, pixel_below}
use Rattle.bitmap.proofs.pixel_of.Goals as goal
use Rattle.std.specs.Prelude.{Err}

pub overflow_mul-at : goal.overflow_mul-at
overflow_mul-at c = omega (arith, c.requires.0, row_fits c.args.file.now c.args.b c.requires.1 c.args.y c.if-y-b.true _ c.row_bytes.ensures.0)

pub overflow_add-at : goal.overflow_add-at
overflow_add-at c = omega (arith, c.requires.0, row_fits c.args.file.now c.args.b c.requires.1 c.args.y c.if-y-b.true _ c.row_bytes.ensures.0)

pub overflow_add-at-then-x-b : goal.overflow_add-at-then-x-b
overflow_add-at-then-x-b c = omega (arith, c.requires.0, pixel_inside c.args.file.now c.args.b c.requires.1 c.args.y c.if-y-b.true _ c.row_bytes.ensures.0 c.args.x c.if-x-b.true)

pub bounds-file-at : goal.bounds-file-at
bounds-file-at c = pixel_inside c.args.file.now c.args.b c.requires.1 c.args.y c.if-y-b.true _ c.row_bytes.ensures.0 c.args.x c.if-x-b.true

pub returns-then-x-b : goal.returns-then-x-b
returns-then-x-b c = pixel_read c.args.file.now c.args.b c.requires.1 c.args.y c.if-y-b.true _ c.row_bytes.ensures.0 c.args.x c.if-x-b.true _ c.bit_of.ensures

pub returns-then-y-b : goal.returns-then-y-b
returns-then-y-b c = ap Err c.refuse.ensures ∙ pixel_beside c.args.file.now c.args.b c.requires.1 c.args.y c.if-y-b.true c.args.x c.if-x-b.false

pub returns : goal.returns
returns c = ap Err c.refuse-2.ensures ∙ pixel_below c.args.file.now c.args.b c.args.y c.args.x c.if-y-b.false
