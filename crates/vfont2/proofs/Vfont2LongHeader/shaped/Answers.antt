-- `vfont2::Vfont2::shaped` meets its contract: each return is one case of the definition. Assumes nothing.
use native.Mathlib.Omega.{arith}
use mathlib.Core.Path.{◌∙◌, ap}
use Rattle.header.proofs.Cases as cases
use Rattle.vfont2.proofs.Vfont2LongHeader.shaped.Goals as goal
use Rattle.std.specs.Prelude.{Err}

pub returns-then-f-gt255 : goal.returns-then-f-gt255
returns-then-f-gt255 c = ap Err c.refuse.ensures ∙ cases.tall c.args.f (omega arith)

pub returns : goal.returns
returns c = cases.vfont2_read c.args.f _ c.first_bitmap-bitmaps.ensures (omega arith)
