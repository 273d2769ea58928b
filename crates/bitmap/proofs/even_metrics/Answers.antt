-- `bitmap::even_metrics` meets its contract: small numbers are the same with a sign. Assumes a height and a width up to 255.
use native.Mathlib.Omega.{arith}
use lib.IntN.{pos}
use mir.Syntax.{w32}
use mir.Facts.{to_z_pos}
use Rattle.bitmap.proofs.even_metrics.Goals as goal

pub returns : goal.returns
returns c = λ i. record { up = to_z_pos w32 {n = c.args.height} (omega arith) i; down = pos 0; left = pos 0; right = to_z_pos w32 {n = c.args.width} (omega arith) i; logical = to_z_pos w32 {n = c.args.width} (omega arith) i }
