-- `pixels::same_bytes` meets its contract: the library's answer for the two parts is the test. Assumes that the bytes stand in both slices.
use native.Mathlib.Omega.{arith}
use mathlib.Core.Path.{◌∙◌}
use Prim.Native.Nat.{◌-◌}
use Rattle.pixels.proofs.Turns.{same_parts}
use Rattle.pixels.proofs.same_bytes.Goals as goal

pub returns : goal.returns
returns c = c.eq.ensures ∙ same_parts c.args.p.now c.args.q.now (c.args.to - c.args.from) c.args.from (omega arith) (omega arith)
