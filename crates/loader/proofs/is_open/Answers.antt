-- `loader::is_open` meets its contract. Assumes nothing.
use native.Mathlib.Omega.{arith}
use Rattle.loader.proofs.Opening.{is_closed, in_header, in_body}
use Rattle.loader.proofs.is_open.Goals as goal

pub returns-then-l-lt32 : goal.returns-then-l-lt32
returns-then-l-lt32 c = in_header c.args.l c.if-l-ne0.false (omega arith)

pub returns : goal.returns
returns c = in_body c.args.l c.if-l-ne0.false (omega arith)
