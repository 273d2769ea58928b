-- `entries::span` meets its contract: moved up, the two numbers are summed with nothing below zero, and the sum is moved down again. Assumes nothing.
use Rattle.entries.proofs.Sums.{sum_count, sum_none}
use native.Mathlib.Omega.{arith}
use Rattle.entries.proofs.span.Goals as goal

pub returns-then-sum-lt65536 : goal.returns-then-sum-lt65536
returns-then-sum-lt65536 c = (sum_none c.args.a c.args.b _ _ (omega arith) (omega arith) c.raised.ensures c.raised-2.ensures c.if-sum-lt65536.true, omega arith)

pub returns : goal.returns
returns c = (sum_count c.args.a c.args.b _ _ (omega arith) (omega arith) c.raised.ensures c.raised-2.ensures, omega arith)
