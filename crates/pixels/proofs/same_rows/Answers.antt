-- `pixels::same_rows` meets its contract: the rows passed are the same. Assumes that the rows stand in both slices.
use native.Mathlib.Omega.{arith}
use mathlib.Core.Path.{◌∙◌}
use Rattle.pixels.proofs.Turns.{row_next, rows_done, rows_whole, rows_last, rows_next}
use Rattle.pixels.proofs.same_rows.Goals as goal

pub returns-then-not-same_bytes : goal.returns-then-not-same_bytes
returns-then-not-same_bytes c = rows_whole c.args.p.now c.args.q.now c.args.whole c.args.fillers _ c.args.height c.loop-y.y (omega arith) _ c.same_bytes.ensures c.if-not-same_bytes.true ∙ c.loop-y.invariant

pub returns-then-p-last : goal.returns-then-p-last
returns-then-p-last c = rows_last c.args.p.now c.args.q.now c.args.whole c.args.fillers _ c.args.height c.loop-y.y (omega arith) _ c.same_bytes.ensures c.if-not-same_bytes.false c.if-p-last.true ∙ c.loop-y.invariant

pub loop-y-preserved : goal.loop-y-preserved
loop-y-preserved c = rw (row_next c.args.whole c.loop-y.y) (rows_next c.args.p.now c.args.q.now c.args.whole c.args.fillers _ c.args.height c.loop-y.y (omega arith) _ c.same_bytes.ensures c.if-not-same_bytes.false c.if-p-last.false ∙ c.loop-y.invariant)

pub returns : goal.returns
returns c = rows_done c.args.p.now c.args.q.now c.args.whole c.args.fillers _ c.args.height c.loop-y.y (omega arith) ∙ c.loop-y.invariant
