-- `moves::move_down` meets its contract: at each turn the bytes before the place stand where they go. Assumes that they stand in the buffer.
use native.Mathlib.Omega.{arith}
use Rattle.moves.proofs.Moves.{down_start, down_turn}
use Rattle.moves.proofs.move_down.Goals as goal

pub loop-i-init : goal.loop-i-init
loop-i-init c = down_start c.args.buf.now c.args.from c.args.by (omega arith)

pub loop-i-preserved : goal.loop-i-preserved
loop-i-preserved c = let l = c.loop-i in
    let a = c.args in
    down_turn a.buf.now l.buf a.from l.i a.by (omega arith) (omega arith) (omega arith) l.invariant
