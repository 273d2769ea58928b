-- `moves::move_up` meets its contract: at each turn the bytes from the place on stand where they go. Assumes room.
use native.Mathlib.Omega.{arith}
use Rattle.moves.proofs.Moves.{up_start, up_turn}
use Rattle.moves.proofs.move_up.Goals as goal

pub loop-i-init : goal.loop-i-init
loop-i-init c = (omega arith, up_start c.args.buf.now c.args.end c.args.by (omega arith))

pub loop-i-preserved : goal.loop-i-preserved
loop-i-preserved c = let l = c.loop-i in
    let a = c.args in
    (omega arith, up_turn a.buf.now l.buf l.i a.end a.by (omega arith) (omega arith) (omega arith) l.invariant.1)
