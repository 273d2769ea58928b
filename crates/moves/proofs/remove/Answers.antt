-- `moves::remove` meets its contract: moved down, then cleared behind. Assumes that the bytes stand in the buffer.
use native.Mathlib.Omega.{arith}
use Prim.Native.Nat.{◌+◌}
use Rattle.moves.proofs.Moves.{down_cleared, taken_out}
use Rattle.moves.proofs.remove.Goals as goal

pub returns : goal.returns
returns c = let a = c.args in
    taken_out a.buf.now _ a.len a.at a.n (omega arith)
    (down_cleared a.buf.now _ _ (a.at + a.n) a.len a.n (omega arith) (omega arith) (omega arith) c.move_down.ensures c.clear.ensures)
