-- `moves::clear` meets its contract: at each turn the bytes before the place are 0. Assumes that they stand in the buffer, at places of 32 bits.
use native.Mathlib.Omega.{arith}
use mathlib.Core.Path.{◌≡◌, ◌∙◌, ap}
use Prim.Native.Nat.{ℕ, ◌%◌}
use lib.ListN.{set}
use Rattle.moves.proofs.Moves.{clear_start, clear_turn}
use Rattle.moves.proofs.clear.Goals as goal

pub loop-k-init : goal.loop-k-init
loop-k-init c = clear_start c.args.buf.now c.args.from (omega arith)

pub loop-k-preserved : goal.loop-k-preserved
loop-k-preserved c = let l = c.loop-k in
    let a = c.args in
    let e : l.k % 4294967296 ≡ l.k = omega arith in
    ap (λ (j : ℕ). set l.buf j 0) e ∙ clear_turn a.buf.now l.buf a.from l.k (omega arith) (omega arith) l.invariant
