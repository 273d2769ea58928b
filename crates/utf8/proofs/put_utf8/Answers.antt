-- `utf8::put_utf8` meets its contract: each row's bytes stored. Assumes nothing.
use lib.ListN.{length, length-set}
use native.Mathlib.Omega.{arith}
use mathlib.Core.Path.{ap}
use Rattle.utf8.proofs.Written.{one_byte, two_bytes, three_bytes, four_bytes, scalar_low, stored}
use Rattle.utf8.proofs.put_utf8.Goals as goal

pub bounds-out-0 : goal.bounds-out-0
bounds-out-0 c = let e = ap length (one_byte c.args.v (omega arith)) in omega arith

pub returns-then-v-lt128 : goal.returns-then-v-lt128
returns-then-v-lt128 c = stored c.args.v c.args.out.now _ (one_byte c.args.v (omega arith)) (omega arith)

pub bounds-out-0-then-v-lt2048 : goal.bounds-out-0-then-v-lt2048
bounds-out-0-then-v-lt2048 c = let e = ap length (two_bytes c.args.v (omega arith) (omega arith)) in omega arith

pub bounds-out-1 : goal.bounds-out-1
bounds-out-1 c = let e = ap length (two_bytes c.args.v (omega arith) (omega arith)) in simp length-set (omega arith)

pub returns-then-v-lt2048 : goal.returns-then-v-lt2048
returns-then-v-lt2048 c = stored c.args.v c.args.out.now _ (two_bytes c.args.v (omega arith) (omega arith)) (omega arith)

pub bounds-out-0-then-v-lt65536 : goal.bounds-out-0-then-v-lt65536
bounds-out-0-then-v-lt65536 c = let e = ap length (three_bytes c.args.v (omega arith) (omega arith)) in omega arith

pub bounds-out-1-then-v-lt65536 : goal.bounds-out-1-then-v-lt65536
bounds-out-1-then-v-lt65536 c = let e = ap length (three_bytes c.args.v (omega arith) (omega arith)) in simp length-set (omega arith)

pub bounds-out-2 : goal.bounds-out-2
bounds-out-2 c = let e = ap length (three_bytes c.args.v (omega arith) (omega arith)) in simp length-set (omega arith)

pub returns-then-v-lt65536 : goal.returns-then-v-lt65536
returns-then-v-lt65536 c = stored c.args.v c.args.out.now _ (three_bytes c.args.v (omega arith) (omega arith)) (omega arith)

pub overflow_cast-out-2 : goal.overflow_cast-out-2
overflow_cast-out-2 c = let h = scalar_low c.args.v c.requires.0 in omega arith

pub bounds-out-0-2 : goal.bounds-out-0-2
bounds-out-0-2 c = let e = ap length (four_bytes c.args.v (omega arith)) in omega arith

pub bounds-out-1-2 : goal.bounds-out-1-2
bounds-out-1-2 c = let e = ap length (four_bytes c.args.v (omega arith)) in simp length-set (omega arith)

pub bounds-out-2-2 : goal.bounds-out-2-2
bounds-out-2-2 c = let e = ap length (four_bytes c.args.v (omega arith)) in simp length-set (omega arith)

pub bounds-out-3 : goal.bounds-out-3
bounds-out-3 c = let e = ap length (four_bytes c.args.v (omega arith)) in simp length-set (omega arith)

pub returns : goal.returns
returns c = stored c.args.v c.args.out.now _ (four_bytes c.args.v (omega arith)) (omega arith)
