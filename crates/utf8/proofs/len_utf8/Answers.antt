-- `utf8::len_utf8` meets its contract: each row's length. Assumes nothing.
use lib.ListN.{length}
use native.Mathlib.Omega.{arith}
use mathlib.Core.Path.{ap}
use Rattle.utf8.proofs.Written.{one_byte, two_bytes, three_bytes, four_bytes}
use Rattle.utf8.proofs.len_utf8.Goals as goal

pub returns-then-v-lt128 : goal.returns-then-v-lt128
returns-then-v-lt128 c = (ap length (one_byte c.args.v (omega arith)), omega arith)

pub returns-then-v-lt2048 : goal.returns-then-v-lt2048
returns-then-v-lt2048 c = (ap length (two_bytes c.args.v (omega arith) (omega arith)), omega arith)

pub returns-then-v-lt65536 : goal.returns-then-v-lt65536
returns-then-v-lt65536 c = (ap length (three_bytes c.args.v (omega arith) (omega arith)), omega arith)

pub returns : goal.returns
returns c = (ap length (four_bytes c.args.v (omega arith)), omega arith)
