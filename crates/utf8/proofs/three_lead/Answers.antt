-- `utf8::three_lead` meets its contract: each arm is a row of Table 3-7. Assumes nothing but what it asks.
use native.Mathlib.Omega.{arith}
use Rattle.utf8.proofs.Rows.{row_3, row_3a, row_3c}
use Rattle.utf8.proofs.three_lead.Goals as goal

pub returns-in-224 : goal.returns-in-224
returns-in-224 c = row_3a c.args.b (omega arith) (omega arith)

pub returns-in-237 : goal.returns-in-237
returns-in-237 c = row_3c c.args.b (omega arith) (omega arith)

pub returns-in_default : goal.returns-in_default
returns-in_default c = row_3 c.args.b (omega arith)
