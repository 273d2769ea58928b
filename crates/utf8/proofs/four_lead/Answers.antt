-- `utf8::four_lead` meets its contract: each arm is a row of Table 3-7. Assumes nothing but what it asks.
use native.Mathlib.Omega.{arith}
use Rattle.utf8.proofs.Rows.{row_4a, row_4b, row_4c}
use Rattle.utf8.proofs.four_lead.Goals as goal

pub returns-in-240 : goal.returns-in-240
returns-in-240 c = row_4a c.args.b (omega arith) (omega arith)

pub returns-in-244 : goal.returns-in-244
returns-in-244 c = row_4c c.args.b (omega arith) (omega arith)

pub returns-in_default : goal.returns-in_default
returns-in_default c = row_4b c.args.b (omega arith) (omega arith)
