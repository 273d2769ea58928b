-- `utf8::lead_of` meets its contract: one byte, two, no value here, or a row of three or four. Assumes nothing.
use native.Mathlib.Omega.{arith}
use Rattle.utf8.proofs.Rows.{begun_1, begun_x, begun_y, begun_row}
use Rattle.utf8.proofs.lead_of.Goals as goal

pub returns-in-0-to-127 : goal.returns-in-0-to-127
returns-in-0-to-127 c = begun_1 c.args.b (omega arith)

pub returns-in_default : goal.returns-in_default
returns-in_default c = begun_x c.args.b (omega arith) (omega arith)

pub returns-in_default-2 : goal.returns-in_default-2
returns-in_default-2 c = begun_y c.args.b (omega arith) (omega arith)

pub returns-in-224-to-239 : goal.returns-in-224-to-239
returns-in-224-to-239 c = begun_row c.args.b (omega arith) (omega arith) _ c.three_lead.ensures

pub returns-in-240-to-244 : goal.returns-in-240-to-244
returns-in-240-to-244 c = begun_row c.args.b (omega arith) (omega arith) _ c.four_lead.ensures
