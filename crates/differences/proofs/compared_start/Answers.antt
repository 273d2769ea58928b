-- `differences::compared_start` meets its contract: by the tables. Assumes that the table's start stands in the file.
use native.Mathlib.Omega.{arith}
use Rattle.differences.proofs.Pairs.{none_is, some_is}
use Rattle.differences.proofs.Cases.{from_table, from_end}
use Rattle.differences.proofs.compared_start.Goals as goal

pub returns-then-is_none : goal.returns-then-is_none
returns-then-is_none c = (from_table _ c.args.f c.args.h _ c.table_kind.ensures (none_is _ c.if-is_none.ensures), omega arith)

pub returns : goal.returns
returns c = (from_end _ c.args.f c.args.h _ c.table_kind.ensures (some_is _ c.if-is_none.ensures), omega arith)
