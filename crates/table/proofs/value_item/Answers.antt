-- `table::value_item` meets its contract: by the one test.
use Rattle.table.specs.Reading.{value_item}
use Rattle.table.proofs.value_item.Goals as goal

pub returns-then-inside : goal.returns-then-inside
unfolding value_item
returns-then-inside c = rw c.if-inside.true

pub returns : goal.returns
unfolding value_item
returns c = rw c.if-inside.false
