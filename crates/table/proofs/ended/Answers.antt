-- `table::ended` meets its contract: bytes behind the last description, or none. Assumes nothing.
use Rattle.table.proofs.Skipping.{ended_trailing, ended_complete}
use Rattle.table.proofs.ended.Goals as goal

pub returns-then-at-s : goal.returns-then-at-s
returns-then-at-s c = ended_trailing _ _ c.if-at-s.true

pub returns : goal.returns
returns c = ended_complete _ _ c.if-at-s.false
