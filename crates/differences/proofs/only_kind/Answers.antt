-- `differences::only_kind` meets its contract: by the counts. Assumes nothing.
use borrow.Author.Tests.{lt-ltb, le-ltb}
use Rattle.base.specs.Reading.{when}
use Rattle.differences.specs.Reading.{only_kind}
use Rattle.differences.proofs.only_kind.Goals as goal

pub returns-then-n-m : goal.returns-then-n-m
unfolding only_kind when
returns-then-n-m c = rw (lt-ltb _ _ c.if-n-m.true)

pub returns : goal.returns
unfolding only_kind when
returns c = rw (le-ltb _ _ c.if-n-m.false)
