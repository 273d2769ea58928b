-- `utf8::is_within` meets its contract: each bound tested. Assumes nothing.
use Rattle.utf8.proofs.Conts.{below, from}
use Rattle.utf8.proofs.is_within.Goals as goal

pub returns-then-x-lo : goal.returns-then-x-lo
returns-then-x-lo c = below c.args.lo c.args.hi c.args.x c.if-x-lo.true

pub returns : goal.returns
returns c = from c.args.lo c.args.hi c.args.x c.if-x-lo.false
