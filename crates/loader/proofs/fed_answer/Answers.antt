-- `loader::fed_answer` meets its contract. Assumes nothing.
use mathlib.Core.Path.{sym, ◌∙◌, ap}
use Rattle.loader.proofs.Cases.{taken, fed_late}
use Rattle.loader.proofs.fed_answer.Goals as goal
use Rattle.std.specs.Prelude.{Err}

pub returns-then-not-is_open : goal.returns-then-not-is_open
returns-then-not-is_open c = ap Err c.refuse.ensures ∙ fed_late c.args.l (sym c.is_open.ensures ∙ c.if-not-is_open.true)

pub returns : goal.returns
returns c = taken c.args.l (sym c.is_open.ensures ∙ c.if-not-is_open.false)
