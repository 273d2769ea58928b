-- `loader::closed_answer` meets its contract. Assumes nothing.
use mathlib.Core.Path.{sym, ◌∙◌, ap}
use Rattle.loader.proofs.Cases.{answers, close_late}
use borrow.Author.Rules.{rules}
use Rattle.loader.proofs.closed_answer.Goals as goal
use Rattle.std.specs.Prelude.{Err}

pub told_open-requires : goal.told_open-requires
told_open-requires c = sym c.is_open.ensures ∙ c.if-is_open.true

pub returns-then-is_open : goal.returns-then-is_open
returns-then-is_open c = c.told_open.ensures ∙ answers c.args.l (sym c.is_open.ensures ∙ c.if-is_open.true)

pub returns : goal.returns
returns c = ap Err c.refuse.ensures ∙ close_late c.args.l (sym c.is_open.ensures ∙ c.if-is_open.false)
