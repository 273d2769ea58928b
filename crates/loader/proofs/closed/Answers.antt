-- `loader::closed` meets its contract. Assumes nothing.
use mathlib.Core.Path.{sym, ◌∙◌}
use Rattle.loader.proofs.Cases.{closes, stays_closed}
use borrow.Author.Rules.{rules}
use Rattle.loader.proofs.closed.Goals as goal

pub returns-then-is_open : goal.returns-then-is_open
returns-then-is_open c = closes c.args.l (sym c.is_open.ensures ∙ c.if-is_open.true)

pub returns : goal.returns
returns c = stays_closed c.args.l (sym c.is_open.ensures ∙ c.if-is_open.false)
