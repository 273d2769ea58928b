-- `loader::fed` meets its contract. Assumes nothing.
use mathlib.Core.Path.{sym, ◌∙◌}
use Rattle.loader.proofs.Cases.{is_fed, stays}
use borrow.Author.Rules.{rules}
use Rattle.loader.proofs.fed.Goals as goal

pub feed_open-requires : goal.feed_open-requires
feed_open-requires c = sym c.is_open.ensures ∙ c.if-is_open.true

pub returns-then-is_open : goal.returns-then-is_open
returns-then-is_open c = c.feed_open.ensures ∙ is_fed c.args.l c.args.piece.now (sym c.is_open.ensures ∙ c.if-is_open.true)

pub returns : goal.returns
returns c = stays c.args.l c.args.piece.now (sym c.is_open.ensures ∙ c.if-is_open.false)
