-- `loader::past_limit` meets its contract. Assumes nothing.
use mathlib.Core.Path.{ap}
use Rattle.loader.specs.declared.Loader.{Loader}
use Rattle.loader.specs.Reading.{past_limit}
use borrow.Author.Rules.{rules}
use Rattle.loader.proofs.past_limit.Goals as goal

pub returns : goal.returns
unfolding past_limit
returns c = ap (λ (l : Loader). record { total = 1048577; closed = l.closed; header = l.header; held = l.held; sums = l.sums; standing = l.standing }) c.fresh-next.ensures
