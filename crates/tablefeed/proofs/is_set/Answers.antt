-- `tablefeed::is_set` meets its contract. Assumes nothing.
use mathlib.Core.Path.{refl}
use Rattle.tablefeed.specs.Reading.{is_set}
use Rattle.tablefeed.proofs.is_set.Goals as goal

pub returns : goal.returns
unfolding is_set
returns c = refl
