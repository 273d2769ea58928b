-- `Held::none` meets its contract. Assumes nothing.
use mathlib.Core.Path.{refl}
use Rattle.base.specs.Reading.{over}
use Rattle.unfinished.specs.Reading.{held_of}
use Rattle.unfinished.proofs.Held.none.Goals as goal

pub returns : goal.returns
unfolding held_of over
returns c = refl
