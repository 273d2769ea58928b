-- `mapping::locate` meets its contract: where the description starts, then the search from there. Assumes nothing.
use borrow.Author.Rules.{rules}
use Rattle.mapping.proofs.Walking.{both}
use Rattle.mapping.proofs.locate.Goals as goal

pub returns : goal.returns
returns c = record { equal = both _ _ c.args.g c.args.v _ _ c.description_start-start.ensures.0 c.find_single.ensures.equal; bounded = c.find_single.ensures.bounded }
