-- `loader::part` meets its contract. Assumes nothing.
use Rattle.loader.proofs.Parting.{found}
use borrow.Author.Rules.{rules}
use Rattle.loader.proofs.part.Goals as goal

pub returns : goal.returns
returns c = found _ _ _ c.args.piece.now _ _ c.offset_of-b.ensures c.offset_of-a.ensures
