-- `listing::list_text` meets its contract: the length is tested before the first store. Assumes nothing.
use mathlib.Core.Path.{refl}
use Rattle.listing.proofs.Answers.{no_room_as, wrote}
use borrow.Author.Rules.{rules}
use Rattle.listing.proofs.list_text.Goals as goal

pub returns-then-out-n : goal.returns-then-out-n
returns-then-out-n c = no_room_as _ _ _ refl _ c.if-out-n.true c.refuse.ensures

pub returns : goal.returns
returns c = wrote _ _ _ refl c.if-out-n.false _ c.copy.ensures
