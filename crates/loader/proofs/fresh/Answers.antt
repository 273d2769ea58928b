-- `loader::fresh` meets its contract. Assumes nothing.
use Rattle.loader.specs.Reading.{fresh_of}
use borrow.Author.Rules.{rules}
use Rattle.loader.proofs.fresh.Goals as goal

pub returns : goal.returns
unfolding fresh_of
returns c = let x = c.no_sums.ensures in let t = c.unread.ensures in λ i. record { total = 0; closed = 0; header = fresh_of.header; held = c.none.ensures i; sums = record { broken = x.0 i; height = x.1 i; width = x.2 i }; standing = record { ended = t.0 i; opened = t.1 i; halted = t.2 i; place = t.3 i } }
