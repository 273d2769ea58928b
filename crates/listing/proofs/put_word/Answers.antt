-- `listing::put_word` meets its contract: each word is one text. Assumes nothing.
use native.Mathlib.Omega.{arith}
use borrow.Author.Rules.{rules}
use Rattle.listing.proofs.put_word.Goals as goal

pub put_text-requires : goal.put_text-requires
put_text-requires c = let p = rw c.if-table.true at c.requires in omega (arith, p)

pub returns-then-table : goal.returns-then-table
returns-then-table c = rw c.if-table.true c.put_text.ensures

pub put_text-requires-2 : goal.put_text-requires-2
put_text-requires-2 c = let p = rw c.if-table.false at c.requires in omega (arith, p)

pub returns : goal.returns
returns c = rw c.if-table.false c.put_text-2.ensures
