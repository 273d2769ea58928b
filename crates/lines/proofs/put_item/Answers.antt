-- `lines::put_item` meets its contract: each item is a byte, or a byte and a value. Assumes nothing.
use native.Mathlib.Omega.{arith}
use borrow.Author.Rules.{rules}
use Rattle.lines.proofs.put_item.Goals as goal

pub put_value-requires : goal.put_value-requires
put_value-requires c = let p = rw c.in-Single.is at c.requires in omega (arith, p)

pub put_byte-requires : goal.put_byte-requires
put_byte-requires c = let p = rw c.in-Start.is at c.requires in omega (arith, p)

pub put_value-requires-in-Value : goal.put_value-requires-in-Value
put_value-requires-in-Value c = let p = rw c.in-Value.is at c.requires in omega (arith, p)

pub put_byte-requires-in-End : goal.put_byte-requires-in-End
put_byte-requires-in-End c = let p = rw c.in-End.is at c.requires in omega (arith, p)

pub returns-in-Single : goal.returns-in-Single
returns-in-Single c = rw c.in-Single.is c.put_value.ensures

pub returns-in-Start : goal.returns-in-Start
returns-in-Start c = rw c.in-Start.is c.put_byte.ensures

pub returns-in-Value : goal.returns-in-Value
returns-in-Value c = rw c.in-Value.is c.put_value-in-Value.ensures

pub returns-in-End : goal.returns-in-End
returns-in-End c = rw c.in-End.is c.put_byte-in-End.ensures
