-- `lines::item_len` meets its contract: a byte, and the value's digits if it has one. Assumes nothing.
use native.Mathlib.Omega.{arith}
use Rattle.text.proofs.Digits.{hexadecimal_8}
use Rattle.lines.proofs.item_len.Goals as goal

pub returns-in-Single : goal.returns-in-Single
returns-in-Single c = let v = c.in-Single.v in
    rw c.in-Single.is (omega (arith, hexadecimal_8 v (omega arith), c.numeral_len.ensures.0))

pub returns-in-Value : goal.returns-in-Value
returns-in-Value c = let v = c.in-Value.v in
    rw c.in-Value.is (omega (arith, hexadecimal_8 v (omega arith), c.numeral_len-in-Value.ensures.0))
