-- `text::numeral_len` meets its contract: the digits counted and those of what is left are all digits. Assumes nothing.
use native.Mathlib.Omega.{arith}
use Rattle.text.proofs.Digits.{divided, numeral_64, length_one, length_more}
use Rattle.text.proofs.numeral_len.Goals as goal

pub loop-m-init : goal.loop-m-init
loop-m-init c = (c.requires, omega arith, numeral_64 c.args.radix c.args.n c.requires (omega arith))

pub loop-m-smaller : goal.loop-m-smaller
loop-m-smaller c = divided _ _ c.loop-m.invariant.0 c.loop-m-test.true

pub loop-m-preserved : goal.loop-m-preserved
loop-m-preserved c = let i = c.loop-m.invariant in
    (i.0, omega (arith, length_more _ i.0 c.loop-m.m c.loop-m-test.true), i.2)

pub returns : goal.returns
returns c = let z = length_one _ c.loop-m.invariant.0 c.loop-m.m c.loop-m-test.false in omega arith
