-- `utf8::row_len` meets its contract: by its second byte, its third and its fourth. Assumes nothing but what it asks.
use mathlib.Core.Logic.{inl, inr}
use Prim.Native.Nat.{◌-◌}
use native.Mathlib.Omega.{arith}
use Rattle.utf8.proofs.Lengths.{row_begun, ends_before, second_out, third_out, fourth_out, two_met, two_other, three_asks, three_met, three_other, four_asks, four_met, four_other}
use Rattle.utf8.proofs.row_len.Goals as goal

pub returns-then-s-at : goal.returns-then-s-at
returns-then-s-at g c = ends_before c.args.key c.args.s.now c.args.at c.args.b c.args.l.lo c.args.l.hi (c.args.l.len - 1) (row_begun _ _ _ _ _ _ c.requires (omega (arith, c.requires.2.1, c.requires.2.2))) (omega arith)

pub returns-then-x-l : goal.returns-then-x-l
returns-then-x-l g c = second_out c.args.key c.args.s.now c.args.at c.args.b c.args.l.lo c.args.l.hi (c.args.l.len - 2) (row_begun _ _ _ _ _ _ c.requires (omega (arith, c.requires.2.1, c.requires.2.2))) (omega arith) (inl (omega arith))

pub returns-then-l-x : goal.returns-then-l-x
returns-then-l-x g c = second_out c.args.key c.args.s.now c.args.at c.args.b c.args.l.lo c.args.l.hi (c.args.l.len - 2) (row_begun _ _ _ _ _ _ c.requires (omega (arith, c.requires.2.1, c.requires.2.2))) (omega arith) (inr (omega arith))

pub returns-then-from-key : goal.returns-then-from-key
returns-then-from-key g c = two_met c.args.key c.args.s.now c.args.at c.args.b c.args.l.lo c.args.l.hi (row_begun _ _ _ _ _ _ c.requires (omega (arith, c.requires.2.1, c.requires.2.2))) (omega arith) (omega arith) (omega arith) (omega arith)

pub returns-then-this-eq2 : goal.returns-then-this-eq2
returns-then-this-eq2 g c = two_other c.args.key c.args.s.now c.args.at c.args.b c.args.l.lo c.args.l.hi (row_begun _ _ _ _ _ _ c.requires (omega (arith, c.requires.2.1, c.requires.2.2))) (omega arith) (omega arith) (omega arith) (omega arith)

pub returns-then-y-lt128 : goal.returns-then-y-lt128
returns-then-y-lt128 g c = third_out c.args.key c.args.s.now c.args.at c.args.b c.args.l.lo c.args.l.hi (c.args.l.len - 3) (row_begun _ _ _ _ _ _ c.requires (omega (arith, c.requires.2.1, c.requires.2.2))) (omega arith) (omega arith) (inl (omega arith))

pub returns-then-y-gt191 : goal.returns-then-y-gt191
returns-then-y-gt191 g c = third_out c.args.key c.args.s.now c.args.at c.args.b c.args.l.lo c.args.l.hi (c.args.l.len - 3) (row_begun _ _ _ _ _ _ c.requires (omega (arith, c.requires.2.1, c.requires.2.2))) (omega arith) (omega arith) (inr (omega arith))

pub returns-then-from-key-2 : goal.returns-then-from-key-2
returns-then-from-key-2 g c = three_met c.args.key c.args.s.now c.args.at c.args.b c.args.l.lo c.args.l.hi (row_begun _ _ _ _ _ _ c.requires (omega (arith, c.requires.2.1, c.requires.2.2))) (omega arith) (omega arith) (omega arith) (omega arith)

pub three_permitted-requires : goal.three_permitted-requires
three_permitted-requires g c = three_asks c.args.key c.args.s.now c.args.at c.args.b c.args.l.lo c.args.l.hi (row_begun _ _ _ _ _ _ c.requires (omega (arith, c.requires.2.1, c.requires.2.2))) (omega arith) (omega arith) (omega arith)

pub returns-then-this-eq3 : goal.returns-then-this-eq3
returns-then-this-eq3 g c = three_other c.args.key c.args.s.now c.args.at c.args.b c.args.l.lo c.args.l.hi (row_begun _ _ _ _ _ _ c.requires (omega (arith, c.requires.2.1, c.requires.2.2))) (omega arith) (omega arith) (omega arith) (omega arith) _ c.three_permitted.ensures

pub returns-then-z-lt128 : goal.returns-then-z-lt128
returns-then-z-lt128 g c = fourth_out c.args.key c.args.s.now c.args.at c.args.b c.args.l.lo c.args.l.hi (row_begun _ _ _ _ _ _ c.requires (omega (arith, c.requires.2.1, c.requires.2.2))) (omega arith) (omega arith) (inl (omega arith))

pub returns-then-z-gt191 : goal.returns-then-z-gt191
returns-then-z-gt191 g c = fourth_out c.args.key c.args.s.now c.args.at c.args.b c.args.l.lo c.args.l.hi (row_begun _ _ _ _ _ _ c.requires (omega (arith, c.requires.2.1, c.requires.2.2))) (omega arith) (omega arith) (inr (omega arith))

pub returns-then-from-key-3 : goal.returns-then-from-key-3
returns-then-from-key-3 g c = four_met c.args.key c.args.s.now c.args.at c.args.b c.args.l.lo c.args.l.hi (row_begun _ _ _ _ _ _ c.requires (omega (arith, c.requires.2.1, c.requires.2.2))) (omega arith) (omega arith) (omega arith) (omega arith)

pub four_permitted-requires : goal.four_permitted-requires
four_permitted-requires g c = four_asks c.args.key c.args.s.now c.args.at c.args.b c.args.l.lo c.args.l.hi (row_begun _ _ _ _ _ _ c.requires (omega (arith, c.requires.2.1, c.requires.2.2))) (omega arith) (omega arith) (omega arith)

pub returns : goal.returns
returns g c = four_other c.args.key c.args.s.now c.args.at c.args.b c.args.l.lo c.args.l.hi (row_begun _ _ _ _ _ _ c.requires (omega (arith, c.requires.2.1, c.requires.2.2))) (omega arith) (omega arith) (omega arith) (omega arith) _ c.four_permitted.ensures
