-- `differences::put_rest` meets its contract: a pair for each glyph, one after the other. Assumes glyphs' numbers and room.
use mathlib.Core.Path.{◌≡◌, refl, subst}
use mathlib.Core.List.{List}
use Prim.Native.Nat.{ℕ, ◌+◌, ◌-◌}
use native.Mathlib.Omega.{arith}
use Rattle.base.proofs.Written.{Written, begins_as, room, goes_on, ends, ends_at}
use Rattle.std.specs.Prelude.{Some}
use Rattle.glyphs.specs.Reading.{kind_number}
use Rattle.differences.specs.Meaning.{numbers}
use Rattle.differences.specs.Reading.{pair_of, rest_from}
use Rattle.differences.proofs.Pairs.{none_left, rest_next, rest_end}
use Rattle.differences.proofs.put_rest.Goals as goal

pub loop-i-init : goal.loop-i-init
loop-i-init c = let a = c.args in
    let z : a.count ≡ a.count - 0 = omega arith in
    let w : a.from ≡ a.from + 0 = omega arith in
    (omega arith, begins_as (numbers (rest_from (kind_number (Some a.r)) a.count a.from)) a.out.now _ c.requires.1 (λ i. numbers (rest_from (kind_number (Some a.r)) (z i) (w i))))

pub put_pair-at-requires : goal.put_pair-at-requires
put_pair-at-requires c = let a = c.args in
    let l = c.loop-i in
    let i = subst (λ (y : List ℕ). Written (numbers (rest_from (kind_number (Some a.r)) a.count a.from)) a.out.now l.at l.out y) (rest_next (kind_number (Some a.r)) a.count a.from l.i c.loop-i-test.true) l.invariant.1 in
    (omega arith, room _ (numbers (pair_of (kind_number (Some a.r)) (a.from + l.i))) _ _ _ l.at i)

pub loop-i-preserved : goal.loop-i-preserved
loop-i-preserved c = let a = c.args in
    let l = c.loop-i in
    let p = c.put_pair-at in
    let i = subst (λ (y : List ℕ). Written (numbers (rest_from (kind_number (Some a.r)) a.count a.from)) a.out.now l.at l.out y) (rest_next (kind_number (Some a.r)) a.count a.from l.i c.loop-i-test.true) l.invariant.1 in
    (omega arith, goes_on _ _ _ _ _ _ _ l.at p.result refl p.ensures.0 p.ensures.2 i)

pub returns : goal.returns
returns c = let a = c.args in
    let l = c.loop-i in
    let e = none_left _ (rest_end (kind_number (Some a.r)) a.count a.from l.i c.loop-i-test.false) in
    let w = subst (λ (y : List ℕ). Written (numbers (rest_from (kind_number (Some a.r)) a.count a.from)) a.out.now l.at l.out y) e l.invariant.1 in
    (ends_at (numbers (rest_from (kind_number (Some a.r)) a.count a.from)) a.out.now l.out l.at w, omega (arith, l.invariant.0, c.requires.0), ends (numbers (rest_from (kind_number (Some a.r)) a.count a.from)) a.out.now l.out l.at w)
