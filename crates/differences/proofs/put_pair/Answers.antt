-- `differences::put_pair` meets its contract: nothing where there is no difference, else two stores. Assumes a glyph's number and room.
use mathlib.Core.Path.{refl, ap}
use mathlib.Core.List.{[], ◌∷◌}
use Prim.Native.Nat.{◌+◌, ◌≤◌}
use native.Mathlib.Omega.{arith}
use lib.ListN.{length}
use denote.Enum.Declared.{tag_of}
use Rattle.base.proofs.Over.{stores, over_none}
use Rattle.glyphs.specs.contracts.Difference.{the_type}
use Rattle.glyphs.specs.Reading.{kind_number}
use Rattle.differences.proofs.Pairs.{no_numbers, cast_numbers}
use Rattle.differences.proofs.put_pair.Goals as goal

pub returns-in_default : goal.returns-in_default
returns-in_default c = let e = no_numbers (kind_number c.args.k) c.args.g (ap kind_number c.in_default.is) in
    rw e (refl, omega arith, over_none c.args.out.now)

pub bounds-out-0 : goal.bounds-out-0
bounds-out-0 c = omega (arith, ap length (cast_numbers c.args.k c.in-Some.d c.args.g c.in-Some.is))

pub bounds-out-1 : goal.bounds-out-1
bounds-out-1 c = let h : 2 ≤ length c.args.out.now = omega (arith, ap length (cast_numbers c.args.k c.in-Some.d c.args.g c.in-Some.is)) in
    simp lib.ListN.length-set (omega arith)

pub returns : goal.returns
returns c = let a = c.args in
    let e = cast_numbers a.k c.in-Some.d a.g c.in-Some.is in
    let h : 2 ≤ length a.out.now = omega (arith, ap length e) in
    rw e (refl, omega arith, stores ((tag_of the_type c.in-Some.d + 1) ∷ a.g ∷ []) a.out.now h)
