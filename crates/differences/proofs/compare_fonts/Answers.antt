-- `differences::compare_fonts` meets its contract: counted where the buffer may be too short, refused for room, or written. Assumes `Placed` of both
-- fonts.
use mathlib.Core.Path.{◌≡◌, sym, ◌∙◌, ap}
use Prim.Native.Nat.{◌*◌, ◌/◌, ◌≤◌}
use native.Mathlib.Omega.{arith}
use lib.ListN.{length}
use Rattle.differences.specs.Reading.{pairs_of}
use Rattle.differences.proofs.Pairs.{numbers_length}
use Rattle.differences.proofs.Cases.{has_room, none_over, pairs_most}
use Rattle.differences.proofs.compare_fonts.Goals as goal
use Rattle.differences.proofs.compare_fonts.Goals.{then-out-most+else-out-need+else-n-eq0, else-out-most}
use Rattle.std.specs.Prelude.{Ok}

pub returns-then-n-eq0 : goal.returns-then-n-eq0
returns-then-n-eq0 c = let e : c.count_pairs-n.result ≡ length (pairs_of c.args.a.now c.args.f c.args.b.now c.args.h) = c.count_pairs-n.ensures.0 in
    record { answer = ap Ok (sym c.if-n-eq0.true ∙ e) ∙ has_room (length c.args.out.now) (length (pairs_of c.args.a.now c.args.f c.args.b.now c.args.h)) (omega (arith, e, c.if-out-need.false)); buffer = none_over (pairs_of c.args.a.now c.args.f c.args.b.now c.args.h) c.args.out.now (sym e ∙ c.if-n-eq0.true) }

pub put_pairs-used-requires : goal.put_pairs-used-requires
put_pairs-used-requires c = let l : 2 * length (pairs_of c.args.a.now c.args.f c.args.b.now c.args.h) ≤ length c.args.out.now = elim c.if-out-most.branch [ then-out-most+else-out-need+else-n-eq0 w ↦ omega (arith, w.count_pairs-n.ensures.0, w.if-out-need.false) | else-out-most w ↦ omega (arith, pairs_most c.args.a.now c.args.f c.args.b.now c.args.h c.requires.0.1 c.requires.1.1, w.if-out-most.false) ] in
    (c.requires.0, c.requires.1, omega (arith, l, numbers_length (pairs_of c.args.a.now c.args.f c.args.b.now c.args.h)))

pub returns : goal.returns
returns c = let l : 2 * length (pairs_of c.args.a.now c.args.f c.args.b.now c.args.h) ≤ length c.args.out.now = elim c.if-out-most.branch [ then-out-most+else-out-need+else-n-eq0 w ↦ omega (arith, w.count_pairs-n.ensures.0, w.if-out-need.false) | else-out-most w ↦ omega (arith, pairs_most c.args.a.now c.args.f c.args.b.now c.args.h c.requires.0.1 c.requires.1.1, w.if-out-most.false) ] in
    let e : c.put_pairs-used.result / 2 ≡ length (pairs_of c.args.a.now c.args.f c.args.b.now c.args.h) = omega (arith, c.put_pairs-used.ensures.0, numbers_length (pairs_of c.args.a.now c.args.f c.args.b.now c.args.h)) in
    record { answer = ap Ok e ∙ has_room (length c.args.out.now) (length (pairs_of c.args.a.now c.args.f c.args.b.now c.args.h)) l; buffer = c.put_pairs-used.ensures.1 }
