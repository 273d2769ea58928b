-- `layout::put_gathered` meets its contract: at each turn the bitmaps written so far stand in front, and the others are left. Assumes room, and that each glyph stands in the file.
use native.Mathlib.Omega.{arith}
use mathlib.Core.Path.{◌≡◌, refl, sym, ◌∙◌, ap, subst}
use Prim.Native.Nat.{ℕ, ◌+◌, ◌-◌, ◌*◌}
use lib.ListN.{length, take, drop}
use Rattle.base.proofs.Written.{Written, begins_as, ends}
use Rattle.entries.specs.Meaning.{entry_at, address_at}
use Rattle.layout.specs.Reading.{gathered}
use Rattle.layout.proofs.Parts.{gathered_short, gathered_next, gathered_done, part_length, part_said, all_left, next_multiple, goes_to}
use Rattle.layout.proofs.put_gathered.Goals as goal

pub loop-i-init : goal.loop-i-init
loop-i-init c = let a = c.args in
    let z : 0 ≡ 0 * a.size = omega arith in
    let w = gathered a.file.now a.f a.size 0 a.f.count in
    subst (λ (n : ℕ). Written w a.out.now n a.out.now (gathered a.file.now a.f a.size 0 (a.f.count - 0))) z
    (begins_as w a.out.now _ (omega (arith, gathered_short a.file.now a.f a.size 0 a.f.count)) (ap (gathered a.file.now a.f a.size 0) (all_left a.f.count)))

pub loop-i-preserved : goal.loop-i-preserved
loop-i-preserved c = let a = c.args in
    let l = c.loop-i in
    let d = a.f.bitmaps + address_at a.file.now (entry_at a.f.entries l.i) in
    let x = take a.size (drop d a.file.now) in
    let q = part_said a.file.now a.size (a.f.bitmaps + c.get32.result) d (a.f.bitmaps + c.get32.result + a.size) (omega arith) refl in
    let k : a.size ≡ length x = sym (part_length a.file.now a.size d (c.requires.3 l.i (omega arith))) in
    goes_to _ x _ _ _ _ _ (l.i * a.size) a.size _ (next_multiple _ l.i a.size refl) q (k ∙ sym (ap length q)) c.copy.ensures
    (subst (Written (gathered a.file.now a.f a.size 0 a.f.count) a.out.now (l.i * a.size) l.out) (gathered_next a.file.now a.f a.size a.f.count l.i _ refl (omega arith)) l.invariant)

pub returns : goal.returns
returns c = let a = c.args in let l = c.loop-i in ends _ _ _ (l.i * a.size) (subst (Written (gathered a.file.now a.f a.size 0 a.f.count) a.out.now (l.i * a.size) l.out) (gathered_done _ _ _ a.f.count l.i (omega arith)) l.invariant)
