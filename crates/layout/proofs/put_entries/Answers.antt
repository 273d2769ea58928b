-- `layout::put_entries` meets its contract: at each turn the entries written so far stand in front, and the others are left. Assumes room.
use native.Mathlib.Omega.{arith}
use mathlib.Core.Path.{refl, sym, ap, subst}
use Prim.Native.Nat.{ℕ, ◌*◌}
use Rattle.base.proofs.Written.{Written, begins_as, ends}
use Rattle.layout.specs.Reading.{entry_bytes, entries_at, evenly}
use Rattle.layout.proofs.Parts.{entry_length, entries_length, evenly_length, entries_next, entries_done, all_left, goes_to}
use Rattle.layout.proofs.put_entries.Goals as goal

pub loop-i-init : goal.loop-i-init
loop-i-init c = let a = c.args in begins_as (entries_at a.size a.height a.width (evenly a.size 0 a.n)) a.out.now _ (omega (arith, entries_length a.size a.height a.width (evenly a.size 0 a.n), evenly_length a.size 0 a.n)) (ap (λ (k : ℕ). entries_at a.size a.height a.width (evenly a.size 0 k)) (all_left a.n))

pub loop-i-preserved : goal.loop-i-preserved
loop-i-preserved c = let a = c.args in let l = c.loop-i in let p = entry_bytes (l.i * a.size) a.size a.height a.width in
    goes_to _ p _ _ _ _ p (l.i * 18) 18 _ (omega arith) refl (sym (entry_length _ _ _ _)) c.put_entry.ensures
    (subst (Written (entries_at a.size a.height a.width (evenly a.size 0 a.n)) a.out.now (l.i * 18) l.out) (entries_next _ _ _ a.n l.i _ refl (omega arith)) l.invariant)

pub returns : goal.returns
returns c = let a = c.args in let l = c.loop-i in ends _ _ _ (l.i * 18) (subst (Written (entries_at a.size a.height a.width (evenly a.size 0 a.n)) a.out.now (l.i * 18) l.out) (entries_done _ _ _ a.n l.i (omega arith)) l.invariant)
