-- `tablefeed::feed` meets its contract. Assumes fewer bytes held than an entry has, and a part within the file limit.
use native.Mathlib.Omega.{arith}
use mathlib.Core.Path.{◌≡◌}
use Prim.Native.Nat.{◌-◌}
use Rattle.table.specs.Reading.{steps_from}
use Rattle.tablefeed.specs.Reading.{run_of, is_set}
use Rattle.tablefeed.proofs.Feeding.{at_rest, from_part, no_more}
use Rattle.tablefeed.proofs.feed.Goals as goal

pub returns-then-t-ne0 : goal.returns-then-t-ne0
returns-then-t-ne0 c = no_more _ _ _ _ _ _ c.if-t-ne0.true

pub settle-requires : goal.settle-requires
settle-requires c = let a = c.args in
    let f : c.run_through-r.result ≡ run_of a.t.ended (a.n - a.t.ended) (is_set a.t.opened) 0 (steps_from a.c 0 0 a.part.now) = rw c.is_set.ensures at c.run_through-r.ensures in
    (at_rest a.c a.part.now 0 _ _ _ _ (omega arith) f, omega arith)

pub returns-then-h-eq0 : goal.returns-then-h-eq0
returns-then-h-eq0 c = let a = c.args in
    let f : c.run_through-r.result ≡ run_of a.t.ended (a.n - a.t.ended) (is_set a.t.opened) 0 (steps_from a.c 0 0 a.part.now) = rw c.is_set.ensures at c.run_through-r.ensures in
    from_part a.c a.n a.at a.t a.h a.part.now c.if-t-ne0.false c.if-h-eq0.true _ f _ c.settle.ensures
