-- `Held::put` meets its contract: at each turn the bytes put so far stand behind those that were held. Assumes that they fit.
use native.Mathlib.Omega.{arith}
use mathlib.Core.Path.{◌≡◌, ◌∙◌, ap}
use mathlib.Core.List.{List, ◌++◌}
use Prim.Native.Nat.{ℕ, ◌+◌, ◌%◌}
use lib.ListN.{length, take}
use lib.Seq.{take_all}
use Rattle.base.specs.Reading.{over}
use Rattle.unfinished.specs.Reading.{put_of}
use Rattle.unfinished.proofs.Holding.{no_more, one_more, put_held}
use Rattle.unfinished.proofs.Held.put.Goals as goal

pub loop-i-init : goal.loop-i-init
loop-i-init c = let a = c.args in
    let w : length a.self.bytes ≡ 32 = c.well_formed.0.1.1.1.0.1.0.1 in
    no_more a.self.bytes a.s.now a.self.len (omega arith)

pub loop-i-preserved : goal.loop-i-preserved
loop-i-preserved c = let l = c.loop-i in
    let a = c.args in
    let e : l.bytes ≡ over (take a.self.len a.self.bytes ++ take l.i a.s.now) a.self.bytes = l.invariant in
    let w : length a.self.bytes ≡ 32 = c.well_formed.0.1.1.1.0.1.0.1 in
    let m : (a.self.len + l.i) % 32 ≡ a.self.len + l.i = omega arith in
    rw e (rw m (one_more a.self.bytes a.s.now a.self.len l.i (omega arith) (omega arith)))

pub returns : goal.returns
unfolding put_of
returns c = let a = c.args in
    let w : length a.self.bytes ≡ 32 = c.well_formed.0.1.1.1.0.1.0.1 in
    let e : c.loop-i.bytes ≡ over (take a.self.len a.self.bytes ++ a.s.now) a.self.bytes =
    c.loop-i.invariant ∙ ap (λ (p : List ℕ). over (take a.self.len a.self.bytes ++ p) a.self.bytes) (take_all c.loop-i.i a.s.now (omega arith)) in
    record { equal = λ i. record { len = a.self.len + length a.s.now; bytes = e i }; held = put_held a.self a.s.now _ e (omega arith) w }
