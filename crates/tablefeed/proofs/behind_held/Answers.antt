-- `tablefeed::behind_held` meets its contract. Assumes that the table is not refused, fewer bytes held than an entry has, and a part within the
-- file limit.
use native.Mathlib.Omega.{arith}
use mathlib.Core.Path.{◌≡◌, sym, ◌∙◌, ap}
use mathlib.Core.List.{List, [], ◌++◌}
use Prim.Native.Nat.{ℕ, ◌+◌, ◌-◌}
use lib.ListN.{length, take, drop, drop_of_length-le}
use lib.Seq.{length-take-le}
use Rattle.table.specs.Reading.{steps_from}
use Rattle.unfinished.specs.Reading.{held_bytes}
use Rattle.tablefeed.specs.Reading.{run_of, is_set}
use Rattle.tablefeed.proofs.Feeding.{met, unmet, at_rest, split, stops, short, goes_on}
use Rattle.tablefeed.proofs.behind_held.Goals as goal

pub slice_bounds-put-end : goal.slice_bounds-put-end
slice_bounds-put-end c = let a = c.args in
    sym (length-take-le c.min-m.result a.part.now (omega arith))

pub put-joined-requires : goal.put-joined-requires
put-joined-requires c = let a = c.args in
    let m : ℕ = c.min-m.result in
    let lm : length (take m a.part.now) ≡ m = length-take-le m a.part.now (omega arith) in
    omega (arith, lm)

pub slice_bounds-run_through-end : goal.slice_bounds-run_through-end
slice_bounds-run_through-end c = let a = c.args in
    let m : ℕ = c.min-m.result in
    let lm : length (take m a.part.now) ≡ m = length-take-le m a.part.now (omega arith) in
    let p = c.put-joined.ensures.held in
    let n : c.put-joined.result.len ≡ a.h.len + m = p.1 ∙ ap (λ (i : ℕ). a.h.len + i) lm in
    let lq : length (take (a.h.len + m) c.put-joined.result.bytes) ≡ a.h.len + m = length-take-le (a.h.len + m) c.put-joined.result.bytes (omega (arith, p.2, c.requires.1)) in
    sym lq

pub slice_bounds-settle-end : goal.slice_bounds-settle-end
slice_bounds-settle-end c = let a = c.args in
    let m : ℕ = c.min-m.result in
    let lm : length (take m a.part.now) ≡ m = length-take-le m a.part.now (omega arith) in
    let p = c.put-joined.ensures.held in
    let n : c.put-joined.result.len ≡ a.h.len + m = p.1 ∙ ap (λ (i : ℕ). a.h.len + i) lm in
    let lq : length (take (a.h.len + m) c.put-joined.result.bytes) ≡ a.h.len + m = length-take-le (a.h.len + m) c.put-joined.result.bytes (omega (arith, p.2, c.requires.1)) in
    sym lq

pub settle-requires : goal.settle-requires
settle-requires c = let a = c.args in
    let m : ℕ = c.min-m.result in
    let lm : length (take m a.part.now) ≡ m = length-take-le m a.part.now (omega arith) in
    let p = c.put-joined.ensures.held in
    let n : c.put-joined.result.len ≡ a.h.len + m = p.1 ∙ ap (λ (i : ℕ). a.h.len + i) lm in
    let lq : length (take (a.h.len + m) c.put-joined.result.bytes) ≡ a.h.len + m = length-take-le (a.h.len + m) c.put-joined.result.bytes (omega (arith, p.2, c.requires.1)) in
    let w : length a.h.bytes ≡ 32 = c.well_formed.1.1.1.0.1.1.1.0.1.0.1 in
    let l : length (held_bytes a.h) ≡ a.h.len = length-take-le a.h.len a.h.bytes (omega (arith, w, c.requires.1)) in
    let q : List ℕ = take (a.h.len + m) c.put-joined.result.bytes in
    let e : held_bytes a.h ++ a.part.now ≡ q ++ drop m a.part.now =
    split (held_bytes a.h) a.part.now m ∙ ap (λ (x : List ℕ). x ++ drop m a.part.now) (sym (rw n at p.0)) in
    let f : c.run_through-r.result ≡ run_of a.t.ended (a.n - a.t.ended) (is_set a.t.opened) 0 (steps_from a.c 0 0 q) = rw c.is_set.ensures at c.run_through-r.ensures in
    let i = at_rest a.c q 0 _ _ _ _ (omega arith) f in
    (i, omega (arith, lq))

pub returns-then-is_some : goal.returns-then-is_some
returns-then-is_some c = let a = c.args in
    let m : ℕ = c.min-m.result in
    let lm : length (take m a.part.now) ≡ m = length-take-le m a.part.now (omega arith) in
    let p = c.put-joined.ensures.held in
    let n : c.put-joined.result.len ≡ a.h.len + m = p.1 ∙ ap (λ (i : ℕ). a.h.len + i) lm in
    let lq : length (take (a.h.len + m) c.put-joined.result.bytes) ≡ a.h.len + m = length-take-le (a.h.len + m) c.put-joined.result.bytes (omega (arith, p.2, c.requires.1)) in
    let w : length a.h.bytes ≡ 32 = c.well_formed.1.1.1.0.1.1.1.0.1.0.1 in
    let l : length (held_bytes a.h) ≡ a.h.len = length-take-le a.h.len a.h.bytes (omega (arith, w, c.requires.1)) in
    let q : List ℕ = take (a.h.len + m) c.put-joined.result.bytes in
    let e : held_bytes a.h ++ a.part.now ≡ q ++ drop m a.part.now =
    split (held_bytes a.h) a.part.now m ∙ ap (λ (x : List ℕ). x ++ drop m a.part.now) (sym (rw n at p.0)) in
    let f : c.run_through-r.result ≡ run_of a.t.ended (a.n - a.t.ended) (is_set a.t.opened) 0 (steps_from a.c 0 0 q) = rw c.is_set.ensures at c.run_through-r.ensures in
    stops a.c a.n a.at a.t a.h a.part.now q _ c.requires.0 l (omega (arith, c.requires.2)) e _ f (met _ (sym c.is_some.ensures ∙ c.if-is_some.true)) _ c.settle.ensures

pub slice_bounds-settle-end-then-r-k : goal.slice_bounds-settle-end-then-r-k
slice_bounds-settle-end-then-r-k c = let a = c.args in
    let m : ℕ = c.min-m.result in
    let lm : length (take m a.part.now) ≡ m = length-take-le m a.part.now (omega arith) in
    let p = c.put-joined.ensures.held in
    let n : c.put-joined.result.len ≡ a.h.len + m = p.1 ∙ ap (λ (i : ℕ). a.h.len + i) lm in
    let lq : length (take (a.h.len + m) c.put-joined.result.bytes) ≡ a.h.len + m = length-take-le (a.h.len + m) c.put-joined.result.bytes (omega (arith, p.2, c.requires.1)) in
    sym lq

pub settle-requires-then-r-k : goal.settle-requires-then-r-k
settle-requires-then-r-k c = let a = c.args in
    let m : ℕ = c.min-m.result in
    let lm : length (take m a.part.now) ≡ m = length-take-le m a.part.now (omega arith) in
    let p = c.put-joined.ensures.held in
    let n : c.put-joined.result.len ≡ a.h.len + m = p.1 ∙ ap (λ (i : ℕ). a.h.len + i) lm in
    let lq : length (take (a.h.len + m) c.put-joined.result.bytes) ≡ a.h.len + m = length-take-le (a.h.len + m) c.put-joined.result.bytes (omega (arith, p.2, c.requires.1)) in
    let w : length a.h.bytes ≡ 32 = c.well_formed.1.1.1.0.1.1.1.0.1.0.1 in
    let l : length (held_bytes a.h) ≡ a.h.len = length-take-le a.h.len a.h.bytes (omega (arith, w, c.requires.1)) in
    let q : List ℕ = take (a.h.len + m) c.put-joined.result.bytes in
    let e : held_bytes a.h ++ a.part.now ≡ q ++ drop m a.part.now =
    split (held_bytes a.h) a.part.now m ∙ ap (λ (x : List ℕ). x ++ drop m a.part.now) (sym (rw n at p.0)) in
    let f : c.run_through-r.result ≡ run_of a.t.ended (a.n - a.t.ended) (is_set a.t.opened) 0 (steps_from a.c 0 0 q) = rw c.is_set.ensures at c.run_through-r.ensures in
    let i = at_rest a.c q 0 _ _ _ _ (omega arith) f in
    (i, omega (arith, lq))

pub returns-then-r-k : goal.returns-then-r-k
returns-then-r-k c = let a = c.args in
    let m : ℕ = c.min-m.result in
    let lm : length (take m a.part.now) ≡ m = length-take-le m a.part.now (omega arith) in
    let p = c.put-joined.ensures.held in
    let n : c.put-joined.result.len ≡ a.h.len + m = p.1 ∙ ap (λ (i : ℕ). a.h.len + i) lm in
    let lq : length (take (a.h.len + m) c.put-joined.result.bytes) ≡ a.h.len + m = length-take-le (a.h.len + m) c.put-joined.result.bytes (omega (arith, p.2, c.requires.1)) in
    let w : length a.h.bytes ≡ 32 = c.well_formed.1.1.1.0.1.1.1.0.1.0.1 in
    let l : length (held_bytes a.h) ≡ a.h.len = length-take-le a.h.len a.h.bytes (omega (arith, w, c.requires.1)) in
    let q : List ℕ = take (a.h.len + m) c.put-joined.result.bytes in
    let e : held_bytes a.h ++ a.part.now ≡ q ++ drop m a.part.now =
    split (held_bytes a.h) a.part.now m ∙ ap (λ (x : List ℕ). x ++ drop m a.part.now) (sym (rw n at p.0)) in
    let f : c.run_through-r.result ≡ run_of a.t.ended (a.n - a.t.ended) (is_set a.t.opened) 0 (steps_from a.c 0 0 q) = rw c.is_set.ensures at c.run_through-r.ensures in
    let i = at_rest a.c q 0 _ _ _ _ (omega arith) f in
    let j = i.1 (unmet _ (sym c.is_some.ensures ∙ c.if-is_some.false)) in
    let k : m ≡ length a.part.now = omega (arith, lq, j) in
    let d : drop m a.part.now ≡ [] = drop_of_length-le a.part.now {i = m} (omega arith) in
    short a.c a.n a.at a.t a.h a.part.now q _ c.requires.0 l (omega (arith, c.requires.2)) e _ f d _ c.settle-then-r-k.ensures

pub settle-requires-2 : goal.settle-requires-2
settle-requires-2 c = let a = c.args in
    let m : ℕ = c.min-m.result in
    let lm : length (take m a.part.now) ≡ m = length-take-le m a.part.now (omega arith) in
    let p = c.put-joined.ensures.held in
    let n : c.put-joined.result.len ≡ a.h.len + m = p.1 ∙ ap (λ (i : ℕ). a.h.len + i) lm in
    let lq : length (take (a.h.len + m) c.put-joined.result.bytes) ≡ a.h.len + m = length-take-le (a.h.len + m) c.put-joined.result.bytes (omega (arith, p.2, c.requires.1)) in
    let w : length a.h.bytes ≡ 32 = c.well_formed.1.1.1.0.1.1.1.0.1.0.1 in
    let l : length (held_bytes a.h) ≡ a.h.len = length-take-le a.h.len a.h.bytes (omega (arith, w, c.requires.1)) in
    let q : List ℕ = take (a.h.len + m) c.put-joined.result.bytes in
    let e : held_bytes a.h ++ a.part.now ≡ q ++ drop m a.part.now =
    split (held_bytes a.h) a.part.now m ∙ ap (λ (x : List ℕ). x ++ drop m a.part.now) (sym (rw n at p.0)) in
    let f : c.run_through-r.result ≡ run_of a.t.ended (a.n - a.t.ended) (is_set a.t.opened) 0 (steps_from a.c 0 0 q) = rw c.is_set.ensures at c.run_through-r.ensures in
    let i = at_rest a.c q 0 _ _ _ _ (omega arith) f in
    (at_rest a.c a.part.now (c.run_through-r.result.place - a.h.len) _ _ _ _ (omega (arith, lq, i.0, c.requires.1)) c.run_through-x.ensures, omega (arith, c.requires.3))

pub returns : goal.returns
returns c = let a = c.args in
    let m : ℕ = c.min-m.result in
    let lm : length (take m a.part.now) ≡ m = length-take-le m a.part.now (omega arith) in
    let p = c.put-joined.ensures.held in
    let n : c.put-joined.result.len ≡ a.h.len + m = p.1 ∙ ap (λ (i : ℕ). a.h.len + i) lm in
    let lq : length (take (a.h.len + m) c.put-joined.result.bytes) ≡ a.h.len + m = length-take-le (a.h.len + m) c.put-joined.result.bytes (omega (arith, p.2, c.requires.1)) in
    let w : length a.h.bytes ≡ 32 = c.well_formed.1.1.1.0.1.1.1.0.1.0.1 in
    let l : length (held_bytes a.h) ≡ a.h.len = length-take-le a.h.len a.h.bytes (omega (arith, w, c.requires.1)) in
    let q : List ℕ = take (a.h.len + m) c.put-joined.result.bytes in
    let e : held_bytes a.h ++ a.part.now ≡ q ++ drop m a.part.now =
    split (held_bytes a.h) a.part.now m ∙ ap (λ (x : List ℕ). x ++ drop m a.part.now) (sym (rw n at p.0)) in
    let f : c.run_through-r.result ≡ run_of a.t.ended (a.n - a.t.ended) (is_set a.t.opened) 0 (steps_from a.c 0 0 q) = rw c.is_set.ensures at c.run_through-r.ensures in
    let i = at_rest a.c q 0 _ _ _ _ (omega arith) f in
    goes_on a.c a.n a.at a.t a.h a.part.now q _ c.requires.0 l (omega (arith, c.requires.2)) e _ f (unmet _ (sym c.is_some.ensures ∙ c.if-is_some.false)) (omega arith) (omega (arith, i.0)) _ c.run_through-x.ensures _ c.settle-2.ensures
