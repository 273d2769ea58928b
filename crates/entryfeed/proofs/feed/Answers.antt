-- `entryfeed::feed` meets its contract. Assumes less than an entry held, and a part within the file limit.
use native.Mathlib.Omega.{arith}
use mathlib.Core.Path.{◌≡◌, sym, ◌∙◌}
use mathlib.Core.List.{◌++◌}
use Prim.Native.Nat.{◌-◌}
use lib.ListN.{length, take}
use lib.Seq.{length-take-le}
use Rattle.unfinished.specs.Reading.{held_bytes}
use Rattle.entryfeed.proofs.Feeding.{none_held, still, joined}
use Rattle.entryfeed.proofs.feed.Goals as goal

pub returns-then-k-eq0 : goal.returns-then-k-eq0
returns-then-k-eq0 c = let w : length c.args.h.bytes ≡ 32 = c.well_formed.1.1.0.1.1.1.0.1.0.1 in
    let l : length (held_bytes c.args.h) ≡ c.args.h.len = length-take-le c.args.h.len c.args.h.bytes (omega arith) in
    none_held _ _ c.args.h _ c.args.part.now l c.if-k-eq0.true _ c.from_entry.ensures

pub returns-then-part-rest : goal.returns-then-part-rest
returns-then-part-rest c = let w : length c.args.h.bytes ≡ 32 = c.well_formed.1.1.0.1.1.1.0.1.0.1 in
    let l : length (held_bytes c.args.h) ≡ c.args.h.len = length-take-le c.args.h.len c.args.h.bytes (omega arith) in
    still _ _ c.args.h _ c.args.part.now l (omega arith) _ c.grow.ensures

pub slice_bounds-put-end : goal.slice_bounds-put-end
slice_bounds-put-end c = sym (length-take-le (18 - c.args.h.len) c.args.part.now (omega arith))

pub put-whole-requires : goal.put-whole-requires
put-whole-requires c = let l = length-take-le (18 - c.args.h.len) c.args.part.now (omega arith) in omega arith

pub slice_bounds-more_sums-end : goal.slice_bounds-more_sums-end
slice_bounds-more_sums-end c = let p = c.put-whole.ensures.held in sym (length-take-le 18 c.put-whole.result.bytes (omega (arith, p.2)))

pub more_sums-y-requires : goal.more_sums-y-requires
more_sums-y-requires c = let p = c.put-whole.ensures.held in let l = length-take-le 18 c.put-whole.result.bytes (omega (arith, p.2)) in (omega arith, omega arith)

pub returns : goal.returns
returns c = let w : length c.args.h.bytes ≡ 32 = c.well_formed.1.1.0.1.1.1.0.1.0.1 in
    let l : length (held_bytes c.args.h) ≡ c.args.h.len = length-take-le c.args.h.len c.args.h.bytes (omega arith) in
    let p = c.put-whole.ensures.held in
    let m = length-take-le (18 - c.args.h.len) c.args.part.now (omega arith) in
    let n : c.put-whole.result.len ≡ 18 = p.1 ∙ omega arith in
    let e : take 18 c.put-whole.result.bytes ≡ held_bytes c.args.h ++ take (18 - c.args.h.len) c.args.part.now = rw n at p.0 in
    joined _ _ c.args.h _ c.args.part.now l (omega arith) (omega arith) (omega arith) _ e _ c.more_sums-y.ensures _ c.from_entry-2.ensures
