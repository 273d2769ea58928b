-- `Held::grow` meets its contract. Assumes that the bytes fit.
use native.Mathlib.Omega.{arith}
use mathlib.Core.Path.{sym, ◌∙◌, ap}
use lib.Seq.{length-take-le}
use Rattle.unfinished.specs.Reading.{held_of}
use Rattle.unfinished.proofs.Held.grow.Goals as goal

pub slice_bounds-bytes-end : goal.slice_bounds-bytes-end
slice_bounds-bytes-end c = let p = c.put-g.ensures.held in omega (arith, p.1, p.2)

pub slice_bounds-hold-end : goal.slice_bounds-hold-end
slice_bounds-hold-end c = let p = c.put-g.ensures.held in sym (length-take-le c.put-g.result.len c.put-g.result.bytes (omega (arith, p.1, p.2)))

pub hold-requires : goal.hold-requires
hold-requires c = let p = c.put-g.ensures.held in let l = length-take-le c.put-g.result.len c.put-g.result.bytes (omega (arith, p.1, p.2)) in omega (arith, l, p.1)

pub returns : goal.returns
returns c = c.hold.ensures ∙ ap held_of c.put-g.ensures.held.0
