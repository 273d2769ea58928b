-- What is written stands within the buffer.
use Rattle.std.proofs.Common.{arith, ◌≤◌, sym, length}
use Rattle.std.proofs.lemmas.List.{length-take-le}
use Rattle.listing.proofs.Meaning.{listed_inside}
use Rattle.fontlist.proofs.show.Goals as goal

pub slice_bounds-write_all-end : goal.slice_bounds-write_all-end
slice_bounds-write_all-end g c = let h : c.in-Ok.n ≤ length c.args.out.now = listed_inside _ _ _ (sym c.in-Ok.ensures.equal.0) in omega arith

pub slice_bounds-write_all-end-in-Ok : goal.slice_bounds-write_all-end-in-Ok
slice_bounds-write_all-end-in-Ok g c = let h : c.in-Ok.n ≤ length c.args.out.now = listed_inside _ _ _ (sym c.in-Ok.ensures.equal.0) in sym (length-take-le _ _ (omega arith))
