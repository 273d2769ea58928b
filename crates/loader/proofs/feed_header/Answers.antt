-- `loader::feed_header` meets its contract. Assumes an open record with the header's first bytes held, and a piece within the file limit.
use native.Mathlib.Omega.{arith}
use mathlib.Core.Path.{◌≡◌, sym, ◌∙◌}
use mathlib.Core.List.{◌++◌}
use Prim.Native.Nat.{◌-◌}
use lib.ListN.{length, take, length-map}
use lib.Seq.{length-take-le}
use Rattle.unfinished.specs.Reading.{held_bytes}
use Rattle.unfinished.proofs.Holding.{none_len}
use Rattle.loader.proofs.Cases.{head_more, head_whole}
use borrow.Author.Rules.{rules}
use Rattle.loader.proofs.feed_header.Goals as goal

pub returns-then-n-rest : goal.returns-then-n-rest
returns-then-n-rest c = head_more c.args.l c.args.piece.now (omega arith) _ c.grow.ensures

pub slice_bounds-put-end : goal.slice_bounds-put-end
slice_bounds-put-end c = sym (length-take-le (32 - c.args.l.total) c.args.piece.now (omega arith))

pub put-whole-requires : goal.put-whole-requires
put-whole-requires c = let m = length-take-le (32 - c.args.l.total) c.args.piece.now (omega arith) in omega arith

pub feed_body-requires : goal.feed_body-requires
feed_body-requires c = let n = none_len _ c.none.ensures in ((omega arith, omega arith), λ h. n)

pub returns : goal.returns
returns c = let w : length c.args.l.held.bytes ≡ 32 = c.well_formed.0.1.1.1.1.1.0.1.1.1.0.1.0.1 in let g : length (held_bytes c.args.l.held) ≡ c.args.l.held.len = length-take-le c.args.l.held.len c.args.l.held.bytes (omega arith) in let m = length-take-le (32 - c.args.l.total) c.args.piece.now (omega arith) in let p = c.put-whole.ensures.held in let n : c.put-whole.result.len ≡ 32 = p.1 ∙ omega arith in let e : take 32 c.put-whole.result.bytes ≡ held_bytes c.args.l.held ++ take (32 - c.args.l.total) c.args.piece.now = rw n at p.0 in head_whole c.args.l c.args.piece.now (omega arith) (omega arith) (g ∙ c.requires.1) _ e p.2 _ c.none.ensures _ c.feed_body.ensures
