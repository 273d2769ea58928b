-- `edit::sought_of` meets its contract: ASK for a length beyond the buffer, else what was sought in its first bytes. Assumes nothing.
use mathlib.Core.Path.{sym, ◌∙◌, ap}
use native.Mathlib.Omega.{arith}
use lib.Seq.{length-take-le}
use Rattle.edit.proofs.Cases as cases
use borrow.Author.Rules.{rules}
use Rattle.edit.proofs.sought_of.Goals as goal
use Rattle.std.specs.Prelude.{Err}

pub returns-then-room-len : goal.returns-then-room-len
returns-then-room-len c = record { equal = ap Err c.refuse.ensures ∙ cases.too_long c.args.buf.now c.args.len c.args.g c.args.v c.if-room-len.true; bounded = tt }

pub slice_bounds-sought_in-end : goal.slice_bounds-sought_in-end
slice_bounds-sought_in-end c = sym (length-take-le c.args.len c.args.buf.now (omega arith))

pub returns : goal.returns
returns c = record { equal = cases.in_buffer c.args.buf.now c.args.len c.args.g c.args.v c.if-room-len.false _ c.sought_in.ensures.equal; bounded = cases.inside c.args.buf.now c.args.len c.args.v c.if-room-len.false c.sought_in.result c.sought_in.ensures.bounded }
