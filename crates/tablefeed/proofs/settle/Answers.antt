-- `tablefeed::settle` meets its contract. Assumes a place within the bytes, at most three behind it where the run goes on, and bytes within the
-- file limit.
use native.Mathlib.Omega.{arith}
use mathlib.Core.Path.{sym, ◌∙◌, ap}
use Rattle.base.proofs.Parts.{rest_all, rest_length}
use Rattle.unfinished.specs.Reading.{held_of}
use Rattle.tablefeed.proofs.Feeding.{met, unmet, halts, goes}
use Rattle.tablefeed.proofs.settle.Goals as goal

pub returns-then-is_some : goal.returns-then-is_some
returns-then-is_some c = rw c.halt_number.ensures (halts c.args.s.now c.args.at c.args.r _ 0 c.flag_of.ensures (met _ (sym c.is_some.ensures ∙ c.if-is_some.true)) _ c.none.ensures)

pub hold-requires : goal.hold-requires
hold-requires c = let p = c.requires.0.1 (unmet _ (sym c.is_some.ensures ∙ c.if-is_some.false)) in let l = rest_length c.args.s.now c.args.r.place in omega (arith, p, l)

pub returns : goal.returns
returns c = rw c.halt_number.ensures (goes c.args.s.now c.args.at c.args.r _ 0 c.flag_of.ensures (unmet _ (sym c.is_some.ensures ∙ c.if-is_some.false)) _ (c.hold.ensures ∙ ap held_of (rest_all c.args.s.now _)))
