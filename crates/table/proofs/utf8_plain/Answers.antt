-- `table::utf8_plain` meets its contract: the first byte decides, or the plain length of a value. Assumes nothing.
use mathlib.Core.Path.{refl, sym, ◌∙◌}
use native.Mathlib.Omega.{arith}
use Rattle.coding.specs.declared.Coding.TheVariants.{Utf8}
use Rattle.table.proofs.Firsts.{first_one, first_start, first_end}
use Rattle.table.proofs.Plainly.{plained, with_key, without_key, one_key, length_none, length_some}
use Rattle.table.proofs.utf8_plain.Goals as goal

pub returns-then-from-key : goal.returns-then-from-key
returns-then-from-key c = plained Utf8 c.args.key c.args.s.now c.args.at _ _ (first_one c.args.s.now c.args.at c.requires c.if-b-lt128.true _ c.from.ensures) (with_key _ _ Utf8 _ (one_key _ (omega (arith, c.from.ensures)) ∙ c.if-from-key.true))

pub returns-then-b-lt128 : goal.returns-then-b-lt128
returns-then-b-lt128 c = plained Utf8 c.args.key c.args.s.now c.args.at _ _ (first_one c.args.s.now c.args.at c.requires c.if-b-lt128.true _ c.from.ensures) (without_key _ _ Utf8 _ (λ z. c.if-from-key.false (sym (one_key _ (omega (arith, c.from.ensures))) ∙ z)))

pub returns-then-b : goal.returns-then-b
returns-then-b c = plained Utf8 c.args.key c.args.s.now c.args.at _ _ (first_end c.args.s.now c.args.at c.requires c.if-b.true) refl

pub returns-then-b-2 : goal.returns-then-b-2
returns-then-b-2 c = plained Utf8 c.args.key c.args.s.now c.args.at _ _ (first_start c.args.s.now c.args.at c.requires c.if-b-2.true) refl

pub returns-in_default : goal.returns-in_default
returns-in_default c = length_none c.args.s.now c.args.at c.args.key c.requires c.if-b-2.false c.if-b.false _ c.plain_len.ensures.0 c.in_default.is

pub returns : goal.returns
returns c = length_some c.args.s.now c.args.at c.args.key c.requires c.if-b-2.false c.if-b.false _ c.plain_len.ensures.0 _ c.in-Some.is
