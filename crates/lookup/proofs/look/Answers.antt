-- `lookup::look` meets its contract: the check and what is found go on together at each turn.
use mathlib.Core.Path.{sym, ◌∙◌, ap, subst}
use Rattle.table.specs.Skipping.{NoValue}
use Rattle.table.proofs.Telling.{is_value, no_value}
use Rattle.coding.specs.Reading.{key_of}
use native.Mathlib.Omega.{arith}
use Rattle.lookup.proofs.Passing.{goes_fresh, goes_stands, goes_skipped, goes_halted, told_ended, told_refused, goes_next, next_stands, told_found}
use Rattle.lookup.specs.Reading.{is_sequence, values_of}
use Rattle.lookup.proofs.look.Goals as goal

pub loop-left-init : goal.loop-left-init
loop-left-init c = goes_fresh c.args.c c.args.tail.now c.args.n (is_sequence c.args.asked) (values_of c.args.asked)

pub skip-p-requires : goal.skip-p-requires
skip-p-requires c = goes_stands c.args.c c.args.tail.now c.args.n (is_sequence c.args.asked) (values_of c.args.asked) c.loop-left.at c.loop-left.left c.loop-left.start c.loop-left.invariant c.loop-left-test.true

pub returns-then-left-eq0 : goal.returns-then-left-eq0
returns-then-left-eq0 c = told_ended c.args.c c.args.tail.now c.args.n (is_sequence c.args.asked) (values_of c.args.asked) c.skip-p.result.at c.skip-p.result.left c.skip-p.result.start (goes_skipped c.args.c c.args.tail.now c.args.n (is_sequence c.args.asked) (values_of c.args.asked) c.loop-left.at c.loop-left.left c.loop-left.start c.loop-left.invariant c.loop-left-test.true _ c.requires (c.key_of-key.ensures ∙ ap (key_of c.args.c) c.first_of.ensures) _ c.skip-p.ensures.0 c.skip-p.ensures.1) c.if-left-eq0.true _ c.ended.ensures _ c.looked_by.ensures

pub overflow_sub-n : goal.overflow_sub-n
overflow_sub-n c = let w = goes_skipped c.args.c c.args.tail.now c.args.n (is_sequence c.args.asked) (values_of c.args.asked) c.loop-left.at c.loop-left.left c.loop-left.start c.loop-left.invariant c.loop-left-test.true _ c.requires (c.key_of-key.ensures ∙ ap (key_of c.args.c) c.first_of.ensures) _ c.skip-p.ensures.0 c.skip-p.ensures.1 in w.1

pub refused-requires : goal.refused-requires
refused-requires c = let w = goes_skipped c.args.c c.args.tail.now c.args.n (is_sequence c.args.asked) (values_of c.args.asked) c.loop-left.at c.loop-left.left c.loop-left.start c.loop-left.invariant c.loop-left-test.true _ c.requires (c.key_of-key.ensures ∙ ap (key_of c.args.c) c.first_of.ensures) _ c.skip-p.ensures.0 c.skip-p.ensures.1 in (w.0.0, subst NoValue c.step_at.ensures.0 (no_value _ (sym c.value_of.ensures ∙ c.in_default.is)))

pub returns-in_default : goal.returns-in_default
returns-in_default c = told_refused c.args.c c.args.tail.now c.args.n (is_sequence c.args.asked) (values_of c.args.asked) c.skip-p.result.at c.skip-p.result.left c.skip-p.result.start (goes_skipped c.args.c c.args.tail.now c.args.n (is_sequence c.args.asked) (values_of c.args.asked) c.loop-left.at c.loop-left.left c.loop-left.start c.loop-left.invariant c.loop-left-test.true _ c.requires (c.key_of-key.ensures ∙ ap (key_of c.args.c) c.first_of.ensures) _ c.skip-p.ensures.0 c.skip-p.ensures.1) c.if-left-eq0.false _ (goes_halted c.args.c c.args.tail.now c.args.n (is_sequence c.args.asked) (values_of c.args.asked) c.loop-left.at c.loop-left.left c.loop-left.start c.loop-left.invariant c.loop-left-test.true _ c.requires (c.key_of-key.ensures ∙ ap (key_of c.args.c) c.first_of.ensures) _ c.skip-p.ensures.0 c.skip-p.ensures.1) (subst NoValue c.step_at.ensures.0 (no_value _ (sym c.value_of.ensures ∙ c.in_default.is))) _ c.refused.ensures _ c.looked_by-in_default.ensures

pub begins-requires : goal.begins-requires
begins-requires c = c.skip-p.ensures.1

pub overflow_sub-n-then-begins : goal.overflow_sub-n-then-begins
overflow_sub-n-then-begins c = let w = goes_skipped c.args.c c.args.tail.now c.args.n (is_sequence c.args.asked) (values_of c.args.asked) c.loop-left.at c.loop-left.left c.loop-left.start c.loop-left.invariant c.loop-left-test.true _ c.requires (c.key_of-key.ensures ∙ ap (key_of c.args.c) c.first_of.ensures) _ c.skip-p.ensures.0 c.skip-p.ensures.1 in w.1

pub check_from-requires : goal.check_from-requires
check_from-requires c = let o = rw (is_value _ _ _ (sym c.value_of.ensures ∙ c.in-Some.is)) at c.step_at.ensures.1 in next_stands c.args.c c.args.tail.now c.args.n (is_sequence c.args.asked) (values_of c.args.asked) c.skip-p.result.at c.skip-p.result.left c.skip-p.result.start (goes_skipped c.args.c c.args.tail.now c.args.n (is_sequence c.args.asked) (values_of c.args.asked) c.loop-left.at c.loop-left.left c.loop-left.start c.loop-left.invariant c.loop-left-test.true _ c.requires (c.key_of-key.ensures ∙ ap (key_of c.args.c) c.first_of.ensures) _ c.skip-p.ensures.0 c.skip-p.ensures.1) c.if-left-eq0.false c.well_formed.1.0.1 _ _ o _ c.begins.ensures _ c.cursor_at.ensures

pub returns-then-begins : goal.returns-then-begins
returns-then-begins c = let o = rw (is_value _ _ _ (sym c.value_of.ensures ∙ c.in-Some.is)) at c.step_at.ensures.1 in told_found c.args.c c.args.tail.now c.args.n (is_sequence c.args.asked) (values_of c.args.asked) c.skip-p.result.at c.skip-p.result.left c.skip-p.result.start (goes_skipped c.args.c c.args.tail.now c.args.n (is_sequence c.args.asked) (values_of c.args.asked) c.loop-left.at c.loop-left.left c.loop-left.start c.loop-left.invariant c.loop-left-test.true _ c.requires (c.key_of-key.ensures ∙ ap (key_of c.args.c) c.first_of.ensures) _ c.skip-p.ensures.0 c.skip-p.ensures.1) c.if-left-eq0.false c.well_formed.1.0.1 _ _ o _ c.begins.ensures c.if-begins.true _ c.cursor_at.ensures _ c.check_from.ensures _ c.looked_by-then-begins.ensures

pub loop-left-smaller : goal.loop-left-smaller
loop-left-smaller c = let o = rw (is_value _ _ _ (sym c.value_of.ensures ∙ c.in-Some.is)) at c.step_at.ensures.1 in omega (arith, o.0, o.1, c.skip-p.ensures.2)

pub loop-left-preserved : goal.loop-left-preserved
loop-left-preserved c = let o = rw (is_value _ _ _ (sym c.value_of.ensures ∙ c.in-Some.is)) at c.step_at.ensures.1 in goes_next c.args.c c.args.tail.now c.args.n (is_sequence c.args.asked) (values_of c.args.asked) c.skip-p.result.at c.skip-p.result.left c.skip-p.result.start (goes_skipped c.args.c c.args.tail.now c.args.n (is_sequence c.args.asked) (values_of c.args.asked) c.loop-left.at c.loop-left.left c.loop-left.start c.loop-left.invariant c.loop-left-test.true _ c.requires (c.key_of-key.ensures ∙ ap (key_of c.args.c) c.first_of.ensures) _ c.skip-p.ensures.0 c.skip-p.ensures.1) c.if-left-eq0.false c.well_formed.1.0.1 _ _ o _ c.begins.ensures c.if-begins.false

pub returns : goal.returns
returns c = told_ended c.args.c c.args.tail.now c.args.n (is_sequence c.args.asked) (values_of c.args.asked) c.loop-left.at c.loop-left.left c.loop-left.start c.loop-left.invariant c.loop-left-test.false _ c.ended-2.ensures _ c.looked_by-2.ensures
