-- `transcode::table_len` meets its contract: the steps that are left give at each turn what all steps give. Assumes a tail no longer than a file.
use mathlib.Core.Path.{refl, sym, ◌∙◌}
use mathlib.Core.List.{[]}
use native.Mathlib.Omega.{arith}
use Rattle.coding.proofs.Codings.{mark_small}
use Rattle.table.proofs.Walking.{walked_token, walked_along, walked_malformed, walked_out, steps_begin}
use Rattle.transcode.proofs.Turns.{value_more, value_not, mark_more, malformed_no_more, past_no_more, length_begins}
use Rattle.transcode.proofs.table_len.Goals as goal

pub loop-step-init : goal.loop-step-init
loop-step-init c = rw c.into_iter-step-iterator.ensures.into_iter_gives
    (let b = c.new-step-items.ensures in ((b.1, b.2), omega arith, omega arith, c.mark_len-mark.ensures, length_begins _ _ _ _ (steps_begin _ _ _ c.new-step-items.result b)))

pub returns-in_default-clause-equal : goal.returns-in_default-clause-equal
returns-in_default-clause-equal c = sym (malformed_no_more _ _ _ _ _ _ (walked_malformed _ _ _ _ _ c.in-Some.is c.in_default.is c.next.ensures.steps).0) ∙ c.loop-step.invariant.4

pub returns-else-carries-clause-equal : goal.returns-else-carries-clause-equal
returns-else-carries-clause-equal c =
    sym (value_not _ _ _ _ _ _ _ (walked_token _ _ _ _ _ _ _ c.in-Some.is c.in-Ok.is c.in-Value.is c.next.ensures.steps) (sym c.carries.ensures ∙ c.if-carries.false)) ∙ c.loop-step.invariant.4

pub returns-else-carries-clause-bounded : goal.returns-else-carries-clause-bounded
returns-else-carries-clause-bounded c = let w = walked_along _ _ _ _ _ _ _ _ c.in-Some.is c.in-Ok.is c.next.ensures.steps c.loop-step.invariant.0 in omega (arith, w.1, w.2)

pub overflow_add-n-in_default-token : goal.overflow_add-n-in_default-token
overflow_add-n-in_default-token c = let m = mark_small c.args.to in omega (arith, c.loop-step.invariant.3)

pub loop-step-preserved-then-carries : goal.loop-step-preserved-then-carries
loop-step-preserved-then-carries c =
    let w = walked_along _ _ _ _ _ _ _ _ c.in-Some.is c.in-Ok.is c.next.ensures.steps c.loop-step.invariant.0 in (
      w.0,
      w.2,
      omega (arith, w.1, c.value_len-n.ensures.1),
      c.loop-step.invariant.3,
      sym (value_more _ _ _ _ _ _ _ _ (walked_token _ _ _ _ _ _ _ c.in-Some.is c.in-Ok.is c.in-Value.is c.next.ensures.steps) (sym c.carries.ensures ∙ c.if-carries.true) c.value_len-n.ensures.0) ∙ c.loop-step.invariant.4,
    )

pub loop-step-preserved : goal.loop-step-preserved
loop-step-preserved c =
    let w = walked_along _ _ _ _ _ _ _ _ c.in-Some.is c.in-Ok.is c.next.ensures.steps c.loop-step.invariant.0 in
    let m = mark_small c.args.to in (
      w.0,
      w.2,
      omega (arith, w.1, c.loop-step.invariant.3),
      c.loop-step.invariant.3,
      sym (mark_more _ _ _ _ _ _ _ _ c.in_default-token.not-Value (walked_token _ _ _ _ _ _ _ c.in-Some.is c.in-Ok.is refl c.next.ensures.steps) c.loop-step.invariant.3) ∙ c.loop-step.invariant.4,
    )

pub returns-clause-equal : goal.returns-clause-equal
returns-clause-equal c = sym (past_no_more _ _ _ _ [] (walked_out _ _ _ c.in-None.is c.next.ensures.steps).0) ∙ c.loop-step.invariant.4
