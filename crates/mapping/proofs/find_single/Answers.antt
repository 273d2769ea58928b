-- `mapping::find_single` meets its contract: the steps that are left give at each turn what all give. Assumes that the start is a place of the tail.
use mathlib.Core.Path.{refl, sym, ◌∙◌}
use mathlib.Core.List.{[]}
use Rattle.table.proofs.Telling.{is_value}
use Rattle.table.proofs.Walking.{walked, walked_token, walked_along, walked_out}
use Rattle.mapping.proofs.Walking.{found, other, none_other, none_past}
use Rattle.mapping.proofs.find_single.Goals as goal

pub returns-in_default-clause-equal : goal.returns-in_default-clause-equal
returns-in_default-clause-equal c = sym (none_other _ _ _ _ _ (sym c.value_of.ensures ∙ c.in_default.is) (walked _ _ _ _ c.in-Some.is c.next.ensures.steps)) ∙ c.loop-step.invariant.2

pub returns-then-w-v : goal.returns-then-w-v
returns-then-w-v c =
    let x = is_value _ _ _ (sym c.value_of.ensures ∙ c.in-Some-value_of.is) in
    let w = walked_along _ _ _ _ _ _ _ _ c.in-Some.is x c.next.ensures.steps c.loop-step.invariant.0 in
    record { equal = sym (found _ _ _ _ _ _ c.if-w-v.true (walked_token _ _ _ _ _ _ _ c.in-Some.is x refl c.next.ensures.steps)) ∙ c.loop-step.invariant.2; bounded = (w.1, w.2) }

pub loop-step-preserved : goal.loop-step-preserved
loop-step-preserved c =
    let x = is_value _ _ _ (sym c.value_of.ensures ∙ c.in-Some-value_of.is) in
    let w = walked_along _ _ _ _ _ _ _ _ c.in-Some.is x c.next.ensures.steps c.loop-step.invariant.0 in
    (w.0, w.2, sym (other _ _ _ _ _ _ c.if-w-v.false (walked_token _ _ _ _ _ _ _ c.in-Some.is x refl c.next.ensures.steps)) ∙ c.loop-step.invariant.2)

pub returns-clause-equal : goal.returns-clause-equal
returns-clause-equal c = sym (none_past _ _ _ [] (walked_out _ _ _ c.in-None.is c.next.ensures.steps).0) ∙ c.loop-step.invariant.2
