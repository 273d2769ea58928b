-- `mapping::description_start` meets its contract: the steps that are left lead, at each turn, to where all steps lead. Assumes nothing.
use mathlib.Core.Path.{refl, sym, ◌∙◌}
use mathlib.Core.List.{[]}
use Rattle.table.proofs.Walking.{walked_token, walked_along, walked_malformed, walked_out}
use Rattle.mapping.proofs.Walking.{past_other, past_end, stops, place_past, from_front}
use Rattle.mapping.proofs.description_start.Goals as goal

pub returns-in_default-step : goal.returns-in_default-step
returns-in_default-step c = (sym (stops _ _ _ _ _ (walked_malformed _ _ _ _ _ c.in-Some.is c.in_default-step.is c.next.ensures.steps).0) ∙ c.loop-left.invariant.2, c.loop-left.invariant.1)

pub loop-left-preserved-in-End : goal.loop-left-preserved-in-End
loop-left-preserved-in-End c =
    let w = walked_along _ _ _ _ _ _ _ _ c.in-Some.is c.in-Ok.is c.next.ensures.steps c.loop-left.invariant.0 in
    (w.0, w.2, sym (past_end _ _ _ _ _ c.loop-left-test.true (walked_token _ _ _ _ _ _ _ c.in-Some.is c.in-Ok.is c.in-End.is c.next.ensures.steps)) ∙ c.loop-left.invariant.2)

pub loop-left-preserved : goal.loop-left-preserved
loop-left-preserved c =
    let w = walked_along _ _ _ _ _ _ _ _ c.in-Some.is c.in-Ok.is c.next.ensures.steps c.loop-left.invariant.0 in
    (w.0, w.2, sym (past_other _ _ _ _ _ _ c.in_default-token.not-End c.loop-left-test.true (walked_token _ _ _ _ _ _ _ c.in-Some.is c.in-Ok.is refl c.next.ensures.steps)) ∙ c.loop-left.invariant.2)

pub returns-in_default : goal.returns-in_default
returns-in_default c = (sym (place_past _ _ _ [] (walked_out _ _ _ c.in_default.is c.next.ensures.steps).0) ∙ c.loop-left.invariant.2, c.loop-left.invariant.1)
