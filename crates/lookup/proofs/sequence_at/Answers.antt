-- `lookup::sequence_at` meets its contract: what is left of the values against the steps that are left gives at each turn what all of them give.
use mathlib.Core.Path.{refl, sym, ◌∙◌}
use mathlib.Core.List.{[]}
use native.Mathlib.Omega.{arith}
use Rattle.table.proofs.Walking.{walked_token, walked_malformed, walked_out}
use Rattle.lookup.proofs.Looking.{over_long, differs, alike, at_mark, at_malformed, past_all}
use Rattle.lookup.proofs.sequence_at.Goals as goal

pub returns-in_default : goal.returns-in_default
returns-in_default c = at_malformed _ _ _ _ (walked_malformed _ _ _ _ _ c.in-Some.is c.in_default.is c.next.ensures.steps).0 ∙ c.loop-step.invariant.1

pub returns-in_default-token : goal.returns-in_default-token
returns-in_default-token c = at_mark c.args.vs.now c.loop-step.m _ _ _ _ c.in_default-token.not-Value (walked_token _ _ _ _ _ _ _ c.in-Some.is c.in-Ok.is refl c.next.ensures.steps) ∙ c.loop-step.invariant.1

pub returns-then-vs-m : goal.returns-then-vs-m
returns-then-vs-m c = over_long c.args.vs.now c.loop-step.m _ _ _ _ (walked_token _ _ _ _ _ _ _ c.in-Some.is c.in-Ok.is c.in-Value.is c.next.ensures.steps) c.if-vs-m.true ∙ c.loop-step.invariant.1

pub returns-then-vs-m-2 : goal.returns-then-vs-m-2
returns-then-vs-m-2 c = differs c.args.vs.now c.loop-step.m _ _ _ _ (walked_token _ _ _ _ _ _ _ c.in-Some.is c.in-Ok.is c.in-Value.is c.next.ensures.steps) c.if-vs-m.false c.if-vs-m-2.true ∙ c.loop-step.invariant.1

pub loop-step-preserved : goal.loop-step-preserved
loop-step-preserved c = (omega arith, sym (alike c.args.vs.now c.loop-step.m _ _ _ _ (walked_token _ _ _ _ _ _ _ c.in-Some.is c.in-Ok.is c.in-Value.is c.next.ensures.steps) c.if-vs-m.false c.if-vs-m-2.false) ∙ c.loop-step.invariant.1)

pub returns : goal.returns
returns c = past_all _ _ [] (walked_out _ _ _ c.in-None.is c.next.ensures.steps).0 ∙ c.loop-step.invariant.1
