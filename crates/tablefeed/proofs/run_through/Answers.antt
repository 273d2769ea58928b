-- `tablefeed::run_through` meets its contract: the steps that are left come at each turn to where all of them come. Assumes nothing.
use mathlib.Core.Path.{sym, ◌∙◌}
use native.Mathlib.Omega.{arith}
use Rattle.table.proofs.Walking.{walked_token, walked_along, walked_malformed, walked_out, along_end}
use Rattle.tablefeed.proofs.Cases.{value, start, start_bad, end, end_bad, malformed, trailing, ended}
use Rattle.tablefeed.proofs.run_through.Goals as goal

pub returns-in_default : goal.returns-in_default
returns-in_default c = c.going_at.ensures ∙ sym (ended _ _ _ _ _ (walked_out _ _ _ c.in_default.is c.next.ensures.steps).0) ∙ c.loop-g.invariant.1

pub returns-in-Err : goal.returns-in-Err
returns-in-Err c = c.unread_at.ensures ∙ sym (malformed _ _ _ _ (omega arith) _ _ _ (walked_malformed _ _ _ _ _ c.in-Some.is c.in-Err.is c.next.ensures.steps).0) ∙ c.loop-g.invariant.1

pub loop-g-preserved-in-Value : goal.loop-g-preserved-in-Value
loop-g-preserved-in-Value c =
    let w = walked_along _ _ _ _ _ _ _ _ c.in-Some.is c.in-Ok.is c.next.ensures.steps c.loop-g.invariant.0 in
    (w.0, sym (value _ _ _ _ (omega arith) _ _ _ _ (walked_token _ _ _ _ _ _ _ c.in-Some.is c.in-Ok.is c.in-Value.is c.next.ensures.steps)) ∙ c.loop-g.invariant.1)

pub misplaced-requires : goal.misplaced-requires
misplaced-requires c = let w = walked_along _ _ _ _ _ _ _ _ c.in-Some.is c.in-Ok.is c.next.ensures.steps c.loop-g.invariant.0 in omega (arith, w.1)

pub returns-then-after : goal.returns-then-after
returns-then-after c = c.misplaced.ensures ∙ sym (start_bad _ _ _ _ (omega arith) _ _ _ (walked_token _ _ _ _ _ _ _ c.in-Some.is c.in-Ok.is c.in-Start.is c.next.ensures.steps) c.if-after.true) ∙ c.loop-g.invariant.1

pub loop-g-preserved-else-after : goal.loop-g-preserved-else-after
loop-g-preserved-else-after c =
    let w = walked_along _ _ _ _ _ _ _ _ c.in-Some.is c.in-Ok.is c.next.ensures.steps c.loop-g.invariant.0 in
    (w.0, sym (start _ _ _ _ (omega arith) _ _ _ (walked_token _ _ _ _ _ _ _ c.in-Some.is c.in-Ok.is c.in-Start.is c.next.ensures.steps) c.if-after.false) ∙ c.loop-g.invariant.1)

pub misplaced-requires-then-after-2 : goal.misplaced-requires-then-after-2
misplaced-requires-then-after-2 c = let w = walked_along _ _ _ _ _ _ _ _ c.in-Some.is c.in-Ok.is c.next.ensures.steps c.loop-g.invariant.0 in omega (arith, w.1)

pub returns-then-after-2 : goal.returns-then-after-2
returns-then-after-2 c = c.misplaced-then-after-2.ensures ∙ sym (end_bad _ _ _ _ (omega arith) _ _ _ (walked_token _ _ _ _ _ _ _ c.in-Some.is c.in-Ok.is c.in-End.is c.next.ensures.steps) c.if-after-2.true) ∙ c.loop-g.invariant.1

pub loop-g-preserved : goal.loop-g-preserved
loop-g-preserved c =
    let w = walked_along _ _ _ _ _ _ _ _ c.in-Some.is c.in-Ok.is c.next.ensures.steps c.loop-g.invariant.0 in
    (w.0, sym (end _ _ _ _ (omega arith) _ _ _ (walked_token _ _ _ _ _ _ _ c.in-Some.is c.in-Ok.is c.in-End.is c.next.ensures.steps) c.if-after-2.false) ∙ c.loop-g.invariant.1)

pub returns-then-at-s : goal.returns-then-at-s
returns-then-at-s c = c.stopped_at.ensures ∙ sym (trailing _ _ _ _ _ c.loop-g.steps c.loop-g.invariant.0 (omega arith) c.if-at-s.true) ∙ c.loop-g.invariant.1

pub returns : goal.returns
returns c = c.going_at-2.ensures ∙ sym (ended _ _ _ _ _ (along_end _ _ c.loop-g.steps c.loop-g.invariant.0 (omega arith))) ∙ c.loop-g.invariant.1
