-- `Items::next` meets its contract: by the step. Assumes nothing.
use mathlib.Core.List.{[]}
use Rattle.table.proofs.Telling.{told_value, told_start, told_end, told_malformed, told_none}
use Rattle.table.proofs.Walking.{walked_token, walked_out, walked_malformed}
use Rattle.table.proofs.ItemsIterator.next.Goals as goal

pub returns-in_err-step-clause-steps : goal.returns-in_err-step-clause-steps
returns-in_err-step-clause-steps c =
    let w = walked_out _ _ _ c.in_err-step.was c.next.ensures.steps in
    rw c.from_residual.ensures (told_none _ _ [] w.0, told_none _ _ [] w.1)

pub returns-in_default-clause-steps : goal.returns-in_default-clause-steps
returns-in_default-clause-steps c =
    let w = walked_malformed _ _ _ _ _ c.in_ok-step.was c.in_default.is c.next.ensures.steps in
    (told_malformed _ _ _ c.in_default.field-0 w.0, told_none _ _ [] w.1)

pub returns-in-Value-clause-steps : goal.returns-in-Value-clause-steps
returns-in-Value-clause-steps c =
    rw c.value_item.ensures (told_value _ _ _ _ _ (walked_token _ _ _ _ _ _ _ c.in_ok-step.was c.in-Ok.is c.in-Value.is c.next.ensures.steps))

pub returns-in-Start-clause-steps : goal.returns-in-Start-clause-steps
returns-in-Start-clause-steps c = told_start _ _ _ _ (walked_token _ _ _ _ _ _ _ c.in_ok-step.was c.in-Ok.is c.in-Start.is c.next.ensures.steps)

pub returns-in-End-clause-steps : goal.returns-in-End-clause-steps
returns-in-End-clause-steps c = told_end _ _ _ _ (walked_token _ _ _ _ _ _ _ c.in_ok-step.was c.in-Ok.is c.in-End.is c.next.ensures.steps)
