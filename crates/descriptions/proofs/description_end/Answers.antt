-- `descriptions::description_end` meets its contract: the steps from the place on end, at each turn, where those from the start end. Assumes that
-- the start is a place of the tail.
use mathlib.Core.Path.{◌≡◌, sym, ◌∙◌, ap, subst}
use Prim.Native.Nat.{ℕ}
use native.Mathlib.Omega.{arith}
use Rattle.table.specs.Reading.{steps_at}
use Rattle.table.specs.Walking.{Begins}
use Rattle.table.proofs.Walking.{walked_says, walked_end}
use Rattle.descriptions.specs.Reading.{end_from}
use Rattle.descriptions.proofs.Stepping.{end_code, no_end_code, goes, goes_on, front, no_steps, end_here, end_later, end_none}
use Rattle.descriptions.proofs.description_end.Goals as goal

pub returns-then-is_end : goal.returns-then-is_end
returns-then-is_end c =
    let (l, w) = walked_says _ _ _ _ _ _ _ c.in-Some.is c.next.ensures.steps c.loop-step.invariant.0 in
    let f = front c.args.c c.args.tail.now c.loop-step.at c.in-Some.step l w in
    (c.next_of-next.ensures ∙ sym (end_here c.loop-step.at _ _ _ (end_code _ (sym c.is_end.ensures ∙ c.if-is_end.true)) f.1.1) ∙ c.loop-step.invariant.2, omega (arith, f.0, c.next_of-next.ensures))

pub loop-step-preserved : goal.loop-step-preserved
loop-step-preserved c =
    let n = no_end_code c.in-Some.step (sym c.is_end.ensures ∙ c.if-is_end.false) in
    let (l, w) = walked_says _ _ _ _ _ _ _ c.in-Some.is c.next.ensures.steps c.loop-step.invariant.0 in
    let g = goes c.args.c c.args.tail.now c.loop-step.at c.in-Some.step w n in
    let q = c.next_of-next.ensures in (
      subst (λ (m : ℕ). Begins c.args.c c.args.tail.now m c.next.new.self) (sym q) (goes_on _ _ _ _ _ _ _ n c.in-Some.is c.next.ensures.steps c.loop-step.invariant.0),
      omega (arith, g.1, q),
      ap (λ (m : ℕ). end_from m (steps_at c.args.c c.args.tail.now m)) q ∙ sym (end_later c.loop-step.at _ _ _ n g.2) ∙ c.loop-step.invariant.2,
    )

pub returns : goal.returns
returns c = (sym (end_none _ _ (no_steps _ _ _ (walked_end _ _ _ _ _ _ c.in-None.is c.next.ensures.steps c.loop-step.invariant.0))) ∙ c.loop-step.invariant.2, c.loop-step.invariant.1)
