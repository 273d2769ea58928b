-- `descriptions::compare` meets its contract: what the steps from the two places on give is, at each turn, what those from the starts give.
-- Assumes that the starts are places of the tails.
use mathlib.Core.Path.{◌≡◌, sym, ◌∙◌, subst}
use Prim.Native.Nat.{ℕ}
use native.Mathlib.Omega.{arith}
use Rattle.table.specs.Walking.{Begins}
use Rattle.table.proofs.Walking.{walked_says, walked_end}
use Rattle.descriptions.proofs.Stepping.{same_code, other_code, end_code, no_end_code, goes_on, ends_first, ends_second, ends_other, ends_here, ends_later}
use Rattle.descriptions.proofs.compare.Goals as goal

pub returns-in_default-clause-equal : goal.returns-in_default-clause-equal
returns-in_default-clause-equal c =
    ends_second c.args.c c.args.s.now c.loop-x.a c.args.d c.args.t.now c.loop-x.b _ (walked_end _ _ _ _ _ _ c.in_default.is c.next-in-loop-x.ensures.steps c.loop-x.invariant.1) c.description_end.ensures.0 ∙ c.loop-x.invariant.4

pub returns-then-not-alike-clause-equal : goal.returns-then-not-alike-clause-equal
returns-then-not-alike-clause-equal c =
    let (la, wa) = walked_says _ _ _ _ _ _ _ c.in-Some.is c.next.ensures.steps c.loop-x.invariant.0 in
    let (lb, wb) = walked_says _ _ _ _ _ _ _ c.in-Some-next.is c.next-in-loop-x.ensures.steps c.loop-x.invariant.1 in
    ends_other c.args.c c.args.s.now c.loop-x.a c.args.d c.args.t.now c.loop-x.b _ _ la lb wa wb _ _ (other_code _ _ (sym c.alike.ensures ∙ c.if-not-alike.true)) c.description_end-then-not-alike.ensures.0 c.description_end-then-not-alike-2.ensures.0 ∙ c.loop-x.invariant.4

pub returns-then-is_end : goal.returns-then-is_end
returns-then-is_end c =
    let (la, wa) = walked_says _ _ _ _ _ _ _ c.in-Some.is c.next.ensures.steps c.loop-x.invariant.0 in
    let (lb, wb) = walked_says _ _ _ _ _ _ _ c.in-Some-next.is c.next-in-loop-x.ensures.steps c.loop-x.invariant.1 in
    let w = ends_here c.args.c c.args.s.now c.loop-x.a c.args.d c.args.t.now c.loop-x.b _ _ la lb wa wb _ _ (same_code _ _ (sym c.alike.ensures ∙ c.if-not-alike.false)) c.next_of-a.ensures c.next_of-b.ensures (end_code _ (sym c.is_end.ensures ∙ c.if-is_end.true)) in
    record { equal = w.0 ∙ c.loop-x.invariant.4; bounded = (w.1, w.2) }

pub loop-x-preserved : goal.loop-x-preserved
loop-x-preserved c =
    let (la, wa) = walked_says _ _ _ _ _ _ _ c.in-Some.is c.next.ensures.steps c.loop-x.invariant.0 in
    let (lb, wb) = walked_says _ _ _ _ _ _ _ c.in-Some-next.is c.next-in-loop-x.ensures.steps c.loop-x.invariant.1 in
    let q = same_code c.in-Some.x c.in-Some-next.y (sym c.alike.ensures ∙ c.if-not-alike.false) in
    let n = no_end_code c.in-Some.x (sym c.is_end.ensures ∙ c.if-is_end.false) in
    let w = ends_later c.args.c c.args.s.now c.loop-x.a c.args.d c.args.t.now c.loop-x.b _ _ la lb wa wb _ _ q c.next_of-a.ensures c.next_of-b.ensures n in (
      subst (λ (m : ℕ). Begins c.args.c c.args.s.now m c.next.new.self) (sym c.next_of-a.ensures) (goes_on _ _ _ _ _ _ _ n c.in-Some.is c.next.ensures.steps c.loop-x.invariant.0),
      subst (λ (m : ℕ). Begins c.args.d c.args.t.now m c.next-in-loop-x.new.self) (sym c.next_of-b.ensures)
          (goes_on _ _ _ _ _ _ _ (λ z. n (q ∙ z)) c.in-Some-next.is c.next-in-loop-x.ensures.steps c.loop-x.invariant.1),
      w.0,
      w.1,
      w.2 ∙ c.loop-x.invariant.4,
    )

pub returns-clause-equal : goal.returns-clause-equal
returns-clause-equal c = ends_first c.args.c c.args.s.now c.loop-x.a c.args.d c.args.t.now c.loop-x.b _ (walked_end _ _ _ _ _ _ c.in-None.is c.next.ensures.steps c.loop-x.invariant.0) c.description_end-2.ensures.0 ∙ c.loop-x.invariant.4
