-- `loader::told_tail` meets its contract. Assumes nothing.
use native.Mathlib.Omega.{arith}
use mathlib.Core.Path.{◌∙◌, ap}
use borrow.Author.Tests.{not-true, not-false}
use Rattle.loader.proofs.Cases.{bare_over, bare_sound, table_cut, table_whole, table_over, table_bad}
use borrow.Author.Rules.{rules}
use Rattle.loader.proofs.told_tail.Goals as goal
use Rattle.std.specs.Prelude.{Err}

pub returns-then-f-total : goal.returns-then-f-total
returns-then-f-total c = ap Err c.refuse.ensures ∙ bare_over _ _ _ (not-true _ c.if-not-f.true) (omega arith)

pub returns-then-not-f : goal.returns-then-not-f
returns-then-not-f c = bare_sound _ _ _ (not-true _ c.if-not-f.true) (omega arith)

pub returns-then-t-f : goal.returns-then-t-f
returns-then-t-f c = ap Err c.refuse_at.ensures ∙ table_cut _ _ _ (not-false _ c.if-not-f.false) c.if-t-eq0.true (omega arith)

pub returns-then-t-eq0 : goal.returns-then-t-eq0
returns-then-t-eq0 c = table_whole _ _ _ (not-false _ c.if-not-f.false) c.if-t-eq0.true (omega arith)

pub returns-then-t-eq12 : goal.returns-then-t-eq12
returns-then-t-eq12 c = ap Err c.refuse-then-t-eq12.ensures ∙ table_over _ _ _ (not-false _ c.if-not-f.false) c.if-t-eq0.false c.if-t-eq12.true

pub returns : goal.returns
returns c = ap Err c.refuse_at-2.ensures ∙ table_bad _ _ _ (not-false _ c.if-not-f.false) c.if-t-eq0.false c.if-t-eq12.false
