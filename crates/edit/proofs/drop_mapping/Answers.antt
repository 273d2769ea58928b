-- `edit::drop_mapping` meets its contract: the bytes taken out, NOT THERE, or the refusal, by what was sought. Assumes nothing.
use mathlib.Core.Path.{sym, ◌∙◌, ap}
use native.Mathlib.Omega.{arith}
use Rattle.edit.proofs.Cases as cases
use Rattle.base.proofs.Handed.{handed_on}
use Rattle.mapping.specs.declared.Mapping.{Mapping}
use borrow.Author.Rules.{rules}
use Rattle.edit.proofs.drop_mapping.Goals as goal
use Rattle.std.specs.Prelude.{Ok, Err}

pub overflow_sub-next : goal.overflow_sub-next
overflow_sub-next c = let w = rw (c.in_ok-m.was, c.in-Listed.is) at c.sought_of.ensures.bounded in omega (arith, w.0, w.1, w.2)

pub remove-requires : goal.remove-requires
remove-requires c = let w = rw (c.in_ok-m.was, c.in-Listed.is) at c.sought_of.ensures.bounded in (omega (arith, w.0, w.1, w.2), w.0, omega (arith, w.3))

pub overflow_sub-result : goal.overflow_sub-result
overflow_sub-result c = let w = rw (c.in_ok-m.was, c.in-Listed.is) at c.sought_of.ensures.bounded in omega (arith, w.0, w.1, w.2)

pub overflow_sub-result-in-Listed : goal.overflow_sub-result-in-Listed
overflow_sub-result-in-Listed c = let w = rw (c.in_ok-m.was, c.in-Listed.is) at c.sought_of.ensures.bounded in omega (arith, w.0, w.1, w.2)

pub returns-in-Listed : goal.returns-in-Listed
returns-in-Listed c = let both = cases.drop_taken c.args.buf.now c.args.len c.args.g c.args.v _ _ _ (sym (c.in_ok-m.was ∙ ap (λ (m : Mapping). Ok m) c.in-Listed.is) ∙ c.sought_of.ensures.equal) c.remove.ensures in record { answer = both.0; buffer = both.1 }

pub returns-in-Unlisted : goal.returns-in-Unlisted
returns-in-Unlisted c = let w = cases.drop_none c.args.buf.now c.args.len c.args.g c.args.v _ (sym (c.in_ok-m.was ∙ ap (λ (m : Mapping). Ok m) c.in-Unlisted.is) ∙ c.sought_of.ensures.equal) in record { answer = ap Err c.refuse.ensures ∙ w.0; buffer = w.1 }

pub returns-in_err-m : goal.returns-in_err-m
returns-in_err-m c = let both = cases.drop_refused c.args.buf.now c.args.len c.args.g c.args.v _ (sym c.in_err-m.was ∙ c.sought_of.ensures.equal) in record { answer = handed_on c.from_residual.result _ _ c.from_residual.ensures.1 both.0; buffer = both.1 }
