-- `edit::add_mapping` meets its contract: HAVE, the value put in, or the refusal, by what was sought. Assumes nothing.
use mathlib.Core.Path.{sym, ◌∙◌, ap}
use Rattle.edit.proofs.Cases as cases
use Rattle.base.proofs.Handed.{handed_on}
use Rattle.mapping.specs.declared.Mapping.{Mapping}
use borrow.Author.Rules.{rules}
use Rattle.edit.proofs.add_mapping.Goals as goal
use Rattle.std.specs.Prelude.{Ok, Err}

pub insert-requires : goal.insert-requires
insert-requires c = rw (c.in_ok-m.was, c.in-Unlisted.is) at c.sought_of.ensures.bounded

pub returns-in-Listed : goal.returns-in-Listed
returns-in-Listed c = let w = cases.add_have c.args.buf.now c.args.len c.args.g c.args.v _ _ (sym (c.in_ok-m.was ∙ ap (λ (m : Mapping). Ok m) c.in-Listed.is) ∙ c.sought_of.ensures.equal) in record { answer = ap Err c.refuse.ensures ∙ w.0; buffer = w.1 }

pub returns-in-Unlisted : goal.returns-in-Unlisted
returns-in-Unlisted c = let both = cases.add_put c.args.buf.now c.args.len c.args.g c.args.v _ _ _ (sym (c.in_ok-m.was ∙ ap (λ (m : Mapping). Ok m) c.in-Unlisted.is) ∙ c.sought_of.ensures.equal) c.insert.ensures.answer c.insert.ensures.buffer in record { answer = both.0; buffer = both.1 }

pub returns-in_err-m : goal.returns-in_err-m
returns-in_err-m c = let both = cases.add_refused c.args.buf.now c.args.len c.args.g c.args.v _ (sym c.in_err-m.was ∙ c.sought_of.ensures.equal) in record { answer = handed_on c.from_residual.result _ _ c.from_residual.ensures.1 both.0; buffer = both.1 }
