-- `table::ucs2_plain` meets its contract: by the step. Assumes nothing.
use mathlib.Core.Path.{sym, ◌∙◌, ap}
use Rattle.coding.specs.declared.Coding.TheVariants.{Ucs2}
use Rattle.token.specs.declared.Token.{Token}
use Rattle.std.specs.Prelude.{Ok}
use Rattle.table.specs.Skipping.{plain_of}
use Rattle.table.proofs.Plainly.{plained}
use Rattle.table.proofs.ucs2_plain.Goals as goal

pub returns-in_default : goal.returns-in_default
returns-in_default c = plained Ucs2 c.args.key c.args.s.now c.args.at _ _ c.ucs2_step.ensures (ap (plain_of Ucs2 c.args.key) (sym c.in_default.is))

pub returns-in-Value : goal.returns-in-Value
returns-in-Value c = plained Ucs2 c.args.key c.args.s.now c.args.at _ _ (rw c.in-Ok.is at c.ucs2_step.ensures) (c.word_plain.ensures ∙ ap (λ (t : Token). plain_of Ucs2 c.args.key (Ok (t, c.in-Ok.next))) (sym c.in-Value.is))

pub returns-in-Start : goal.returns-in-Start
returns-in-Start c = plained Ucs2 c.args.key c.args.s.now c.args.at _ _ (rw c.in-Ok.is at c.ucs2_step.ensures) (ap (λ (t : Token). plain_of Ucs2 c.args.key (Ok (t, c.in-Ok.next))) (sym c.in-Start.is))

pub returns-in-End : goal.returns-in-End
returns-in-End c = plained Ucs2 c.args.key c.args.s.now c.args.at _ _ (rw c.in-Ok.is at c.ucs2_step.ensures) (ap (λ (t : Token). plain_of Ucs2 c.args.key (Ok (t, c.in-Ok.next))) (sym c.in-End.is))
