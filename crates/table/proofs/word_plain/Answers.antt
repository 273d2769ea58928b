-- `table::word_plain` meets its contract: by the value's key. Assumes nothing.
use mathlib.Core.Path.{sym, ◌∙◌}
use Rattle.coding.specs.declared.Coding.TheVariants.{Ucs2}
use Rattle.table.proofs.Plainly.{with_key, without_key}
use Rattle.table.proofs.word_plain.Goals as goal

pub returns-then-key_of-key : goal.returns-then-key_of-key
returns-then-key_of-key c = with_key _ _ Ucs2 _ (sym c.key_of.ensures ∙ c.if-key_of-key.true)

pub returns : goal.returns
returns c = without_key _ _ Ucs2 _ (λ z. c.if-key_of-key.false (c.key_of.ensures ∙ z))
