-- `utf8::is_utf8_value` meets its contract: no noncharacter, and then a scalar value. Assumes nothing.
use mathlib.Core.Path.{◌∙◌, sym}
use Rattle.utf8.proofs.Written.{noncharacter_no_value, scalar_value}
use Rattle.utf8.proofs.is_utf8_value.Goals as goal

pub returns-then-not-is_noncharacter : goal.returns-then-not-is_noncharacter
returns-then-not-is_noncharacter c = c.is_scalar.ensures ∙ scalar_value c.args.v (sym c.is_noncharacter.ensures ∙ c.if-not-is_noncharacter.true)

pub returns-else-not-is_noncharacter : goal.returns-else-not-is_noncharacter
returns-else-not-is_noncharacter c = rw c.if-not-is_noncharacter.false (noncharacter_no_value c.args.v (sym c.is_noncharacter.ensures ∙ c.if-not-is_noncharacter.false))
