-- `utf8::key_of` meets its contract: by the value. Assumes nothing.
use Rattle.utf8.proofs.Plain.{key_itself, key_above}
use Rattle.utf8.proofs.key_of.Goals as goal

pub returns-then-v-lt128 : goal.returns-then-v-lt128
returns-then-v-lt128 c = key_itself _ c.if-v-lt128.true

pub returns : goal.returns
returns c = key_above _ c.if-v-lt128.false
