-- `ucs2::read_ucs2` meets its contract: two bytes are one number, and the number decides. Assumes nothing.
use native.Mathlib.Omega.{arith}
use Rattle.ucs2.proofs.Pairs.{short, as_start, as_value}
use Rattle.ucs2.proofs.Words.{word_under, word_above, word_mark}
use Rattle.ucs2.proofs.read_ucs2.Goals as goal

pub returns-then-s-lt2 : goal.returns-then-s-lt2
returns-then-s-lt2 c = short _ c.if-s-lt2.true

pub returns-then-v-lt64976 : goal.returns-then-v-lt64976
returns-then-v-lt64976 c = as_value _ (omega arith) _ c.get16-v.ensures.0 (word_under _ (omega arith))

pub returns-then-v-eq65534 : goal.returns-then-v-eq65534
returns-then-v-eq65534 c = as_start _ (omega arith) _ c.get16-v.ensures.0 (word_mark _ (omega arith) (omega arith)) (omega arith) (omega arith)

pub returns : goal.returns
returns c = as_value _ (omega arith) _ c.get16-v.ensures.0 (word_above _ (omega arith) (omega (arith, c.get16-v.ensures.1)))
