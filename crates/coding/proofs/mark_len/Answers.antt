-- `coding::mark_len` meets its contract: by cases on the coding.
use Rattle.coding.specs.Reading.{mark_len}
use Rattle.coding.proofs.mark_len.Goals as goal

pub returns-in-Utf8 : goal.returns-in-Utf8
unfolding mark_len
returns-in-Utf8 c = rw c.in-Utf8.is

pub returns-in-Ucs2 : goal.returns-in-Ucs2
unfolding mark_len
returns-in-Ucs2 c = rw c.in-Ucs2.is
