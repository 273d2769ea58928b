-- `table::refused` meets its contract: by the coding. Assumes nothing.
use Rattle.table.proofs.refused.Goals as goal

pub utf8_refused-requires : goal.utf8_refused-requires
utf8_refused-requires c = (c.requires.0, rw c.in-Utf8.is at c.requires.1)

pub ucs2_refused-requires : goal.ucs2_refused-requires
ucs2_refused-requires c = (c.requires.0, rw c.in-Ucs2.is at c.requires.1)

pub returns-in-Utf8 : goal.returns-in-Utf8
returns-in-Utf8 c = rw c.in-Utf8.is c.utf8_refused.ensures

pub returns-in-Ucs2 : goal.returns-in-Ucs2
returns-in-Ucs2 c = rw c.in-Ucs2.is c.ucs2_refused.ensures
