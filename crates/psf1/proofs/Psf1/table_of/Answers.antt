-- `psf1::Psf1::table_of` meets its contract: bit 1 of the mode decides, or else bit 2. Assumes nothing.
use Rattle.header.specs.Meaning.{psf1_table}
use borrow.Author.Tests.{eq-eqb, ne_eqb}
use Rattle.psf1.proofs.Psf1.table_of.Goals as goal

pub returns-then-mode-eq1 : goal.returns-then-mode-eq1
unfolding psf1_table
returns-then-mode-eq1 c = rw (eq-eqb _ _ c.if-mode-eq1.true)

pub returns : goal.returns
unfolding psf1_table
returns c = rw (ne_eqb _ _ c.if-mode-eq1.false)
