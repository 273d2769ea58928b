-- `psf1::Psf1::count_of` meets its contract: bit 0 of the mode decides. Assumes nothing.
use Rattle.header.specs.Meaning.{psf1_count}
use native.Mathlib.Omega.{arith}
use borrow.Author.Tests.{eq-eqb, ne_eqb}
use Rattle.psf1.proofs.Psf1.count_of.Goals as goal

pub returns-then-mode-eq1 : goal.returns-then-mode-eq1
unfolding psf1_count
returns-then-mode-eq1 c = (rw (eq-eqb _ _ c.if-mode-eq1.true), omega arith)

pub returns : goal.returns
unfolding psf1_count
returns c = (rw (ne_eqb _ _ c.if-mode-eq1.false), omega arith)
