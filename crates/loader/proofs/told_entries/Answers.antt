-- `loader::told_entries` meets its contract. Assumes nothing.
use mathlib.Core.Path.{refl, ◌∙◌, ap}
use Rattle.header.specs.declared.Kind.TheVariants.{Psf1, Psf2, Vfont2}
use Rattle.loader.proofs.Cases.{told_by, broke, whole}
use borrow.Author.Rules.{rules}
use Rattle.loader.proofs.told_entries.Goals as goal
use Rattle.std.specs.Prelude.{Err}

pub returns-then-x-ne0 : goal.returns-then-x-ne0
returns-then-x-ne0 c = told_by _ _ Vfont2 c.in-Vfont2.is _ (ap Err c.refuse_at.ensures ∙ rw c.entry_number.ensures (broke _ _ c.if-x-ne0.true))

pub returns-in-Psf1 : goal.returns-in-Psf1
returns-in-Psf1 c = told_by _ _ Psf1 c.in-Psf1.is _ refl

pub returns-in-Psf2 : goal.returns-in-Psf2
returns-in-Psf2 c = told_by _ _ Psf2 c.in-Psf2.is _ refl

pub returns-else-x-ne0 : goal.returns-else-x-ne0
returns-else-x-ne0 c = told_by _ _ Vfont2 c.in-Vfont2.is _ (c.check_greatest.ensures ∙ whole _ _ c.if-x-ne0.false)
