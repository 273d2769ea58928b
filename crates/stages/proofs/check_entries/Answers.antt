-- `stages::check_entries` meets its contract: by the kind. Assumes `Placed`.
use mathlib.Core.Path.{◌∙◌}
use Rattle.stages.proofs.Cases as cases
use Rattle.header.specs.declared.Kind.TheVariants.{Psf1, Psf2, Vfont2}
use borrow.Author.Rules.{rules}
use Rattle.stages.proofs.check_entries.Goals as goal

pub returns-in-Psf1 : goal.returns-in-Psf1
returns-in-Psf1 c = cases.entries_of_lem c.args.file.now c.args.f Psf1 c.in-Psf1.is

pub returns-in-Psf2 : goal.returns-in-Psf2
returns-in-Psf2 c = cases.entries_of_lem c.args.file.now c.args.f Psf2 c.in-Psf2.is

pub returns-in-Vfont2 : goal.returns-in-Vfont2
returns-in-Vfont2 c = c.check_dispatch.ensures ∙ cases.entries_of_lem c.args.file.now c.args.f Vfont2 c.in-Vfont2.is
