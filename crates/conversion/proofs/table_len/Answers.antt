-- `conversion::table_len` meets its contract: by the conversion. Assumes a tail no longer than a file.
use native.Mathlib.Omega.{arith}
use mathlib.Core.Path.{◌∙◌}
use Rattle.conversion.specs.declared.Conversion.TheVariants.{Psf1ToPsf2, Psf2ToPsf1, Psf2ToVfont2, Vfont2ToPsf2}
use Rattle.conversion.proofs.Cases.{measured_is as told}
use Rattle.conversion.proofs.table_len.Goals as goal

pub returns-in-Psf1ToPsf2 : goal.returns-in-Psf1ToPsf2
returns-in-Psf1ToPsf2 c = record { equal = c.table_len.ensures.equal ∙ told Psf1ToPsf2 c.args.c c.args.tail.now c.in-Psf1ToPsf2.is; bounded = c.table_len.ensures.bounded }

pub returns-in-Psf2ToPsf1 : goal.returns-in-Psf2ToPsf1
returns-in-Psf2ToPsf1 c = record { equal = c.table_len-in-Psf2ToPsf1.ensures.equal ∙ told Psf2ToPsf1 c.args.c c.args.tail.now c.in-Psf2ToPsf1.is; bounded = c.table_len-in-Psf2ToPsf1.ensures.bounded }

pub returns-in-Psf2ToVfont2 : goal.returns-in-Psf2ToVfont2
returns-in-Psf2ToVfont2 c = record { equal = told Psf2ToVfont2 c.args.c c.args.tail.now c.in-Psf2ToVfont2.is; bounded = omega arith }

pub returns-in-Vfont2ToPsf2 : goal.returns-in-Vfont2ToPsf2
returns-in-Vfont2ToPsf2 c = record { equal = told Vfont2ToPsf2 c.args.c c.args.tail.now c.in-Vfont2ToPsf2.is; bounded = omega arith }
