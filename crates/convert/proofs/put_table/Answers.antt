-- `convert::put_table` meets its contract: by the conversion. Assumes a table that can be carried, and room.
use Rattle.conversion.proofs.Cases.{measured_is}
use mathlib.Core.Path.{sym, ◌∙◌, ap, subst}
use Prim.Native.Nat.{◌≤◌}
use Rattle.conversion.specs.declared.Conversion.TheVariants.{Psf1ToPsf2, Psf2ToPsf1}
use lib.ListN.{length}
use Rattle.base.specs.Reading.{over}
use Rattle.conversion.specs.declared.Conversion.{Conversion}
use Rattle.conversion.specs.Reading.{table_in}
use borrow.Author.Rules.{rules}
use Rattle.convert.proofs.put_table.Goals as goal
use Rattle.std.specs.Prelude.{Ok}

pub write_table-requires : goal.write_table-requires
write_table-requires c = let e = c.in-Psf1ToPsf2.is in (measured_is Psf1ToPsf2 c.args.c c.args.tail.now e ∙ c.requires.0 ∙ ap (λ (x : Conversion). Ok (length (table_in x c.args.tail.now))) e, subst (λ (x : Conversion). length (table_in x c.args.tail.now) ≤ length c.args.out.now) e c.requires.1)

pub write_table-requires-in-Psf2ToPsf1 : goal.write_table-requires-in-Psf2ToPsf1
write_table-requires-in-Psf2ToPsf1 c = let e = c.in-Psf2ToPsf1.is in (measured_is Psf2ToPsf1 c.args.c c.args.tail.now e ∙ c.requires.0 ∙ ap (λ (x : Conversion). Ok (length (table_in x c.args.tail.now))) e, subst (λ (x : Conversion). length (table_in x c.args.tail.now) ≤ length c.args.out.now) e c.requires.1)

pub copy-requires : goal.copy-requires
copy-requires c = subst (λ (x : Conversion). length (table_in x c.args.tail.now) ≤ length c.args.out.now) c.in-Psf2ToVfont2.is c.requires.1

pub copy-requires-in-Vfont2ToPsf2 : goal.copy-requires-in-Vfont2ToPsf2
copy-requires-in-Vfont2ToPsf2 c = subst (λ (x : Conversion). length (table_in x c.args.tail.now) ≤ length c.args.out.now) c.in-Vfont2ToPsf2.is c.requires.1

pub returns-in-Psf1ToPsf2 : goal.returns-in-Psf1ToPsf2
returns-in-Psf1ToPsf2 c = c.write_table.ensures ∙ ap (λ (x : Conversion). over (table_in x c.args.tail.now) c.args.out.now) (sym c.in-Psf1ToPsf2.is)

pub returns-in-Psf2ToPsf1 : goal.returns-in-Psf2ToPsf1
returns-in-Psf2ToPsf1 c = c.write_table-in-Psf2ToPsf1.ensures ∙ ap (λ (x : Conversion). over (table_in x c.args.tail.now) c.args.out.now) (sym c.in-Psf2ToPsf1.is)

pub returns-in-Psf2ToVfont2 : goal.returns-in-Psf2ToVfont2
returns-in-Psf2ToVfont2 c = c.copy.ensures ∙ ap (λ (x : Conversion). over (table_in x c.args.tail.now) c.args.out.now) (sym c.in-Psf2ToVfont2.is)

pub returns-in-Vfont2ToPsf2 : goal.returns-in-Vfont2ToPsf2
returns-in-Vfont2ToPsf2 c = c.copy-in-Vfont2ToPsf2.ensures ∙ ap (λ (x : Conversion). over (table_in x c.args.tail.now) c.args.out.now) (sym c.in-Vfont2ToPsf2.is)
