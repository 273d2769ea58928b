-- `stages::check_font_table` meets its contract: what the table reader says of the tail, with places moved to the file. Assumes `Placed`.
use native.Mathlib.Omega.{arith}
use mathlib.Core.Path.{◌≡◌, ◌∙◌, ap}
use Rattle.base.proofs.Parts.{bytes_of}
use Rattle.stages.specs.Reading.{told_at}
use Rattle.stages.proofs.Cases.{table_read, read_fits}
use borrow.Author.Rules.{rules}
use Rattle.stages.proofs.coding_of.Reads as coding-of-reads
use Rattle.stages.proofs.told_at.Reads as told-at-reads
use Rattle.table.proofs.check_table.Reads as check-table-reads
use Rattle.stages.proofs.check_font_table.Goals as goal

pub told_at-requires : goal.told_at-requires
told_at-requires c = omega (arith, read_fits c.args.file.now c.args.f (bytes_of c.args.file.now c.type_inv.file) c.requires _ c.coding_of-c.ensures _ c.tail_of.ensures _ c.check_table.ensures)

pub returns : goal.returns
returns c = c.told_at.ensures ∙ ap (told_at c.args.f.end) (table_read c.args.file.now c.args.f _ c.coding_of-c.ensures _ c.tail_of.ensures _ c.check_table.ensures)
