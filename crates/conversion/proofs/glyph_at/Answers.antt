-- `conversion::glyph_at` meets its contract: what the check of the file up to the place tells. Assumes `Placed`, and a place in the tail.
use native.Mathlib.Omega.{arith}
use mathlib.Core.Path.{sym, ◌∙◌}
use Rattle.conversion.proofs.Cases.{cut_length, cut_placed, told_at_lem}
use Rattle.conversion.proofs.glyph_at.Goals as goal

pub overflow_add-to : goal.overflow_add-to
overflow_add-to c = omega (arith, c.requires.1)

pub slice_bounds-check_font_table-end : goal.slice_bounds-check_font_table-end
slice_bounds-check_font_table-end c = sym (cut_length c.args.file.now c.args.f c.args.k c.requires.1)

pub check_font_table-requires : goal.check_font_table-requires
check_font_table-requires c = cut_placed c.args.file.now c.args.f c.args.k c.requires.1 c.requires.0

pub returns : goal.returns
returns c = c.glyph_in.ensures ∙ told_at_lem c.args.file.now c.args.f c.args.k c.requires.1 _ c.check_font_table.ensures
