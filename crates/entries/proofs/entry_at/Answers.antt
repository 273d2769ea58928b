-- `entries::entry_at` meets its contract: each return is one case of the rule. Assumes nothing.
use mathlib.Core.Path.{◌∙◌}
use native.Mathlib.Omega.{arith}
use Rattle.entries.proofs.Cases as cases
use Rattle.entries.proofs.entry_at.Goals as goal

pub returns-then-size-eq0 : goal.returns-then-size-eq0
returns-then-size-eq0 c = cases.empty c.args.file.now c.args.total c.args.at (omega arith)

pub returns-then-rows-lt1 : goal.returns-then-rows-lt1
returns-then-rows-lt1 c = cases.rows_low c.args.file.now c.args.total c.args.at (omega arith)

pub returns-then-rows-gt255 : goal.returns-then-rows-gt255
returns-then-rows-gt255 c = cases.rows_high c.args.file.now c.args.total c.args.at (omega arith)

pub returns-then-cols-lt1 : goal.returns-then-cols-lt1
returns-then-cols-lt1 c = cases.cols_low c.args.file.now c.args.total c.args.at (omega arith)

pub returns-then-cols-gt255 : goal.returns-then-cols-gt255
returns-then-cols-gt255 c = cases.cols_high c.args.file.now c.args.total c.args.at (omega arith)

pub returns-then-size-glyph_bytes : goal.returns-then-size-glyph_bytes
returns-then-size-glyph_bytes c = let e = cases.bytes_read c.args.file.now c.args.total c.args.at _ _ c.rows_at-rows.ensures.0 c.cols_at-cols.ensures.0 in cases.size_wrong c.args.file.now c.args.total c.args.at (omega arith)

pub returns-then-total-address : goal.returns-then-total-address
returns-then-total-address c = let e = cases.bytes_read c.args.file.now c.args.total c.args.at _ _ c.rows_at-rows.ensures.0 c.cols_at-cols.ensures.0 in cases.outside c.args.file.now c.args.total c.args.at (omega arith)

pub returns : goal.returns
returns c = let e = cases.bytes_read c.args.file.now c.args.total c.args.at _ _ c.rows_at-rows.ensures.0 c.cols_at-cols.ensures.0 in cases.glyph_read c.args.file.now c.args.total c.args.at _ _ c.rows_at-rows.ensures.0 c.cols_at-cols.ensures.0 ∙ cases.glyph c.args.file.now c.args.total c.args.at (omega arith)
