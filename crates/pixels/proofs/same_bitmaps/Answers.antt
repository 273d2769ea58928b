-- `pixels::same_bitmaps` meets its contract: without fillers all bytes decide, else the rows. Assumes two bitmaps of the height and width.
use native.Mathlib.Omega.{arith}
use mathlib.Core.Path.{◌∙◌}
use Rattle.pixels.proofs.Turns.{whole_bytes, by_rows, all_rows}
use Rattle.pixels.proofs.same_bitmaps.Goals as goal

pub returns-then-width-eq0 : goal.returns-then-width-eq0
returns-then-width-eq0 c = c.same_bytes.ensures ∙ whole_bytes c.args.p.now c.args.q.now c.args.height c.args.width c.if-width-eq0.true _ c.requires.0

pub same_rows-requires : goal.same_rows-requires
same_rows-requires c = omega (arith, all_rows c.args.p.now c.args.q.now c.args.height c.args.width c.if-width-eq0.false)

pub returns : goal.returns
returns c = c.same_rows.ensures ∙ by_rows c.args.p.now c.args.q.now c.args.height c.args.width c.if-width-eq0.false
