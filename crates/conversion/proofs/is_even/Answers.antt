-- `conversion::is_even` meets its contract: a glyph, and then its metrics. Assumes a height and a width within the formats' bounds.
use native.Mathlib.Omega.{arith}
use mathlib.Core.Path.{◌∙◌, ap}
use mathlib.Core.Bool.{not}
use borrow.Author.Tests.{eq-eqb}
use Rattle.base.proofs.Parts.{bytes_of}
use Rattle.conversion.proofs.Cases as cases
use Rattle.conversion.proofs.is_even.Goals as goal

pub returns-then-get32-ne0 : goal.returns-then-get32-ne0
returns-then-get32-ne0 c = c.eq.ensures ∙ cases.by_metrics c.args.file.now c.args.height c.args.width c.args.at (bytes_of c.args.file.now c.type_inv.file) (omega arith) (omega arith) (omega arith) _ _ c.metrics_at.ensures c.even_metrics.ensures

pub returns-else-get32-ne0 : goal.returns-else-get32-ne0
returns-else-get32-ne0 c = ap not (eq-eqb _ 0 c.if-get32-ne0.false) ∙ cases.no_glyph c.args.file.now c.args.height c.args.width c.args.at (omega arith)
