-- `stages::kind_of` meets its contract: each return is one case of the definition. Assumes nothing.
use mathlib.Core.Path.{sym, ◌∙◌}
use Rattle.header.proofs.Cases as cases
use borrow.Author.Rules.{rules}
use Rattle.stages.proofs.kind_of.Goals as goal

pub returns-then-starts_with : goal.returns-then-starts_with
returns-then-starts_with c = cases.is_psf1 c.args.file.now (sym c.starts_with.ensures ∙ c.if-starts_with.true)

pub returns-then-starts_with-2 : goal.returns-then-starts_with-2
returns-then-starts_with-2 c = cases.is_psf2 c.args.file.now (sym c.starts_with.ensures ∙ c.if-starts_with.false) (sym c.starts_with-2.ensures ∙ c.if-starts_with-2.true)

pub returns-then-starts_with-3 : goal.returns-then-starts_with-3
returns-then-starts_with-3 c = cases.is_vfont2 c.args.file.now (sym c.starts_with.ensures ∙ c.if-starts_with.false) (sym c.starts_with-2.ensures ∙ c.if-starts_with-2.false) (sym c.starts_with-3.ensures ∙ c.if-starts_with-3.true)

pub returns : goal.returns
returns c = cases.no_kind c.args.file.now (sym c.starts_with.ensures ∙ c.if-starts_with.false) (sym c.starts_with-2.ensures ∙ c.if-starts_with-2.false) (sym c.starts_with-3.ensures ∙ c.if-starts_with-3.false)
