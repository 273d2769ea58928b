-- `fonts::view` meets its contract: the part that the answer names. Assumes a part that stands in the file.
use Rattle.fonts.proofs.Views.{view_at, view_none}
use native.Mathlib.Omega.{arith}
use mathlib.Core.Path.{sym, ◌∙◌}
use borrow.Author.Rules.{rules}
use Rattle.fonts.proofs.view.Goals as goal

pub returns-in_default : goal.returns-in_default
returns-in_default c = view_none _ _ _ c.in_default.is

pub overflow_add-end : goal.overflow_add-end
overflow_add-end c = omega (arith, rw c.in-Ok.is at c.requires)

pub slice_bounds-result-end-2 : goal.slice_bounds-result-end-2
slice_bounds-result-end-2 c = omega (arith, rw c.in-Ok.is at c.requires)

pub returns : goal.returns
returns c = view_at _ _ _ c.in-Ok.is
