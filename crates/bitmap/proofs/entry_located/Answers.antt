-- `bitmap::entry_located` meets its contract: what the entry says. Assumes that it stands in the file.
use mathlib.Core.Path.{sym, ◌∙◌, ap}
use Rattle.bitmap.proofs.entry_located.Goals as goal
use Rattle.std.specs.Prelude.{Err}

pub returns-in-Empty : goal.returns-in-Empty
returns-in-Empty c = ap Err c.refuse.ensures ∙ rw (sym c.entry_at-e.ensures ∙ c.in-Empty.is)

pub returns-in-Glyph : goal.returns-in-Glyph
returns-in-Glyph c = rw (sym c.entry_at-e.ensures ∙ c.in-Glyph.is, c.get32.ensures, c.get32-in-Glyph.ensures)

pub returns-in-Broken : goal.returns-in-Broken
returns-in-Broken c = ap Err c.refuse_at.ensures ∙ rw (sym c.entry_at-e.ensures ∙ c.in-Broken.is)
