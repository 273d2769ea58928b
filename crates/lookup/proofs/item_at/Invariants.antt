use mathlib.Core.Path.{◌≡◌}
use Rattle.table.specs.Reading.{items_in}
use Rattle.table.specs.Walking.{items_left}
use Rattle.lookup.specs.Reading.{item_at}
use Rattle.lookup.proofs.item_at.Given as goal

abbrev pub invariant-loop-item : goal.invariant-loop-item
invariant-loop-item l = item_at l.glyphs l.left (items_left l.item-iterator) ≡ item_at l.g l.k (items_in l.fn.c l.tail)
