use mathlib.Core.Path.{◌≡◌}
use Prim.Native.Nat.{◌+◌, ◌*◌, ◌≤◌}
use lib.ListN.{length}
use Rattle.table.specs.Walking.{bytes_left, items_left}
use Rattle.lines.specs.Reading.{lines_of, table_text}
use Rattle.lines.proofs.table_len.Given as goal

abbrev pub invariant-loop-item : goal.invariant-loop-item
invariant-loop-item l =
    (length l.tail ≤ 65536) × (l.g + (bytes_left l.item-iterator.steps).bound ≤ length l.tail) × (l.n + 14 * (bytes_left l.item-iterator.steps).bound ≤ 14 * length l.tail)
    × (l.n + length (lines_of l.g l.fresh (items_left l.item-iterator)) ≡ length (table_text l.fn.c l.tail))
