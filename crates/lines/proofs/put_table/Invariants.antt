use Prim.Native.Nat.{◌+◌, ◌≤◌}
use lib.ListN.{length}
use Rattle.text.proofs.Putting.{Written}
use Rattle.table.specs.Walking.{bytes_left, items_left}
use Rattle.lines.specs.Reading.{lines_of, table_text}
use Rattle.lines.proofs.put_table.Given as goal

abbrev pub invariant-loop-item : goal.invariant-loop-item
invariant-loop-item l =
    (l.g + (bytes_left l.item-iterator.steps).bound ≤ length l.tail) × Written (table_text l.fn.c l.tail) l.initial.out l.out l.n (lines_of l.g l.fresh (items_left l.item-iterator))
