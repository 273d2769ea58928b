use mathlib.Core.Bool.{false}
use mathlib.Core.Path.{◌≡◌}
use Prim.Native.Nat.{ℕ}
use lib.ListN.{length}
use Rattle.std.specs.Prelude.{Ok}
use Rattle.base.proofs.Written.{Written}
use Rattle.table.specs.Meaning.{bytes}
use Rattle.table.specs.Reading.{step_items}
use Rattle.table.specs.Walking.{steps_left}
use Rattle.transcode.specs.Reading.{recoded, measure}
use Rattle.transcode.proofs.write_table.Given as goal

abbrev pub invariant-loop-step : goal.invariant-loop-step
invariant-loop-step l =
    Written (recoded l.fn.from l.to l.tail) l.initial.out l.n l.out (bytes l.to (step_items false (steps_left l.step-iterator)))
    × ((k : ℕ) × (measure l.to k l.n (steps_left l.step-iterator) ≡ Ok (length (recoded l.fn.from l.to l.tail))))
