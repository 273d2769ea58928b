-- `stages::fault_at` meets its contract: one refusal for each fault. Asks for places that are offsets in a file.
use mathlib.Core.Path.{sym, ◌∙◌, ap}
use native.Mathlib.Omega.{arith}
use Rattle.stages.specs.Reading.{fault_at}
use borrow.Author.Rules.{rules}
use Rattle.refusal.proofs.refuse.Reads as refuse-reads
use Rattle.refusal.proofs.refuse_at.Reads as refuse-at-reads
use Rattle.stages.proofs.fault_at.Goals as goal

pub overflow_add-end : goal.overflow_add-end
overflow_add-end c = let p = rw c.in-Cut.is at c.requires in omega (arith, p)

pub overflow_add-end-in-Bad : goal.overflow_add-end-in-Bad
overflow_add-end-in-Bad c = let p = rw c.in-Bad.is at c.requires in omega (arith, p)

pub overflow_add-end-in-Trailing : goal.overflow_add-end-in-Trailing
overflow_add-end-in-Trailing c = let p = rw c.in-Trailing.is at c.requires in omega (arith, p)
