-- `lookup::begins` meets its contract: by what is asked for and where the cursor stands. Assumes nothing.
use mathlib.Core.Path.{refl}
use mathlib.Core.List.{[], ◌∷◌}
use native.Mathlib.Omega.{arith}
use Rattle.table.specs.Reading.{steps_at}
use Rattle.lookup.proofs.Looking.{begins_sequence, begins_later, begins_single, begins_inside}
use Rattle.lookup.proofs.begins.Goals as goal

pub returns-then-p-eq-NO_START : goal.returns-then-p-eq-NO_START
returns-then-p-eq-NO_START c = rw c.in-Value.is (begins_single (c.in-Value.v ∷ []) c.args.p.start c.args.p.at c.args.w (steps_at c.args.c c.args.tail.now c.args.p.at) _ refl c.if-p-eq-NO_START.true)

pub returns-then-p : goal.returns-then-p
returns-then-p c = rw c.in-Sequence.is (begins_sequence c.in-Sequence.vs.now c.args.p.start c.args.p.at c.args.w (steps_at c.args.c c.args.tail.now c.args.p.at) _ c.sequence_at.ensures c.if-p.true (omega (arith, c.requires.0, c.well_formed.1.1.0.1)))

pub returns-else-p-eq-NO_START : goal.returns-else-p-eq-NO_START
returns-else-p-eq-NO_START c = rw c.in-Value.is (begins_inside (c.in-Value.v ∷ []) c.args.p.start c.args.p.at c.args.w (steps_at c.args.c c.args.tail.now c.args.p.at) c.if-p-eq-NO_START.false)

pub returns-else-p : goal.returns-else-p
returns-else-p c = rw c.in-Sequence.is (begins_later c.in-Sequence.vs.now c.args.p.start c.args.p.at c.args.w (steps_at c.args.c c.args.tail.now c.args.p.at) c.if-p.false)
