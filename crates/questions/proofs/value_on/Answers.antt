-- `questions::value_on` meets its contract: the table's refusal, NO TABLE, then ASK, then what the lookup found. Assumes `Placed`.
use mathlib.Core.Path.{◌∙◌, refl, ap}
use native.Mathlib.Omega.{arith}
use Rattle.base.proofs.Parts.{bytes_of}
use Rattle.questions.specs.Reading.{value_on}
use Rattle.questions.proofs.Answers.{value_told, value_bare, bare_told, place_told, looked_told}
use borrow.Author.Rules.{rules}
use Rattle.lookup.proofs.find_value.Reads as find-value-reads
use Rattle.questions.proofs.told.Reads as told-reads
use Rattle.refusal.proofs.refuse.Reads as refuse-reads
use Rattle.stages.proofs.coding_of.Reads as coding-of-reads
use Rattle.questions.proofs.value_on.Goals as goal
use Rattle.std.specs.Prelude.{Err}

pub told-requires : goal.told-requires
told-requires c = omega (arith, place_told c.args.file.now c.args.f _ c.coding_of.ensures _ c.tail_of.ensures _ _ c.find_value-w.ensures (bytes_of c.args.file.now c.type_inv.file) c.requires)

pub returns-then-f : goal.returns-then-f
returns-then-f c = c.told.ensures ∙ looked_told c.args.file.now c.args.f _ c.coding_of.ensures _ c.tail_of.ensures _ _ c.find_value-w.ensures c.if-f.true _ (value_on c.args.file.now c.args.v) (value_told c.args.file.now c.args.f c.args.v c.if-f.true _ refl _ c.coding_of.ensures _ c.tail_of.ensures _ refl)

pub returns : goal.returns
returns c = bare_told c.args.file.now c.args.f c.if-f.false _ (value_on c.args.file.now c.args.v) (ap Err c.refuse.ensures ∙ value_bare c.args.file.now c.args.f c.args.v c.if-f.false)
