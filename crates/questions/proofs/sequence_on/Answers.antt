-- `questions::sequence_on` meets its contract: the table's refusal, NO TABLE, then ASK, then what the lookup found. Assumes `Placed`.
use mathlib.Core.Path.{sym, ◌∙◌, refl, ap}
use mathlib.Core.Bool.{true, false}
use native.Mathlib.Omega.{arith}
use Rattle.base.proofs.Parts.{bytes_of}
use Rattle.questions.specs.Reading.{sequence_on}
use Rattle.questions.proofs.Answers.{sequence_told, sequence_ask, sequence_bare, bare_told, place_told, looked_told, ask_one}
use borrow.Author.Rules.{rules}
use Rattle.lookup.proofs.find_sequence.Reads as find-sequence-reads
use Rattle.lookup.proofs.find_value.Reads as find-value-reads
use Rattle.questions.proofs.may_ask.Reads as may-ask-reads
use Rattle.questions.proofs.told.Reads as told-reads
use Rattle.refusal.proofs.refuse.Reads as refuse-reads
use Rattle.stages.proofs.coding_of.Reads as coding-of-reads
use Rattle.questions.proofs.sequence_on.Goals as goal
use Rattle.std.specs.Prelude.{Err}

pub find_sequence-w-requires : goal.find_sequence-w-requires
find_sequence-w-requires c = ask_one c.args.vs.now (sym c.may_ask.ensures ∙ c.if-may_ask.true)

pub told-requires : goal.told-requires
told-requires c = omega (arith, place_told c.args.file.now c.args.f _ c.coding_of-c.ensures _ c.tail_of-tail.ensures _ _ c.find_sequence-w.ensures (bytes_of c.args.file.now c.type_inv.file) c.requires)

pub returns-then-may_ask : goal.returns-then-may_ask
returns-then-may_ask c = c.told.ensures ∙ looked_told c.args.file.now c.args.f _ c.coding_of-c.ensures _ c.tail_of-tail.ensures _ _ c.find_sequence-w.ensures c.if-f.true true (sequence_on c.args.file.now c.args.vs.now) (sequence_told c.args.file.now c.args.f c.args.vs.now c.if-f.true _ c.may_ask.ensures c.if-may_ask.true _ c.coding_of-c.ensures _ c.tail_of-tail.ensures _ refl)

pub told-requires-then-f : goal.told-requires-then-f
told-requires-then-f c = omega (arith, place_told c.args.file.now c.args.f _ c.coding_of-c.ensures _ c.tail_of-tail.ensures _ _ c.find_value-w.ensures (bytes_of c.args.file.now c.type_inv.file) c.requires)

pub returns-then-f : goal.returns-then-f
returns-then-f c = c.told-then-f.ensures ∙ looked_told c.args.file.now c.args.f _ c.coding_of-c.ensures _ c.tail_of-tail.ensures _ _ c.find_value-w.ensures c.if-f.true false (sequence_on c.args.file.now c.args.vs.now) (sequence_ask c.args.file.now c.args.f c.args.vs.now c.if-f.true _ c.may_ask.ensures c.if-may_ask.false)

pub returns : goal.returns
returns c = bare_told c.args.file.now c.args.f c.if-f.false _ (sequence_on c.args.file.now c.args.vs.now) (ap Err c.refuse.ensures ∙ sequence_bare c.args.file.now c.args.f c.args.vs.now c.if-f.false)
