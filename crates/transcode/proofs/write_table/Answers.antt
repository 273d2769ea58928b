-- `transcode::write_table` meets its contract: at each turn the items written so far stand in front, and the others are left. Assumes a coding that
-- carries every value, and room.
use mathlib.Core.Bool.{false}
use mathlib.Core.Path.{refl, sym, ◌∙◌, subst}
use mathlib.Core.List.{List, []}
use Prim.Native.Nat.{ℕ}
use native.Mathlib.Omega.{arith}
use Rattle.base.proofs.Written.{Written, begins_as, room, goes_on, ends}
use Rattle.coding.proofs.Written.{carries_exactly, start_len, end_len}
use Rattle.coding.specs.Meaning.{value_bytes, start_bytes, end_bytes}
use Rattle.table.specs.Meaning.{bytes}
use Rattle.table.specs.Reading.{step_items}
use Rattle.table.specs.Walking.{steps_left}
use Rattle.table.proofs.Walking.{walked_token, walked_malformed, walked_out, steps_begin}
use Rattle.transcode.specs.Reading.{recoded}
use Rattle.transcode.proofs.Turns.{value_more, value_carried, start_more, end_more, value_bytes_lem, start_bytes_lem, end_bytes_lem, malformed_bytes, past_bytes, recoded_begins, length_begins}
use Rattle.transcode.proofs.write_table.Goals as goal

pub loop-step-init : goal.loop-step-init
loop-step-init c = rw c.into_iter-step-iterator.ensures.into_iter_gives
    (let b = steps_begin _ _ _ c.new-step-items.result c.new-step-items.ensures in (begins_as _ _ _ c.requires.1 (recoded_begins _ _ _ _ b), (0, length_begins _ _ _ _ b ∙ c.requires.0)))

pub returns-in_default : goal.returns-in_default
returns-in_default c =
    let e = malformed_bytes c.args.to _ _ _ (walked_malformed _ _ _ _ _ c.in-Some.is c.in_default.is c.next.ensures.steps).0 in
    ends _ _ _ c.loop-step.n (subst (Written (recoded c.args.from c.args.to c.args.tail.now) c.args.out.now c.loop-step.n c.loop-step.out) e c.loop-step.invariant.0)

pub put_value-n-requires : goal.put_value-n-requires
put_value-n-requires c =
    let e = walked_token _ _ _ _ _ _ _ c.in-Some.is c.in-Ok.is c.in-Value.is c.next.ensures.steps in
    let s = subst (Written (recoded c.args.from c.args.to c.args.tail.now) c.args.out.now c.loop-step.n c.loop-step.out) (value_bytes_lem c.args.to _ _ _ _ e) c.loop-step.invariant.0 in
    ((carries_exactly _ _).0 (value_carried _ _ _ _ _ _ _ _ e c.loop-step.invariant.1.1), room (recoded c.args.from c.args.to c.args.tail.now) (value_bytes c.args.to c.in-Value.v) (bytes c.args.to (step_items false (steps_left c.next.new.self))) c.args.out.now c.loop-step.out c.loop-step.n s)

pub overflow_add-n : goal.overflow_add-n
overflow_add-n c =
    let e = walked_token _ _ _ _ _ _ _ c.in-Some.is c.in-Ok.is c.in-Value.is c.next.ensures.steps in
    let s = subst (Written (recoded c.args.from c.args.to c.args.tail.now) c.args.out.now c.loop-step.n c.loop-step.out) (value_bytes_lem c.args.to _ _ _ _ e) c.loop-step.invariant.0 in
    let w = goes_on (recoded c.args.from c.args.to c.args.tail.now) (value_bytes c.args.to c.in-Value.v) (bytes c.args.to (step_items false (steps_left c.next.new.self))) c.args.out.now c.loop-step.out _ (value_bytes c.args.to c.in-Value.v) c.loop-step.n _ refl c.put_value-n.ensures.0 c.put_value-n.ensures.1 s in
    omega (arith, w.0, w.1)

pub loop-step-preserved-in-Value : goal.loop-step-preserved-in-Value
loop-step-preserved-in-Value c =
    let e = walked_token _ _ _ _ _ _ _ c.in-Some.is c.in-Ok.is c.in-Value.is c.next.ensures.steps in
    let s = subst (Written (recoded c.args.from c.args.to c.args.tail.now) c.args.out.now c.loop-step.n c.loop-step.out) (value_bytes_lem c.args.to _ _ _ _ e) c.loop-step.invariant.0 in
    (goes_on (recoded c.args.from c.args.to c.args.tail.now) (value_bytes c.args.to c.in-Value.v) (bytes c.args.to (step_items false (steps_left c.next.new.self))) c.args.out.now c.loop-step.out _ (value_bytes c.args.to c.in-Value.v) c.loop-step.n _ refl c.put_value-n.ensures.0 c.put_value-n.ensures.1 s, (_, sym (value_more _ _ _ _ _ _ _ _ e (value_carried _ _ _ _ _ _ _ _ e c.loop-step.invariant.1.1) c.put_value-n.ensures.0) ∙ c.loop-step.invariant.1.1))

pub put_start-n-requires : goal.put_start-n-requires
put_start-n-requires c =
    let e = walked_token _ _ _ _ _ _ _ c.in-Some.is c.in-Ok.is c.in-Start.is c.next.ensures.steps in
    let s = subst (Written (recoded c.args.from c.args.to c.args.tail.now) c.args.out.now c.loop-step.n c.loop-step.out) (start_bytes_lem c.args.to _ _ _ e) c.loop-step.invariant.0 in
    room (recoded c.args.from c.args.to c.args.tail.now) (start_bytes c.args.to) (bytes c.args.to (step_items false (steps_left c.next.new.self))) c.args.out.now c.loop-step.out c.loop-step.n s

pub overflow_add-n-in-Start : goal.overflow_add-n-in-Start
overflow_add-n-in-Start c =
    let e = walked_token _ _ _ _ _ _ _ c.in-Some.is c.in-Ok.is c.in-Start.is c.next.ensures.steps in
    let s = subst (Written (recoded c.args.from c.args.to c.args.tail.now) c.args.out.now c.loop-step.n c.loop-step.out) (start_bytes_lem c.args.to _ _ _ e) c.loop-step.invariant.0 in
    let w = goes_on (recoded c.args.from c.args.to c.args.tail.now) (start_bytes c.args.to) (bytes c.args.to (step_items false (steps_left c.next.new.self))) c.args.out.now c.loop-step.out _ (start_bytes c.args.to) c.loop-step.n _ refl c.put_start-n.ensures.0 c.put_start-n.ensures.1 s in
    omega (arith, w.0, w.1)

pub loop-step-preserved-in-Start : goal.loop-step-preserved-in-Start
loop-step-preserved-in-Start c =
    let e = walked_token _ _ _ _ _ _ _ c.in-Some.is c.in-Ok.is c.in-Start.is c.next.ensures.steps in
    let s = subst (Written (recoded c.args.from c.args.to c.args.tail.now) c.args.out.now c.loop-step.n c.loop-step.out) (start_bytes_lem c.args.to _ _ _ e) c.loop-step.invariant.0 in
    (goes_on (recoded c.args.from c.args.to c.args.tail.now) (start_bytes c.args.to) (bytes c.args.to (step_items false (steps_left c.next.new.self))) c.args.out.now c.loop-step.out _ (start_bytes c.args.to) c.loop-step.n _ refl c.put_start-n.ensures.0 c.put_start-n.ensures.1 s, (_, sym (start_more _ _ _ _ _ _ _ e (c.put_start-n.ensures.0 ∙ sym (start_len _))) ∙ c.loop-step.invariant.1.1))

pub put_end-n-requires : goal.put_end-n-requires
put_end-n-requires c =
    let e = walked_token _ _ _ _ _ _ _ c.in-Some.is c.in-Ok.is c.in-End.is c.next.ensures.steps in
    let s = subst (Written (recoded c.args.from c.args.to c.args.tail.now) c.args.out.now c.loop-step.n c.loop-step.out) (end_bytes_lem c.args.to _ _ _ e) c.loop-step.invariant.0 in
    room (recoded c.args.from c.args.to c.args.tail.now) (end_bytes c.args.to) (bytes c.args.to (step_items false (steps_left c.next.new.self))) c.args.out.now c.loop-step.out c.loop-step.n s

pub overflow_add-n-in-End : goal.overflow_add-n-in-End
overflow_add-n-in-End c =
    let e = walked_token _ _ _ _ _ _ _ c.in-Some.is c.in-Ok.is c.in-End.is c.next.ensures.steps in
    let s = subst (Written (recoded c.args.from c.args.to c.args.tail.now) c.args.out.now c.loop-step.n c.loop-step.out) (end_bytes_lem c.args.to _ _ _ e) c.loop-step.invariant.0 in
    let w = goes_on (recoded c.args.from c.args.to c.args.tail.now) (end_bytes c.args.to) (bytes c.args.to (step_items false (steps_left c.next.new.self))) c.args.out.now c.loop-step.out _ (end_bytes c.args.to) c.loop-step.n _ refl c.put_end-n.ensures.0 c.put_end-n.ensures.1 s in
    omega (arith, w.0, w.1)

pub loop-step-preserved : goal.loop-step-preserved
loop-step-preserved c =
    let e = walked_token _ _ _ _ _ _ _ c.in-Some.is c.in-Ok.is c.in-End.is c.next.ensures.steps in
    let s = subst (Written (recoded c.args.from c.args.to c.args.tail.now) c.args.out.now c.loop-step.n c.loop-step.out) (end_bytes_lem c.args.to _ _ _ e) c.loop-step.invariant.0 in
    (goes_on (recoded c.args.from c.args.to c.args.tail.now) (end_bytes c.args.to) (bytes c.args.to (step_items false (steps_left c.next.new.self))) c.args.out.now c.loop-step.out _ (end_bytes c.args.to) c.loop-step.n _ refl c.put_end-n.ensures.0 c.put_end-n.ensures.1 s, (_, sym (end_more _ _ _ _ _ _ _ e (c.put_end-n.ensures.0 ∙ sym (end_len _))) ∙ c.loop-step.invariant.1.1))

pub returns : goal.returns
returns c =
    let e = past_bytes c.args.to _ [] (walked_out _ _ _ c.in-None.is c.next.ensures.steps).0 in
    ends _ _ _ c.loop-step.n (subst (Written (recoded c.args.from c.args.to c.args.tail.now) c.args.out.now c.loop-step.n c.loop-step.out) e c.loop-step.invariant.0)
