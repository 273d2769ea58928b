-- A turn of going over a table, one law for each way that it can go, at a cursor in a list of bytes.
use mathlib.Core.Path.{◌≡◌, refl, sym, ◌∙◌, ap, subst}
use mathlib.Core.Logic.{◌⊎◌, inl, inr}
use mathlib.Core.List.{List, ◌∷◌}
use Prim.Native.Nat.{ℕ, suc, ◌-◌, ◌*◌, ◌≤◌, ◌<◌}
use native.Mathlib.Omega.{arith}
use lib.ListN.{length, drop_of_length-le}
use Rattle.coding.specs.declared.Coding.{Coding}
use Rattle.table.specs.declared.Cursor.{Cursor}
use Rattle.table.specs.declared.Plain.TheVariants.{Value as PlainValue, Start as PlainStart, End as PlainEnd, Other}
use Rattle.table.specs.Reading.{step_at, steps_from, steps_at}
use Rattle.table.specs.Bounds.{StepSays}
use Rattle.table.specs.Skipping.{Phase, plain_of, Front, front, skip_from, no_start, phase_of, cursor_of, front_at, Stands}
use Rattle.table.proofs.Stepping.{says_first}
use Rattle.table.proofs.Skipping.{ValueAt, plain_value, plain_start, plain_end, skip_other, skip_value, skip_start, halt_start, skip_end, skip_last, halt_end, skip_past, phase_none, phase_here, phase_opened, phase_other, phase_value}
use Rattle.token.specs.declared.Token.TheVariants.{Value as TokenValue, Start as TokenStart, End as TokenEnd}
use Rattle.std.specs.Prelude.{Ok}

module _ (c : Coding) (s : List ℕ) (k : ℕ) where
  -- how far it is gone from a cursor on
  abbrev over : ℕ → ℕ → ℕ → Front
  over at left start = skip_from c k (left - 1) (phase_of start at) at (steps_at c s at)

  module _ (at left start : ℕ) (l : 1 ≤ left) (m : (start ≤ at) ⊎ (start ≡ no_start)) where
    here : (f : Front) → f ≡ front (suc (left - 1)) (phase_of start at) at (steps_at c s at) → front_at c s (cursor_of at left start) ≡ f
    here f e = let z : left ≡ suc (left - 1) = omega arith in ap (λ (n : ℕ). front n (phase_of start at) at (steps_at c s at)) z ∙ sym e

    -- the bytes end there
    halts_past : length s ≤ at → front_at c s (cursor_of at left start) ≡ over at left start
    unfolding steps_from
    halts_past h = here (over at left start) (rw (drop_of_length-le s h) (skip_past c k (left - 1) (phase_of start at) at))

    module _ (h : at < length s) (b : length s < no_start) (w : StepSays c s at (step_at c s at)) where
      -- nothing plainly stands there
      halts_other : Other ≡ plain_of c k (step_at c s at) → front_at c s (cursor_of at left start) ≡ over at left start
      halts_other e =
          let q = says_first c s at h (step_at c s at) w in
          here (over at left start)
          (ap (skip_from c k (left - 1) (phase_of start at) at) q.1 ∙ skip_other c k (left - 1) (phase_of start at) at (step_at c s at) q.0 e
          ∙ sym (ap (front (suc (left - 1)) (phase_of start at) at) q.1))

      -- a value without the key
      module _ (next : ℕ) (e : PlainValue next ≡ plain_of c k (step_at c s at)) where
        value_there : ValueAt c k (step_at c s at) next
        value_there = plain_value c k (step_at c s at) next e

        value_says : StepSays c s at (Ok (TokenValue value_there.value, next))
        value_says = subst (StepSays c s at) value_there.step w

        value_on : (at < next) × (next ≤ length s)
        value_on = (value_says.0, value_says.1)

        value_stands : (start ≤ next) ⊎ (start ≡ no_start)
        value_stands = go m
          where
            go : (start ≤ at) ⊎ (start ≡ no_start) → (start ≤ next) ⊎ (start ≡ no_start)
            go (inl x) = inl (omega (arith, value_says.0))
            go (inr x) = inr x

        value_over : over next left start ≡ over at left start
        value_over =
            sym (ap (skip_from c k (left - 1) (phase_of start at) at) value_says.2
            ∙ skip_value c k at (steps_at c s next) (left - 1) (phase_of start at) value_there.value next value_there.other
            ∙ ap (λ (p : Phase). skip_from c k (left - 1) p next (steps_at c s next)) (phase_value start at next m value_says.0 (omega (arith, value_says.1))))

      -- a start mark
      module _ (next : ℕ) (e : PlainStart next ≡ plain_of c k (step_at c s at)) where
        start_says : StepSays c s at (Ok (TokenStart, next))
        start_says = subst (StepSays c s at) (plain_start c k (step_at c s at) next e) w

        start_on : (at < next) × (next ≤ length s)
        start_on = (start_says.0, start_says.1)

        start_over : (start ≡ at → ⊥) → over next left next ≡ over at left start
        start_over o =
            sym (ap (skip_from c k (left - 1) (phase_of start at) at) start_says.2
            ∙ skip_start c k at (steps_at c s next) (left - 1) (phase_of start at) next (phase_other start at o)
            ∙ ap (λ (p : Phase). skip_from c k (left - 1) p next (steps_at c s next)) (sym (phase_here next next refl (omega (arith, start_says.1)))))

        halts_start : start ≡ at → front_at c s (cursor_of at left start) ≡ over at left start
        halts_start o =
            here (over at left start)
            (ap (skip_from c k (left - 1) (phase_of start at) at) start_says.2
            ∙ halt_start c k at (steps_at c s next) (left - 1) (phase_of start at) next (phase_opened start at o (omega arith))
            ∙ sym (ap (front (suc (left - 1)) (phase_of start at) at) start_says.2))

      -- an end mark
      module _ (next : ℕ) (e : PlainEnd next ≡ plain_of c k (step_at c s at)) where
        end_says : StepSays c s at (Ok (TokenEnd, next))
        end_says = subst (StepSays c s at) (plain_end c k (step_at c s at) next e) w

        end_on : (at < next) × (next ≤ length s)
        end_on = (end_says.0, end_says.1)

        end_over : (start ≡ at → ⊥) → (left - 1 ≡ 0 → ⊥) → over next (left - 1) no_start ≡ over at left start
        end_over o z =
            let y : left - 1 ≡ suc (left - 1 - 1) = omega arith in
            sym (ap (skip_from c k (left - 1) (phase_of start at) at) end_says.2
            ∙ ap (λ (n : ℕ). skip_from c k n (phase_of start at) at (Ok (TokenEnd, next) ∷ steps_at c s next)) y
            ∙ skip_end c k at (steps_at c s next) (left - 1 - 1) (phase_of start at) next (phase_other start at o)
            ∙ ap (λ (p : Phase). skip_from c k (left - 1 - 1) p next (steps_at c s next)) (sym (phase_none next)))

        ends_last : (start ≡ at → ⊥) → left - 1 ≡ 0 → front_at c s (cursor_of next 0 no_start) ≡ over at left start
        ends_last o z =
            sym (ap (skip_from c k (left - 1) (phase_of start at) at) end_says.2
            ∙ ap (λ (n : ℕ). skip_from c k n (phase_of start at) at (Ok (TokenEnd, next) ∷ steps_at c s next)) z
            ∙ skip_last c k at (steps_at c s next) (phase_of start at) next (phase_other start at o)
            ∙ ap (λ (p : Phase). front 0 p next (steps_at c s next)) (sym (phase_none next)))

        halts_end : start ≡ at → front_at c s (cursor_of at left start) ≡ over at left start
        halts_end o =
            here (over at left start)
            (ap (skip_from c k (left - 1) (phase_of start at) at) end_says.2
            ∙ halt_end c k at (steps_at c s next) (left - 1) (phase_of start at) next (phase_opened start at o (omega arith))
            ∙ sym (ap (front (suc (left - 1)) (phase_of start at) at) end_says.2))

  -- what a loop keeps, from a place on and with f as what is gone to; and what is said where it stops
  module _ (f : Front) (from : ℕ) where
    abbrev pub Kept : ℕ → ℕ → ℕ → Type 0
    Kept at left start = (at ≤ length s) × (1 ≤ left) × ((start ≤ at) ⊎ (start ≡ no_start)) × (skip_from c k (left - 1) (phase_of start at) at (steps_at c s at) ≡ f) × (from ≤ at)

    abbrev pub Stopped : Cursor → Type 0
    Stopped r = (front_at c s r ≡ f) × Stands s r × (from ≤ r.at)

    module _ (at left start : ℕ) (i : Kept at left start) where
      stopped : (r : Cursor) → r ≡ cursor_of at left start → front_at c s (cursor_of at left start) ≡ over at left start → Stopped r
      stopped r e q = subst Stopped (sym e) (q ∙ i.3, (i.0, i.2), i.4)

      pub stops_past : length s ≤ at → (r : Cursor) → r ≡ cursor_of at left start → Stopped r
      stops_past h r e = stopped r e (halts_past at left start i.1 i.2 h)

      module _ (h : at < length s) (b : length s * 1 < 9223372036854775808) (w : StepSays c s at (step_at c s at)) where
        room : length s < no_start
        room = omega arith

        pub stops_other : Other ≡ plain_of c k (step_at c s at) → (r : Cursor) → r ≡ cursor_of at left start → Stopped r
        stops_other x r e = stopped r e (halts_other at left start i.1 i.2 h room w x)

        pub turns_value : (next : ℕ) → PlainValue next ≡ plain_of c k (step_at c s at) → Kept next left start × (at < next)
        turns_value next x =
            let o = value_on at left start i.1 i.2 h room w next x in
            ((o.1, i.1, value_stands at left start i.1 i.2 h room w next x, value_over at left start i.1 i.2 h room w next x ∙ i.3, omega (arith, i.4, o.0)), o.0)

        pub turns_start : (next : ℕ) → PlainStart next ≡ plain_of c k (step_at c s at) → (start ≡ at → ⊥) → Kept next left next × (at < next)
        turns_start next x d =
            let o = start_on at left start i.1 i.2 h room w next x in
            ((o.1, i.1, inl (omega arith), start_over at left start i.1 i.2 h room w next x d ∙ i.3, omega (arith, i.4, o.0)), o.0)

        pub stops_start : (next : ℕ) → PlainStart next ≡ plain_of c k (step_at c s at) → start ≡ at → (r : Cursor) → r ≡ cursor_of at left start → Stopped r
        stops_start next x d r e = stopped r e (halts_start at left start i.1 i.2 h room w next x d)

        pub turns_end : (next : ℕ) → PlainEnd next ≡ plain_of c k (step_at c s at) → (start ≡ at → ⊥) → (left - 1 ≡ 0 → ⊥) → Kept next (left - 1) no_start × (at < next)
        turns_end next x d z =
            let o = end_on at left start i.1 i.2 h room w next x in
            ((o.1, omega arith, inr refl, end_over at left start i.1 i.2 h room w next x d z ∙ i.3, omega (arith, i.4, o.0)), o.0)

        pub stops_end : (next : ℕ) → PlainEnd next ≡ plain_of c k (step_at c s at) → start ≡ at → (r : Cursor) → r ≡ cursor_of at left start → Stopped r
        stops_end next x d r e = stopped r e (halts_end at left start i.1 i.2 h room w next x d)

        pub stops_last : (next : ℕ) → PlainEnd next ≡ plain_of c k (step_at c s at) → (start ≡ at → ⊥) → left - 1 ≡ 0 → (r : Cursor) → r ≡ cursor_of next 0 no_start → Stopped r
        stops_last next x d z r e =
            let o = end_on at left start i.1 i.2 h room w next x in
            subst Stopped (sym e) (ends_last at left start i.1 i.2 h room w next x d z ∙ i.3, (o.1, inr refl), omega (arith, i.4, o.0))
