-- A lookup in one pass at a cursor: the check and what is found go on together, and where it ends both are told.
use mathlib.Core.Path.{◌≡◌, refl, sym, ◌∙◌, ap, subst}
use mathlib.Core.Bool.{Bool, true, false}
use mathlib.Core.Logic.{◌⊎◌, inl, inr}
use mathlib.Core.List.{List, [], ◌∷◌}
use Prim.Native.Nat.{ℕ, suc, ◌-◌, ◌*◌, ◌≤◌, ◌<◌}
use native.Mathlib.Omega.{arith}
use lib.ListN.{length, get_or}
use Rattle.base.specs.Meaning.{pick}
use Rattle.base.proofs.Tests.{nonzero}
use Rattle.coding.specs.declared.Coding.{Coding}
use Rattle.coding.specs.Reading.{key_of}
use Rattle.table.specs.declared.Cursor.{Cursor}
use Rattle.table.specs.Reading.{step_at, steps_at, items_in, check_steps, table_of}
use Rattle.table.specs.Skipping.{Phase, singles, is_opened, after_value, front, skipped, no_start, phase_of, cursor_of, front_at, Stands, ended_of, NoValue, refused_of, check_at}
use Rattle.table.proofs.Skipping.{HaltedAt, phase_none, phase_value, next_phase}
use Rattle.table.proofs.Halting.{ended_there, refused_there, left_after, halted_after, check_after, fresh_check}
use Rattle.lookup.specs.Reading.{find_asked, looked_of, find_from, begins_at}
use Rattle.lookup.proofs.Looking.{find_front, find_skip, found_or_next, looked_ended, looked_refused}
use Rattle.std.specs.Prelude.{Result, Option, Some, None, Ok, Err}
use Rattle.table.specs.declared.Fault.{Fault}
use Rattle.token.specs.declared.Token.TheVariants.{Value as TokenValue, Start as TokenStart, End as TokenEnd}
use Rattle.token.specs.declared.Malformed.TheVariants.{Cut, Bad}
use Rattle.token.specs.Reading.{Step}

module _ (c : Coding) (s : List ℕ) (n : ℕ) (q : Bool) (vs : List ℕ) where
  -- what holds at a cursor: it stands in the table, and the check and what is found go on from there
  abbrev pub Goes : ℕ → ℕ → ℕ → Type 0
  Goes at left start =
      Stands s (cursor_of at left start) × (left ≤ n)
      × (check_at c s n (cursor_of at left start) ≡ table_of c n s) × (find_front q vs n (front_at c s (cursor_of at left start)) ≡ find_asked q vs (items_in c s))

  pub goes_fresh : Goes 0 n no_start
  goes_fresh = ((omega arith, inr refl), omega arith, fresh_check c s n (cursor_of 0 n no_start) refl, begun)
    where
      asked : (q : Bool) → find_from q vs 0 singles (steps_at c s 0) ≡ find_asked q vs (items_in c s)
      asked false = refl
      asked true = refl

      begun : find_front q vs n (front_at c s (cursor_of 0 n no_start)) ≡ find_asked q vs (items_in c s)
      begun =
          let z : n - n ≡ 0 = omega arith in
          ap (λ (g : ℕ). find_from q vs g (phase_of no_start 0) (steps_at c s 0)) z ∙ ap (λ (p : Phase). find_from q vs 0 p (steps_at c s 0)) (phase_none 0) ∙ asked q

  pub goes_stands : (at left start : ℕ) → Goes at left start → (left ≡ 0 → ⊥) → Stands s (cursor_of at left start) × (1 ≤ left)
  goes_stands at left start w l = (w.0, omega arith)

  -- a cursor that was gone to
  module _ (at left start : ℕ) (w : Goes at left start) (l : left ≡ 0 → ⊥) (k : ℕ) (h : 1 ≤ length vs) (e : k ≡ key_of c (get_or vs 0 0)) (p : Cursor)
      (r : front_at c s p ≡ skipped c k (front_at c s (cursor_of at left start))) (b : Stands s p) where
    pub goes_skipped : Goes p.at p.left p.start
    goes_skipped =
        let m : 1 ≤ left = omega arith in
        let z : left ≡ suc (left - 1) = omega arith in
        let u = left_after c s k (cursor_of at left start) p r m in (
          b,
          omega (arith, u, w.1),
          check_after c s k (cursor_of at left start) p r m n w.1 ∙ w.2,
          ap (find_front q vs n) r
              ∙ sym (find_skip c k vs h (sym e) n q (left - 1) (phase_of start at) at (steps_at c s at) (omega (arith, w.1)))
              ∙ sym (ap (λ (m : ℕ). find_front q vs n (front m (phase_of start at) at (steps_at c s at))) z)
              ∙ w.3,
        )

    pub goes_halted : HaltedAt c k (front_at c s p)
    goes_halted = halted_after c s k (cursor_of at left start) p r (omega arith)

  -- what is told
  both : (a : Option ℕ) (t : Result (Unit {0}) Fault) → a ≡ find_asked q vs (items_in c s) → t ≡ table_of c n s → looked_of a t ≡ looked_of (find_asked q vs (items_in c s)) (table_of c n s)
  both a t x y = ap (λ (b : Option ℕ). looked_of b t) x ∙ ap (looked_of (find_asked q vs (items_in c s))) y

  module _ (at left start : ℕ) (w : Goes at left start) where
    -- behind the last description
    pub told_ended : left ≡ 0 → (t : Result (Unit {0}) Fault) → t ≡ ended_of (length s) at → (r : Result (Option ℕ) Fault) → r ≡ looked_of None t → r ≡ looked_of (find_asked q vs (items_in c s)) (table_of c n s)
    told_ended z t y r x =
        let g : n - left ≡ n - 0 = omega arith in
        x ∙ ap (looked_of None) y ∙ looked_ended c s q vs (n - left) (phase_of start at) at
        ∙ both (find_from q vs (n - left) (phase_of start at) (steps_at c s at)) (ended_of (length s) at) w.3
        (ended_there c s (n - left) (is_opened (phase_of start at)) at
        ∙ ap (λ (m : ℕ). check_steps (length s) (n - left) m (is_opened (phase_of start at)) at (steps_at c s at)) (sym z)
        ∙ w.2)

    -- where no value stands
    pub told_refused : (left ≡ 0 → ⊥) → (k : ℕ) → HaltedAt c k (front_at c s (cursor_of at left start)) → NoValue (step_at c s at) →
        (t : Result (Unit {0}) Fault) → t ≡ refused_of (length s) (n - left) (step_at c s at) → (r : Result (Option ℕ) Fault) → r ≡ looked_of None t → r ≡ looked_of (find_asked q vs (items_in c s)) (table_of c n s)
    told_refused z k (inl u) v t y r x = absurd (z u)
    told_refused z k (inr u) v t y r x =
        let m : suc (left - 1) ≡ left = omega arith in
        x ∙ ap (looked_of None) y ∙ looked_refused (length s) (n - left) (step_at c s at) v None (find_from q vs (n - left) (phase_of start at) (steps_at c s at))
        ∙ both (find_from q vs (n - left) (phase_of start at) (steps_at c s at)) (refused_of (length s) (n - left) (step_at c s at)) w.3
        (refused_there c s at (phase_of start at) k u v (n - left) (left - 1) w.0.0
        ∙ ap (λ (i : ℕ). check_steps (length s) (n - left) i (is_opened (phase_of start at)) at (steps_at c s at)) m
        ∙ w.2)

    -- at a value
    module _ (z : left ≡ 0 → ⊥) (b : length s * 1 < 9223372036854775808) (v next : ℕ) (o : (at < next) × (next ≤ length s) × (steps_at c s at ≡ Ok (TokenValue v, next) ∷ steps_at c s next)) where
      stands_next : Stands s (cursor_of next left start)
      stands_next = (o.1, go w.0.1)
        where
          go : (start ≤ at) ⊎ (start ≡ no_start) → (start ≤ next) ⊎ (start ≡ no_start)
          go (inl x) = inl (omega (arith, o.0))
          go (inr x) = inr x

      next_is : after_value (phase_of start at) ≡ phase_of start next
      next_is = phase_value start at next w.0.1 o.0 (omega (arith, o.1))

      check_next : check_at c s n (cursor_of next left start) ≡ table_of c n s
      unfolding check_steps
      check_next =
          ap (λ (p : Phase). check_steps (length s) (n - left) left (is_opened p) next (steps_at c s next)) (sym next_is)
          ∙ ap (λ (t : Bool). check_steps (length s) (n - left) left t next (steps_at c s next)) (next_phase (phase_of start at))
          ∙ sym (nonzero (λ (m : ℕ). check_steps (length s) (n - left) m (is_opened (phase_of start at)) at (Ok (TokenValue v, next) ∷ steps_at c s next) ≡ check_steps (length s) (n - left) m false next (steps_at c s next)) (λ m. refl) left z)
          ∙ sym (ap (check_steps (length s) (n - left) left (is_opened (phase_of start at)) at) o.2)
          ∙ w.2

      by_value : find_from q vs (n - left) (phase_of start at) (steps_at c s at) ≡
          pick (begins_at q vs (phase_of start at) v (steps_at c s at)) (Some (n - left)) (find_from q vs (n - left) (phase_of start next) (steps_at c s next))
      by_value =
          ap (find_from q vs (n - left) (phase_of start at)) o.2
          ∙ found_or_next q vs (n - left) (phase_of start at) v next (steps_at c s next)
          ∙ ap (λ (xs : List Step). pick (begins_at q vs (phase_of start at) v xs) (Some (n - left)) (find_from q vs (n - left) (after_value (phase_of start at)) (steps_at c s next))) (sym o.2)
          ∙ ap (λ (p : Phase). pick (begins_at q vs (phase_of start at) v (steps_at c s at)) (Some (n - left)) (find_from q vs (n - left) p (steps_at c s next))) next_is

      module _ (t : Bool) (y : t ≡ begins_at q vs (phase_of start at) v (steps_at c s at)) where
        pub goes_next : t ≡ false → Goes next left start
        goes_next x = (
          stands_next,
          w.1,
          check_next,
          sym (by_value ∙ ap (λ (u : Bool). pick u (Some (n - left)) (find_from q vs (n - left) (phase_of start next) (steps_at c s next))) (sym y ∙ x)) ∙ w.3,
        )

        pub next_stands : (f : Cursor) → f ≡ cursor_of next left start → Stands s f × (1 ≤ f.left) × (f.left ≤ n)
        next_stands f d = subst (λ (x : Cursor). Stands s x × (1 ≤ x.left) × (x.left ≤ n)) (sym d) (stands_next, omega arith, w.1)

        pub told_found : t ≡ true → (f : Cursor) → f ≡ cursor_of next left start → (a : Result (Unit {0}) Fault) → a ≡ check_at c s n f → (r : Result (Option ℕ) Fault) → r ≡ looked_of (Some (n - left)) a →
            r ≡ looked_of (find_asked q vs (items_in c s)) (table_of c n s)
        told_found x f d a u r m =
            m ∙ both (Some (n - left)) a
            (sym (by_value ∙ ap (λ (i : Bool). pick i (Some (n - left)) (find_from q vs (n - left) (phase_of start next) (steps_at c s next))) (sym y ∙ x)) ∙ w.3)
            (u ∙ ap (check_at c s n) d ∙ check_next)
