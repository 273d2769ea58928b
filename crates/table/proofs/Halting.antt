-- Where going over a table came to an end, and no value was asked for: the answer there is that of the check.
use mathlib.Core.Path.{◌≡◌, refl, sym, ◌∙◌, ap, subst}
use mathlib.Core.Bool.{Bool}
use mathlib.Core.Logic.{◌⊎◌, inl, inr}
use mathlib.Core.List.{List, ◌∷◌}
use Prim.Native.Nat.{ℕ, suc, ◌-◌, ◌≤◌, ◌<◌}
use native.Mathlib.Omega.{arith}
use lib.ListN.{length, drop_of_length-le}
use borrow.Author.Tests.{eq-eqb, ne_eqb}
use Rattle.base.proofs.Tests.{below, same, nonzero}
use Rattle.coding.specs.declared.Coding.{Coding}
use Rattle.coding.specs.Reading.{no_key}
use Rattle.coding.proofs.Codings.{no_key_lem}
use Rattle.table.specs.declared.Cursor.{Cursor}
use Rattle.table.specs.Reading.{step_at, steps_from, steps_at, check_steps, table_of}
use Rattle.table.specs.Skipping.{Phase, is_opened, Front, front, skipped, no_start, phase_of, cursor_of, front_at, Stands, ended_of, NoValue, refused_of, answer_at, check_front, check_at}
use Rattle.table.proofs.Stepping.{step_says, says_first, past_end}
use Rattle.table.proofs.Skipping.{check_skip, skip_left, skip_halts, Halted, HaltedAt, ended_trailing, ended_complete, phase_none}
use Rattle.std.specs.Prelude.{Err, Ok}
use Rattle.table.specs.declared.Fault.TheVariants.{Cut as TableCut}
use Rattle.token.specs.declared.Token.TheVariants.{Value as TokenValue, Start as TokenStart, End as TokenEnd}
use Rattle.token.specs.declared.Malformed.TheVariants.{Cut, Bad}
use Rattle.token.specs.Reading.{Step}

-- with no description left
module _ (c : Coding) (s : List ℕ) (g : ℕ) (o : Bool) (at : ℕ) where
  pub ended_there : ended_of (length s) at ≡ check_steps (length s) g 0 o at (steps_at c s at)
  unfolding check_steps steps_from
  ended_there = go (below at (length s))
    where
      go : (at < length s) ⊎ (length s ≤ at) → ended_of (length s) at ≡ check_steps (length s) g 0 o at (steps_at c s at)
      go (inl h) = sym (ended_trailing (length s) at h) ∙ sym (ap (check_steps (length s) g 0 o at) (says_first c s at h (step_at c s at) (step_says c s at h)).1)
      go (inr h) = sym (ended_complete (length s) at h) ∙ sym (ap (λ (t : List ℕ). check_steps (length s) g 0 o at (steps_from c at 0 t)) (drop_of_length-le s h))

-- no value stands where it ends with a description left
module _ (c : Coding) where
  no_value_by : (p : Phase) (x : Step) (xs : List Step) → Halted c no_key p (x ∷ xs) → NoValue x
  no_value_by p (Ok (TokenValue v, next)) xs h = no_key_lem c v h
  no_value_by p (Ok (TokenStart, next)) xs h = tt
  no_value_by p (Ok (TokenEnd, next)) xs h = tt
  no_value_by p (Err Cut) xs h = tt
  no_value_by p (Err (Bad k)) xs h = tt

  refused_by : (k e g n : ℕ) (p : Phase) (at : ℕ) (x : Step) (xs : List Step) → NoValue x → Halted c k p (x ∷ xs) → refused_of e g x ≡ check_steps e g (suc n) (is_opened p) at (x ∷ xs)
  unfolding check_steps
  refused_by k e g n p at (Ok (TokenValue v, next)) xs w h = absurd w
  refused_by k e g n p at (Ok (TokenStart, next)) xs w h = rw h
  refused_by k e g n p at (Ok (TokenEnd, next)) xs w h = rw h
  refused_by k e g n p at (Err Cut) xs w h = refl
  refused_by k e g n p at (Err (Bad j)) xs w h = refl

  pub no_value_there : (s : List ℕ) (at : ℕ) (p : Phase) → Halted c no_key p (steps_at c s at) → NoValue (step_at c s at)
  no_value_there s at p h = go (below at (length s))
    where
      go : (at < length s) ⊎ (length s ≤ at) → NoValue (step_at c s at)
      go (inl l) = let q = says_first c s at l (step_at c s at) (step_says c s at l) in no_value_by p (step_at c s at) q.0 (subst (Halted c no_key p) q.1 h)
      go (inr l) = subst NoValue (past_end c s at l).0 tt

  -- with a description left, and no value there
  pub refused_there : (s : List ℕ) (at : ℕ) (p : Phase) (k : ℕ) → Halted c k p (steps_at c s at) → NoValue (step_at c s at) → (g n : ℕ) → at ≤ length s →
      refused_of (length s) g (step_at c s at) ≡ check_steps (length s) g (suc n) (is_opened p) at (steps_at c s at)
  unfolding check_steps steps_from
  refused_there s at p k h w g n b = go (below at (length s))
    where
      go : (at < length s) ⊎ (length s ≤ at) → refused_of (length s) g (step_at c s at) ≡ check_steps (length s) g (suc n) (is_opened p) at (steps_at c s at)
      go (inl l) =
          let q = says_first c s at l (step_at c s at) (step_says c s at l) in
          refused_by k (length s) g n p at (step_at c s at) q.0 w (subst (Halted c k p) q.1 h) ∙ sym (ap (check_steps (length s) g (suc n) (is_opened p) at) q.1)
      go (inr l) =
          let z : length s ≡ at = omega arith in
          sym (ap (refused_of (length s) g) (past_end c s at l).0)
          ∙ ap (λ (i : ℕ). Err (TableCut i g)) z
          ∙ sym (ap (λ (t : List ℕ). check_steps (length s) g (suc n) (is_opened p) at (steps_from c at 0 t)) (drop_of_length-le s l))

-- a cursor that was gone to, and the check from there
module _ (c : Coding) (s : List ℕ) (k : ℕ) (from p : Cursor) (e : front_at c s p ≡ skipped c k (front_at c s from)) (l : 1 ≤ from.left) where
  pub left_after : p.left ≤ from.left
  left_after =
      let z = ap (λ (f : Front). f.left) e in
      let w = skip_left c k (from.left - 1) (phase_of from.start from.at) from.at (steps_at c s from.at) in
      omega (arith, z, w)

  pub halted_after : HaltedAt c k (front_at c s p)
  halted_after = subst (HaltedAt c k) (sym e) (skip_halts c k (from.left - 1) (phase_of from.start from.at) from.at (steps_at c s from.at))

  pub check_after : (n : ℕ) → from.left ≤ n → check_at c s n p ≡ check_at c s n from
  check_after n h =
      let z : suc (from.left - 1) ≡ from.left = omega arith in
      ap (check_front (length s) n) e
      ∙ sym (check_skip c k (length s) n (from.left - 1) (phase_of from.start from.at) from.at (steps_at c s from.at) (omega arith))
      ∙ ap (λ (m : ℕ). check_front (length s) n (front m (phase_of from.start from.at) from.at (steps_at c s from.at))) z

-- where it ended, and no value stands there or no description is left
module _ (c : Coding) (s : List ℕ) (k : ℕ) (p : Cursor) (h : HaltedAt c k (front_at c s p)) where
  pub answer_there : (n : ℕ) → Stands s p → ((p.left ≡ 0 → ⊥) → NoValue (step_at c s p.at)) → answer_at c s n p ≡ check_at c s n p
  answer_there n w v = go (same p.left 0) h
    where
      go : (p.left ≡ 0) ⊎ (p.left ≡ 0 → ⊥) → HaltedAt c k (front_at c s p) → answer_at c s n p ≡ check_at c s n p
      go (inl z) d = rw (eq-eqb p.left 0 z, z) (ended_there c s (n - 0) (is_opened (phase_of p.start p.at)) p.at)
      go (inr z) (inl q) = absurd (z q)
      go (inr z) (inr q) =
          rw (ne_eqb p.left 0 z)
          (nonzero (λ (m : ℕ). refused_of (length s) (n - m) (step_at c s p.at) ≡ check_steps (length s) (n - m) m (is_opened (phase_of p.start p.at)) p.at (steps_at c s p.at))
          (λ m. refused_there c s p.at (phase_of p.start p.at) k q (v z) (n - suc m) m w.0) p.left z)

-- where no key was asked for
pub no_value_left : (c : Coding) (s : List ℕ) (p : Cursor) → HaltedAt c no_key (front_at c s p) → (p.left ≡ 0 → ⊥) → NoValue (step_at c s p.at)
no_value_left c s p h z = go h
  where
    go : HaltedAt c no_key (front_at c s p) → NoValue (step_at c s p.at)
    go (inl q) = absurd (z q)
    go (inr q) = no_value_there c s p.at (phase_of p.start p.at) q

-- a cursor in front of a table of n descriptions
module _ (c : Coding) (s : List ℕ) (n : ℕ) where
  pub fresh_stands : (p : Cursor) → p ≡ cursor_of 0 n no_start → (n ≡ 0 → ⊥) → Stands s p × (1 ≤ p.left) × (p.left ≤ n)
  fresh_stands p e z = subst (λ (x : Cursor). Stands s x × (1 ≤ x.left) × (x.left ≤ n)) (sym e) ((omega arith, inr refl), omega arith, omega arith)

  pub fresh_check : (p : Cursor) → p ≡ cursor_of 0 n no_start → check_at c s n p ≡ table_of c n s
  fresh_check p e =
      let z : n - n ≡ 0 = omega arith in
      ap (check_at c s n) e
      ∙ ap (λ (g : ℕ). check_steps (length s) g n (is_opened (phase_of no_start 0)) 0 (steps_at c s 0)) z
      ∙ ap (λ (q : Phase). check_steps (length s) 0 n (is_opened q) 0 (steps_at c s 0)) (phase_none 0)
