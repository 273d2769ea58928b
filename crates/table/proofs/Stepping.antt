-- The steps of a list of bytes: at a place of the list, and where an item's bytes stand in front.
use mathlib.Core.Path.{◌≡◌, refl, sym, ◌∙◌, ap, subst}
use mathlib.Core.List.{List, [], ◌∷◌, ◌++◌}
use Prim.Native.Nat.{ℕ, zero, suc, ◌+◌, ◌-◌, ◌≤◌, ◌<◌}
use native.Mathlib.Omega.{arith}
use lib.ListN.{length, get_or, drop, length-drop, drop_of_length-le}
use lib.Seq.{drop-cons, drop-drop, drop_at}
use Rattle.token.proofs.Sized.{Sized}
use Rattle.coding.specs.declared.Coding.{Coding}
use Rattle.coding.specs.Reading.{read_token, mark_len}
use Rattle.coding.specs.Meaning.{ValueOf, value_bytes, start_bytes, end_bytes}
use Rattle.coding.proofs.Codings.{coded, stopping, token_sized, mark_small}
use Rattle.table.specs.declared.Item.{Item}
use Rattle.table.specs.declared.Item.TheVariants.{Single, Start, Value, End}
use Rattle.table.specs.Meaning.{item_bytes, OfCoding}
use Rattle.table.specs.Reading.{step_of, step_at, after_step, steps_from, steps_at}
use Rattle.table.specs.Bounds.{StepSays}
use Rattle.token.specs.declared.Token.TheVariants.{Value as TokenValue, Start as TokenStart, End as TokenEnd}
use Rattle.token.specs.declared.Token.{Token}
use Rattle.token.specs.declared.Malformed.TheVariants.{Cut, Bad}
use Rattle.token.specs.Reading.{Step}
use Rattle.std.specs.Prelude.{Ok, Err}

module _ (c : Coding) where
  -- bytes that belong to the step before
  skip : (k at : ℕ) (s : List ℕ) → steps_from c at k s ≡ steps_from c (at + k) 0 (drop k s)
  unfolding steps_from
  skip zero at s = let e : at + 0 ≡ at = omega arith in rw e
  skip (suc k) at [] = refl
  skip (suc k) at (b ∷ s) = let e : at + suc k ≡ suc at + k = omega arith in rw e (skip k (suc at) s)

  to_next : (at next : ℕ) (t : List ℕ) → at < next → steps_from c (suc at) (next - suc at) t ≡ steps_from c next 0 (drop (next - suc at) t)
  to_next at next t h = let e : suc at + (next - suc at) ≡ next = omega arith in rw e at (skip (next - suc at) (suc at) t)

  pub first : (at b : ℕ) (t : List ℕ) (x : Step) → step_of at (read_token c (b ∷ t)) ≡ x →
      steps_from c at 0 (b ∷ t) ≡ x ∷ after_step x (λ next. steps_from c (suc at) (next - suc at) t)
  unfolding steps_from
  first at b t x e = rw e

  -- at a place of a list
  module _ (s : List ℕ) (i : ℕ) (h : i < length s) where
    here : (x : Step) → step_at c s i ≡ x → steps_at c s i ≡ x ∷ after_step x (λ next. steps_from c (suc i) (next - suc i) (drop (suc i) s))
    here x e = rw (drop-cons s i 0 h) (first i (get_or s i 0) (drop (suc i) s) x (rw (drop-cons s i 0 h) at e))

    there : (next : ℕ) → i < next → steps_from c (suc i) (next - suc i) (drop (suc i) s) ≡ steps_at c s next
    there next g =
        let e : suc i + (next - suc i) ≡ next = omega arith in
        to_next i next (drop (suc i) s) g ∙ rw (drop-drop, e)

    by : (r : Step) → read_token c (drop i s) ≡ r → Sized (length (drop i s)) r → StepSays c s i (step_of i r)
    by (Ok (t, l)) e z =
        let n = length-drop i s in
        let g : i < i + l = omega (arith, z.0) in
        (g, omega (arith, z.1), here (Ok (t, i + l)) (ap (step_of i) e) ∙ ap (λ (x : List Step). Ok (t, i + l) ∷ x) (there (i + l) g))
    by (Err Cut) e z = λ _. here (Err Cut) (ap (step_of i) e)
    by (Err (Bad k)) e z =
        let n = length-drop i s in
        (omega arith, omega (arith, z), here (Err (Bad (i + k))) (ap (step_of i) e))

    -- what was read there
    pub token_says : (r : Step) → r ≡ read_token c (drop i s) → (step_of i r ≡ step_at c s i) × StepSays c s i (step_of i r)
    token_says r e = (ap (step_of i) e, by r (sym e) (subst (Sized (length (drop i s))) (sym e) (token_sized c (drop i s))))

  -- nothing stands from the end on
  pub past_end : (s : List ℕ) (i : ℕ) → length s ≤ i → (Err Cut ≡ step_at c s i) × StepSays c s i (Err Cut)
  past_end s i h = (sym (ap (λ (x : List ℕ). step_of i (read_token c x)) (drop_of_length-le s h) ∙ ap (step_of i) (stopping c).nil_cut), λ g. absurd (omega arith))

  -- bytes x in front, which are one step
  pub front : (at : ℕ) (x y : List ℕ) (w : Step) → 1 ≤ length x → step_of at (read_token c (x ++ y)) ≡ w →
      ((f : ℕ → List Step) → after_step w f ≡ f (at + length x)) → steps_from c at 0 (x ++ y) ≡ w ∷ steps_from c (at + length x) 0 y
  front at [] y w h e f = absurd (omega arith)
  front at (b ∷ x) y w h e f =
      let l : at + suc (length x) - suc at ≡ length x = omega arith in
      first at b (x ++ y) w e
      ∙ ap (λ (z : List Step). w ∷ z)
      (f (λ next. steps_from c (suc at) (next - suc at) (x ++ y))
      ∙ to_next at (at + suc (length x)) (x ++ y) (omega arith)
      ∙ rw (l, drop_at x y (length x) refl))

  -- the step of an item that ends at a place
  abbrev pub step_for : ℕ → Item → Step
  step_for next (Single v) = Ok (TokenValue v, next)
  step_for next Start = Ok (TokenStart, next)
  step_for next (Value v) = Ok (TokenValue v, next)
  step_for next End = Ok (TokenEnd, next)

  value_front : (at v : ℕ) (y : List ℕ) → ValueOf c v →
      steps_from c at 0 (value_bytes c v ++ y) ≡ Ok (TokenValue v, (at + length (value_bytes c v))) ∷ steps_from c (at + length (value_bytes c v)) 0 y
  value_front at v y p =
      front at (value_bytes c v) y (Ok (TokenValue v, (at + length (value_bytes c v)))) ((coded c).value_some v p) (ap (step_of at) ((coded c).value_read v y p)) (λ f. refl)

  -- an item's bytes in front
  pub item_front : (i : Item) (at : ℕ) (y : List ℕ) → OfCoding c (i ∷ []) →
      steps_from c at 0 (item_bytes c i ++ y) ≡ step_for (at + length (item_bytes c i)) i ∷ steps_from c (at + length (item_bytes c i)) 0 y
  item_front (Single v) at y o = value_front at v y o.0
  item_front (Value v) at y o = value_front at v y o.0
  item_front Start at y o =
      let l = (coded c).start_long in
      front at (start_bytes c) y (Ok (TokenStart, (at + length (start_bytes c)))) (omega (arith, l, (mark_small c).0)) (ap (step_of at) ((coded c).start_read y)) (λ f. refl)
  item_front End at y o =
      let l = (coded c).end_long in
      front at (end_bytes c) y (Ok (TokenEnd, (at + length (end_bytes c)))) (omega (arith, l, (mark_small c).0)) (ap (step_of at) ((coded c).end_read y)) (λ f. refl)

  -- what a step says, as the first of the steps from its place on
  pub says_first : (s : List ℕ) (i : ℕ) → i < length s → (x : Step) → StepSays c s i x → (xs : List Step) × (steps_at c s i ≡ x ∷ xs)
  says_first s i h (Ok (t, next)) w = (steps_at c s next, w.2)
  says_first s i h (Err Cut) w = ([], w h)
  says_first s i h (Err (Bad k)) w = ([], w.2)

  pub step_says : (s : List ℕ) (i : ℕ) → i < length s → StepSays c s i (step_at c s i)
  step_says s i h = (token_says s i h (read_token c (drop i s)) refl).1
