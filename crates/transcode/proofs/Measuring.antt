-- The length of a table in another coding, item by item: every value is carried and it is the length of their bytes, or it is the
-- place of the first that isn't.
use mathlib.Core.Path.{◌≡◌, refl, ◌∙◌, ap}
use mathlib.Core.Bool.{Bool, true, false}
use mathlib.Core.List.{List, [], ◌∷◌, ◌++◌}
use Prim.Native.Nat.{ℕ, ◌+◌}
use native.Mathlib.Omega.{arith}
use lib.ListN.{length, length-append}
use Rattle.base.specs.Reading.{when}
use Rattle.coding.specs.declared.Coding.{Coding}
use Rattle.coding.specs.Meaning.{ValueOf, value_bytes, start_bytes, end_bytes}
use Rattle.coding.specs.Reading.{carries_of, mark_len}
use Rattle.coding.proofs.Written.{carries_exactly, carries_no, start_len, end_len}
use Rattle.table.specs.declared.Item.{Item}
use Rattle.table.specs.declared.Item.TheVariants.{Single, Start, Value, End}
use Rattle.table.specs.Reading.{steps_from, value_item, step_items}
use Rattle.table.specs.Meaning.{item_bytes, bytes, OfCoding}
use Rattle.table.proofs.Stepping.{item_front}
use Rattle.transcode.specs.Reading.{measure, table_len, recoded, FirstUncarried}
use Rattle.transcode.proofs.Turns.{value_more, value_not, start_more, end_more}
use Rattle.std.specs.Prelude.{Result, Ok, Err}
use Rattle.token.specs.declared.Token.TheVariants.{Value as TokenValue, Start as TokenStart, End as TokenEnd}
use Rattle.token.specs.declared.Malformed.TheVariants.{Cut, Bad}
use Rattle.token.specs.Reading.{Step}

never : {A : Type 0} (k m : ℕ) → Err k ≡ Ok m → A
never k m e = let z : ◌≡◌ {A = ℕ} 0 1 = cc in absurd (omega arith)

-- whatever the steps are, a length that is step_items is that of their bytes
told_length : (to : Coding) (at n m : ℕ) (i : Bool) (xs : List Step) → measure to at n xs ≡ Ok m → m ≡ n + length (bytes to (step_items i xs))
unfolding measure step_items value_item when
told_length to at n m i [] e = let h : n ≡ m = cc in omega arith
told_length to at n m i (Ok (TokenValue v, next) ∷ xs) e = go i (carries_of to v) (λ j q. told_length to next (n + length (value_bytes to v)) m j xs q) e
  where
    go : (i : Bool) (t : Bool) → ((j : Bool) → measure to next (n + length (value_bytes to v)) xs ≡ Ok m → m ≡ n + length (value_bytes to v) + length (bytes to (step_items j xs))) →
        when t (measure to next (n + length (value_bytes to v)) xs) (Err at) ≡ Ok m → m ≡ n + length (bytes to (step_items i (Ok (TokenValue v, next) ∷ xs)))
    go false true f q = omega (arith, f false q, length-append (value_bytes to v) (bytes to (step_items false xs)))
    go true true f q = omega (arith, f true q, length-append (value_bytes to v) (bytes to (step_items true xs)))
    go i false f q = never at m q
told_length to at n m i (Ok (TokenStart, next) ∷ xs) e =
    omega (arith, told_length to next (n + mark_len to) m true xs e, start_len to, length-append (start_bytes to) (bytes to (step_items true xs)))
told_length to at n m i (Ok (TokenEnd, next) ∷ xs) e =
    omega (arith, told_length to next (n + mark_len to) m false xs e, end_len to, length-append (end_bytes to) (bytes to (step_items false xs)))
told_length to at n m i (Err t ∷ xs) e = let h : n ≡ m = cc in omega arith

pub length_recoded : (from to : Coding) (s : List ℕ) (m : ℕ) → table_len from to s ≡ Ok m → m ≡ length (recoded from to s)
unfolding table_len recoded
length_recoded from to s m e = omega (arith, told_length to 0 0 m false (steps_from from 0 0 s) e)

pub same_place : {j k : ℕ} → j ≡ k → ◌≡◌ {A = Result ℕ ℕ} (Err j) (Err k)
same_place p = λ i. Err (p i)

-- items written in one coding, measured in another
module _ (from to : Coding) where
  -- what an answer on items says
  abbrev pub Said : List Item → ℕ → ℕ → Result ℕ ℕ → Type 0
  Said is at n (Ok m) = OfCoding to is × (m ≡ n + length (bytes to is))
  Said is at n (Err k) = FirstUncarried from to is at k

  -- an item in front that is carried
  passed : (i : Item) (is : List Item) (at n next l : ℕ) → ((xs : List Item) → OfCoding to xs → OfCoding to (i ∷ xs)) →
      next ≡ at + length (item_bytes from i) → l ≡ length (item_bytes to i) → (r : Result ℕ ℕ) → Said is next (n + l) r → Said (i ∷ is) at n r
  passed i is at n next l mk en el (Ok m) s = (mk is s.0, omega (arith, s.1, length-append (item_bytes to i) (bytes to is)))
  passed i is at n next l mk en el (Err k) s =
      record {
        before = i ∷ s.before;
        item = s.item;
        after = s.after;
        same = ap (λ (x : List Item). i ∷ x) s.same;
        carried = mk s.before s.carried;
        uncarried = s.uncarried;
        here = omega (arith, s.here, length-append (item_bytes from i) (bytes from s.before));
      }

  -- a value in front, carried or not
  by_value : (i : Item) (v : ℕ) (is : List Item) (at n next l : ℕ) → (ValueOf to v → (xs : List Item) → OfCoding to xs → OfCoding to (i ∷ xs)) → (OfCoding to (i ∷ []) → ValueOf to v) →
      next ≡ at + length (item_bytes from i) → l ≡ length (item_bytes to i) → (x : Result ℕ ℕ) → Said is next (n + l) x →
      (t : Bool) → carries_of to v ≡ t → Said (i ∷ is) at n (when t x (Err at))
  unfolding when
  by_value i v is at n next l mk un en el x s true c = passed i is at n next l (mk ((carries_exactly to v).0 c)) en el x s
  by_value i v is at n next l mk un en el x s false c =
      record { before = []; item = i; after = is; same = refl; carried = tt; uncarried = λ o. carries_no to v c (un o); here = omega arith }

  no_steps : (at : ℕ) → steps_from from at 0 [] ≡ []
  unfolding steps_from
  no_steps at = refl

  pub measured : (is : List Item) (at n : ℕ) → OfCoding from is → Said is at n (measure to at n (steps_from from at 0 (bytes from is)))
  unfolding measure
  measured [] at n o = rw (no_steps at) (tt, omega arith)
  measured (Single v ∷ is) at n o =
      let next = at + length (value_bytes from v) in
      let l = length (value_bytes to v) in
      rw (item_front from (Single v) at (bytes from is) (o.0, tt))
      (by_value (Single v) v is at n next l (λ p xs q. (p, q)) (λ p. p.0) refl refl
      (measure to next (n + l) (steps_from from next 0 (bytes from is))) (measured is next (n + l) o.1) (carries_of to v) refl)
  measured (Value v ∷ is) at n o =
      let next = at + length (value_bytes from v) in
      let l = length (value_bytes to v) in
      rw (item_front from (Value v) at (bytes from is) (o.0, tt))
      (by_value (Value v) v is at n next l (λ p xs q. (p, q)) (λ p. p.0) refl refl
      (measure to next (n + l) (steps_from from next 0 (bytes from is))) (measured is next (n + l) o.1) (carries_of to v) refl)
  measured (Start ∷ is) at n o =
      let next = at + length (start_bytes from) in
      rw (item_front from Start at (bytes from is) tt)
      (passed Start is at n next (mark_len to) (λ xs q. q) refl (start_len to)
      (measure to next (n + mark_len to) (steps_from from next 0 (bytes from is))) (measured is next (n + mark_len to) o))
  measured (End ∷ is) at n o =
      let next = at + length (end_bytes from) in
      rw (item_front from End at (bytes from is) tt)
      (passed End is at n next (mark_len to) (λ xs q. q) refl (end_len to)
      (measure to next (n + mark_len to) (steps_from from next 0 (bytes from is))) (measured is next (n + mark_len to) o))

  grown : (at : ℕ) (x y : List ℕ) → at + length x + length y ≡ at + length (x ++ y)
  grown at x y = omega (arith, length-append x y)

  value_out : (v : ℕ) (at n : ℕ) → (ValueOf to v → ⊥) → {xs ys : List Step} → xs ≡ Ok (TokenValue v, (at + length (value_bytes from v))) ∷ ys → measure to at n xs ≡ Err (at + 0)
  value_out v at n u {xs} {ys} e = value_not to at n xs ys v _ e (no_carry (carries_of to v) refl) ∙ same_place (omega arith)
    where
      no_carry : (t : Bool) → carries_of to v ≡ t → carries_of to v ≡ false
      no_carry true q = absurd (u ((carries_exactly to v).0 q))
      no_carry false q = q

  value_in : (v : ℕ) (at n : ℕ) → ValueOf to v → (xs ys : List Step) → xs ≡ Ok (TokenValue v, (at + length (value_bytes from v))) ∷ ys →
      {r : Result ℕ ℕ} → measure to (at + length (value_bytes from v)) (n + length (value_bytes to v)) ys ≡ r → measure to at n xs ≡ r
  value_in v at n c xs ys e {r} q = value_more to at n xs ys v _ _ e ((carries_exactly to v).1 c) refl ∙ q

  -- the first that isn't carried, measured
  pub uncarried_measured : (before : List Item) (i : Item) (after : List Item) (at n : ℕ) → OfCoding from (before ++ (i ∷ after)) → OfCoding to before → (OfCoding to (i ∷ []) → ⊥) →
      measure to at n (steps_from from at 0 (bytes from (before ++ (i ∷ after)))) ≡ Err (at + length (bytes from before))
  uncarried_measured [] (Single v) after at n o c u = value_out v at n (λ p. u (p, tt)) (item_front from (Single v) at (bytes from after) (o.0, tt))
  uncarried_measured [] (Value v) after at n o c u = value_out v at n (λ p. u (p, tt)) (item_front from (Value v) at (bytes from after) (o.0, tt))
  uncarried_measured [] Start after at n o c u = absurd (u tt)
  uncarried_measured [] End after at n o c u = absurd (u tt)
  uncarried_measured (Single v ∷ is) i after at n o c u =
      value_in v at n c.0 _ _ (item_front from (Single v) at (bytes from (is ++ (i ∷ after))) (o.0, tt)) (uncarried_measured is i after _ _ o.1 c.1 u)
      ∙ same_place (grown at (value_bytes from v) (bytes from is))
  uncarried_measured (Value v ∷ is) i after at n o c u =
      value_in v at n c.0 _ _ (item_front from (Value v) at (bytes from (is ++ (i ∷ after))) (o.0, tt)) (uncarried_measured is i after _ _ o.1 c.1 u)
      ∙ same_place (grown at (value_bytes from v) (bytes from is))
  uncarried_measured (Start ∷ is) i after at n o c u =
      start_more to at n _ _ _ (mark_len to) (item_front from Start at (bytes from (is ++ (i ∷ after))) tt) refl ∙ uncarried_measured is i after _ _ o c u
      ∙ same_place (grown at (start_bytes from) (bytes from is))
  uncarried_measured (End ∷ is) i after at n o c u =
      end_more to at n _ _ _ (mark_len to) (item_front from End at (bytes from (is ++ (i ∷ after))) tt) refl ∙ uncarried_measured is i after _ _ o c u
      ∙ same_place (grown at (end_bytes from) (bytes from is))
