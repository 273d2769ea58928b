-- One step of two descriptions read side by side, one law for each way that a turn of the loops can go.
use mathlib.Core.Path.{◌≡◌, refl, sym, ◌∙◌, ap}
use mathlib.Core.Bool.{Bool, true, false}
use mathlib.Core.List.{List, [], ◌∷◌}
use Prim.Native.Nat.{ℕ, ◌+◌, ◌≤◌, ◌<◌}
use native.Mathlib.Omega.{arith}
use lib.ListN.{length, drop_of_length-le}
use borrow.Author.Tests.{eq-eqb, ne_eqb, eqb-true, eqb-false}
use Rattle.base.specs.Reading.{when}
use Rattle.coding.specs.declared.Coding.{Coding}
use Rattle.table.specs.Reading.{steps_from, steps_at}
use Rattle.table.specs.Bounds.{StepSays}
use Rattle.descriptions.specs.declared.Ends.{Ends}
use Rattle.descriptions.specs.Reading.{token_of, code_of, next_of, same_steps, end_from, same_at, end_at, ends_of}
use Rattle.token.specs.declared.Token.TheVariants.{Value as TokenValue, Start as TokenStart, End as TokenEnd}
use Rattle.token.specs.declared.Token.{Token}
use Rattle.token.specs.declared.Malformed.TheVariants.{Cut, Bad}
use Rattle.token.specs.Reading.{Step, same_token}
use Rattle.std.specs.Prelude.{Ok, Err, Option, Some}
use Rattle.table.specs.declared.Steps.{Steps}
use Rattle.table.specs.Walking.{Begins, WalksOn}
use Rattle.table.proofs.Walking.{walked_on}

-- two tokens are the same exactly when their numbers are
abbrev token_code : Token → ℕ
token_code (TokenValue v) = v + 2
token_code TokenStart = 1
token_code TokenEnd = 0

code_for : (x : Step) → token_code (token_of x) ≡ code_of x
code_for (Ok (TokenValue v, next)) = refl
code_for (Ok (TokenStart, next)) = refl
code_for (Ok (TokenEnd, next)) = refl
code_for (Err t) = refl

same_number : (x y : Token) → same_token x y ≡ true → token_code x ≡ token_code y
same_number (TokenValue v) (TokenValue w) e = let q = eqb-true v w e in omega arith
same_number (TokenValue v) TokenStart e = let z : ◌≡◌ {A = ℕ} 0 1 = cc in absurd (omega arith)
same_number (TokenValue v) TokenEnd e = let z : ◌≡◌ {A = ℕ} 0 1 = cc in absurd (omega arith)
same_number TokenStart (TokenValue w) e = let z : ◌≡◌ {A = ℕ} 0 1 = cc in absurd (omega arith)
same_number TokenStart TokenStart e = refl
same_number TokenStart TokenEnd e = let z : ◌≡◌ {A = ℕ} 0 1 = cc in absurd (omega arith)
same_number TokenEnd (TokenValue w) e = let z : ◌≡◌ {A = ℕ} 0 1 = cc in absurd (omega arith)
same_number TokenEnd TokenStart e = let z : ◌≡◌ {A = ℕ} 0 1 = cc in absurd (omega arith)
same_number TokenEnd TokenEnd e = refl

other_number : (x y : Token) → same_token x y ≡ false → token_code x ≡ token_code y → ⊥
other_number (TokenValue v) (TokenValue w) e q = eqb-false v w e (omega arith)
other_number (TokenValue v) TokenStart e q = absurd (omega arith)
other_number (TokenValue v) TokenEnd e q = absurd (omega arith)
other_number TokenStart (TokenValue w) e q = absurd (omega arith)
other_number TokenStart TokenStart e q = let z : ◌≡◌ {A = ℕ} 0 1 = cc in absurd (omega arith)
other_number TokenStart TokenEnd e q = absurd (omega arith)
other_number TokenEnd (TokenValue w) e q = absurd (omega arith)
other_number TokenEnd TokenStart e q = absurd (omega arith)
other_number TokenEnd TokenEnd e q = let z : ◌≡◌ {A = ℕ} 0 1 = cc in absurd (omega arith)

pub same_code : (x y : Step) → same_token (token_of x) (token_of y) ≡ true → code_of x ≡ code_of y
same_code x y e = sym (code_for x) ∙ same_number (token_of x) (token_of y) e ∙ code_for y

pub other_code : (x y : Step) → same_token (token_of x) (token_of y) ≡ false → code_of x ≡ code_of y → ⊥
other_code x y e q = other_number (token_of x) (token_of y) e (code_for x ∙ q ∙ sym (code_for y))

pub end_code : (x : Step) → same_token (token_of x) TokenEnd ≡ true → code_of x ≡ 0
end_code x e = sym (code_for x) ∙ same_number (token_of x) TokenEnd e

pub no_end_code : (x : Step) → same_token (token_of x) TokenEnd ≡ false → code_of x ≡ 0 → ⊥
no_end_code x e q = other_number (token_of x) TokenEnd e (code_for x ∙ q)

-- a step that ends no description goes on within the list
pub goes : (c : Coding) (s : List ℕ) (at : ℕ) (x : Step) → StepSays c s at x → (code_of x ≡ 0 → ⊥) →
    (at < next_of at x) × (next_of at x ≤ length s) × (steps_at c s at ≡ x ∷ steps_at c s (next_of at x))
goes c s at (Ok (TokenValue v, next)) w n = w
goes c s at (Ok (TokenStart, next)) w n = w
goes c s at (Ok (TokenEnd, next)) w n = absurd (n refl)
goes c s at (Err t) w n = absurd (n refl)

-- a step that is read before the end of the list is the first of those from there on, and the place after it stands in the list
pub front : (c : Coding) (s : List ℕ) (at : ℕ) (x : Step) → at < length s → StepSays c s at x →
    (next_of at x ≤ length s) × ((more : List Step) × (steps_at c s at ≡ x ∷ more))
front c s at (Ok (TokenValue v, next)) l w = (w.1, (steps_at c s next, w.2))
front c s at (Ok (TokenStart, next)) l w = (w.1, (steps_at c s next, w.2))
front c s at (Ok (TokenEnd, next)) l w = (w.1, (steps_at c s next, w.2))
front c s at (Err Cut) l w = (omega arith, ([], w l))
front c s at (Err (Bad k)) l w = (omega arith, ([], w.2))

-- no steps from the end on
pub no_steps : (c : Coding) (s : List ℕ) (at : ℕ) → length s ≤ at → steps_at c s at ≡ []
unfolding steps_from
no_steps c s at h = rw (drop_of_length-le s h)

-- the end of a description: at a step that ends it, further on, and where no steps are left
module _ (at : ℕ) (x : Step) (xs ys : List Step) where
  pub end_here : code_of x ≡ 0 → xs ≡ x ∷ ys → end_from at xs ≡ next_of at x
  unfolding end_from when
  end_here n e = rw (e, eq-eqb (code_of x) 0 n)

  pub end_later : (code_of x ≡ 0 → ⊥) → xs ≡ x ∷ ys → end_from at xs ≡ end_from (next_of at x) ys
  unfolding end_from when
  end_later n e = rw (e, ne_eqb (code_of x) 0 n)

pub end_none : (at : ℕ) (xs : List Step) → xs ≡ [] → end_from at xs ≡ at
unfolding end_from
end_none at xs e = rw e

-- two descriptions: another step, the same one, and one that ends both
module _ (x y : Step) (xs ys xs' ys' : List Step) (p : xs ≡ x ∷ xs') (q : ys ≡ y ∷ ys') where
  pub other_step : (code_of x ≡ code_of y → ⊥) → same_steps xs ys ≡ false
  unfolding same_steps when
  other_step n = rw (p, q, ne_eqb (code_of x) (code_of y) n)

  pub same_later : code_of x ≡ code_of y → (code_of x ≡ 0 → ⊥) → same_steps xs ys ≡ same_steps xs' ys'
  unfolding same_steps when
  same_later e n = rw (p, q, eq-eqb (code_of x) (code_of y) e, ne_eqb (code_of x) 0 n)

  pub same_here : code_of x ≡ code_of y → code_of x ≡ 0 → same_steps xs ys ≡ true
  unfolding same_steps when
  same_here e n = rw (p, q, eq-eqb (code_of x) (code_of y) e, eq-eqb (code_of x) 0 n)

pub none_first : (xs ys : List Step) → xs ≡ [] → same_steps xs ys ≡ true
unfolding same_steps
none_first xs ys e = rw e

pub none_second : (xs ys : List Step) → ys ≡ [] → same_steps xs ys ≡ true
unfolding same_steps
none_second xs ys e = rw e (go xs)
  where
    go : (zs : List Step) → same_steps zs [] ≡ true
    go [] = refl
    go (z ∷ zs) = refl

ends_are : (c : Coding) (s : List ℕ) (a : ℕ) (d : Coding) (t : List ℕ) (b : ℕ) (k : Bool) (m n : ℕ) → k ≡ same_at c s a d t b → m ≡ end_at c s a → n ≡ end_at d t b →
    ◌≡◌ {A = Ends} (record { same = k; first = m; second = n }) (ends_of c s a d t b)
ends_are c s a d t b k m n p q r = λ i. record { same = p i; first = q i; second = r i }

-- two places read so far
module _ (c : Coding) (s : List ℕ) (a : ℕ) (d : Coding) (t : List ℕ) (b : ℕ) where
  -- one tail has no steps left
  pub ends_first : (n : ℕ) → length s ≤ a → n ≡ end_at d t b → ◌≡◌ {A = Ends} (record { same = true; first = a; second = n }) (ends_of c s a d t b)
  ends_first n h e =
      let z = no_steps c s a h in
      ends_are c s a d t b true a n (sym (none_first _ _ z)) (sym (end_none a _ z)) e

  pub ends_second : (m : ℕ) → length t ≤ b → m ≡ end_at c s a → ◌≡◌ {A = Ends} (record { same = true; first = m; second = b }) (ends_of c s a d t b)
  ends_second m h e =
      let z = no_steps d t b h in
      ends_are c s a d t b true m b (sym (none_second _ _ z)) e (sym (end_none b _ z))

  module _ (x y : Step) (la : a < length s) (lb : b < length t) (w : StepSays c s a x) (v : StepSays d t b y) where
    -- another step in one than in the other
    pub ends_other : (m n : ℕ) → (code_of x ≡ code_of y → ⊥) → m ≡ end_at c s a → n ≡ end_at d t b →
        ◌≡◌ {A = Ends} (record { same = false; first = m; second = n }) (ends_of c s a d t b)
    ends_other m n q e r =
        let f = front c s a x la w in
        let g = front d t b y lb v in
        ends_are c s a d t b false m n (sym (other_step x y _ _ _ _ f.1.1 g.1.1 q)) e r

    module _ (m n : ℕ) (q : code_of x ≡ code_of y) (em : m ≡ next_of a x) (en : n ≡ next_of b y) where
      -- both end
      pub ends_here : code_of x ≡ 0 → (◌≡◌ {A = Ends} (record { same = true; first = m; second = n }) (ends_of c s a d t b)) × (m ≤ length s) × (n ≤ length t)
      ends_here z =
          let f = front c s a x la w in
          let g = front d t b y lb v in (
            ends_are c s a d t b true m n (sym (same_here x y _ _ _ _ f.1.1 g.1.1 q z)) (em ∙ sym (end_here a x _ _ z f.1.1)) (en ∙ sym (end_here b y _ _ (sym q ∙ z) g.1.1)),
            omega (arith, f.0, em),
            omega (arith, g.0, en),
          )

      -- both go on with the same
      pub ends_later : (code_of x ≡ 0 → ⊥) → (m ≤ length s) × (n ≤ length t) × (ends_of c s m d t n ≡ ends_of c s a d t b) × (a < m)
      ends_later z =
          let z' : code_of y ≡ 0 → ⊥ = λ e. z (q ∙ e) in
          let f = goes c s a x w z in
          let g = goes d t b y v z' in
          let sx : steps_at c s m ≡ steps_at c s (next_of a x) = ap (steps_at c s) em in
          let sy : steps_at d t n ≡ steps_at d t (next_of b y) = ap (steps_at d t) en in (
            omega (arith, f.1, em),
            omega (arith, g.1, en),
            ends_are c s a d t b (same_at c s m d t n) (end_at c s m) (end_at d t n)
                ((λ i. same_steps (sx i) (sy i)) ∙ sym (same_later x y _ _ _ _ f.2 g.2 q z))
                (ap (end_at c s) em ∙ sym (end_later a x _ _ z f.2))
                (ap (end_at d t) en ∙ sym (end_later b y _ _ z' g.2)),
            omega (arith, f.0, em),
          )

-- behind a step of a walk that ends no description, the walk goes on
pub goes_on : (c : Coding) (s : List ℕ) (at : ℕ) (w v : Steps) (x : Step) (r : Option Step) → (code_of x ≡ 0 → ⊥) → r ≡ Some x → WalksOn w r v → Begins c s at w → Begins c s (next_of at x) v
goes_on c s at w v (Ok (t, next)) r n e h b = walked_on c s at w v t next (Ok (t, next)) r e refl h b
goes_on c s at w v (Err t) r n e h b = absurd (n refl)
