-- Going over what plainly stands in a table: what a turn does, what is found where it ends, and that the check goes on from there.
use mathlib.Core.Path.{◌≡◌, refl, sym, ◌∙◌, ap}
use mathlib.Core.Bool.{Bool, true, false}
use mathlib.Core.Logic.{◌⊎◌, inl, inr}
use mathlib.Core.List.{List, [], ◌∷◌}
use Prim.Native.Nat.{ℕ, zero, suc, ◌-◌, ◌≤◌, ◌<◌}
use native.Mathlib.Omega.{arith}
use lib.Dec.{eqb}
use borrow.Author.Tests.{eq-eqb, ne_eqb, eqb-true, lt-ltb, le-ltb}
use Rattle.base.specs.Meaning.{pick}
use Rattle.base.proofs.Tests.{by_test}
use Rattle.coding.specs.declared.Coding.{Coding}
use Rattle.coding.specs.Reading.{key_of}
use Rattle.table.specs.declared.Plain.TheVariants.{Value as PlainValue, Start as PlainStart, End as PlainEnd, Other}
use Rattle.table.specs.Reading.{check_steps}
use Rattle.table.specs.Skipping.{Phase, singles, opened, filled, is_opened, after_value, plain_of, Front, front, skip_from, no_start, phase_of, ended_of, check_front}
use Rattle.std.specs.Prelude.{Ok, Err}
use Rattle.table.specs.declared.Fault.TheVariants.{Trailing}
use Rattle.token.specs.declared.Token.TheVariants.{Value as TokenValue, Start as TokenStart, End as TokenEnd}
use Rattle.token.specs.declared.Malformed.TheVariants.{Cut, Bad}
use Rattle.token.specs.Reading.{Step}

-- what plainly stands there tells the step
pub record ValueAt (c : Coding) (k : ℕ) (x : Step) (next : ℕ) : Type 0 where
  pub value : ℕ
  pub step : x ≡ Ok (TokenValue value, next)
  pub other : eqb (key_of c value) k ≡ false

module _ (c : Coding) (k : ℕ) where
  pub plain_value : (x : Step) (next : ℕ) → PlainValue next ≡ plain_of c k x → ValueAt c k x next
  plain_value (Ok (TokenValue v, m)) next e = go (eqb (key_of c v) k) refl e
    where
      go : (t : Bool) → eqb (key_of c v) k ≡ t → PlainValue next ≡ pick t Other (PlainValue m) → ValueAt c k (Ok (TokenValue v, m)) next
      go true p f = let z : ◌≡◌ {A = ℕ} 0 1 = cc in absurd (omega arith)
      go false p f = let q : next ≡ m = cc in record { value = v; step = ap (λ (n : ℕ). Ok (TokenValue v, n)) (sym q); other = p }
  plain_value (Ok (TokenStart, m)) next e = let z : ◌≡◌ {A = ℕ} 0 1 = cc in absurd (omega arith)
  plain_value (Ok (TokenEnd, m)) next e = let z : ◌≡◌ {A = ℕ} 0 1 = cc in absurd (omega arith)
  plain_value (Err t) next e = let z : ◌≡◌ {A = ℕ} 0 1 = cc in absurd (omega arith)

  pub plain_start : (x : Step) (next : ℕ) → PlainStart next ≡ plain_of c k x → x ≡ Ok (TokenStart, next)
  plain_start (Ok (TokenValue v, m)) next e = go (eqb (key_of c v) k) e
    where
      go : (t : Bool) → PlainStart next ≡ pick t Other (PlainValue m) → ◌≡◌ {A = Step} (Ok (TokenValue v, m)) (Ok (TokenStart, next))
      go true f = let z : ◌≡◌ {A = ℕ} 0 1 = cc in absurd (omega arith)
      go false f = let z : ◌≡◌ {A = ℕ} 0 1 = cc in absurd (omega arith)
  plain_start (Ok (TokenStart, m)) next e = let q : next ≡ m = cc in ap (λ (n : ℕ). Ok (TokenStart, n)) (sym q)
  plain_start (Ok (TokenEnd, m)) next e = let z : ◌≡◌ {A = ℕ} 0 1 = cc in absurd (omega arith)
  plain_start (Err t) next e = let z : ◌≡◌ {A = ℕ} 0 1 = cc in absurd (omega arith)

  pub plain_end : (x : Step) (next : ℕ) → PlainEnd next ≡ plain_of c k x → x ≡ Ok (TokenEnd, next)
  plain_end (Ok (TokenValue v, m)) next e = go (eqb (key_of c v) k) e
    where
      go : (t : Bool) → PlainEnd next ≡ pick t Other (PlainValue m) → ◌≡◌ {A = Step} (Ok (TokenValue v, m)) (Ok (TokenEnd, next))
      go true f = let z : ◌≡◌ {A = ℕ} 0 1 = cc in absurd (omega arith)
      go false f = let z : ◌≡◌ {A = ℕ} 0 1 = cc in absurd (omega arith)
  plain_end (Ok (TokenStart, m)) next e = let z : ◌≡◌ {A = ℕ} 0 1 = cc in absurd (omega arith)
  plain_end (Ok (TokenEnd, m)) next e = let q : next ≡ m = cc in ap (λ (n : ℕ). Ok (TokenEnd, n)) (sym q)
  plain_end (Err t) next e = let z : ◌≡◌ {A = ℕ} 0 1 = cc in absurd (omega arith)

  -- where nothing plainly stands, going on ends
  pub skip_other : (n : ℕ) (p : Phase) (at : ℕ) (x : Step) (xs : List Step) → Other ≡ plain_of c k x → skip_from c k n p at (x ∷ xs) ≡ front (suc n) p at (x ∷ xs)
  unfolding skip_from
  skip_other n p at (Ok (TokenValue v, m)) xs e = go (eqb (key_of c v) k) e
    where
      go : (t : Bool) → Other ≡ pick t Other (PlainValue m) →
          pick t (front (suc n) p at (Ok (TokenValue v, m) ∷ xs)) (skip_from c k n (after_value p) m xs) ≡ front (suc n) p at (Ok (TokenValue v, m) ∷ xs)
      go true f = refl
      go false f = let z : ◌≡◌ {A = ℕ} 0 1 = cc in absurd (omega arith)
  skip_other n p at (Ok (TokenStart, m)) xs e = let z : ◌≡◌ {A = ℕ} 0 1 = cc in absurd (omega arith)
  skip_other n p at (Ok (TokenEnd, m)) xs e = let z : ◌≡◌ {A = ℕ} 0 1 = cc in absurd (omega arith)
  skip_other n p at (Err t) xs e = refl

  module _ (at : ℕ) (xs : List Step) where
    pub skip_value : (n : ℕ) (p : Phase) (v next : ℕ) → eqb (key_of c v) k ≡ false → skip_from c k n p at (Ok (TokenValue v, next) ∷ xs) ≡ skip_from c k n (after_value p) next xs
    unfolding skip_from
    skip_value n p v next e = rw e

    pub skip_start : (n : ℕ) (p : Phase) (next : ℕ) → is_opened p ≡ false → skip_from c k n p at (Ok (TokenStart, next) ∷ xs) ≡ skip_from c k n opened next xs
    unfolding skip_from
    skip_start n singles next e = refl
    skip_start n opened next e = let z : ◌≡◌ {A = ℕ} 0 1 = cc in absurd (omega arith)
    skip_start n filled next e = refl

    pub halt_start : (n : ℕ) (p : Phase) (next : ℕ) → is_opened p ≡ true → skip_from c k n p at (Ok (TokenStart, next) ∷ xs) ≡ front (suc n) p at (Ok (TokenStart, next) ∷ xs)
    unfolding skip_from
    halt_start n singles next e = let z : ◌≡◌ {A = ℕ} 0 1 = cc in absurd (omega arith)
    halt_start n opened next e = refl
    halt_start n filled next e = let z : ◌≡◌ {A = ℕ} 0 1 = cc in absurd (omega arith)

    pub skip_end : (n : ℕ) (p : Phase) (next : ℕ) → is_opened p ≡ false → skip_from c k (suc n) p at (Ok (TokenEnd, next) ∷ xs) ≡ skip_from c k n singles next xs
    unfolding skip_from
    skip_end n singles next e = refl
    skip_end n opened next e = let z : ◌≡◌ {A = ℕ} 0 1 = cc in absurd (omega arith)
    skip_end n filled next e = refl

    pub skip_last : (p : Phase) (next : ℕ) → is_opened p ≡ false → skip_from c k 0 p at (Ok (TokenEnd, next) ∷ xs) ≡ front 0 singles next xs
    unfolding skip_from
    skip_last singles next e = refl
    skip_last opened next e = let z : ◌≡◌ {A = ℕ} 0 1 = cc in absurd (omega arith)
    skip_last filled next e = refl

    pub halt_end : (n : ℕ) (p : Phase) (next : ℕ) → is_opened p ≡ true → skip_from c k n p at (Ok (TokenEnd, next) ∷ xs) ≡ front (suc n) p at (Ok (TokenEnd, next) ∷ xs)
    unfolding skip_from
    halt_end n singles next e = let z : ◌≡◌ {A = ℕ} 0 1 = cc in absurd (omega arith)
    halt_end n opened next e = refl
    halt_end n filled next e = let z : ◌≡◌ {A = ℕ} 0 1 = cc in absurd (omega arith)

  pub skip_past : (n : ℕ) (p : Phase) (at : ℕ) → skip_from c k n p at [] ≡ front (suc n) p at []
  unfolding skip_from
  skip_past n p at = refl

-- the phase that a cursor tells
pub phase_none : (at : ℕ) → phase_of no_start at ≡ singles
unfolding phase_of
phase_none at = refl

module _ (start at : ℕ) where
  pub phase_opened : start ≡ at → at < no_start → is_opened (phase_of start at) ≡ true
  unfolding phase_of
  phase_opened e h = rw (ne_eqb start no_start (λ z. absurd (omega arith)), eq-eqb start at e)

  pub phase_here : start ≡ at → at < no_start → phase_of start at ≡ opened
  unfolding phase_of
  phase_here e h = rw (ne_eqb start no_start (λ z. absurd (omega arith)), eq-eqb start at e)

  pub phase_other : (start ≡ at → ⊥) → is_opened (phase_of start at) ≡ false
  unfolding phase_of
  phase_other h = go (eqb start no_start)
    where
      go : (t : Bool) → is_opened (pick t singles (pick (eqb start at) opened filled)) ≡ false
      go true = refl
      go false = rw (ne_eqb start at h)

  pub phase_value : (next : ℕ) → (start ≤ at) ⊎ (start ≡ no_start) → at < next → next < no_start → after_value (phase_of start at) ≡ phase_of start next
  unfolding phase_of
  phase_value next (inl l) h b =
      rw (ne_eqb start no_start (λ z. absurd (omega arith)), ne_eqb start next (λ z. absurd (omega arith))) (go (eqb start at))
    where
      go : (t : Bool) → after_value (pick t opened filled) ≡ filled
      go true = refl
      go false = refl
  phase_value next (inr e) h b = rw (eq-eqb start no_start e)

pub next_phase : (p : Phase) → is_opened (after_value p) ≡ false
next_phase singles = refl
next_phase opened = refl
next_phase filled = refl

-- the check goes on where going over ends
module _ (c : Coding) (k e N : ℕ) where
  pub check_skip : (n : ℕ) (p : Phase) (at : ℕ) (xs : List Step) → suc n ≤ N → check_front e N (front (suc n) p at xs) ≡ check_front e N (skip_from c k n p at xs)
  unfolding skip_from check_steps
  check_skip n p at [] h = refl
  check_skip n p at (Ok (TokenValue v, next) ∷ xs) h = go (eqb (key_of c v) k) (rw (next_phase p) at (check_skip n (after_value p) next xs h))
    where
      go : (t : Bool) → check_steps e (N - suc n) (suc n) false next xs ≡ check_front e N (skip_from c k n (after_value p) next xs) →
          check_steps e (N - suc n) (suc n) false next xs ≡ check_front e N (pick t (front (suc n) p at (Ok (TokenValue v, next) ∷ xs)) (skip_from c k n (after_value p) next xs))
      go true i = refl
      go false i = i
  check_skip n singles at (Ok (TokenStart, next) ∷ xs) h = check_skip n opened next xs h
  check_skip n opened at (Ok (TokenStart, next) ∷ xs) h = refl
  check_skip n filled at (Ok (TokenStart, next) ∷ xs) h = check_skip n opened next xs h
  check_skip n opened at (Ok (TokenEnd, next) ∷ xs) h = refl
  check_skip zero singles at (Ok (TokenEnd, next) ∷ xs) h = let q : suc (N - 1) ≡ N - 0 = omega arith in ap (λ (g : ℕ). check_steps e g 0 false next xs) q
  check_skip zero filled at (Ok (TokenEnd, next) ∷ xs) h = let q : suc (N - 1) ≡ N - 0 = omega arith in ap (λ (g : ℕ). check_steps e g 0 false next xs) q
  check_skip (suc n) singles at (Ok (TokenEnd, next) ∷ xs) h =
      let q : suc (N - suc (suc n)) ≡ N - suc n = omega arith in
      ap (λ (g : ℕ). check_steps e g (suc n) false next xs) q ∙ check_skip n singles next xs (omega arith)
  check_skip (suc n) filled at (Ok (TokenEnd, next) ∷ xs) h =
      let q : suc (N - suc (suc n)) ≡ N - suc n = omega arith in
      ap (λ (g : ℕ). check_steps e g (suc n) false next xs) q ∙ check_skip n singles next xs (omega arith)
  check_skip n p at (Err t ∷ xs) h = refl

-- no more descriptions are left than before
pub skip_left : (c : Coding) (k n : ℕ) (p : Phase) (at : ℕ) (xs : List Step) → (skip_from c k n p at xs).left ≤ suc n
unfolding skip_from
skip_left c k n p at [] = omega arith
skip_left c k n p at (Ok (TokenValue v, next) ∷ xs) =
    by_test (λ (f : Front). f.left ≤ suc n) (eqb (key_of c v) k) (front (suc n) p at (Ok (TokenValue v, next) ∷ xs)) (skip_from c k n (after_value p) next xs)
    (λ _. omega arith) (λ _. skip_left c k n (after_value p) next xs)
skip_left c k n singles at (Ok (TokenStart, next) ∷ xs) = skip_left c k n opened next xs
skip_left c k n opened at (Ok (TokenStart, next) ∷ xs) = omega arith
skip_left c k n filled at (Ok (TokenStart, next) ∷ xs) = skip_left c k n opened next xs
skip_left c k n opened at (Ok (TokenEnd, next) ∷ xs) = omega arith
skip_left c k zero singles at (Ok (TokenEnd, next) ∷ xs) = omega arith
skip_left c k zero filled at (Ok (TokenEnd, next) ∷ xs) = omega arith
skip_left c k (suc n) singles at (Ok (TokenEnd, next) ∷ xs) = let h = skip_left c k n singles next xs in omega arith
skip_left c k (suc n) filled at (Ok (TokenEnd, next) ∷ xs) = let h = skip_left c k n singles next xs in omega arith
skip_left c k n p at (Err t ∷ xs) = omega arith

-- where going over ends: no description is left, or a value has the key, or a mark stands where a value must, or nothing can be read
abbrev pub Halted : Coding → ℕ → Phase → List Step → Type 0
Halted c k p [] = Unit {0}
Halted c k p (Ok (TokenValue v, next) ∷ xs) = key_of c v ≡ k
Halted c k p (Ok (TokenStart, next) ∷ xs) = is_opened p ≡ true
Halted c k p (Ok (TokenEnd, next) ∷ xs) = is_opened p ≡ true
Halted c k p (Err t ∷ xs) = Unit {0}

abbrev pub HaltedAt : Coding → ℕ → Front → Type 0
HaltedAt c k f = (f.left ≡ 0) ⊎ Halted c k f.phase f.rest

pub skip_halts : (c : Coding) (k n : ℕ) (p : Phase) (at : ℕ) (xs : List Step) → HaltedAt c k (skip_from c k n p at xs)
unfolding skip_from
skip_halts c k n p at [] = inr tt
skip_halts c k n p at (Ok (TokenValue v, next) ∷ xs) =
    by_test (HaltedAt c k) (eqb (key_of c v) k) (front (suc n) p at (Ok (TokenValue v, next) ∷ xs)) (skip_from c k n (after_value p) next xs)
    (λ e. inr (eqb-true (key_of c v) k e)) (λ _. skip_halts c k n (after_value p) next xs)
skip_halts c k n singles at (Ok (TokenStart, next) ∷ xs) = skip_halts c k n opened next xs
skip_halts c k n opened at (Ok (TokenStart, next) ∷ xs) = inr refl
skip_halts c k n filled at (Ok (TokenStart, next) ∷ xs) = skip_halts c k n opened next xs
skip_halts c k n opened at (Ok (TokenEnd, next) ∷ xs) = inr refl
skip_halts c k zero singles at (Ok (TokenEnd, next) ∷ xs) = inl refl
skip_halts c k zero filled at (Ok (TokenEnd, next) ∷ xs) = inl refl
skip_halts c k (suc n) singles at (Ok (TokenEnd, next) ∷ xs) = skip_halts c k n singles next xs
skip_halts c k (suc n) filled at (Ok (TokenEnd, next) ∷ xs) = skip_halts c k n singles next xs
skip_halts c k n p at (Err t ∷ xs) = inr tt

-- the answer behind the last description
module _ (e at : ℕ) where
  pub ended_trailing : at < e → Err (Trailing at) ≡ ended_of e at
  unfolding ended_of
  ended_trailing h = rw (lt-ltb at e h)

  pub ended_complete : e ≤ at → Ok tt ≡ ended_of e at
  unfolding ended_of
  ended_complete h = rw (le-ltb at e h)
