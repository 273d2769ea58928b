-- A lookup in one pass: going over what plainly stands in a table changes nothing of what is found, and a value with the key is looked at closer.
use mathlib.Core.Path.{◌≡◌, refl, sym, ◌∙◌, ap}
use mathlib.Core.Bool.{Bool, true, false}
use mathlib.Core.Logic.{◌⊎◌, inl, inr}
use mathlib.Core.List.{List, [], ◌∷◌}
use Prim.Native.Nat.{ℕ, zero, suc, ◌+◌, ◌-◌, ◌≤◌, ◌<◌}
use native.Mathlib.Omega.{arith}
use lib.ListN.{length, get_or, drop, drop_of_length-le}
use lib.Seq.{drop-cons}
use lib.Dec.{eqb, leb}
use borrow.Author.Tests.{eq-eqb, ne_eqb, eqb-false, le-leb, lt-leb}
use Rattle.base.specs.Meaning.{pick}
use Rattle.base.proofs.Tests.{below}
use Rattle.coding.specs.declared.Coding.{Coding}
use Rattle.coding.specs.Reading.{key_of}
use Rattle.table.specs.Reading.{steps_from, steps_at, value_item, step_items}
use Rattle.table.specs.Skipping.{Phase, singles, opened, filled, after_value, Front, front, skip_from, no_start, phase_of, ended_of, NoValue, refused_of}
use Rattle.table.proofs.Skipping.{phase_none, phase_here, ended_trailing}
use Rattle.lookup.specs.Reading.{find_value, goes_on, is_whole, rest, find_sequence_from, find_from, sequence_in, begins_at, looked_of}
use Rattle.lookup.proofs.Finding.{no_matter}
use Rattle.std.specs.Prelude.{Option, Some, None, Ok, Err}
use Rattle.token.specs.declared.Token.TheVariants.{Value as TokenValue, Start as TokenStart, End as TokenEnd}
use Rattle.token.specs.declared.Token.{Token}
use Rattle.token.specs.declared.Malformed.{Malformed}
use Rattle.token.specs.declared.Malformed.TheVariants.{Cut, Bad}
use Rattle.token.specs.Reading.{Step}

-- whether a sequence stands from a place on, one law for each way that a turn can go
module _ (vs : List ℕ) (m : ℕ) (xs ys : List Step) where
  pub over_long : (v next : ℕ) → xs ≡ Ok (TokenValue v, next) ∷ ys → length vs ≤ m → false ≡ sequence_in (drop m vs) xs
  unfolding sequence_in
  over_long v next e h = rw (e, drop_of_length-le vs h)

  pub differs : (v next : ℕ) → xs ≡ Ok (TokenValue v, next) ∷ ys → m < length vs → (get_or vs m 0 ≡ v → ⊥) → false ≡ sequence_in (drop m vs) xs
  unfolding sequence_in
  differs v next e h d = rw (e, drop-cons vs m 0 h, ne_eqb (get_or vs m 0) v d)

  pub alike : (v next : ℕ) → xs ≡ Ok (TokenValue v, next) ∷ ys → m < length vs → get_or vs m 0 ≡ v → sequence_in (drop m vs) xs ≡ sequence_in (drop (m + 1) vs) ys
  unfolding sequence_in
  alike v next e h d = let z : m + 1 ≡ suc m = omega arith in rw (e, z, drop-cons vs m 0 h, eq-eqb (get_or vs m 0) v d)

  by_end : (w : Step) → ((v : ℕ) (us : List ℕ) → sequence_in (v ∷ us) (w ∷ ys) ≡ false) → sequence_in [] (w ∷ ys) ≡ true → xs ≡ w ∷ ys → leb (length vs) m ≡ sequence_in (drop m vs) xs
  by_end w more none e = rw e (go (below m (length vs)))
    where
      go : (m < length vs) ⊎ (length vs ≤ m) → leb (length vs) m ≡ sequence_in (drop m vs) (w ∷ ys)
      go (inl l) = lt-leb (length vs) m l ∙ sym (ap (λ (us : List ℕ). sequence_in us (w ∷ ys)) (drop-cons vs m 0 l) ∙ more (get_or vs m 0) (drop (suc m) vs))
      go (inr l) = le-leb (length vs) m l ∙ sym (ap (λ (us : List ℕ). sequence_in us (w ∷ ys)) (drop_of_length-le vs l) ∙ none)

  -- a mark
  pub at_mark : (t : Token) (next : ℕ) → ((v : ℕ) → t ≡ TokenValue v → ⊥) → xs ≡ Ok (t, next) ∷ ys → leb (length vs) m ≡ sequence_in (drop m vs) xs
  unfolding sequence_in
  at_mark (TokenValue v) next n e = absurd (n v refl)
  at_mark TokenStart next n e = by_end (Ok (TokenStart, next)) (λ v us. refl) refl e
  at_mark TokenEnd next n e = by_end (Ok (TokenEnd, next)) (λ v us. refl) refl e

module _ (us : List ℕ) (xs ys : List Step) where
  pub at_malformed : (t : Malformed) → xs ≡ Err t ∷ ys → false ≡ sequence_in us xs
  unfolding sequence_in
  at_malformed t e = rw e (go us)
    where
      go : (ws : List ℕ) → false ≡ sequence_in ws (Err t ∷ ys)
      go [] = refl
      go (w ∷ ws) = refl

  pub past_all : xs ≡ [] → false ≡ sequence_in us xs
  unfolding sequence_in
  past_all e = rw e (go us)
    where
      go : (ws : List ℕ) → false ≡ sequence_in ws []
      go [] = refl
      go (w ∷ ws) = refl

-- whether what is asked for begins there, by a cursor
module _ (vs : List ℕ) (start at w : ℕ) (xs : List Step) where
  pub begins_sequence : (r : Bool) → r ≡ sequence_in vs xs → start ≡ at → at < no_start → r ≡ begins_at true vs (phase_of start at) w xs
  begins_sequence r e q h = rw (phase_here start at q h) e

  pub begins_later : (start ≡ at → ⊥) → false ≡ begins_at true vs (phase_of start at) w xs
  unfolding phase_of
  begins_later h = go (eqb start no_start)
    where
      go : (t : Bool) → false ≡ begins_at true vs (pick t singles (pick (eqb start at) opened filled)) w xs
      go true = refl
      go false = rw (ne_eqb start at h)

  pub begins_single : (r : Bool) → r ≡ eqb w (get_or vs 0 0) → start ≡ no_start → r ≡ begins_at false vs (phase_of start at) w xs
  begins_single r e q = rw (q, phase_none at) e

  pub begins_inside : (start ≡ no_start → ⊥) → false ≡ begins_at false vs (phase_of start at) w xs
  unfolding phase_of
  begins_inside h = rw (ne_eqb start no_start h) (go (eqb start at))
    where
      go : (t : Bool) → false ≡ begins_at false vs (pick t opened filled) w xs
      go true = refl
      go false = refl

-- a sequence that stands there whole, or the next
whole_or_next : (vs : List ℕ) (g : ℕ) (ws : List ℕ) (xs : List Step) →
    find_sequence_from vs g true ws (step_items true xs) ≡ pick (sequence_in ws xs) (Some g) (find_sequence_from vs g false ws (step_items true xs))
unfolding find_sequence_from sequence_in step_items value_item goes_on is_whole
whole_or_next vs g [] [] = refl
whole_or_next vs g (u ∷ us) [] = refl
whole_or_next vs g [] (Ok (TokenValue w, next) ∷ xs) = refl
whole_or_next vs g (u ∷ us) (Ok (TokenValue w, next) ∷ xs) = go (eqb u w) (whole_or_next vs g us xs)
  where
    go : (t : Bool) → find_sequence_from vs g true us (step_items true xs) ≡ pick (sequence_in us xs) (Some g) (find_sequence_from vs g false us (step_items true xs)) →
        find_sequence_from vs g t us (step_items true xs) ≡ pick (pick t (sequence_in us xs) false) (Some g) (find_sequence_from vs g false us (step_items true xs))
    go true i = i
    go false i = refl
whole_or_next vs g [] (Ok (TokenStart, next) ∷ xs) = refl
whole_or_next vs g (u ∷ us) (Ok (TokenStart, next) ∷ xs) = refl
whole_or_next vs g [] (Ok (TokenEnd, next) ∷ xs) = refl
whole_or_next vs g (u ∷ us) (Ok (TokenEnd, next) ∷ xs) = refl
whole_or_next vs g [] (Err t ∷ xs) = refl
whole_or_next vs g (u ∷ us) (Err t ∷ xs) = refl

-- a value: what is asked for begins with it, or is looked for behind it
pub found_or_next : (q : Bool) (vs : List ℕ) (g : ℕ) (p : Phase) (w next : ℕ) (xs : List Step) →
    find_from q vs g p (Ok (TokenValue w, next) ∷ xs) ≡ pick (begins_at q vs p w (Ok (TokenValue w, next) ∷ xs)) (Some g) (find_from q vs g (after_value p) xs)
unfolding find_value find_sequence_from step_items value_item goes_on
found_or_next false vs g singles w next xs = refl
found_or_next false vs g opened w next xs = refl
found_or_next false vs g filled w next xs = refl
found_or_next true vs g singles w next xs = refl
found_or_next true vs g opened w next xs =
    whole_or_next vs g vs (Ok (TokenValue w, next) ∷ xs)
    ∙ ap (pick (sequence_in vs (Ok (TokenValue w, next) ∷ xs)) (Some g)) (no_matter vs g (rest vs) vs (step_items true xs))
found_or_next true vs g filled w next xs = no_matter vs g (rest vs) vs (step_items true xs)

-- what is found from a front on, in a table of N descriptions
abbrev pub find_front : Bool → List ℕ → ℕ → Front → Option ℕ
find_front q vs N f = find_from q vs (N - f.left) f.phase f.rest

-- another value begins nothing
other_value : (c : Coding) (k : ℕ) (q : Bool) (vs : List ℕ) → 1 ≤ length vs → key_of c (get_or vs 0 0) ≡ k → (p : Phase) (w next : ℕ) (xs : List Step) → eqb (key_of c w) k ≡ false →
    begins_at q vs p w (Ok (TokenValue w, next) ∷ xs) ≡ false
unfolding sequence_in
other_value c k false vs h e singles w next xs d = ne_eqb w (get_or vs 0 0) (λ z. eqb-false (key_of c w) k d (ap (key_of c) z ∙ e))
other_value c k false vs h e opened w next xs d = refl
other_value c k false vs h e filled w next xs d = refl
other_value c k true vs h e singles w next xs d = refl
other_value c k true [] h e opened w next xs d = refl
other_value c k true (v ∷ vs) h e opened w next xs d = rw (ne_eqb v w (λ z. eqb-false (key_of c w) k d (ap (key_of c) (sym z) ∙ e)))
other_value c k true vs h e filled w next xs d = refl

-- going over changes nothing of what is found
module _ (c : Coding) (k : ℕ) (vs : List ℕ) (h : 1 ≤ length vs) (e : key_of c (get_or vs 0 0) ≡ k) (N : ℕ) where
  pub find_skip : (q : Bool) (n : ℕ) (p : Phase) (at : ℕ) (xs : List Step) → suc n ≤ N → find_front q vs N (front (suc n) p at xs) ≡ find_front q vs N (skip_from c k n p at xs)
  unfolding skip_from find_value find_sequence_from step_items is_whole
  find_skip q n p at [] l = refl
  find_skip q n p at (Ok (TokenValue w, next) ∷ xs) l = go (eqb (key_of c w) k) refl (find_skip q n (after_value p) next xs l)
    where
      go : (t : Bool) → eqb (key_of c w) k ≡ t → find_from q vs (N - suc n) (after_value p) xs ≡ find_front q vs N (skip_from c k n (after_value p) next xs) →
          find_from q vs (N - suc n) p (Ok (TokenValue w, next) ∷ xs) ≡ find_front q vs N (pick t (front (suc n) p at (Ok (TokenValue w, next) ∷ xs)) (skip_from c k n (after_value p) next xs))
      go true d i = refl
      go false d i = found_or_next q vs (N - suc n) p w next xs ∙ ap (λ (t : Bool). pick t (Some (N - suc n)) (find_from q vs (N - suc n) (after_value p) xs)) (other_value c k q vs h e p w next xs d) ∙ i
  find_skip false n singles at (Ok (TokenStart, next) ∷ xs) l = find_skip false n opened next xs l
  find_skip true n singles at (Ok (TokenStart, next) ∷ xs) l = find_skip true n opened next xs l
  find_skip q n opened at (Ok (TokenStart, next) ∷ xs) l = refl
  find_skip false n filled at (Ok (TokenStart, next) ∷ xs) l = find_skip false n opened next xs l
  find_skip true n filled at (Ok (TokenStart, next) ∷ xs) l = find_skip true n opened next xs l
  find_skip q n opened at (Ok (TokenEnd, next) ∷ xs) l = refl
  find_skip false zero singles at (Ok (TokenEnd, next) ∷ xs) l = let z : N - 1 + 1 ≡ N - 0 = omega arith in ap (λ (g : ℕ). find_from false vs g singles xs) z
  find_skip true zero singles at (Ok (TokenEnd, next) ∷ xs) l = let z : N - 1 + 1 ≡ N - 0 = omega arith in ap (λ (g : ℕ). find_from true vs g singles xs) z
  find_skip false zero filled at (Ok (TokenEnd, next) ∷ xs) l = let z : N - 1 + 1 ≡ N - 0 = omega arith in ap (λ (g : ℕ). find_from false vs g singles xs) z
  find_skip true zero filled at (Ok (TokenEnd, next) ∷ xs) l = let z : N - 1 + 1 ≡ N - 0 = omega arith in ap (λ (g : ℕ). find_from true vs g singles xs) z
  find_skip false (suc n) singles at (Ok (TokenEnd, next) ∷ xs) l =
      let z : N - suc (suc n) + 1 ≡ N - suc n = omega arith in ap (λ (g : ℕ). find_from false vs g singles xs) z ∙ find_skip false n singles next xs (omega arith)
  find_skip true (suc n) singles at (Ok (TokenEnd, next) ∷ xs) l =
      let z : N - suc (suc n) + 1 ≡ N - suc n = omega arith in ap (λ (g : ℕ). find_from true vs g singles xs) z ∙ find_skip true n singles next xs (omega arith)
  find_skip false (suc n) filled at (Ok (TokenEnd, next) ∷ xs) l =
      let z : N - suc (suc n) + 1 ≡ N - suc n = omega arith in ap (λ (g : ℕ). find_from false vs g singles xs) z ∙ find_skip false n singles next xs (omega arith)
  find_skip true (suc n) filled at (Ok (TokenEnd, next) ∷ xs) l =
      let z : N - suc (suc n) + 1 ≡ N - suc n = omega arith in ap (λ (g : ℕ). find_from true vs g singles xs) z ∙ find_skip true n singles next xs (omega arith)
  find_skip q n p at (Err t ∷ xs) l = refl

-- behind the last description nothing is found where the table is complete; and a refused table answers so whatever was found
find_nil : (q : Bool) (vs : List ℕ) (g : ℕ) (p : Phase) → find_from q vs g p [] ≡ None
unfolding find_value find_sequence_from step_items
find_nil false vs g p = refl
find_nil true vs g p = refl

pub looked_ended : (c : Coding) (s : List ℕ) (q : Bool) (vs : List ℕ) (g : ℕ) (p : Phase) (at : ℕ) →
    looked_of None (ended_of (length s) at) ≡ looked_of (find_from q vs g p (steps_at c s at)) (ended_of (length s) at)
unfolding steps_from
looked_ended c s q vs g p at = go (below at (length s))
  where
    go : (at < length s) ⊎ (length s ≤ at) → looked_of None (ended_of (length s) at) ≡ looked_of (find_from q vs g p (steps_at c s at)) (ended_of (length s) at)
    go (inl l) = rw (← ended_trailing (length s) at l)
    go (inr l) = ap (λ (w : Option ℕ). looked_of w (ended_of (length s) at)) (sym (ap (λ (t : List ℕ). find_from q vs g p (steps_from c at 0 t)) (drop_of_length-le s l) ∙ find_nil q vs g p))

pub looked_refused : (e g : ℕ) (x : Step) → NoValue x → (w u : Option ℕ) → looked_of w (refused_of e g x) ≡ looked_of u (refused_of e g x)
looked_refused e g (Ok (TokenValue v, next)) n w u = absurd n
looked_refused e g (Ok (TokenStart, next)) n w u = refl
looked_refused e g (Ok (TokenEnd, next)) n w u = refl
looked_refused e g (Err Cut) n w u = refl
looked_refused e g (Err (Bad k)) n w u = refl
