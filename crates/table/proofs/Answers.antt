-- What each answer says of the bytes that the check is given, from any phase on: the items that they are, or how far
-- they could still be completed. One induction over the tokens, for both codings at once.
use mathlib.Core.Path.{◌≡◌, refl, sym, ◌∙◌, ap, subst}
use mathlib.Core.Bool.{true}
use mathlib.Core.List.{List, [], ◌∷◌, ◌++◌, append_assoc}
use Prim.Native.Nat.{ℕ, zero, suc, ◌+◌, ◌-◌, ◌≤◌, ◌<◌}
use native.Mathlib.Omega.{arith}
use lib.ListN.{length, take, drop, length-append, length-drop}
use lib.Seq.{take-append-add, take-append-le, take_at, length-take-le}
use Rattle.base.specs.Meaning.{Bytes}
use Rattle.base.proofs.Parts.{bytes_drop, bytes_take}
use Rattle.token.proofs.Stopping.{Begun}
use Rattle.coding.specs.declared.Coding.{Coding}
use Rattle.coding.specs.Reading.{read_token, mark_len}
use Rattle.coding.specs.Meaning.{ValueOf, value_bytes, start_bytes, end_bytes}
use Rattle.coding.proofs.Codings.{coded, stopping, mark_small}
use Rattle.table.specs.declared.Item.{Item}
use Rattle.table.specs.declared.Item.TheVariants.{Single, Start, Value, End}
use Rattle.table.specs.Reading.{ends_in, step_of, steps_from, check_steps}
use Rattle.table.specs.Meaning.{item_bytes, bytes, OfCoding}
use Rattle.table.specs.Skipping.{Phase, singles, opened, filled, is_opened}
use Rattle.table.proofs.Accepts.{Accepts}
use Rattle.table.proofs.Stepping.{first, item_front}
use Rattle.table.proofs.Moves.{ended, ended_more, Move, single, first_value, other_value, first_start, other_start, end_singles, end_sequences, moved}
use Rattle.std.specs.Prelude.{Result, Ok, Err}
use Rattle.table.specs.declared.Fault.{Fault}
use Rattle.table.specs.declared.Fault.TheVariants.{Cut as TableCut, Bad as TableBad, Trailing}
use Rattle.token.specs.declared.Token.TheVariants.{Value as TokenValue, Start as TokenStart, End as TokenEnd}
use Rattle.token.specs.declared.Token.{Token}
use Rattle.token.specs.declared.Malformed.TheVariants.{Cut, Bad}
use Rattle.token.specs.Reading.{Step}

-- as many end marks as descriptions are left
abbrev ends : ℕ → List Item
ends zero = []
ends (suc n) = End ∷ ends n

ends_accepted : (n : ℕ) → Accepts n singles (ends n)
ends_accepted zero = tt
ends_accepted (suc n) = ends_accepted n

pub same_cut : {j k g h : ℕ} → j ≡ k → g ≡ h → ◌≡◌ {A = Result (Unit {0}) Fault} (Err (TableCut j g)) (Err (TableCut k h))
same_cut p q = λ i. Err (TableCut (p i) (q i))

same_bad : {j k g h : ℕ} → j ≡ k → g ≡ h → ◌≡◌ {A = Result (Unit {0}) Fault} (Err (TableBad j g)) (Err (TableBad k h))
same_bad p q = λ i. Err (TableBad (p i) (q i))

module _ (c : Coding) where
  -- the check of bytes that stand at a place, from a phase on, with g descriptions complete and n still to end
  abbrev pub walk : ℕ → ℕ → Phase → ℕ → List ℕ → Result (Unit {0}) Fault
  walk g n p at s = check_steps (at + length s) g n (is_opened p) at (steps_from c at 0 s)

  -- the items that bytes are, from a phase on
  pub record Read (n : ℕ) (p : Phase) (s : List ℕ) : Type 0 where
    pub found : List Item
    pub of : OfCoding c found
    pub accepted : Accepts n p found
    pub same : s ≡ bytes c found

  -- further bytes that complete some
  pub record More (n : ℕ) (p : Phase) (s : List ℕ) : Type 0 where
    pub more : List ℕ
    pub read : Read n p (s ++ more)

  -- the check stops at a place with an answer, whatever follows: the start before it is Q, with one byte more it is not
  pub record Stops (g n : ℕ) (p : Phase) (at : ℕ) (s : List ℕ) (a : Result (Unit {0}) Fault) (j : ℕ) (Q : List ℕ → Type 0) : Type 0 where
    pub good : ℕ
    pub place : j ≡ at + good
    pub within : good < length s
    pub start : Q (take good s)
    pub never : (y : List ℕ) → walk g n p at (take (suc good) s ++ y) ≡ a

  abbrev pub Says : ℕ → ℕ → Phase → ℕ → List ℕ → Result (Unit {0}) Fault → Type 0
  Says g n p at s (Ok tt) = Read n p s
  Says g n p at s (Err (TableCut j h)) = (j ≡ at + length s) × More n p s
  Says g n p at s (Err (TableBad j h)) = Stops g n p at s (Err (TableBad j h)) j (More n p)
  Says g n p at s (Err (Trailing j)) = Stops g n p at s (Err (Trailing j)) j (Read n p)

  abbrev pub Told : ℕ → ℕ → Phase → ℕ → List ℕ → Type 0
  Told g n p at s = Says g n p at s (walk g n p at s)

  heads : (i : Item) (is : List Item) → OfCoding c (i ∷ []) → OfCoding c is → OfCoding c (i ∷ is)
  heads (Single v) is o q = (o.0, q)
  heads (Value v) is o q = (o.0, q)
  heads Start is o q = q
  heads End is o q = q

  ends_of : (n : ℕ) → OfCoding c (ends n)
  ends_of zero = tt
  ends_of (suc n) = ends_of n

  -- an item in front
  module _ (n : ℕ) (p : Phase) (n' : ℕ) (p' : Phase) (i : Item) (m : Move c n p n' p' i) where
    on : (g at : ℕ) (y : List ℕ) → walk g n p at (item_bytes c i ++ y) ≡ walk (ended i g) n' p' (at + length (item_bytes c i)) y
    on g at y =
        let l : at + length (item_bytes c i ++ y) ≡ at + length (item_bytes c i) + length y = omega (arith, length-append (item_bytes c i) y) in
        ap (check_steps (at + length (item_bytes c i ++ y)) g n (is_opened p) at) (item_front c i at y m.of)
        ∙ m.checked (at + length (item_bytes c i ++ y)) g at (at + length (item_bytes c i)) (steps_from c (at + length (item_bytes c i)) 0 y)
        ∙ ap (λ (e : ℕ). check_steps e (ended i g) n' (is_opened p') (at + length (item_bytes c i)) (steps_from c (at + length (item_bytes c i)) 0 y)) l

    read_on : (s : List ℕ) → Read n' p' s → Read n p (item_bytes c i ++ s)
    read_on s r =
        record { found = i ∷ r.found; of = heads i r.found m.of r.of; accepted = m.accepts r.found r.accepted; same = ap (λ (y : List ℕ). item_bytes c i ++ y) r.same }

    more_on : (s : List ℕ) → More n' p' s → More n p (item_bytes c i ++ s)
    more_on s x = record { more = x.more; read = rw (append_assoc (item_bytes c i) s x.more) (read_on (s ++ x.more) x.read) }

    stops_on : (g at : ℕ) (s : List ℕ) (a : Result (Unit {0}) Fault) (j : ℕ) (Q Q' : List ℕ → Type 0) → ((t : List ℕ) → Q' t → Q (item_bytes c i ++ t)) →
        Stops (ended i g) n' p' (at + length (item_bytes c i)) s a j Q' → Stops g n p at (item_bytes c i ++ s) a j Q
    stops_on g at s a j Q Q' h r =
        let x = item_bytes c i in
        let q : suc (length x + r.good) ≡ length x + suc r.good = omega arith in
        record {
          good = length x + r.good;
          place = omega (arith, r.place);
          within = omega (arith, r.within, length-append x s);
          start = rw (take-append-add x s r.good) (h (take r.good s) r.start);
          never = λ y. rw (q, take-append-add x s (suc r.good), append_assoc) (on g at (take (suc r.good) s ++ y) ∙ r.never y);
        }

    lift : (g at : ℕ) (s : List ℕ) (a : Result (Unit {0}) Fault) → Says (ended i g) n' p' (at + length (item_bytes c i)) s a → Says g n p at (item_bytes c i ++ s) a
    lift g at s (Ok tt) r = read_on s r
    lift g at s (Err (TableCut j h)) r = (omega (arith, r.0, length-append (item_bytes c i) s), more_on s r.1)
    lift g at s (Err (TableBad j h)) r = stops_on g at s (Err (TableBad j h)) j (More n p) (More n' p') more_on r
    lift g at s (Err (Trailing j)) r = stops_on g at s (Err (Trailing j)) j (Read n p) (Read n' p') read_on r

    -- the item, and what is told of the rest
    go_on : (s : List ℕ) (l g at : ℕ) → s ≡ item_bytes c i ++ drop l s → Told (ended i g) n' p' (at + length (item_bytes c i)) (drop l s) → Told g n p at s
    go_on s l g at d r =
        subst (λ (z : List ℕ). Told g n p at z) (sym d)
        (subst (λ (a : Result (Unit {0}) Fault). Says g n p at (item_bytes c i ++ drop l s) a) (sym (on g at (drop l s)))
        (lift g at (drop l s) (walk (ended i g) n' p' (at + length (item_bytes c i)) (drop l s)) r))

  -- a value that is begun, and as many end marks as descriptions are left, complete the table from any phase
  begun_by : (n : ℕ) (p p' : Phase) (i : Item) (s : List ℕ) (b : Begun (ValueOf c) (value_bytes c) s) → item_bytes c i ≡ value_bytes c b.value →
      Move c (suc n) p (suc n) p' i → Accepts (suc n) p' (ends (suc n)) → More (suc n) p s
  begun_by n p p' i s b q m a =
      let z = bytes c (ends (suc n)) in
      record {
        more = b.more ++ z;
        read = subst (Read (suc n) p) (ap (λ (x : List ℕ). x ++ z) (q ∙ sym b.same) ∙ append_assoc s b.more z)
            (read_on (suc n) p (suc n) p' i m z (record { found = ends (suc n); of = ends_of n; accepted = a; same = refl }));
      }

  begun_more : (n : ℕ) (p : Phase) (s : List ℕ) → Begun (ValueOf c) (value_bytes c) s → More (suc n) p s
  begun_more n singles s b = begun_by n singles singles (Single b.value) s b refl (single c n b.value b.of) (ends_accepted n)
  begun_more n opened s b = begun_by n opened filled (Value b.value) s b refl (first_value c n b.value b.of) (ends_accepted n)
  begun_more n filled s b = begun_by n filled filled (Value b.value) s b refl (other_value c n b.value b.of) (ends_accepted n)

  -- a step that ends the check at once
  at_once : (g n : ℕ) (p : Phase) (at : ℕ) (z : List ℕ) (w : Step) (a : Result (Unit {0}) Fault) → 1 ≤ length z → step_of at (read_token c z) ≡ w →
      ((xs : List Step) → check_steps (at + length z) g (suc n) (is_opened p) at (w ∷ xs) ≡ a) → walk g (suc n) p at z ≡ a
  at_once g n p at [] w a h e f = absurd (omega arith)
  at_once g n p at (b ∷ t) w a h e f = ap (check_steps (at + length (b ∷ t)) g (suc n) (is_opened p) at) (first c at b t w e) ∙ f _

  -- a mark where a value has to stand
  marked : (g n at : ℕ) (x s : List ℕ) → length x ≡ mark_len c → ((y : List ℕ) → walk g (suc n) opened at (x ++ y) ≡ Err (TableBad (at + (mark_len c - 1)) g)) →
      Begun (ValueOf c) (value_bytes c) (take (mark_len c - 1) x) → s ≡ x ++ drop (mark_len c) s → Told g (suc n) opened at s
  marked g n at x s lx e b d =
      let m = (mark_small c).0 in
      subst (λ (z : List ℕ). Told g (suc n) opened at z) (sym d)
      (subst (λ (a : Result (Unit {0}) Fault). Says g (suc n) opened at (x ++ drop (mark_len c) s) a) (sym (e (drop (mark_len c) s)))
      (record {
        good = mark_len c - 1;
        place = refl;
        within = omega (arith, length-append x (drop (mark_len c) s));
        start = begun_more n opened (take (mark_len c - 1) (x ++ drop (mark_len c) s)) (rw (take-append-le (mark_len c - 1) x (drop (mark_len c) s) (omega arith)) b);
        never = λ y. let q : suc (mark_len c - 1) ≡ mark_len c = omega arith in rw (q, take_at x (drop (mark_len c) s) (mark_len c) lx) (e y);
      }))

  -- a start or end mark, read where a value has to stand
  bad_mark : (g n at : ℕ) (x y : List ℕ) (t : Token) → length x ≡ mark_len c → read_token c (x ++ y) ≡ Ok (t, length x) →
      ((e : ℕ) (xs : List Step) → check_steps e g (suc n) true at (Ok (t, at + length x) ∷ xs) ≡ Err (TableBad (at + length x - 1) g)) → walk g (suc n) opened at (x ++ y) ≡ Err (TableBad (at + (mark_len c - 1)) g)
  bad_mark g n at x y t lx e f =
      let m = (mark_small c).0 in
      let l : at + length x - 1 ≡ at + (mark_len c - 1) = omega arith in
      at_once g n opened at (x ++ y) (Ok (t, at + length x)) (Err (TableBad (at + (mark_len c - 1)) g)) (omega (arith, length-append x y)) (ap (step_of at) e) (λ xs. f (at + length (x ++ y)) xs ∙ ap (λ (k : ℕ). Err (TableBad k g)) l)

  module _ (s : List ℕ) (h : 1 ≤ length s) (y : Bytes s) (ih : (t : List ℕ) → length t < length s → Bytes t → (g n : ℕ) (p : Phase) (at : ℕ) → Told g n p at t) (g n at : ℕ) where
    rest : (l : ℕ) → 1 ≤ l → (g n : ℕ) (p : Phase) (at : ℕ) → Told g n p at (drop l s)
    rest l i g n p at = ih (drop l s) (omega (arith, length-drop l s)) (bytes_drop l s y) g n p at

    by_value : (p p' : Phase) (i : Item) (v l : ℕ) → Move c (suc n) p (suc n) p' i → item_bytes c i ≡ value_bytes c v → read_token c s ≡ Ok (TokenValue v, l) → Told g (suc n) p at s
    by_value p p' i v l m b q =
        let w = (coded c).read_value_lem s y v l q in
        go_on (suc n) p (suc n) p' i m s l g at (w.2 ∙ ap (λ (x : List ℕ). x ++ drop l s) (sym b))
        (rest l (omega (arith, w.1, (coded c).value_some v w.0)) (ended i g) (suc n) p' (at + length (item_bytes c i)))

    by_start : (p : Phase) → Move c (suc n) p (suc n) opened Start → (l : ℕ) → read_token c s ≡ Ok (TokenStart, l) → Told g (suc n) p at s
    by_start p m l q =
        let w = (coded c).read_start s y l q in
        go_on (suc n) p (suc n) opened Start m s l g at w.1 (rest l (omega (arith, w.0, (coded c).start_long, (mark_small c).0)) g (suc n) opened (at + length (start_bytes c)))

    by_end : (p : Phase) → Move c (suc n) p n singles End → (l : ℕ) → read_token c s ≡ Ok (TokenEnd, l) → Told g (suc n) p at s
    by_end p m l q =
        let w = (coded c).read_end s y l q in
        go_on (suc n) p n singles End m s l g at w.1 (rest l (omega (arith, w.0, (coded c).end_long, (mark_small c).0)) (suc g) n singles (at + length (end_bytes c)))

    told : (p : Phase) (t : Step) → read_token c s ≡ t → Told g (suc n) p at s
    unfolding check_steps
    told singles (Ok (TokenValue v, l)) q = by_value singles singles (Single v) v l (single c n v ((coded c).read_value_lem s y v l q).0) refl q
    told opened (Ok (TokenValue v, l)) q = by_value opened filled (Value v) v l (first_value c n v ((coded c).read_value_lem s y v l q).0) refl q
    told filled (Ok (TokenValue v, l)) q = by_value filled filled (Value v) v l (other_value c n v ((coded c).read_value_lem s y v l q).0) refl q
    told singles (Ok (TokenStart, l)) q = by_start singles (first_start c n) l q
    told filled (Ok (TokenStart, l)) q = by_start filled (other_start c n) l q
    told singles (Ok (TokenEnd, l)) q = by_end singles (end_singles c n) l q
    told filled (Ok (TokenEnd, l)) q = by_end filled (end_sequences c n) l q
    told opened (Ok (TokenStart, l)) q =
        let w = (coded c).read_start s y l q in
        marked g n at (start_bytes c) s (coded c).start_long (λ z. bad_mark g n at (start_bytes c) z TokenStart (coded c).start_long ((coded c).start_read z) (λ e xs. refl))
        (stopping c).start_begun (subst (λ (m : ℕ). s ≡ start_bytes c ++ drop m s) (w.0 ∙ (coded c).start_long) w.1)
    told opened (Ok (TokenEnd, l)) q =
        let w = (coded c).read_end s y l q in
        marked g n at (end_bytes c) s (coded c).end_long (λ z. bad_mark g n at (end_bytes c) z TokenEnd (coded c).end_long ((coded c).end_read z) (λ e xs. refl))
        (stopping c).end_begun (subst (λ (m : ℕ). s ≡ end_bytes c ++ drop m s) (w.0 ∙ (coded c).end_long) w.1)
    told p (Err Cut) q =
        subst (λ (a : Result (Unit {0}) Fault). Says g (suc n) p at s a) (sym (at_once g n p at s (Err Cut) (Err (TableCut (at + length s) g)) h (ap (step_of at) q) (λ xs. refl)))
        (refl, begun_more n p s ((stopping c).cut_begun s y q))
    told p (Err (Bad k)) q =
        let d = stopping c in
        let b : (z : List ℕ) → 1 ≤ length z → read_token c z ≡ Err (Bad k) → walk g (suc n) p at z ≡ Err (TableBad (at + k) g) =
        λ z l e. at_once g n p at z (Err (Bad (at + k))) (Err (TableBad (at + k) g)) l (ap (step_of at) e) (λ xs. refl) in
        subst (λ (a : Result (Unit {0}) Fault). Says g (suc n) p at s a) (sym (b s h q))
        (record {
          good = k;
          place = refl;
          within = d.bad_within s k q;
          start = begun_more n p (take k s) (d.cut_begun (take k s) (bytes_take k s y) (d.bad_cut s k q));
          never = λ z. b (take (suc k) s ++ z) (omega (arith, length-append (take (suc k) s) z, length-take-le (suc k) s (d.bad_within s k q))) (d.bad_never s k z q);
        })

  told_nil : (g n : ℕ) (p : Phase) (at : ℕ) → Told g n p at []
  unfolding check_steps steps_from
  told_nil g zero p at = record { found = []; of = tt; accepted = tt; same = refl }
  told_nil g (suc n) p at = (omega arith, begun_more n p [] ((stopping c).cut_begun [] tt (stopping c).nil_cut))

  told_over : (g : ℕ) (p : Phase) (at b : ℕ) (t : List ℕ) → Told g zero p at (b ∷ t)
  unfolding check_steps steps_from
  told_over g p at b t =
      record { good = 0; place = omega arith; within = omega arith; start = record { found = []; of = tt; accepted = tt; same = refl }; never = λ y. refl }

  told_all : (f : ℕ) (s : List ℕ) → length s < f → Bytes s → (g n : ℕ) (p : Phase) (at : ℕ) → Told g n p at s
  told_all zero s h y g n p at = absurd (omega arith)
  told_all (suc f) [] h y g n p at = told_nil g n p at
  told_all (suc f) (b ∷ t) h y g zero p at = told_over g p at b t
  told_all (suc f) (b ∷ t) h y g (suc n) p at = told (b ∷ t) (omega arith) y (λ z l. told_all f z (omega arith)) g n at p (read_token c (b ∷ t)) refl

  -- what the answer on a whole tail says of it
  pub answer_told : (n : ℕ) (s : List ℕ) → Bytes s → Told 0 n singles 0 s
  answer_told n s y = told_all (suc (length s)) s (omega arith) y 0 n singles 0

  -- with no description left: all is read, or something stands behind
  abbrev pub at_over : ℕ → List ℕ → Result (Unit {0}) Fault
  at_over at [] = Ok tt
  at_over at (b ∷ y) = Err (Trailing at)

  over : (g : ℕ) (p : Phase) (at : ℕ) (y : List ℕ) → walk g zero p at y ≡ at_over at y
  unfolding check_steps steps_from
  over g p at [] = refl
  over g p at (b ∷ y) = refl

  -- accepted items, written, are accepted, whatever stands behind
  abbrev Passed : ℕ → ℕ → Phase → ℕ → List Item → List ℕ → Type 0
  Passed g n p at is y = walk g n p at (bytes c is ++ y) ≡ at_over (at + length (bytes c is)) y

  pub passes : (is : List Item) (g n : ℕ) (p : Phase) (at : ℕ) (y : List ℕ) → OfCoding c is → Accepts n p is → Passed g n p at is y
  passes [] g zero p at y o a = let e : at + 0 ≡ at = omega arith in over g p at y ∙ ap (λ (k : ℕ). at_over k y) (sym e)
  passes [] g (suc n) p at y o a = absurd a
  passes (i ∷ is) g n p at y o a =
      let m = moved c n p i is o a in
      let x = item_bytes c i in
      let l : at + length x + length (bytes c is) ≡ at + length (x ++ bytes c is) = omega (arith, length-append x (bytes c is)) in
      ap (walk g n p at) (append_assoc x (bytes c is) y)
      ∙ on n p m.left m.phase i m.move g at (bytes c is ++ y)
      ∙ passes is (ended i g) m.left m.phase (at + length x) y m.rest_of m.rest
      ∙ ap (λ (k : ℕ). at_over k y) l

  -- the items in front of an accepted one, written, are cut off at its place, in the description that it stands in
  begins : (g n : ℕ) (p : Phase) (at : ℕ) → walk g (suc n) p at [] ≡ Err (TableCut at g)
  unfolding check_steps steps_from
  begins g n p at = refl

  pub stops_before : (is : List Item) (i : Item) (js : List Item) (g n : ℕ) (p : Phase) (at : ℕ) → OfCoding c (is ++ (i ∷ js)) → Accepts n p (is ++ (i ∷ js)) →
      walk g n p at (bytes c is) ≡ Err (TableCut (at + length (bytes c is)) (g + ends_in is))
  stops_before [] i js g zero p at o a = absurd a
  stops_before [] i js g (suc n) p at o a = begins g n p at ∙ same_cut (omega arith) (omega arith)
  stops_before (x ∷ is) i js g n p at o a =
      let m = moved c n p x (is ++ (i ∷ js)) o a in
      let y = item_bytes c x in
      let l : at + length y + length (bytes c is) ≡ at + length (y ++ bytes c is) = omega (arith, length-append y (bytes c is)) in
      on n p m.left m.phase x m.move g at (bytes c is)
      ∙ stops_before is i js (ended x g) m.left m.phase (at + length y) m.rest_of m.rest
      ∙ same_cut l (ended_more x g is)

  -- a token that is bad, behind the items in front of an accepted one
  pub bad_behind : (is : List Item) (i : Item) (js : List Item) (g n : ℕ) (p : Phase) (at : ℕ) (y : List ℕ) (k : ℕ) → 1 ≤ length y → read_token c y ≡ Err (Bad k) →
      OfCoding c (is ++ (i ∷ js)) → Accepts n p (is ++ (i ∷ js)) → walk g n p at (bytes c is ++ y) ≡ Err (TableBad (at + length (bytes c is) + k) (g + ends_in is))
  unfolding check_steps
  bad_behind [] i js g zero p at y k h q o a = absurd a
  bad_behind [] i js g (suc n) p at y k h q o a =
      at_once g n p at y (Err (Bad (at + k))) (Err (TableBad (at + k) g)) h (ap (step_of at) q) (λ xs. refl) ∙ same_bad (omega arith) (omega arith)
  bad_behind (x ∷ is) i js g n p at y k h q o a =
      let m = moved c n p x (is ++ (i ∷ js)) o a in
      let z = item_bytes c x in
      let l : at + length z + length (bytes c is) + k ≡ at + length (z ++ bytes c is) + k = omega (arith, length-append z (bytes c is)) in
      ap (walk g n p at) (append_assoc z (bytes c is) y)
      ∙ on n p m.left m.phase x m.move g at (bytes c is ++ y)
      ∙ bad_behind is i js (ended x g) m.left m.phase (at + length z) y k h q m.rest_of m.rest
      ∙ same_bad l (ended_more x g is)
