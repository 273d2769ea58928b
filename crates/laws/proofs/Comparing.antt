-- The steps from what a comparison answers and leaves to the pairs that it finds (Differences says what is shown).
use mathlib.Core.Path.{◌≡◌, refl, sym, ◌∙◌, ap, subst}
use mathlib.Core.Logic.{◌⊎◌, inl, inr, ◌↔◌}
use mathlib.Core.Bool.{Bool, true, false}
use mathlib.Core.List.{List, [], ◌∷◌}
use Prim.Native.Nat.{ℕ, zero, suc, ◌+◌, ◌*◌, ◌≤◌, ◌<◌}
use native.Mathlib.Omega.{arith}
use lib.Dec.{ltb}
use lib.ListN.{length, drop}
use lib.Seq.{take_at, drop_at}
use Rattle.base.specs.Meaning.{Bytes}
use Rattle.base.specs.Reading.{when, over}
use Rattle.base.proofs.Over.{length_over}
use Rattle.base.proofs.Tests.{below}
use Rattle.refusal.specs.Meaning.{refusal}
use Rattle.refusal.specs.declared.Reason.TheVariants.{Room}
use Rattle.refusal.specs.declared.Refusal.{Refusal}
use Rattle.lookup.specs.Meaning.{Nth}
use Rattle.header.specs.declared.Font.{Font}
use Rattle.stages.specs.Reading.{check_of}
use Rattle.content.proofs.Source.{is_placed}
use Rattle.content.specs.Meaning.{Content, HasContent, SameContent}
use Rattle.differences.specs.Meaning.{numbers}
use Rattle.differences.specs.Reading.{pairs_of, fitted, compared_with, compared_by, compare_answer, found_with, found_by, differences_of, left_by, compare_into}
use Rattle.differences.proofs.Pairs.{numbers_length}
use Rattle.differences.proofs.Cases.{no_room, has_room, pairs_most}
use Rattle.laws.specs.Meaning.{Exact, gives, refuses, Before, Each, Ordered, swapped, compared_says, whose_refusal, CompareRows, Listed}
use Rattle.laws.proofs.Exactly.{given_same, is, row, own_first, less, clash}
use Rattle.laws.proofs.Pairing.{In}
use Rattle.laws.proofs.Differing.{none_exactly, same_self}
use Rattle.std.specs.Prelude.{Result, Ok, Err}
use Rattle.differences.specs.declared.Uncompared.{Uncompared}
use Rattle.differences.specs.declared.Uncompared.TheVariants.{First, Second, Neither}

-- the answer on any two files
module _ (s o : List ℕ) (room : ℕ) where
  first_refused : (r : Refusal) → check_of s ≡ Err r → compare_answer s o room ≡ Err (First r)
  unfolding compare_answer
  first_refused r e = ap (compared_by s o room) e

  second_refused : (f : Font) (r : Refusal) → check_of s ≡ Ok f → check_of o ≡ Err r → compare_answer s o room ≡ Err (Second r)
  unfolding compare_answer
  second_refused f r e q = ap (compared_by s o room) e ∙ ap (compared_with s f o room) q

  both_sound : (f h : Font) → check_of s ≡ Ok f → check_of o ≡ Ok h → compare_answer s o room ≡ fitted room (length (differences_of s o))
  unfolding compare_answer differences_of
  both_sound f h e q =
      let d : differences_of s o ≡ pairs_of s f o h = ap (found_by s o) e ∙ ap (found_with s f o) q in
      ap (compared_by s o room) e ∙ ap (compared_with s f o room) q ∙ ap (λ (ps : List (ℕ × ℕ)). fitted room (length ps)) (sym d)

  pub compare_rows : Exact (compared_says (compare_answer s o room)) (CompareRows s o room (length (differences_of s o)))
  compare_rows =
      own_first s (λ r e. ap compared_says (first_refused r e)) (λ f e.
      own_first o (λ r q. ap compared_says (second_refused f r e q)) (λ h q.
      let n = length (differences_of s o) in
      row (less room (2 * n)) (λ l. ap compared_says (both_sound f h e q ∙ sym (no_room room n l))) (λ l.
      is _ _ (ap compared_says (both_sound f h e q ∙ sym (has_room room n (omega (arith, at_least room (2 * n) l))))))))
    where
      at_least : (a b : ℕ) → ((a < b) → ⊥) → b ≤ a
      at_least a b n = go (below a b)
        where
          go : (a < b) ⊎ (b ≤ a) → b ≤ a
          go (inl l) = absurd (n l)
          go (inr l) = l

  -- whose refusal it is
  fitted_whose : (n : ℕ) → whose_refusal (fitted room n) ≡ 0
  unfolding fitted when
  fitted_whose n = go (ltb room (2 * n))
    where
      go : (t : Bool) → whose_refusal (when t (Err (Neither (refusal Room (2 * n)))) (Ok n)) ≡ 0
      go true = refl
      go false = refl

  abbrev Whose : ℕ → Type 0
  Whose w =
      ((w ≡ 1) × ((r : Refusal) × (check_of s ≡ Err r)))
      ⊎ (((w ≡ 2) × ((f : Font) × (check_of s ≡ Ok f)) × ((r : Refusal) × (check_of o ≡ Err r)))
      ⊎ ((w ≡ 0) × ((f : Font) × (check_of s ≡ Ok f)) × ((f : Font) × (check_of o ≡ Ok f))))

  whose : Whose (whose_refusal (compare_answer s o room))
  whose = go (check_of s) (check_of o) refl refl
    where
      go : (x z : Result Font Refusal) → check_of s ≡ x → check_of o ≡ z → Whose (whose_refusal (compare_answer s o room))
      go (Err r) z e q = inl (ap whose_refusal (first_refused r e), (r, e))
      go (Ok f) (Err r) e q = inr (inl (ap whose_refusal (second_refused f r e q), (f, e), (r, q)))
      go (Ok f) (Ok h) e q = inr (inr (ap whose_refusal (both_sound f h e q) ∙ fitted_whose (length (differences_of s o)), (f, e), (h, q)))

  pub first_whose : (whose_refusal (compare_answer s o room) ≡ 1) ↔ ((r : Refusal) × (check_of s ≡ Err r))
  first_whose = (λ w. there w whose, λ q. ap whose_refusal (first_refused q.0 q.1))
    where
      there : whose_refusal (compare_answer s o room) ≡ 1 → Whose (whose_refusal (compare_answer s o room)) → (r : Refusal) × (check_of s ≡ Err r)
      there w (inl p) = p.1
      there w (inr (inl p)) = absurd (omega (arith, w, p.0))
      there w (inr (inr p)) = absurd (omega (arith, w, p.0))

  pub second_whose : (whose_refusal (compare_answer s o room) ≡ 2) ↔ (((f : Font) × (check_of s ≡ Ok f)) × ((r : Refusal) × (check_of o ≡ Err r)))
  second_whose = (λ w. there w whose, λ q. ap whose_refusal (second_refused q.0.0 q.1.0 q.0.1 q.1.1))
    where
      there : whose_refusal (compare_answer s o room) ≡ 2 → Whose (whose_refusal (compare_answer s o room)) → ((f : Font) × (check_of s ≡ Ok f)) × ((r : Refusal) × (check_of o ≡ Err r))
      there w (inl p) = absurd (omega (arith, w, p.0))
      there w (inr (inl p)) = (p.1, p.2)
      there w (inr (inr p)) = absurd (omega (arith, w, p.0))

  pub neither_whose : (whose_refusal (compare_answer s o room) ≡ 0) ↔ (((f : Font) × (check_of s ≡ Ok f)) × ((f : Font) × (check_of o ≡ Ok f)))
  neither_whose = (λ w. there w whose, λ q. ap whose_refusal (both_sound q.0.0 q.1.0 q.0.1 q.1.1) ∙ fitted_whose (length (differences_of s o)))
    where
      there : whose_refusal (compare_answer s o room) ≡ 0 → Whose (whose_refusal (compare_answer s o room)) → ((f : Font) × (check_of s ≡ Ok f)) × ((f : Font) × (check_of o ≡ Ok f))
      there w (inl p) = absurd (omega (arith, w, p.0))
      there w (inr (inl p)) = absurd (omega (arith, w, p.0))
      there w (inr (inr p)) = (p.1, p.2)

  -- with no differences there is room for all of them
  pub answers_none : (f h : Font) → check_of s ≡ Ok f → check_of o ≡ Ok h → differences_of s o ≡ [] → compared_says (compare_answer s o room) ≡ gives 0
  answers_none f h e q z = ap compared_says (both_sound f h e q ∙ ap (λ (ps : List (ℕ × ℕ)). fitted room (length ps)) z ∙ sym (has_room room 0 (omega arith)))

-- what is left in a buffer
module _ (s o xs : List ℕ) where
  left_as : (c : Result ℕ Uncompared) → compare_answer s o (length xs) ≡ c → compare_into s o xs ≡ left_by c (differences_of s o) xs
  unfolding compare_into
  left_as c e = ap (λ (x : Result ℕ Uncompared). left_by x (differences_of s o) xs) e

  pub untouched : (number p : ℕ) → compared_says (compare_answer s o (length xs)) ≡ refuses number p → compare_into s o xs ≡ xs
  untouched number p e = go (compare_answer s o (length xs)) refl
    where
      go : (c : Result ℕ Uncompared) → compare_answer s o (length xs) ≡ c → compare_into s o xs ≡ xs
      go (Ok n) q = let w : gives n ≡ refuses number p = ap compared_says (sym q) ∙ e in let z : ◌≡◌ {A = ℕ} 0 1 = cc in absurd (omega arith)
      go (Err u) q = left_as (Err u) q

  laid : (ps : List (ℕ × ℕ)) → 2 * length ps ≤ length xs → Listed ps xs (over (numbers ps) xs)
  unfolding over
  laid ps l =
      let e : length (numbers ps) ≡ 2 * length ps = numbers_length ps in
      record {
        front = take_at (numbers ps) (drop (length (numbers ps)) xs) (2 * length ps) e;
        behind = drop_at (numbers ps) (drop (length (numbers ps)) xs) (2 * length ps) e ∙ ap (λ (n : ℕ). drop n xs) e;
        whole = length_over (numbers ps) xs (omega (arith, e, l));
      }

  never_given : (u : Uncompared) (n : ℕ) → compared_says (Err u) ≡ gives n → ⊥
  never_given (First r) n e = let z : ◌≡◌ {A = ℕ} 0 1 = cc in absurd (omega arith)
  never_given (Second r) n e = let z : ◌≡◌ {A = ℕ} 0 1 = cc in absurd (omega arith)
  never_given (Neither r) n e = let z : ◌≡◌ {A = ℕ} 0 1 = cc in absurd (omega arith)

  pub listed : (n : ℕ) → compared_says (compare_answer s o (length xs)) ≡ gives n → (n ≡ length (differences_of s o)) × Listed (differences_of s o) xs (compare_into s o xs)
  listed n e = go (check_of s) (check_of o) refl refl
    where
      refused_not : (u : Uncompared) → compare_answer s o (length xs) ≡ Err u → ⊥
      refused_not u q = never_given u n (ap compared_says (sym q) ∙ e)

      room_or_not : (f h : Font) → check_of s ≡ Ok f → check_of o ≡ Ok h → (length xs < 2 * length (differences_of s o)) ⊎ (2 * length (differences_of s o) ≤ length xs) →
          (n ≡ length (differences_of s o)) × Listed (differences_of s o) xs (compare_into s o xs)
      room_or_not f h a b (inl l) = absurd (refused_not (Neither _) (both_sound s o (length xs) f h a b ∙ sym (no_room (length xs) (length (differences_of s o)) l)))
      room_or_not f h a b (inr l) =
          let q = both_sound s o (length xs) f h a b ∙ sym (has_room (length xs) (length (differences_of s o)) l) in
          let v : gives n ≡ gives (length (differences_of s o)) = sym e ∙ ap compared_says q in
          (given_same v, subst (Listed (differences_of s o) xs) (sym (left_as (Ok (length (differences_of s o))) q)) (laid (differences_of s o) l))

      go : (x z : Result Font Refusal) → check_of s ≡ x → check_of o ≡ z → (n ≡ length (differences_of s o)) × Listed (differences_of s o) xs (compare_into s o xs)
      go (Err r) z a b = absurd (refused_not (First r) (first_refused s o (length xs) r a))
      go (Ok f) (Err r) a b = absurd (refused_not (Second r) (second_refused s o (length xs) f r a b))
      go (Ok f) (Ok h) a b = room_or_not f h a b (below (length xs) (2 * length (differences_of s o)))

-- no more pairs than glyphs together
pub count_most : (s o : List ℕ) (f h : Font) → Bytes s → Bytes o → check_of s ≡ Ok f → check_of o ≡ Ok h → length (differences_of s o) ≤ f.count + h.count
unfolding differences_of
count_most s o f h ys yo e q =
    let d : differences_of s o ≡ pairs_of s f o h = ap (found_by s o) e ∙ ap (found_with s f o) q in
    omega (arith, ap length d, pairs_most s f o h (is_placed s f ys e).1 (is_placed o h yo q).1)

-- no pair comes twice in a list that is in order
not_before : (p : ℕ × ℕ) → Before p p → ⊥
not_before p (inl w) = w.1 w.0
not_before p (inr (a, b, inl l)) = omega arith
not_before p (inr (a, b, inr w)) = omega (arith, w.1)

each_nth : (P : ℕ × ℕ → Type 0) (ps : List (ℕ × ℕ)) (i : ℕ) (p : ℕ × ℕ) → Each P ps → Nth i ps p → P p
each_nth P [] i p e n = absurd n
each_nth P (q ∷ ps) zero p e n = subst P n e.0
each_nth P (q ∷ ps) (suc i) p e n = each_nth P ps i p e.1 n

pub once : (ps : List (ℕ × ℕ)) → Ordered ps → (i j : ℕ) (p : ℕ × ℕ) → Nth i ps p → Nth j ps p → i ≡ j
once [] e i j p m n = absurd m
once (q ∷ ps) e zero zero p m n = refl
once (q ∷ ps) e zero (suc j) p m n = absurd (not_before p (subst (λ (x : ℕ × ℕ). Before x p) m (each_nth (Before q) ps j p e.0 n)))
once (q ∷ ps) e (suc i) zero p m n = absurd (not_before p (subst (λ (x : ℕ × ℕ). Before x p) n (each_nth (Before q) ps i p e.0 m)))
once (q ∷ ps) e (suc i) (suc j) p m n = ap suc (once ps e.1 i j p m n)

-- a list in order is known by what stands in it
before_one_way : (p q : ℕ × ℕ) → Before p q → Before q p → ⊥
before_one_way p q (inl a) (inl b) = a.1 b.0
before_one_way p q (inl a) (inr b) = b.1 a.0
before_one_way p q (inr a) (inl b) = a.1 b.0
before_one_way p q (inr (a, b, c)) (inr (d, e, f)) = go c f
  where
    go : (p.1 < q.1) ⊎ ((p.1 ≡ q.1) × (p.0 < q.0)) → (q.1 < p.1) ⊎ ((q.1 ≡ p.1) × (q.0 < p.0)) → ⊥
    go (inl x) (inl y) = omega arith
    go (inl x) (inr y) = omega (arith, y.0)
    go (inr x) (inl y) = omega (arith, x.0)
    go (inr x) (inr y) = omega (arith, x.1, y.1)

each_in : (P : ℕ × ℕ → Type 0) (ps : List (ℕ × ℕ)) (p : ℕ × ℕ) → Each P ps → In p ps → P p
each_in P [] p e i = absurd i
each_in P (q ∷ ps) p e (inl w) = subst P w e.0
each_in P (q ∷ ps) p e (inr i) = each_in P ps p e.1 i

same_first : (p q : ℕ × ℕ) (ps qs : List (ℕ × ℕ)) → Ordered (p ∷ ps) → Ordered (q ∷ qs) → In p (q ∷ qs) → In q (p ∷ ps) → p ≡ q
same_first p q ps qs a b (inl e) j = sym e
same_first p q ps qs a b (inr i) (inl e) = e
same_first p q ps qs a b (inr i) (inr j) = absurd (before_one_way p q (each_in (Before p) ps q a.0 j) (each_in (Before q) qs p b.0 i))

later_in : (p q : ℕ × ℕ) (ps qs : List (ℕ × ℕ)) → p ≡ q → Ordered (p ∷ ps) → ((r : ℕ × ℕ) → In r (p ∷ ps) → In r (q ∷ qs)) → (r : ℕ × ℕ) → In r ps → In r qs
later_in p q ps qs e a f r i = go (f r (inr i))
  where
    go : In r (q ∷ qs) → In r qs
    go (inl w) = absurd (not_before p (subst (Before p) (sym (e ∙ w)) (each_in (Before p) ps r a.0 i)))
    go (inr j) = j

pub one_list : (ps qs : List (ℕ × ℕ)) → Ordered ps → Ordered qs → ((p : ℕ × ℕ) → In p ps → In p qs) → ((p : ℕ × ℕ) → In p qs → In p ps) → ps ≡ qs
one_list [] [] a b f g = refl
one_list [] (q ∷ qs) a b f g = absurd (g q (inl refl))
one_list (p ∷ ps) [] a b f g = absurd (f p (inl refl))
one_list (p ∷ ps) (q ∷ qs) a b f g =
    let e = same_first p q ps qs a b (f p (inl refl)) (g q (inl refl)) in
    λ i. e i ∷ one_list ps qs a.1 b.1 (later_in p q ps qs e a f) (later_in q p qs ps (sym e) b g) i

-- swapping leaves the count
pub swapped_length : (ps : List (ℕ × ℕ)) → length (swapped ps) ≡ length ps
swapped_length [] = refl
swapped_length (p ∷ ps) = ap suc (swapped_length ps)

-- two files with one content: nothing differs, whatever the room
pub one_content : (s : List ℕ) → Bytes s → (o : List ℕ) → Bytes o → (m : Content) → HasContent s m → HasContent o m → (room : ℕ) → compared_says (compare_answer s o room) ≡ gives 0
one_content s ys o yo m a b room = answers_none s o room a.font b.font a.sound b.sound ((none_exactly s ys m a o yo m b).1 (same_self m))

-- the count is 0 exactly where the contents are the same
pub none_said : (s : List ℕ) (ys : Bytes s) (m : Content) (a : HasContent s m) (o : List ℕ) (yo : Bytes o) (m' : Content) (b : HasContent o m') (room : ℕ) →
    (compared_says (compare_answer s o room) ≡ gives 0) ↔ SameContent m m'
none_said s ys m a o yo m' b room = (λ e. (none_exactly s ys m a o yo m' b).0 (there e), λ w. answers_none s o room a.font b.font a.sound b.sound ((none_exactly s ys m a o yo m' b).1 w))
  where
    empty : (ps : List (ℕ × ℕ)) → length ps ≡ 0 → ps ≡ []
    empty [] e = refl
    empty (p ∷ ps) e = absurd (omega arith)

    there : compared_says (compare_answer s o room) ≡ gives 0 → differences_of s o ≡ []
    there e = go (below room (2 * length (differences_of s o)))
      where
        go : (room < 2 * length (differences_of s o)) ⊎ (2 * length (differences_of s o) ≤ room) → differences_of s o ≡ []
        go (inl l) =
            let v = sym (ap compared_says (both_sound s o room a.font b.font a.sound b.sound ∙ sym (no_room room (length (differences_of s o)) l))) ∙ e in
            clash v (λ z. absurd (omega arith))
        go (inr l) =
            let v = sym (ap compared_says (both_sound s o room a.font b.font a.sound b.sound ∙ sym (has_room room (length (differences_of s o)) l))) ∙ e in
            empty (differences_of s o) (given_same v)
