-- Pairs of kind and glyph, as the comparison lists them: which stand in the list, in what order, and what becomes of them when the fonts are
-- swapped.
use mathlib.Core.Path.{◌≡◌, refl, sym, ◌∙◌, ap, subst}
use mathlib.Core.Logic.{◌⊎◌, inl, inr}
use mathlib.Core.List.{List, [], ◌∷◌, ◌++◌}
use Prim.Native.Nat.{ℕ, zero, suc, ◌+◌, ◌≤◌, ◌<◌}
use native.Mathlib.Omega.{arith}
use Rattle.base.proofs.Tests.{same}
use Rattle.coding.specs.declared.Coding.{Coding}
use Rattle.lookup.specs.Meaning.{Any}
use Rattle.descriptions.specs.Reading.{same_at, end_at}
use Rattle.differences.specs.Reading.{pair_of, glyph_pairs, item_kind, common_from, rest_from}
use Rattle.differences.proofs.Pairs.{no_pair, one_pair}
use Rattle.laws.specs.Meaning.{Before, Each, Ordered, swap_kind, swapped}

-- p stands in a list
abbrev pub In : ℕ × ℕ → List (ℕ × ℕ) → Type 0
In p ps = Any (λ (q : ℕ × ℕ). q ≡ p) ps

module _ (p : ℕ × ℕ) where
  pub in_either : (ps qs : List (ℕ × ℕ)) → In p (ps ++ qs) → In p ps ⊎ In p qs
  in_either [] qs m = inr m
  in_either (q ∷ ps) qs (inl e) = inl (inl e)
  in_either (q ∷ ps) qs (inr m) = further (in_either ps qs m)
    where
      further : In p ps ⊎ In p qs → In p (q ∷ ps) ⊎ In p qs
      further (inl n) = inl (inr n)
      further (inr n) = inr n

  pub in_left : (ps qs : List (ℕ × ℕ)) → In p ps → In p (ps ++ qs)
  in_left [] qs m = absurd m
  in_left (q ∷ ps) qs (inl e) = inl e
  in_left (q ∷ ps) qs (inr m) = inr (in_left ps qs m)

  pub in_right : (ps qs : List (ℕ × ℕ)) → In p qs → In p (ps ++ qs)
  in_right [] qs m = m
  in_right (q ∷ ps) qs m = inr (in_right ps qs m)

-- the pair of a kind and a glyph
module _ (k g : ℕ) where
  pub pair_in : (j i : ℕ) → In (j, i) (pair_of k g) → (j ≡ k) × (i ≡ g) × (k ≡ 0 → ⊥)
  pair_in j i m = go (same k 0)
    where
      one : In (j, i) ((k, g) ∷ []) → (j ≡ k) × (i ≡ g)
      one (inl e) = (sym (ap (λ (p : ℕ × ℕ). p.0) e), sym (ap (λ (p : ℕ × ℕ). p.1) e))
      one (inr n) = absurd n

      go : (k ≡ 0) ⊎ ((k ≡ 0) → ⊥) → (j ≡ k) × (i ≡ g) × (k ≡ 0 → ⊥)
      go (inl z) = absurd (subst (In (j, i)) (no_pair k g z) m)
      go (inr n) = let o = one (subst (In (j, i)) (one_pair k g n) m) in (o.0, o.1, n)

  pub pair_there : (k ≡ 0 → ⊥) → In (k, g) (pair_of k g)
  pair_there n = subst (In (k, g)) (sym (one_pair k g n)) (inl refl)

  pub pair_ordered : Ordered (pair_of k g)
  pair_ordered = go (same k 0)
    where
      go : (k ≡ 0) ⊎ ((k ≡ 0) → ⊥) → Ordered (pair_of k g)
      go (inl z) = subst Ordered (sym (no_pair k g z)) tt
      go (inr n) = subst Ordered (sym (one_pair k g n)) (tt, tt)

-- lists in their order, one behind the other
each_of : (P : ℕ × ℕ → Type 0) (ps : List (ℕ × ℕ)) → ((q : ℕ × ℕ) → In q ps → P q) → Each P ps
each_of P [] f = tt
each_of P (p ∷ ps) f = (f p (inl refl), each_of P ps (λ q m. f q (inr m)))

each_append : (P : ℕ × ℕ → Type 0) (ps qs : List (ℕ × ℕ)) → Each P ps → Each P qs → Each P (ps ++ qs)
each_append P [] qs a b = b
each_append P (p ∷ ps) qs a b = (a.0, each_append P ps qs a.1 b)

pub ordered_append : (ps qs : List (ℕ × ℕ)) → Ordered ps → Ordered qs → ((p q : ℕ × ℕ) → In p ps → In q qs → Before p q) → Ordered (ps ++ qs)
ordered_append [] qs a b f = b
ordered_append (p ∷ ps) qs a b f =
    (each_append (Before p) ps qs a.0 (each_of (Before p) qs (λ q m. f p q (inl refl) m)), ordered_append ps qs a.1 b (λ u v m n. f u v (inr m) n))

-- swapped, one behind the other
pub swapped_append : (ps qs : List (ℕ × ℕ)) → swapped (ps ++ qs) ≡ swapped ps ++ swapped qs
swapped_append [] qs = refl
swapped_append (p ∷ ps) qs = ap (λ (r : List (ℕ × ℕ)). (swap_kind p.0, p.1) ∷ r) (swapped_append ps qs)

pub swapped_pair : (k g : ℕ) → (swap_kind k ≡ 0 → k ≡ 0) → swapped (pair_of k g) ≡ pair_of (swap_kind k) g
swapped_pair k g f = go (same k 0)
  where
    go : (k ≡ 0) ⊎ ((k ≡ 0) → ⊥) → swapped (pair_of k g) ≡ pair_of (swap_kind k) g
    go (inl z) = ap swapped (no_pair k g z) ∙ sym (no_pair (swap_kind k) g (ap swap_kind z))
    go (inr n) = ap swapped (one_pair k g n) ∙ sym (one_pair (swap_kind k) g (λ z. n (f z)))

-- the pairs of n glyphs from g on, where κ and ι tell the kinds of each
abbrev pub plain : (ℕ → ℕ) → (ℕ → ℕ) → ℕ → ℕ → List (ℕ × ℕ)
plain κ ι zero g = []
plain κ ι (suc n) g = glyph_pairs (κ g) (ι g) g ++ plain κ ι n (suc g)

-- where description i of a tail is found
abbrev pub place_at : Coding → List ℕ → ℕ → ℕ
place_at c s zero = 0
place_at c s (suc i) = end_at c s (place_at c s i)

-- 5 where description i of two tails differs
abbrev pub items_at : Coding → List ℕ → Coding → List ℕ → ℕ → ℕ
items_at c s d t i = item_kind (same_at c s (place_at c s i) d t (place_at d t i))

pub common_plain : (κ : ℕ → ℕ) (c : Coding) (s : List ℕ) (d : Coding) (t : List ℕ) (n g : ℕ) → common_from κ c s d t n g (place_at c s g) (place_at d t g) ≡ plain κ (items_at c s d t) n g
unfolding common_from
common_plain κ c s d t zero g = refl
common_plain κ c s d t (suc n) g = ap (λ (ps : List (ℕ × ℕ)). glyph_pairs (κ g) (items_at c s d t g) g ++ ps) (common_plain κ c s d t n (suc g))

module _ (κ ι : ℕ → ℕ) where
  -- which pairs stand there
  abbrev pub Stands : ℕ → ℕ → ℕ → ℕ → Type 0
  Stands n g j i = (g ≤ i) × (i < g + n) × (j ≡ 0 → ⊥) × ((j ≡ κ i) ⊎ (j ≡ ι i))

  pub plain_in : (n g j i : ℕ) → In (j, i) (plain κ ι n g) → Stands n g j i
  plain_in zero g j i m = absurd m
  plain_in (suc n) g j i m = go (in_either (j, i) (glyph_pairs (κ g) (ι g) g) (plain κ ι n (suc g)) m) (λ r. plain_in n (suc g) j i r)
    where
      here : In (j, i) (pair_of (κ g) g) ⊎ In (j, i) (pair_of (ι g) g) → Stands (suc n) g j i
      here (inl a) = let p = pair_in (κ g) g j i a in (omega (arith, p.1), omega (arith, p.1), (λ z. p.2 (sym p.0 ∙ z)), inl (p.0 ∙ ap κ (sym p.1)))
      here (inr a) = let p = pair_in (ι g) g j i a in (omega (arith, p.1), omega (arith, p.1), (λ z. p.2 (sym p.0 ∙ z)), inr (p.0 ∙ ap ι (sym p.1)))

      go : In (j, i) (glyph_pairs (κ g) (ι g) g) ⊎ In (j, i) (plain κ ι n (suc g)) → (In (j, i) (plain κ ι n (suc g)) → Stands n (suc g) j i) → Stands (suc n) g j i
      go (inl a) f = here (in_either (j, i) (pair_of (κ g) g) (pair_of (ι g) g) a)
      go (inr a) f = let r = f a in (omega (arith, r.0), omega (arith, r.1), r.2, r.3)

  glyph_there : (p : ℕ × ℕ) (n g i : ℕ) → g ≤ i → i < g + n → In p (glyph_pairs (κ i) (ι i) i) → In p (plain κ ι n g)
  glyph_there p zero g i a b m = absurd (omega arith)
  glyph_there p (suc n) g i a b m = go (same g i) (λ l. glyph_there p n (suc g) i l (omega arith) m)
    where
      go : (g ≡ i) ⊎ ((g ≡ i) → ⊥) → (suc g ≤ i → In p (plain κ ι n (suc g))) → In p (plain κ ι (suc n) g)
      go (inl e) f = in_left p (glyph_pairs (κ g) (ι g) g) (plain κ ι n (suc g)) (subst (λ (x : ℕ). In p (glyph_pairs (κ x) (ι x) x)) (sym e) m)
      go (inr n') f = in_right p (glyph_pairs (κ g) (ι g) g) (plain κ ι n (suc g)) (f (omega arith))

  pub first_there : (n g i : ℕ) → g ≤ i → i < g + n → (κ i ≡ 0 → ⊥) → In (κ i, i) (plain κ ι n g)
  first_there n g i a b z = glyph_there (κ i, i) n g i a b (in_left (κ i, i) (pair_of (κ i) i) (pair_of (ι i) i) (pair_there (κ i) i z))

  pub second_there : (n g i : ℕ) → g ≤ i → i < g + n → (ι i ≡ 0 → ⊥) → In (ι i, i) (plain κ ι n g)
  second_there n g i a b z = glyph_there (ι i, i) n g i a b (in_right (ι i, i) (pair_of (κ i) i) (pair_of (ι i) i) (pair_there (ι i) i z))

  -- the kinds of a glyph: 3 or 4 or none, and 5 or none
  module _ (bk : (i : ℕ) → (κ i ≡ 0) ⊎ ((κ i ≡ 3) ⊎ (κ i ≡ 4))) (bi : (i : ℕ) → (ι i ≡ 0) ⊎ (ι i ≡ 5)) where
    pub first_small : (i : ℕ) → κ i < 5
    first_small i = go (bk i)
      where
        go : (κ i ≡ 0) ⊎ ((κ i ≡ 3) ⊎ (κ i ≡ 4)) → κ i < 5
        go (inl e) = omega arith
        go (inr (inl e)) = omega arith
        go (inr (inr e)) = omega arith

    second_small : (i : ℕ) → ι i < 6
    second_small i = go (bi i)
      where
        go : (ι i ≡ 0) ⊎ (ι i ≡ 5) → ι i < 6
        go (inl e) = omega arith
        go (inr e) = omega arith

    second_five : (i : ℕ) → (ι i ≡ 0 → ⊥) → ι i ≡ 5
    second_five i n = go (bi i)
      where
        go : (ι i ≡ 0) ⊎ (ι i ≡ 5) → ι i ≡ 5
        go (inl e) = absurd (n e)
        go (inr e) = e

    -- none of these pairs is of kind 6
    pub not_six : (n g j i : ℕ) → In (j, i) (plain κ ι n g) → j < 6
    not_six n g j i m = let p = plain_in n g j i m in go p.3
      where
        go : (j ≡ κ i) ⊎ (j ≡ ι i) → j < 6
        go (inl e) = omega (arith, e, first_small i)
        go (inr e) = omega (arith, e, second_small i)

    both_ordered : (g : ℕ) → Ordered (glyph_pairs (κ g) (ι g) g)
    both_ordered g =
        ordered_append (pair_of (κ g) g) (pair_of (ι g) g) (pair_ordered (κ g) g) (pair_ordered (ι g) g) (λ p q m n.
        let a = pair_in (κ g) g p.0 p.1 m in
        let b = pair_in (ι g) g q.0 q.1 n in
        let v = second_five g b.2 in
        let w = first_small g in
        inr ((λ z. absurd (omega (arith, z, a.0, w))), (λ z. absurd (omega (arith, z, b.0, v))), inr (a.1 ∙ sym b.1, omega (arith, a.0, b.0, v, w))))

    -- they stand by glyph, and by kind within it
    pub plain_ordered : (n g : ℕ) → Ordered (plain κ ι n g)
    plain_ordered zero g = tt
    plain_ordered (suc n) g =
        ordered_append (glyph_pairs (κ g) (ι g) g) (plain κ ι n (suc g)) (both_ordered g) (plain_ordered n (suc g)) (λ p q m r.
        let u = in_left (p.0, p.1) (glyph_pairs (κ g) (ι g) g) [] m in
        let a = plain_in 1 g p.0 p.1 u in
        let b = plain_in n (suc g) q.0 q.1 r in
        let x = not_six 1 g p.0 p.1 u in
        let z = not_six n (suc g) q.0 q.1 r in
        inr ((λ e. absurd (omega (arith, e, x))), (λ e. absurd (omega (arith, e, z))), inl (omega (arith, a.1, b.0))))

    -- swapping fonts does not touch them
    swap_first : (i : ℕ) → swap_kind (κ i) ≡ κ i
    swap_first i = go (bk i)
      where
        go : (κ i ≡ 0) ⊎ ((κ i ≡ 3) ⊎ (κ i ≡ 4)) → swap_kind (κ i) ≡ κ i
        go (inl e) = rw e
        go (inr (inl e)) = rw e
        go (inr (inr e)) = rw e

    swap_second : (i : ℕ) → swap_kind (ι i) ≡ ι i
    swap_second i = go (bi i)
      where
        go : (ι i ≡ 0) ⊎ (ι i ≡ 5) → swap_kind (ι i) ≡ ι i
        go (inl e) = rw e
        go (inr e) = rw e

    pub plain_swapped : (n g : ℕ) → swapped (plain κ ι n g) ≡ plain κ ι n g
    plain_swapped zero g = refl
    plain_swapped (suc n) g =
        let a : swapped (pair_of (κ g) g) ≡ pair_of (κ g) g = swapped_pair (κ g) g (λ z. sym (swap_first g) ∙ z) ∙ ap (λ (k : ℕ). pair_of k g) (swap_first g) in
        let b : swapped (pair_of (ι g) g) ≡ pair_of (ι g) g = swapped_pair (ι g) g (λ z. sym (swap_second g) ∙ z) ∙ ap (λ (k : ℕ). pair_of k g) (swap_second g) in
        swapped_append (glyph_pairs (κ g) (ι g) g) (plain κ ι n (suc g))
        ∙ (λ t. (swapped_append (pair_of (κ g) g) (pair_of (ι g) g) ∙ (λ u. a u ++ b u)) t ++ plain_swapped n (suc g) t)

-- the same kinds make the same pairs
pub plain_same : (κ ι κ' ι' : ℕ → ℕ) (n g : ℕ) → ((i : ℕ) → g ≤ i → i < g + n → (κ i ≡ κ' i) × (ι i ≡ ι' i)) → plain κ ι n g ≡ plain κ' ι' n g
plain_same κ ι κ' ι' zero g f = refl
plain_same κ ι κ' ι' (suc n) g f =
    let a = f g (omega arith) (omega arith) in
    λ t. glyph_pairs (a.0 t) (a.1 t) g ++ plain_same κ ι κ' ι' n (suc g) (λ i l u. f i (omega arith) (omega arith)) t

-- the pairs of glyphs that one font has alone
module _ (r : ℕ) (z : r ≡ 0 → ⊥) where
  pub rest_in : (n g j i : ℕ) → In (j, i) (rest_from r n g) → (j ≡ r) × (g ≤ i) × (i < g + n)
  unfolding rest_from
  rest_in zero g j i m = absurd m
  rest_in (suc n) g j i m = go (in_either (j, i) (pair_of r g) (rest_from r n (suc g)) m) (λ a. rest_in n (suc g) j i a)
    where
      go : In (j, i) (pair_of r g) ⊎ In (j, i) (rest_from r n (suc g)) → (In (j, i) (rest_from r n (suc g)) → (j ≡ r) × (suc g ≤ i) × (i < suc g + n)) → (j ≡ r) × (g ≤ i) × (i < g + suc n)
      go (inl a) f = let p = pair_in r g j i a in (p.0, omega (arith, p.1), omega (arith, p.1))
      go (inr a) f = let p = f a in (p.0, omega (arith, p.1), omega (arith, p.2))

  pub rest_there : (n g i : ℕ) → g ≤ i → i < g + n → In (r, i) (rest_from r n g)
  unfolding rest_from
  rest_there zero g i a b = absurd (omega arith)
  rest_there (suc n) g i a b = go (same g i) (λ l. rest_there n (suc g) i l (omega arith))
    where
      go : (g ≡ i) ⊎ ((g ≡ i) → ⊥) → (suc g ≤ i → In (r, i) (rest_from r n (suc g))) → In (r, i) (pair_of r g ++ rest_from r n (suc g))
      go (inl e) f = in_left (r, i) (pair_of r g) (rest_from r n (suc g)) (subst (λ (x : ℕ). In (r, i) (pair_of r x)) (sym e) (pair_there r i z))
      go (inr n') f = in_right (r, i) (pair_of r g) (rest_from r n (suc g)) (f (omega arith))

  pub rest_ordered : r < 6 → (n g : ℕ) → Ordered (rest_from r n g)
  unfolding rest_from
  rest_ordered l zero g = tt
  rest_ordered l (suc n) g =
      ordered_append (pair_of r g) (rest_from r n (suc g)) (pair_ordered r g) (rest_ordered l n (suc g)) (λ p q m u.
      let a = pair_in r g p.0 p.1 m in
      let b = rest_in n (suc g) q.0 q.1 u in
      inr ((λ e. absurd (omega (arith, e, a.0, l))), (λ e. absurd (omega (arith, e, b.0, l))), inl (omega (arith, a.1, b.1))))

  pub rest_swapped : (swap_kind r ≡ 0 → r ≡ 0) → (n g : ℕ) → swapped (rest_from r n g) ≡ rest_from (swap_kind r) n g
  unfolding rest_from
  rest_swapped f zero g = refl
  rest_swapped f (suc n) g = swapped_append (pair_of r g) (rest_from r n (suc g)) ∙ (λ t. swapped_pair r g f t ++ rest_swapped f n (suc g) t)
