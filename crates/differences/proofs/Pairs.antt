-- Pairs of kind and glyph: their numbers, and those of one glyph more.
use mathlib.Core.Path.{◌≡◌, refl, sym, ◌∙◌, ap, subst}
use mathlib.Core.Bool.{Bool, true, false}
use mathlib.Core.List.{List, [], ◌∷◌, ◌++◌}
use Prim.Native.Nat.{ℕ, zero, suc, ◌+◌, ◌-◌, ◌*◌, ◌≤◌, ◌<◌}
use native.Mathlib.Omega.{arith}
use native.Mathlib.Numerals.{add-one}
use lib.Dec.{eqb}
use lib.ListN.{length, length-append}
use borrow.Author.Tests.{eq-eqb, ne_eqb}
use denote.Enum.Declared.{tag_of}
use mir.Val.{bool_byte}
use Rattle.std.specs.Prelude.{Option, Some, None}
use Rattle.std.specs.Option.{is_some}
use Rattle.base.specs.Reading.{when}
use Rattle.base.proofs.Tests.{by_when}
use Rattle.base.proofs.Written.{Written}
use Rattle.coding.specs.declared.Coding.{Coding}
use Rattle.descriptions.specs.declared.Ends.{Ends}
use Rattle.descriptions.specs.Reading.{same_at, end_at, ends_of}
use Rattle.descriptions.proofs.Stepping.{no_steps, none_first}
use Rattle.glyphs.specs.declared.Difference.{Difference}
use Rattle.glyphs.specs.declared.Difference.TheVariants.{First, Second, Metrics, Pixels, Items, Table}
use Rattle.glyphs.specs.contracts.Difference.{the_type}
use Rattle.glyphs.specs.Reading.{kind_number}
use Rattle.differences.specs.Meaning.{numbers}
use Rattle.differences.specs.Reading.{pair_of, glyph_pairs, item_kind, common_from, rest_from}

-- no pair of kind 0, one of any other kind
pub no_pair : (k g : ℕ) → k ≡ 0 → pair_of k g ≡ []
unfolding pair_of when
no_pair k g e = rw (eq-eqb k 0 e)

pub one_pair : (k g : ℕ) → (k ≡ 0 → ⊥) → pair_of k g ≡ (k, g) ∷ []
unfolding pair_of when
one_pair k g n = rw (ne_eqb k 0 n)

-- a kind makes as many pairs at each glyph
pub pair_length : (k g j : ℕ) → length (pair_of k g) ≡ length (pair_of k j)
unfolding pair_of when
pair_length k g j = go (eqb k 0)
  where
    go : (t : Bool) → length {A = ℕ × ℕ} (when t [] ((k, g) ∷ [])) ≡ length {A = ℕ × ℕ} (when t [] ((k, j) ∷ []))
    go true = refl
    go false = refl

pub pair_most : (k g : ℕ) → length (pair_of k g) ≤ 1
unfolding pair_of
pair_most k g = by_when (λ (ps : List (ℕ × ℕ)). length ps ≤ 1) (eqb k 0) [] ((k, g) ∷ []) (omega arith) (omega arith)

-- a pair is two numbers
pub numbers_length : (ps : List (ℕ × ℕ)) → length (numbers ps) ≡ 2 * length ps
unfolding numbers
numbers_length [] = refl
numbers_length (p ∷ ps) = omega (arith, numbers_length ps)

pub numbers_append : (ps qs : List (ℕ × ℕ)) → numbers (ps ++ qs) ≡ numbers ps ++ numbers qs
unfolding numbers
numbers_append [] qs = refl
numbers_append (p ∷ ps) qs = ap (λ (xs : List ℕ). p.0 ∷ p.1 ∷ xs) (numbers_append ps qs)

pub no_numbers : (k g : ℕ) → k ≡ 0 → numbers (pair_of k g) ≡ []
unfolding numbers
no_numbers k g e = ap numbers (no_pair k g e)

pub two_numbers : (k g : ℕ) → (k ≡ 0 → ⊥) → numbers (pair_of k g) ≡ k ∷ g ∷ []
unfolding numbers
two_numbers k g n = ap numbers (one_pair k g n)

pub none_left : (ps : List (ℕ × ℕ)) → ps ≡ [] → numbers ps ≡ []
unfolding numbers
none_left ps e = ap numbers e

-- a difference's number is its cast, and never 0
cast_is : (d : Difference) → tag_of the_type d + 1 ≡ kind_number (Some d)
cast_is First = refl
cast_is Second = refl
cast_is Metrics = refl
cast_is Pixels = refl
cast_is Items = refl
cast_is Table = refl

pub none_is : (k : Option Difference) → is_some k ≡ false → kind_number k ≡ 0
none_is None e = refl
none_is (Some d) e = cc

pub some_is : (k : Option Difference) → is_some k ≡ true → kind_number k ≡ 0 → ⊥
some_is None e z = cc
some_is (Some d) e z = absurd (omega (arith, cast_is d))

-- a difference makes one pair, which is written as its cast and the glyph
pub pairs_made : (k : Option Difference) (n : ℕ) → n ≡ bool_byte (is_some k) → (n ≡ length (pair_of (kind_number k) 0)) × (n ≤ 1)
pairs_made None n e = (e ∙ sym (ap length (no_pair 0 0 refl)), omega arith)
pairs_made (Some d) n e = (e ∙ sym (ap length (one_pair (kind_number (Some d)) 0 (some_is (Some d) refl))), omega arith)

pub cast_numbers : (k : Option Difference) (d : Difference) (g : ℕ) → k ≡ Some d → numbers (pair_of (kind_number k) g) ≡ (tag_of the_type d + 1) ∷ g ∷ []
cast_numbers k d g e =
    two_numbers (kind_number k) g (some_is k (ap is_some e)) ∙ ap (λ (x : ℕ). x ∷ g ∷ []) (ap kind_number e ∙ sym (cast_is d))

-- a glyph makes two pairs at most
pub common_most : (κ : ℕ → ℕ) (c : Coding) (s : List ℕ) (d : Coding) (t : List ℕ) (n g x y : ℕ) → length (common_from κ c s d t n g x y) ≤ 2 * n
unfolding common_from
common_most κ c s d t zero g x y = omega arith
common_most κ c s d t (suc n) g x y =
    let j = item_kind (same_at c s x d t y) in
    let u = common_from κ c s d t n (suc g) (end_at c s x) (end_at d t y) in
    omega (arith, length-append (glyph_pairs (κ g) j g) u, length-append (pair_of (κ g) g) (pair_of j g), pair_most (κ g) g, pair_most j g, common_most κ c s d t n (suc g) (end_at c s x) (end_at d t y))

-- and one where no descriptions are compared
pub common_bare : (κ : ℕ → ℕ) (c : Coding) (s : List ℕ) (d : Coding) (t : List ℕ) (n g x y : ℕ) → length s ≡ 0 → length (common_from κ c s d t n g x y) ≤ n
unfolding common_from
common_bare κ c s d t zero g x y e = omega arith
common_bare κ c s d t (suc n) g x y e =
    let j = item_kind (same_at c s x d t y) in
    let z : j ≡ 0 = ap item_kind (none_first _ _ (no_steps c s x (omega (arith, e)))) in
    let u = common_from κ c s d t n (suc g) (end_at c s x) (end_at d t y) in
    omega (arith, length-append (glyph_pairs (κ g) j g) u, length-append (pair_of (κ g) g) (pair_of j g), pair_most (κ g) g, ap length (no_pair j g z), common_bare κ c s d t n (suc g) (end_at c s x) (end_at d t y) e)

-- the glyphs that both fonts have: one glyph more, and none left
module _ (κ : ℕ → ℕ) (c : Coding) (s : List ℕ) (d : Coding) (t : List ℕ) (n : ℕ) where
  abbrev common : ℕ → ℕ → ℕ → List (ℕ × ℕ)
  common g x y = common_from κ c s d t (n - g) g x y

  common_next : (g x y : ℕ) → g < n → common g x y ≡ glyph_pairs (κ g) (item_kind (same_at c s x d t y)) g ++ common (g + 1) (end_at c s x) (end_at d t y)
  unfolding common_from
  common_next g x y l =
      let e : n - g ≡ suc (n - (g + 1)) = omega arith in
      rw (e, add-one g)

  pub common_end : (g x y : ℕ) → n ≤ g → common g x y ≡ []
  unfolding common_from
  common_end g x y l =
      let e : n - g ≡ 0 = omega arith in
      rw e

  module _ (g x y k k' : ℕ) (e : Ends) (l : g < n) (q : k ≡ κ g) (w : e ≡ ends_of c s x d t y) (q' : k' ≡ item_kind e.same) where
    -- as it was read
    pub read_next : common g x y ≡ glyph_pairs k k' g ++ common (g + 1) e.first e.second
    read_next =
        let z : k' ≡ item_kind (same_at c s x d t y) = q' ∙ ap (λ (z : Ends). item_kind z.same) w in
        common_next g x y l ∙ (λ i. glyph_pairs (sym q i) (sym z i) g ++ common (g + 1) (sym w i).first (sym w i).second)

-- the pairs of a glyph before others: their numbers, and how many they are
module _ (k k' g : ℕ) (x y : List (ℕ × ℕ)) (e : x ≡ glyph_pairs k k' g ++ y) where
  pub numbers_next : numbers x ≡ numbers (glyph_pairs k k' g) ++ numbers y
  numbers_next = ap numbers e ∙ numbers_append (glyph_pairs k k' g) y

  pub count_next : (r r' : ℕ) → r ≡ length (pair_of k 0) → r' ≡ length (pair_of k' 0) → length x ≡ r + r' + length y
  count_next r r' p p' =
      omega (arith, ap length e, length-append (glyph_pairs k k' g) y, length-append (pair_of k g) (pair_of k' g), pair_length k g 0, pair_length k' g 0, p, p')

-- glyphs that one font has alone
module _ (r n from : ℕ) where
  abbrev rest : ℕ → List (ℕ × ℕ)
  rest i = rest_from r (n - i) (from + i)

  pub rest_next : (i : ℕ) → i < n → numbers (rest i) ≡ numbers (pair_of r (from + i)) ++ numbers (rest (i + 1))
  unfolding rest_from
  rest_next i l =
      let e : n - i ≡ suc (n - (i + 1)) = omega arith in
      let z : suc (from + i) ≡ from + (i + 1) = omega arith in
      rw (e, ← z) (numbers_append (pair_of r (from + i)) (rest_from r (n - (i + 1)) (suc (from + i))))

  pub rest_end : (i : ℕ) → n ≤ i → rest i ≡ []
  unfolding rest_from
  rest_end i l =
      let e : n - i ≡ 0 = omega arith in
      rw e

-- as many as there are glyphs
pub rest_length : (r : ℕ) → (r ≡ 0 → ⊥) → (n g : ℕ) → length (rest_from r n g) ≡ n
unfolding rest_from
rest_length r h zero g = refl
rest_length r h (suc n) g = ap (λ (ps : List (ℕ × ℕ)). length (ps ++ rest_from r n (suc g))) (one_pair r g h) ∙ ap suc (rest_length r h n (suc g))

-- what is left to write, by another name
pub written_as : (w xs v y z : List ℕ) (n : ℕ) → y ≡ z → Written w xs n v y → Written w xs n v z
written_as w xs v y z n e h = subst (Written w xs n v) e h
