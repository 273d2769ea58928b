-- The answer and its parts, a law for each return.
use mathlib.Core.Path.{◌≡◌, refl, sym, ◌∙◌, ap, subst}
use mathlib.Core.Logic.{◌⊎◌, inl, inr}
use mathlib.Core.List.{List, [], ◌∷◌, ◌++◌, append-nil}
use Prim.Native.Nat.{ℕ, ◌+◌, ◌-◌, ◌*◌, ◌≤◌, ◌<◌, min, max}
use native.Mathlib.Omega.{arith}
use native.Mathlib.Nat.{zero-add}
use lib.Dec.{ltb}
use lib.ListN.{length, take, drop, length-append, length-drop}
use borrow.Author.Tests.{lt-ltb, le-ltb, eq-eqb, ne_eqb}
use borrow.Rule.Slice.PartMut.{mid_of, put_mid}
use Rattle.base.specs.Reading.{when, over}
use Rattle.base.proofs.Over.{over_none}
use Rattle.base.proofs.Parts.{rest_all}
use Rattle.base.proofs.Tests.{same, by_when}
use Rattle.base.proofs.Written.{Written, begins_as, goes_on}
use Rattle.refusal.specs.Meaning.{refusal}
use Rattle.refusal.specs.declared.Reason.TheVariants.{Room}
use Rattle.coding.specs.declared.Coding.{Coding}
use Rattle.header.specs.declared.Font.{Font}
use Rattle.stages.specs.Meaning.{coding_of}
use Rattle.glyphs.specs.Reading.{glyph_kind}
use Rattle.differences.specs.Meaning.{numbers}
use Rattle.differences.specs.Reading.{pair_of, table_kind, only_kind, common_from, rest_from, compared_start, compared_tail, common_pairs, rest_pairs, pairs_of, fitted}
use Rattle.differences.proofs.Pairs.{no_pair, pair_most, common_most, common_bare, numbers_append, rest_length as rest-count}
use Rattle.std.specs.Prelude.{Ok, Err}
use Rattle.differences.specs.declared.Uncompared.TheVariants.{Neither}

-- where the descriptions that are compared begin
module _ (len : ℕ) (f h : Font) (k : ℕ) (e : k ≡ table_kind f.table h.table) where
  pub from_table : k ≡ 0 → f.end ≡ compared_start len f h
  unfolding compared_start when
  from_table z = rw (eq-eqb _ 0 (sym e ∙ z))

  pub from_end : (k ≡ 0 → ⊥) → len ≡ compared_start len f h
  unfolding compared_start when
  from_end n = rw (ne_eqb _ 0 (λ z. n (e ∙ z)))

-- a glyph that one font has alone is of kind 1 or 2
only_some : (a b : ℕ) → only_kind a b ≡ 0 → ⊥
unfolding only_kind
only_some a b e = by_when (λ (x : ℕ). x ≡ 0 → ⊥) (ltb a b) 2 1 (λ z. absurd (omega arith)) (λ z. absurd (omega arith)) e

-- the pairs of the glyphs that both fonts have, by their codings and by where the descriptions that are compared begin
module _ (s : List ℕ) (f : Font) (o : List ℕ) (h : Font) (c d : Coding) (n from start : ℕ) (ec : c ≡ coding_of f.kind) (ed : d ≡ coding_of h.kind)
    (en : n ≡ min f.count h.count) (es : from ≡ compared_start (length s) f h) (eo : start ≡ compared_start (length o) h f) where
  pub lent_is : common_from (glyph_kind s f o h) c (take (length s - from) (drop from s)) d (take (length o - start) (drop start o)) n 0 0 0 ≡ common_pairs s f o h
  unfolding common_pairs
  lent_is =
      let a : take (length s - from) (drop from s) ≡ compared_tail s f h = rest_all s from ∙ ap (λ (i : ℕ). drop i s) es in
      let b : take (length o - start) (drop start o) ≡ compared_tail o h f = rest_all o start ∙ ap (λ (i : ℕ). drop i o) eo in
      λ i. common_from (glyph_kind s f o h) (ec i) (a i) (ed i) (b i) (en i) 0 0 0

-- the pairs of two fonts, by what was read of them: 6 or 0, the smaller and the larger count, 1 or 2
module _ (s : List ℕ) (f : Font) (o : List ℕ) (h : Font) (k n m r : ℕ) (ek : k ≡ table_kind f.table h.table) (en : n ≡ min f.count h.count)
    (em : m ≡ max f.count h.count) (er : r ≡ only_kind f.count h.count) where
  rest_is : rest_from r (m - n) n ≡ rest_pairs f h
  unfolding rest_pairs
  rest_is = λ i. rest_from (er i) (em i - en i) (en i)

  pairs_are : pairs_of s f o h ≡ pair_of k 0 ++ (common_pairs s f o h ++ rest_from r (m - n) n)
  unfolding pairs_of
  pairs_are = λ i. pair_of (sym ek i) 0 ++ (common_pairs s f o h ++ sym rest_is i)

  -- their numbers
  pub numbers_are : numbers (pairs_of s f o h) ≡ numbers (pair_of k 0) ++ (numbers (common_pairs s f o h) ++ numbers (rest_from r (m - n) n))
  numbers_are =
      ap numbers pairs_are ∙ numbers_append (pair_of k 0) (common_pairs s f o h ++ rest_from r (m - n) n)
      ∙ ap (λ (x : List ℕ). numbers (pair_of k 0) ++ x) (numbers_append (common_pairs s f o h) (rest_from r (m - n) n))

  -- how many they are
  pub counted : length (pairs_of s f o h) ≡ length (pair_of k 0) + length (common_pairs s f o h) + (m - n)
  counted =
      let x = rest_from r (m - n) n in
      let y = common_pairs s f o h in
      omega (arith, ap length pairs_are, length-append (pair_of k 0) (y ++ x), length-append y x, rest-count r (λ z. only_some f.count h.count (sym er ∙ z)) (m - n) n)

module _ (s : List ℕ) (f : Font) (o : List ℕ) (h : Font) where
  abbrev tail : List ℕ
  tail = compared_tail s f h

  abbrev other : List ℕ
  other = compared_tail o h f

  shared_most : length (common_pairs s f o h) ≤ 2 * min f.count h.count
  unfolding common_pairs
  shared_most = common_most (glyph_kind s f o h) (coding_of f.kind) tail (coding_of h.kind) other (min f.count h.count) 0 0 0

  shared_bare : length tail ≡ 0 → length (common_pairs s f o h) ≤ min f.count h.count
  unfolding common_pairs
  shared_bare e = common_bare (glyph_kind s f o h) (coding_of f.kind) tail (coding_of h.kind) other (min f.count h.count) 0 0 0 e

-- two fonts make no more pairs than they have glyphs together
pub pairs_most : (s : List ℕ) (f : Font) (o : List ℕ) (h : Font) → 1 ≤ f.count → 1 ≤ h.count → length (pairs_of s f o h) ≤ f.count + h.count
pairs_most s f o h lf lh = go (same k 0)
  where
    k : ℕ
    k = table_kind f.table h.table

    all : length (pairs_of s f o h) ≡ length (pair_of k 0) + length (common_pairs s f o h) + (max f.count h.count - min f.count h.count)
    all = counted s f o h k (min f.count h.count) (max f.count h.count) (only_kind f.count h.count) refl refl refl refl

    go : (k ≡ 0) ⊎ ((k ≡ 0) → ⊥) → length (pairs_of s f o h) ≤ f.count + h.count
    go (inl z) = omega (arith, all, ap length (no_pair k 0 z), shared_most s f o h)
    go (inr z) =
        let start = compared_start (length s) f h in
        let e : length (drop start s) ≡ 0 = omega (arith, length-drop start s, from_end (length s) f h k refl z) in
        omega (arith, all, pair_most k 0, shared_bare s f o h e, lf, lh)

-- a list written in parts: the first part
pub first_part : (w x y xs ys : List ℕ) (l : ℕ) → length w ≤ length xs → w ≡ x ++ y → l ≡ length x → ys ≡ over x (mid_of 0 (length xs - 0) xs) → Written w xs l (put_mid 0 (length xs - 0) xs ys) y
first_part w x y xs ys l h e q r = subst (λ (n : ℕ). Written w xs n (put_mid 0 (length xs - 0) xs ys) y) (zero-add l) (goes_on w x y xs xs ys x 0 l refl q r (begins_as w xs (x ++ y) h e))

-- the part behind it begins within the buffer
pub within : (w xs v y : List ℕ) (n : ℕ) → Written w xs n v y → n ≤ length v
within w xs v y n h = omega (arith, h.0, h.1, h.2)

-- the last part is all that is left
pub last : (w xs v y : List ℕ) (n : ℕ) → Written w xs n v y → Written w xs n v (y ++ [])
last w xs v y n h = subst (Written w xs n v) (sym (append-nil y)) h

-- room or not
module _ (room n : ℕ) where
  pub no_room : room < 2 * n → Err (Neither (refusal Room (2 * n))) ≡ fitted room n
  unfolding fitted when
  no_room l = rw (lt-ltb room (2 * n) l)

  pub has_room : 2 * n ≤ room → Ok n ≡ fitted room n
  unfolding fitted when
  has_room l = rw (le-ltb room (2 * n) l)

-- no pairs leave a buffer as it was
pub none_over : (ps : List (ℕ × ℕ)) (xs : List ℕ) → length ps ≡ 0 → xs ≡ over (numbers ps) xs
unfolding numbers
none_over [] xs e = over_none xs
none_over (p ∷ ps) xs e = absurd (omega arith)
