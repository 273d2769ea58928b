-- The lookups on the items of descriptions: each is the lowest description that passes a test, and the test tells what is listed.
use mathlib.Core.Path.{◌≡◌, refl, sym, ◌∙◌, ap}
use mathlib.Core.Bool.{Bool, true, false}
use mathlib.Core.List.{List, [], ◌∷◌}
use Prim.Native.Nat.{ℕ, ◌+◌}
use native.Mathlib.Omega.{arith}
use lib.Dec.{eqb}
use borrow.Author.Tests.{eqb-true, eqb-false}
use Rattle.base.specs.Meaning.{pick}
use Rattle.table.specs.declared.Item.{Item}
use Rattle.table.specs.declared.Item.TheVariants.{Single, Start, Value, End}
use Rattle.table.specs.Meaning.{Seq, Desc, each, seqs, items}
use Rattle.lookup.specs.Reading.{find_value, goes_on, is_whole, rest, find_sequence_from}
use Rattle.lookup.specs.Meaning.{ListsValue, ListsSequence}
use Rattle.lookup.proofs.Searching.{true_false, any, any_yes, any_no, lowest}
use Rattle.std.specs.Prelude.{Option, Some}

either : (x y : Bool) (a b : Option ℕ) → pick x a (pick y a b) ≡ pick (pick x true y) a b
either true y a b = refl
either false y a b = refl

-- a value as a single
abbrev pub is_value : ℕ → ℕ → Bool
is_value v w = eqb w v

abbrev pub has_value : ℕ → Desc → Bool
has_value v d = any (is_value v) d.singles

pub value_yes : (v : ℕ) (d : Desc) → has_value v d ≡ true → ListsValue v d
value_yes v d = any_yes (is_value v) (λ (w : ℕ). w ≡ v) (λ w e. eqb-true w v e) (λ w e. eqb-false w v e) d.singles

pub value_no : (v : ℕ) (d : Desc) → has_value v d ≡ false → ListsValue v d → ⊥
value_no v d = any_no (is_value v) (λ (w : ℕ). w ≡ v) (λ w e. eqb-true w v e) (λ w e. eqb-false w v e) d.singles

module _ (v g : ℕ) where
  among : (us : List ℕ) (k : List Item) → find_value v g (each Single us k) ≡ pick (any (is_value v) us) (Some g) (find_value v g k)
  unfolding find_value
  among [] k = refl
  among (u ∷ us) k = ap (pick (eqb u v) (Some g)) (among us k) ∙ either (eqb u v) (any (is_value v) us) (Some g) (find_value v g k)

  in_sequence : (us : List ℕ) (k : List Item) → find_value v g (each Value us k) ≡ find_value v g k
  unfolding find_value
  in_sequence [] k = refl
  in_sequence (u ∷ us) k = in_sequence us k

  past : (qs : List Seq) (k : List Item) → find_value v g (seqs qs (End ∷ k)) ≡ find_value v (g + 1) k
  unfolding find_value
  past [] k = refl
  past (q ∷ qs) k = in_sequence q.others (seqs qs (End ∷ k)) ∙ past qs k

pub find_value_lem : (v g : ℕ) (ds : List Desc) → find_value v g (items ds) ≡ lowest (has_value v) g ds
unfolding find_value
find_value_lem v g [] = refl
find_value_lem v g (d ∷ ds) =
    among v g d.singles (seqs d.sequences (End ∷ items ds))
    ∙ ap (pick (has_value v d) (Some g)) (past v g d.sequences (items ds) ∙ find_value_lem v (g + 1) ds)

-- a sequence
abbrev pub same_as : List ℕ → List ℕ → Bool
same_as [] [] = true
same_as [] (u ∷ us) = false
same_as (w ∷ ws) [] = false
same_as (w ∷ ws) (u ∷ us) = pick (eqb w u) (same_as ws us) false

same_yes : (ws us : List ℕ) → same_as ws us ≡ true → us ≡ ws
same_yes [] [] e = refl
same_yes [] (u ∷ us) e = true_false false e refl
same_yes (w ∷ ws) [] e = true_false false e refl
same_yes (w ∷ ws) (u ∷ us) e = go (eqb w u) refl e (same_yes ws us)
  where
    go : (b : Bool) → eqb w u ≡ b → pick b (same_as ws us) false ≡ true → (same_as ws us ≡ true → us ≡ ws) → u ∷ us ≡ w ∷ ws
    go true p f ih = let h = sym (eqb-true w u p) in let r = ih f in λ i. h i ∷ r i
    go false p f ih = true_false false f refl

same_no : (ws us : List ℕ) → same_as ws us ≡ false → us ≡ ws → ⊥
same_no [] [] e q = true_false true refl e
same_no [] (u ∷ us) e q = let z : ◌≡◌ {A = ℕ} 0 1 = cc in omega arith
same_no (w ∷ ws) [] e q = let z : ◌≡◌ {A = ℕ} 0 1 = cc in omega arith
same_no (w ∷ ws) (u ∷ us) e q = go (eqb w u) refl e (same_no ws us)
  where
    go : (b : Bool) → eqb w u ≡ b → pick b (same_as ws us) false ≡ false → (same_as ws us ≡ false → us ≡ ws → ⊥) → ⊥
    go true p f ih = let r : us ≡ ws = cc in ih f r
    go false p f ih = let h : w ≡ u = cc in eqb-false w u p h

abbrev pub is_sequence : List ℕ → Seq → Bool
is_sequence vs q = same_as vs (q.first ∷ q.others)

abbrev pub has_sequence : List ℕ → Desc → Bool
has_sequence vs d = any (is_sequence vs) d.sequences

pub sequence_yes : (vs : List ℕ) (d : Desc) → has_sequence vs d ≡ true → ListsSequence vs d
sequence_yes vs d =
    any_yes (is_sequence vs) (λ (q : Seq). q.first ∷ q.others ≡ vs) (λ q e. same_yes vs (q.first ∷ q.others) e) (λ q e. same_no vs (q.first ∷ q.others) e) d.sequences

pub sequence_no : (vs : List ℕ) (d : Desc) → has_sequence vs d ≡ false → ListsSequence vs d → ⊥
sequence_no vs d =
    any_no (is_sequence vs) (λ (q : Seq). q.first ∷ q.others ≡ vs) (λ q e. same_yes vs (q.first ∷ q.others) e) (λ q e. same_no vs (q.first ∷ q.others) e) d.sequences

-- after some values of a sequence: whether it is still like vs, and what is still to come
abbrev after : Bool → List ℕ → List ℕ → Bool
after a ws [] = a
after a ws (u ∷ us) = after (goes_on a u ws) (rest ws) us

abbrev left : List ℕ → List ℕ → List ℕ
left ws [] = ws
left ws (u ∷ us) = left (rest ws) us

never_whole : (ws us : List ℕ) → is_whole (after false ws us) (left ws us) ≡ false
unfolding goes_on is_whole
never_whole ws [] = refl
never_whole ws (u ∷ us) = never_whole (rest ws) us

whole_exactly : (ws us : List ℕ) → is_whole (after true ws us) (left ws us) ≡ same_as ws us
unfolding goes_on is_whole
whole_exactly [] [] = refl
whole_exactly [] (u ∷ us) = never_whole [] us
whole_exactly (w ∷ ws) [] = refl
whole_exactly (w ∷ ws) (u ∷ us) = go (eqb w u) (whole_exactly ws us)
  where
    go : (b : Bool) → is_whole (after true ws us) (left ws us) ≡ same_as ws us → is_whole (after b ws us) (left ws us) ≡ pick b (same_as ws us) false
    go true ih = ih
    go false ih = never_whole ws us

module _ (vs : List ℕ) where
  -- where nothing is alike, what is still to come does not matter
  pub no_matter : (g : ℕ) (ws xs : List ℕ) (is : List Item) → find_sequence_from vs g false ws is ≡ find_sequence_from vs g false xs is
  unfolding find_sequence_from goes_on is_whole
  no_matter g ws xs [] = refl
  no_matter g ws xs (Single v ∷ is) = no_matter g ws xs is
  no_matter g ws xs (Start ∷ is) = refl
  no_matter g ws xs (Value v ∷ is) = no_matter g (rest ws) (rest xs) is
  no_matter g ws xs (End ∷ is) = no_matter (g + 1) ws xs is

  module _ (g : ℕ) where
    find_singles : (a : Bool) (ws us : List ℕ) (k : List Item) → find_sequence_from vs g a ws (each Single us k) ≡ find_sequence_from vs g a ws k
    unfolding find_sequence_from
    find_singles a ws [] k = refl
    find_singles a ws (u ∷ us) k = find_singles a ws us k

    find_values : (a : Bool) (ws us : List ℕ) (k : List Item) → find_sequence_from vs g a ws (each Value us k) ≡ find_sequence_from vs g (after a ws us) (left ws us) k
    unfolding find_sequence_from
    find_values a ws [] k = refl
    find_values a ws (u ∷ us) k = find_values (goes_on a u ws) (rest ws) us k

    find_seqs : (a : Bool) (ws : List ℕ) (qs : List Seq) (k : List Item) →
        find_sequence_from vs g a ws (seqs qs (End ∷ k)) ≡ pick (is_whole a ws) (Some g) (pick (any (is_sequence vs) qs) (Some g) (find_sequence_from vs (g + 1) false vs k))
    unfolding find_sequence_from
    find_seqs a ws [] k = ap (pick (is_whole a ws) (Some g)) (no_matter (g + 1) ws vs k)
    find_seqs a ws (q ∷ qs) k =
        let us = q.first ∷ q.others in
        let rest-found = pick (any (is_sequence vs) qs) (Some g) (find_sequence_from vs (g + 1) false vs k) in
        ap (pick (is_whole a ws) (Some g))
        (find_values true vs us (seqs qs (End ∷ k))
        ∙ find_seqs (after true vs us) (left vs us) qs k
        ∙ ap (λ (b : Bool). pick b (Some g) rest-found) (whole_exactly vs us)
        ∙ either (same_as vs us) (any (is_sequence vs) qs) (Some g) (find_sequence_from vs (g + 1) false vs k))

  pub find_sequence_lem : (g : ℕ) (ws : List ℕ) (ds : List Desc) → find_sequence_from vs g false ws (items ds) ≡ lowest (has_sequence vs) g ds
  unfolding find_sequence_from is_whole
  find_sequence_lem g ws [] = refl
  find_sequence_lem g ws (d ∷ ds) =
      find_singles g false ws d.singles (seqs d.sequences (End ∷ items ds))
      ∙ find_seqs g false ws d.sequences (items ds)
      ∙ ap (pick (has_sequence vs d) (Some g)) (find_sequence_lem (g + 1) vs ds)
