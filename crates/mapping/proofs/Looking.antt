-- What is found in descriptions of which one was changed.
use mathlib.Core.Path.{◌≡◌, refl, sym, ◌∙◌, ap, subst}
use mathlib.Core.Logic.{◌⊎◌, inl, inr}
use mathlib.Core.Bool.{Bool, true, false}
use mathlib.Core.List.{List, [], ◌∷◌, ◌++◌}
use Prim.Native.Nat.{ℕ, zero, suc, ◌+◌, ◌≤◌, ◌<◌, min}
use native.Mathlib.Omega.{arith}
use native.Mathlib.Nat.{min-eq_left, min-eq_right, le_refl}
use lib.Dec.{eqb}
use borrow.Author.Tests.{eqb-true, eq-eqb, ne_eqb}
use lib.ListN.{length}
use Rattle.base.specs.Meaning.{pick}
use Rattle.base.proofs.Tests.{same}
use Rattle.table.specs.declared.Item.{Item}
use Rattle.table.specs.Meaning.{Seq, Desc, items}
use Rattle.lookup.specs.Meaning.{Nth, ListsValue, Lowest, Nowhere, ItemIs}
use Rattle.lookup.specs.Reading.{item_at, find_value, find_sequence}
use Rattle.lookup.proofs.Walking.{found_item, item_found, none_item, item_none}
use Rattle.lookup.proofs.Searching.{any, lowest}
use Rattle.lookup.proofs.Finding.{is_value, has_value, value_no, has_sequence, find_value_lem, find_sequence_lem}
use Rattle.mapping.specs.Meaning.{Lists, changed, with_single, without, without_single, added, dropped, LowestOther, NoOther}
use Rattle.mapping.proofs.Changing.{nth_one, changed_here, changed_there, changed_back}
use Rattle.std.specs.Prelude.{Option, Some, None}

-- a test that the change does not touch
module _ (t : Desc → Bool) (f : Desc → Desc) where
  lowest_same : ((d : Desc) → t (f d) ≡ t d) → (g h : ℕ) (ds : List Desc) → lowest t h (changed f g ds) ≡ lowest t h ds
  unfolding changed
  lowest_same q g h [] = refl
  lowest_same q zero h (d ∷ ds) = ap (λ (b : Bool). pick b (Some h) (lowest t (h + 1) ds)) (q d)
  lowest_same q (suc g) h (d ∷ ds) = ap (pick (t d) (Some h)) (lowest_same q g (h + 1) ds)

  -- on the description that is changed
  lowest_same_at : (g h : ℕ) (ds : List Desc) (d : Desc) → Nth g ds d → t (f d) ≡ t d → lowest t h (changed f g ds) ≡ lowest t h ds
  unfolding changed
  lowest_same_at g h [] d n q = absurd n
  lowest_same_at zero h (e ∷ ds) d n q = ap (λ (b : Bool). pick b (Some h) (lowest t (h + 1) ds)) (subst (λ (x : Desc). t (f x) ≡ t x) (sym n) q)
  lowest_same_at (suc g) h (e ∷ ds) d n q = ap (pick (t e) (Some h)) (lowest_same_at g (h + 1) ds d n q)

-- the lower of a glyph and what was found
abbrev pub lower_of : ℕ → Option ℕ → ℕ
lower_of g (Some h) = min g h
lower_of g None = g

-- a test that the changed description passes
module _ (t : Desc → Bool) (f : Desc → Desc) (yes : (d : Desc) → t (f d) ≡ true) where
  lower_later : (h : ℕ) (ds : List Desc) → lower_of h (lowest t (h + 1) ds) ≡ h
  lower_later h ds = from h (h + 1) ds (omega arith)
    where
      from : (h k : ℕ) (ds : List Desc) → h ≤ k → lower_of h (lowest t k ds) ≡ h
      from h k [] l = refl
      from h k (d ∷ ds) l = go (t d) (from h (k + 1) ds (omega arith))
        where
          go : (b : Bool) → lower_of h (lowest t (k + 1) ds) ≡ h → lower_of h (pick b (Some k) (lowest t (k + 1) ds)) ≡ h
          go true ih = min-eq_left l
          go false ih = ih

  lowest_added : (g h : ℕ) (ds : List Desc) → g < length ds → lowest t h (changed f g ds) ≡ Some (lower_of (h + g) (lowest t h ds))
  unfolding changed
  lowest_added g h [] l = absurd (omega arith)
  lowest_added zero h (d ∷ ds) l =
      let z : h + 0 ≡ h = omega arith in
      ap (λ (b : Bool). pick b (Some h) (lowest t (h + 1) ds)) (yes d) ∙ ap Some (sym (ap (λ (x : ℕ). lower_of x (lowest t h (d ∷ ds))) z ∙ go (t d)))
    where
      go : (b : Bool) → lower_of h (pick b (Some h) (lowest t (h + 1) ds)) ≡ h
      go true = min-eq_left (le_refl h)
      go false = lower_later h ds
  lowest_added (suc g) h (d ∷ ds) l = go (t d) (lowest_added g (h + 1) ds (omega arith))
    where
      go : (b : Bool) → lowest t (h + 1) (changed f g ds) ≡ Some (lower_of (h + 1 + g) (lowest t (h + 1) ds)) →
          pick b (Some h) (lowest t (h + 1) (changed f g ds)) ≡ Some (lower_of (h + suc g) (pick b (Some h) (lowest t (h + 1) ds)))
      go true ih = let q : h ≤ h + suc g = omega arith in ap Some (sym (min-eq_right q))
      go false ih =
          let z : h + 1 + g ≡ h + suc g = omega arith in
          ih ∙ ap (λ (x : ℕ). Some (lower_of x (lowest t (h + 1) ds))) z

-- values with one put last, and without one
has_last : (v : ℕ) (vs : List ℕ) → any (is_value v) (vs ++ (v ∷ [])) ≡ true
has_last v [] = rw (eq-eqb v v refl)
has_last v (w ∷ vs) = go (eqb w v) (has_last v vs)
  where
    go : (b : Bool) → any (is_value v) (vs ++ (v ∷ [])) ≡ true → pick b true (any (is_value v) (vs ++ (v ∷ []))) ≡ true
    go true e = refl
    go false e = e

other_last : (v w : ℕ) → (w ≡ v → ⊥) → (vs : List ℕ) → any (is_value w) (vs ++ (v ∷ [])) ≡ any (is_value w) vs
other_last v w n [] = rw (ne_eqb v w (λ e. n (sym e)))
other_last v w n (u ∷ vs) = ap (pick (eqb u w) true) (other_last v w n vs)

other_without : (v w : ℕ) → (w ≡ v → ⊥) → (vs : List ℕ) → any (is_value w) (without v vs) ≡ any (is_value w) vs
unfolding without
other_without v w n [] = refl
other_without v w n (u ∷ vs) = go (eqb u v) refl (other_without v w n vs)
  where
    go : (b : Bool) → eqb u v ≡ b → any (is_value w) (without v vs) ≡ any (is_value w) vs → any (is_value w) (pick b vs (u ∷ without v vs)) ≡ pick (eqb u w) true (any (is_value w) vs)
    go true e ih = let q = eqb-true u v e in rw (ne_eqb u w (λ z. n (sym z ∙ q)))
    go false e ih = ap (pick (eqb u w) true) ih

-- every item of another glyph is as it was
pub item_same : (f : Desc → Desc) (g h k : ℕ) (ds : List Desc) → (h ≡ g → ⊥) → item_at h k (items (changed f g ds)) ≡ item_at h k (items ds)
item_same f g h k ds o = go (item_at h k (items ds)) refl
  where
    there : (i : Item) → ItemIs ds h k i → ItemIs (changed f g ds) h k i
    there i r = record { description = r.description; here = changed_there f g h ds r.description o r.here; item = r.item }

    back : (i : Item) → ItemIs (changed f g ds) h k i → ItemIs ds h k i
    back i r = record { description = r.description; here = changed_back f g h ds r.description o r.here; item = r.item }

    go : (w : Option Item) → item_at h k (items ds) ≡ w → item_at h k (items (changed f g ds)) ≡ item_at h k (items ds)
    go (Some i) e = item_found (changed f g ds) h k i (there i (found_item ds h k i e)) ∙ sym e
    go None e = item_none (changed f g ds) h k (λ i r. none_item ds h k e i (back i r)) ∙ sym e

-- what is found: every other value, and every sequence, as before
module _ (g : ℕ) (ds : List Desc) where
  pub added_other : (v w : ℕ) → (w ≡ v → ⊥) → find_value w 0 (items (added v g ds)) ≡ find_value w 0 (items ds)
  added_other v w n =
      find_value_lem w 0 (added v g ds) ∙ lowest_same (has_value w) (with_single v) (λ d. other_last v w n d.singles) g 0 ds ∙ sym (find_value_lem w 0 ds)

  pub dropped_other : (v w : ℕ) → (w ≡ v → ⊥) → find_value w 0 (items (dropped v g ds)) ≡ find_value w 0 (items ds)
  dropped_other v w n =
      find_value_lem w 0 (dropped v g ds) ∙ lowest_same (has_value w) (without_single v) (λ d. other_without v w n d.singles) g 0 ds ∙ sym (find_value_lem w 0 ds)

  pub sequence_same : (f : Desc → Desc) → ((d : Desc) → (f d).sequences ≡ d.sequences) → (vs : List ℕ) → find_sequence vs (items (changed f g ds)) ≡ find_sequence vs (items ds)
  sequence_same f q vs =
      find_sequence_lem vs 0 vs (changed f g ds)
      ∙ lowest_same (has_sequence vs) f (λ d. ap (λ (x : List Seq). has_sequence vs (record { singles = d.singles; sequences = x })) (q d)) g 0 ds
      ∙ sym (find_sequence_lem vs 0 vs ds)

  -- the value added: the lower of its glyph and the one before
  pub added_value : (v : ℕ) → g < length ds → find_value v 0 (items (added v g ds)) ≡ Some (lower_of g (find_value v 0 (items ds)))
  added_value v l =
      let z : 0 + g ≡ g = omega arith in
      find_value_lem v 0 (added v g ds) ∙ lowest_added (has_value v) (with_single v) (λ d. has_last v d.singles) g 0 ds l
      ∙ ap (λ (x : ℕ). Some (lower_of x (lowest (has_value v) 0 ds))) z ∙ ap (λ (x : Option ℕ). Some (lower_of g x)) (sym (find_value_lem v 0 ds))

  -- the value dropped: as before where the glyph lists it still
  lists_yes : (v : ℕ) (d : Desc) → ListsValue v d → has_value v d ≡ true
  lists_yes v d a = go (has_value v d) refl
    where
      go : (b : Bool) → has_value v d ≡ b → b ≡ true
      go true e = refl
      go false e = absurd (value_no v d e a)

  pub dropped_still : (v : ℕ) → Lists v g ds → Lists v g (dropped v g ds) → find_value v 0 (items (dropped v g ds)) ≡ find_value v 0 (items ds)
  dropped_still v l m =
      let d = l.description in
      let q = nth_one g (dropped v g ds) m.description (without_single v d) m.here (changed_here (without_single v) g ds d l.here) in
      find_value_lem v 0 (dropped v g ds)
      ∙ lowest_same_at (has_value v) (without_single v) g 0 ds d l.here (lists_yes v (without_single v d) (subst (ListsValue v) q m.lists) ∙ sym (lists_yes v d l.lists))
      ∙ sym (find_value_lem v 0 ds)

  -- else the lowest of the other glyphs
  module _ (v : ℕ) (gone : Lists v g (dropped v g ds) → ⊥) where
    pub other_lowest : (h : ℕ) → Lowest (ListsValue v) 0 (dropped v g ds) h → LowestOther (ListsValue v) g ds h
    other_lowest h l =
        record {
          description = l.description;
          here = changed_back (without_single v) g h ds l.description apart l.here;
          other = apart;
          lists = l.lists;
          lower = λ j d o k n p. l.lower j d (omega arith) k (changed_there (without_single v) g j ds d o n) p;
        }
      where
        apart : h ≡ g → ⊥
        apart e = gone (record { description = l.description; here = subst (λ (x : ℕ). Nth x (dropped v g ds) l.description) e l.here; lists = l.lists })

    pub lowest_other : (h : ℕ) → LowestOther (ListsValue v) g ds h → Lowest (ListsValue v) 0 (dropped v g ds) h
    lowest_other h l =
        record {
          description = l.description;
          seen = omega arith;
          here = changed_there (without_single v) g h ds l.description l.other l.here;
          lists = l.lists;
          lower = λ j d z k n p. go j d k n p (same j g);
        }
      where
        go : (j : ℕ) (d : Desc) → j < h → Nth j (dropped v g ds) d → ListsValue v d → (j ≡ g) ⊎ (j ≡ g → ⊥) → ⊥
        go j d k n p (inl e) = gone (record { description = d; here = subst (λ (x : ℕ). Nth x (dropped v g ds) d) e n; lists = p })
        go j d k n p (inr o) = l.lower j d o k (changed_back (without_single v) g j ds d o n) p

    pub other_nowhere : Nowhere (ListsValue v) 0 (dropped v g ds) → NoOther (ListsValue v) g ds
    other_nowhere f h d o n p = f h d (omega arith) (changed_there (without_single v) g h ds d o n) p

    pub nowhere_other : NoOther (ListsValue v) g ds → Nowhere (ListsValue v) 0 (dropped v g ds)
    nowhere_other f h d z n p = go (same h g)
      where
        go : (h ≡ g) ⊎ (h ≡ g → ⊥) → ⊥
        go (inl e) = gone (record { description = d; here = subst (λ (x : ℕ). Nth x (dropped v g ds) d) e n; lists = p })
        go (inr o) = f h d o (changed_back (without_single v) g h ds d o n) p
