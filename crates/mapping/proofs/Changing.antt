-- Descriptions with one changed: how many they are, which stay, that their values are the coding's, and that a single added and then dropped
-- gives them back.
use mathlib.Core.Path.{◌≡◌, refl, sym, ◌∙◌, ap, subst}
use mathlib.Core.Logic.{◌⊎◌, inl, inr}
use mathlib.Core.Bool.{Bool, true, false}
use mathlib.Core.List.{List, [], ◌∷◌, ◌++◌}
use Prim.Native.Nat.{ℕ, zero, suc, ◌<◌}
use native.Mathlib.Omega.{arith}
use lib.Dec.{eqb}
use borrow.Author.Tests.{eqb-true, eqb-false, eq-eqb}
use lib.ListN.{length, take, drop}
use Rattle.base.specs.Meaning.{pick}
use Rattle.coding.specs.declared.Coding.{Coding}
use Rattle.coding.specs.Meaning.{ValueOf}
use Rattle.table.specs.declared.Item.{Item}
use Rattle.table.specs.declared.Item.TheVariants.{Single}
use Rattle.table.specs.Meaning.{Desc, each, items_of, items, OfCoding, Readable}
use Rattle.table.proofs.EndToEnd.{described_append, of_append, of_left, of_right}
use Rattle.lookup.specs.Meaning.{Nth, Any}
use Rattle.mapping.specs.Meaning.{Lists, changed, with_single, without, added, dropped, First}

-- what stands at a place: there is one, and one only; before it and behind it the others
pub nth_some : {A : Type 0} (k : ℕ) (xs : List A) → k < length xs → (x : A) × Nth k xs x
nth_some k [] h = absurd (omega arith)
nth_some zero (x ∷ xs) h = (x, refl)
nth_some (suc k) (x ∷ xs) h = nth_some k xs (omega arith)

pub nth_one : {A : Type 0} (k : ℕ) (xs : List A) (x y : A) → Nth k xs x → Nth k xs y → x ≡ y
nth_one k [] x y m n = absurd m
nth_one zero (z ∷ xs) x y m n = sym m ∙ n
nth_one (suc k) (z ∷ xs) x y m n = nth_one k xs x y m n

pub nth_drop : {A : Type 0} (k : ℕ) (xs : List A) (x : A) → Nth k xs x → drop k xs ≡ x ∷ drop (suc k) xs
nth_drop k [] x n = absurd n
nth_drop {A} zero (z ∷ xs) x n = ap (λ (y : A). y ∷ xs) n
nth_drop (suc k) (z ∷ xs) x n = nth_drop k xs x n

module _ (f : Desc → Desc) where
  pub length_changed : (g : ℕ) (ds : List Desc) → length (changed f g ds) ≡ length ds
  unfolding changed
  length_changed g [] = refl
  length_changed zero (d ∷ ds) = refl
  length_changed (suc g) (d ∷ ds) = ap suc (length_changed g ds)

  pub changed_parts : (g : ℕ) (ds : List Desc) (d : Desc) → Nth g ds d → changed f g ds ≡ take g ds ++ (f d ∷ drop (suc g) ds)
  unfolding changed
  changed_parts g [] d n = absurd n
  changed_parts zero (e ∷ ds) d n = ap (λ (x : Desc). f x ∷ ds) n
  changed_parts (suc g) (e ∷ ds) d n = ap (λ (x : List Desc). e ∷ x) (changed_parts g ds d n)

  pub changed_here : (g : ℕ) (ds : List Desc) (d : Desc) → Nth g ds d → Nth g (changed f g ds) (f d)
  unfolding changed
  changed_here g [] d n = absurd n
  changed_here zero (e ∷ ds) d n = ap f n
  changed_here (suc g) (e ∷ ds) d n = changed_here g ds d n

  -- the others
  pub changed_there : (g h : ℕ) (ds : List Desc) (d : Desc) → (h ≡ g → ⊥) → Nth h ds d → Nth h (changed f g ds) d
  unfolding changed
  changed_there g h [] d o n = absurd n
  changed_there zero zero (e ∷ ds) d o n = absurd (o refl)
  changed_there zero (suc h) (e ∷ ds) d o n = n
  changed_there (suc g) zero (e ∷ ds) d o n = n
  changed_there (suc g) (suc h) (e ∷ ds) d o n = changed_there g h ds d (λ q. o (ap suc q)) n

  pub changed_back : (g h : ℕ) (ds : List Desc) (d : Desc) → (h ≡ g → ⊥) → Nth h (changed f g ds) d → Nth h ds d
  unfolding changed
  changed_back g h [] d o n = absurd n
  changed_back zero zero (e ∷ ds) d o n = absurd (o refl)
  changed_back zero (suc h) (e ∷ ds) d o n = n
  changed_back (suc g) zero (e ∷ ds) d o n = n
  changed_back (suc g) (suc h) (e ∷ ds) d o n = changed_back g h ds d (λ q. o (ap suc q)) n

-- values of a coding
module _ (c : Coding) (v : ℕ) where
  of_last : (vs : List ℕ) (k : List Item) → ValueOf c v → OfCoding c (each Single vs k) → OfCoding c (each Single (vs ++ (v ∷ [])) k)
  of_last [] k p o = (p, o)
  of_last (w ∷ vs) k p o = (o.0, of_last vs k p o.1)

  of_without : (vs : List ℕ) (k : List Item) → OfCoding c (each Single vs k) → OfCoding c (each Single (without v vs) k)
  unfolding without
  of_without [] k o = o
  of_without (w ∷ vs) k o = go (eqb w v) (of_without vs k o.1)
    where
      go : (t : Bool) → OfCoding c (each Single (without v vs) k) → OfCoding c (each Single (pick t vs (w ∷ without v vs)) k)
      go true q = o.1
      go false q = (o.0, q)

  -- a description in front
  behind : (d : Desc) (ds es : List Desc) → Readable c (d ∷ ds) → (Readable c ds → Readable c es) → Readable c (d ∷ es)
  behind d ds es o f =
      let q : OfCoding c (items_of d ++ items ds) = subst (OfCoding c) (described_append d (items ds)) o in
      subst (OfCoding c) (sym (described_append d (items es))) (of_append c (items_of d) (items es) (of_left c (items_of d) (items ds) q) (f (of_right c (items_of d) (items ds) q)))

  pub readable_added : ValueOf c v → (g : ℕ) (ds : List Desc) → Readable c ds → Readable c (added v g ds)
  unfolding changed
  readable_added p g [] o = o
  readable_added p zero (d ∷ ds) o = of_last d.singles _ p o
  readable_added p (suc g) (d ∷ ds) o = behind d ds (added v g ds) o (readable_added p g ds)

  pub readable_dropped : (g : ℕ) (ds : List Desc) → Readable c ds → Readable c (dropped v g ds)
  unfolding changed
  readable_dropped g [] o = o
  readable_dropped zero (d ∷ ds) o = of_without d.singles _ o
  readable_dropped (suc g) (d ∷ ds) o = behind d ds (dropped v g ds) o (readable_dropped g ds)

-- what was put last among values that do not have it is taken away
without_last : (v : ℕ) (vs : List ℕ) → (Any (λ (w : ℕ). w ≡ v) vs → ⊥) → without v (vs ++ (v ∷ [])) ≡ vs
unfolding without
without_last v [] n = rw (eq-eqb v v refl)
without_last v (w ∷ vs) n = go (eqb w v) refl (without_last v vs (λ a. n (inr a)))
  where
    go : (t : Bool) → eqb w v ≡ t → without v (vs ++ (v ∷ [])) ≡ vs → pick t (vs ++ (v ∷ [])) (w ∷ without v (vs ++ (v ∷ []))) ≡ w ∷ vs
    go true e k = absurd (n (inl (eqb-true w v e)))
    go false e k = ap (λ (x : List ℕ). w ∷ x) k

pub added_dropped : (v g : ℕ) (ds : List Desc) → (Lists v g ds → ⊥) → dropped v g (added v g ds) ≡ ds
unfolding changed
added_dropped v g [] n = refl
added_dropped v zero (d ∷ ds) n =
    ap (λ (x : List ℕ). record { singles = x; sequences = d.sequences } ∷ ds)
    (without_last v d.singles (λ a. n (record { description = d; here = refl; lists = a })))
added_dropped v (suc g) (d ∷ ds) n =
    ap (λ (x : List Desc). d ∷ x) (added_dropped v g ds (λ l. n (record { description = l.description; here = l.here; lists = l.lists })))

-- a glyph to which v was added lists it
any_last : (v : ℕ) (vs : List ℕ) → Any (λ (w : ℕ). w ≡ v) (vs ++ (v ∷ []))
any_last v [] = inl refl
any_last v (w ∷ vs) = inr (any_last v vs)

pub added_lists : (v g : ℕ) (ds : List Desc) → g < length ds → Lists v g (added v g ds)
added_lists v g ds h =
    let d = nth_some g ds h in
    record { description = with_single v d.0; here = changed_here (with_single v) g ds d.0 d.1; lists = any_last v d.0.singles }

-- it is the first listing that is dropped
pub first_dropped : (v : ℕ) (vs : List ℕ) → Any (λ (w : ℕ). w ≡ v) vs → First v vs
unfolding without
first_dropped v [] a = absurd a
first_dropped v (w ∷ vs) a = go (eqb w v) refl a (first_dropped v vs)
  where
    here : eqb w v ≡ true → First v (w ∷ vs)
    here e = record { before = []; after = vs; same = ap (λ (x : ℕ). x ∷ vs) (eqb-true w v e); none = λ n. n; less = rw e }

    there : eqb w v ≡ false → First v vs → First v (w ∷ vs)
    there e r =
        record {
          before = w ∷ r.before;
          after = r.after;
          same = ap (λ (x : List ℕ). w ∷ x) r.same;
          none = no;
          less = rw e (ap (λ (x : List ℕ). w ∷ x) r.less);
        }
      where
        no : (w ≡ v) ⊎ Any (λ (u : ℕ). u ≡ v) r.before → ⊥
        no (inl q) = eqb-false w v e q
        no (inr q) = r.none q

    go : (t : Bool) → eqb w v ≡ t → (w ≡ v) ⊎ Any (λ (u : ℕ). u ≡ v) vs → (Any (λ (u : ℕ). u ≡ v) vs → First v vs) → First v (w ∷ vs)
    go true e b ih = here e
    go false e (inl q) ih = absurd (eqb-false w v e q)
    go false e (inr b) ih = there e (ih b)
