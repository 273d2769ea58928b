-- Searching a list by a test that tells a property: whether some element has it, and the lowest description that has it.
use mathlib.Core.Path.{◌≡◌, refl, sym, ◌∙◌, ap, subst}
use mathlib.Core.Bool.{Bool, true, false}
use mathlib.Core.Logic.{◌⊎◌, inl, inr}
use mathlib.Core.List.{List, [], ◌∷◌}
use Prim.Native.Nat.{ℕ, zero, suc, ◌+◌, ◌≤◌, ◌<◌}
use native.Mathlib.Omega.{arith}
use lib.ListN.{length}
use Rattle.base.specs.Meaning.{pick}
use Rattle.table.specs.Meaning.{Desc}
use Rattle.lookup.specs.Meaning.{Nth, Any, Lowest, Nowhere}
use Rattle.std.specs.Prelude.{Option, Some, None}

pub true_false : {A : Type 0} (t : Bool) → t ≡ true → t ≡ false → A
true_false t e f = let z : ◌≡◌ {A = ℕ} 0 1 = cc in absurd (omega arith)

-- what stands at a place stands within
pub nth_within : {A : Type 0} (k : ℕ) (xs : List A) (y : A) → Nth k xs y → k < length xs
nth_within k [] y n = absurd n
nth_within zero (x ∷ xs) y n = omega arith
nth_within (suc k) (x ∷ xs) y n = let h = nth_within k xs y n in omega arith

-- whether some element passes
abbrev pub any : {A : Type 0} → (A → Bool) → List A → Bool
any t [] = false
any t (x ∷ xs) = pick (t x) true (any t xs)

module _ {A : Type 0} (t : A → Bool) (P : A → Type 0) (yes : (x : A) → t x ≡ true → P x) (no : (x : A) → t x ≡ false → P x → ⊥) where
  pub any_yes : (xs : List A) → any t xs ≡ true → Any P xs
  any_yes [] e = true_false false e refl
  any_yes (x ∷ xs) e = go (t x) refl e (any_yes xs)
    where
      go : (b : Bool) → t x ≡ b → pick b true (any t xs) ≡ true → (any t xs ≡ true → Any P xs) → P x ⊎ Any P xs
      go true p f ih = inl (yes x p)
      go false p f ih = inr (ih f)

  pub any_no : (xs : List A) → any t xs ≡ false → Any P xs → ⊥
  any_no [] e a = a
  any_no (x ∷ xs) e a = go (t x) refl e a (any_no xs)
    where
      go : (b : Bool) → t x ≡ b → pick b true (any t xs) ≡ false → P x ⊎ Any P xs → (any t xs ≡ false → Any P xs → ⊥) → ⊥
      go true p f a ih = true_false true refl f
      go false p f (inl h) ih = no x p h
      go false p f (inr h) ih = ih f h

-- the lowest description that passes, counted from g
abbrev pub lowest : (Desc → Bool) → ℕ → List Desc → Option ℕ
lowest t g [] = None
lowest t g (d ∷ ds) = pick (t d) (Some g) (lowest t (g + 1) ds)

no_at : {A : Type 0} (g : ℕ) → None ≡ Some g → A
no_at g e = let z : ◌≡◌ {A = ℕ} 0 1 = cc in absurd (omega arith)

module _ (t : Desc → Bool) (P : Desc → Type 0) (yes : (d : Desc) → t d ≡ true → P d) (no : (d : Desc) → t d ≡ false → P d → ⊥) where
  record Below (ds : List Desc) (h j : ℕ) : Type 0 where
    glyph : ℕ
    place : j ≡ h + glyph
    low : Lowest P 0 ds glyph

  at_below : (ds : List Desc) (h j : ℕ) → lowest t h ds ≡ Some j → Below ds h j
  at_below [] h j e = no_at j e
  at_below (d ∷ ds) h j e = go (t d) refl e (at_below ds (h + 1) j)
    where
      further : (t d ≡ false) → (g : ℕ) → Lowest P 0 ds g → (i : ℕ) (f : Desc) → 0 ≤ i → i < suc g → Nth i (d ∷ ds) f → P f → ⊥
      further p g l zero f z k n q = no d p (subst P (sym n) q)
      further p g l (suc i) f z k n q = l.lower i f (omega arith) (omega arith) n q

      go : (b : Bool) → t d ≡ b → pick b (Some h) (lowest t (h + 1) ds) ≡ Some j → (lowest t (h + 1) ds ≡ Some j → Below ds (h + 1) j) → Below (d ∷ ds) h j
      go true p f ih =
          let q : h ≡ j = cc in
          record { glyph = 0; place = omega arith; low = record { description = d; seen = omega arith; here = refl; lists = yes d p; lower = λ i f z k n q. absurd (omega arith) } }
      go false p f ih =
          let r = ih f in
          record {
            glyph = suc r.glyph;
            place = omega (arith, r.place);
            low = record { description = r.low.description; seen = omega arith; here = r.low.here; lists = r.low.lists; lower = further p r.glyph r.low };
          }

  none_nowhere : (ds : List Desc) (h : ℕ) → lowest t h ds ≡ None → Nowhere P 0 ds
  none_nowhere [] h e = λ g d z n p. n
  none_nowhere (d ∷ ds) h e = go (t d) refl e (none_nowhere ds (h + 1))
    where
      go : (b : Bool) → t d ≡ b → pick b (Some h) (lowest t (h + 1) ds) ≡ None → (lowest t (h + 1) ds ≡ None → Nowhere P 0 ds) → Nowhere P 0 (d ∷ ds)
      go true q f ih g d' z n p = no_at h (sym f)
      go false q f ih zero d' z n p = no d q (subst P (sym n) p)
      go false q f ih (suc g) d' z n p = ih f g d' (omega arith) n p

  below_at : (ds : List Desc) (h g : ℕ) → Lowest P 0 ds g → lowest t h ds ≡ Some (h + g)
  below_at [] h g l = absurd l.here
  below_at (d ∷ ds) h zero l = go (t d) refl
    where
      go : (b : Bool) → t d ≡ b → pick b (Some h) (lowest t (h + 1) ds) ≡ Some (h + 0)
      go true p = ap Some (omega arith)
      go false p = absurd (no d p (subst P (sym l.here) l.lists))
  below_at (d ∷ ds) h (suc g) l = go (t d) refl (below_at ds (h + 1) g)
    where
      go : (b : Bool) → t d ≡ b → (Lowest P 0 ds g → lowest t (h + 1) ds ≡ Some (h + 1 + g)) → pick b (Some h) (lowest t (h + 1) ds) ≡ Some (h + suc g)
      go true p ih = absurd (l.lower 0 d (omega arith) (omega arith) refl (yes d p))
      go false p ih =
          let e : h + 1 + g ≡ h + suc g = omega arith in
          ih (record { description = l.description; seen = omega arith; here = l.here; lists = l.lists; lower = λ i f z k n q. l.lower (suc i) f (omega arith) (omega arith) n q }) ∙ ap Some e

  nowhere_none : (ds : List Desc) (h : ℕ) → Nowhere P 0 ds → lowest t h ds ≡ None
  nowhere_none [] h f = refl
  nowhere_none (d ∷ ds) h f = go (t d) refl (nowhere_none ds (h + 1) (λ g d' z n q. f (suc g) d' (omega arith) n q))
    where
      go : (b : Bool) → t d ≡ b → lowest t (h + 1) ds ≡ None → pick b (Some h) (lowest t (h + 1) ds) ≡ None
      go true p ih = absurd (f 0 d (omega arith) refl (yes d p))
      go false p ih = ih

  module _ (ds : List Desc) (r : Option ℕ) (e : r ≡ lowest t 0 ds) where
    pub at_exactly : (g : ℕ) → (r ≡ Some g → Lowest P 0 ds g) × (Lowest P 0 ds g → r ≡ Some g)
    at_exactly g = (
      λ q. let w = at_below ds 0 g (sym e ∙ q) in let z : w.glyph ≡ g = omega (arith, w.place) in subst (Lowest P 0 ds) z w.low,
      λ l. let z : 0 + g ≡ g = omega arith in e ∙ below_at ds 0 g l ∙ ap Some z,
    )

    pub none_exactly : (r ≡ None → Nowhere P 0 ds) × (Nowhere P 0 ds → r ≡ None)
    none_exactly = (λ q. none_nowhere ds 0 (sym e ∙ q), λ f. e ∙ nowhere_none ds 0 f)
