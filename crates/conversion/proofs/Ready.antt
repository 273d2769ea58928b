-- What is known of a font that a conversion is ready for: every check that could refuse it did not.
use mathlib.Core.Path.{◌≡◌, refl, sym, ◌∙◌, ap, subst}
use mathlib.Core.Logic.{◌⊎◌, inl, inr}
use mathlib.Core.List.{List}
use mathlib.Core.Bool.{Bool, true, false}
use Prim.Native.Nat.{ℕ, zero, suc, ◌+◌, ◌≤◌, ◌<◌}
use native.Mathlib.Omega.{arith}
use lib.Dec.{ltb, eqb}
use borrow.Author.Tests.{ltb-false, eqb-true, eqb-false, not-false}
use Rattle.base.specs.Reading.{when}
use Rattle.base.specs.Meaning.{le16}
use Rattle.base.proofs.Tests.{below}
use Rattle.refusal.specs.Meaning.{refusal}
use Rattle.refusal.specs.declared.Refusal.{Refusal}
use Rattle.refusal.specs.declared.Reason.TheVariants.{WrongKind, Size}
use Rattle.header.specs.declared.Kind.{Kind}
use Rattle.header.specs.declared.Font.{Font}
use Rattle.header.specs.Meaning.{limit}
use Rattle.header.proofs.Known.{never}
use Rattle.entries.specs.Meaning.{entry_at, size_at}
use Rattle.stages.specs.Meaning.{tail_of}
use Rattle.stages.specs.Reading.{and_then, check_of}
use Rattle.conversion.specs.declared.Conversion.{Conversion}
use Rattle.conversion.specs.Meaning.{source_kind, front_len}
use Rattle.conversion.specs.Reading.{same_kind, of_kind, opened_of, is_psf1_count, suits_psf1, is_even, evenness, even_suits, suits_of, measured_of, fitting, measured_then, suits_then, opened_then, prepared_on, prepared_of}
use Rattle.conversion.proofs.Cases.{kind_same}
use Rattle.std.specs.Prelude.{Result, Ok, Err, Option, Some, None}

same_font : (f g : Font) → ◌≡◌ {A = Result Font Refusal} (Ok f) (Ok g) → f ≡ g
same_font f g e = cc

never_ready : {A : Type 0} (r : Refusal) (f : Font) (n : ℕ) → ◌≡◌ {A = Result (Font × ℕ) Refusal} (Err r) (Ok (f, n)) → A
never_ready r f n e = let z : ◌≡◌ {A = ℕ} 0 1 = cc in absurd (omega arith)

-- 17 did not apply
pub opened_sound : (k : Kind) (s : List ℕ) (f : Font) → opened_of k s ≡ Ok f → (check_of s ≡ Ok f) × (f.kind ≡ k)
unfolding opened_of of_kind when
opened_sound k s f e = go (check_of s) refl e
  where
    by : (g : Font) → check_of s ≡ Ok g → (t : Bool) → same_kind k g.kind ≡ t → when t (Ok g) (Err (refusal WrongKind 0)) ≡ Ok f → (check_of s ≡ Ok f) × (f.kind ≡ k)
    by g q true p e = let h = same_font g f e in (q ∙ ap Ok h, subst (λ (x : Font). x.kind ≡ k) h (kind_same k g.kind p))
    by g q false p e = absurd (never _ f e)

    go : (x : Result Font Refusal) → check_of s ≡ x → and_then x (of_kind k) ≡ Ok f → (check_of s ≡ Ok f) × (f.kind ≡ k)
    go (Ok g) q e = by g q (same_kind k g.kind) refl e
    go (Err r) q e = absurd (never r f e)

-- 20 did not
fit_ready : (f g : Font) (need n : ℕ) → fitting f need ≡ Ok (g, n) → (f ≡ g) × (need ≡ n) × (need ≤ limit)
unfolding fitting when
fit_ready f g need n e = go (ltb limit need) refl e
  where
    go : (t : Bool) → ltb limit need ≡ t → when {A = Result (Font × ℕ) Refusal} t (Err (refusal Size 0)) (Ok (f, need)) ≡ Ok (g, n) → (f ≡ g) × (need ≡ n) × (need ≤ limit)
    go true q e = never_ready _ g n e
    go false q e = let p : ◌≡◌ {A = Font × ℕ} (f, need) (g, n) = cc in (ap (λ (x : Font × ℕ). x.0) p, ap (λ (x : Font × ℕ). x.1) p, ltb-false _ _ q)

-- what is known of a font that a conversion is ready for, with an output of so many bytes
pub record Known (c : Conversion) (s : List ℕ) (f : Font) (n : ℕ) : Type 0 where
  pub sound : check_of s ≡ Ok f
  pub kind : f.kind ≡ source_kind c
  pub suits : suits_of c s f ≡ Ok tt
  pub table : ℕ
  pub measured : measured_of c (tail_of s f) ≡ Ok table
  pub long : n ≡ front_len c f + table
  pub short : n ≤ limit

module _ (c : Conversion) (s : List ℕ) (f : Font) (n : ℕ) where
  on_font : (g : Font) → opened_of (source_kind c) s ≡ Ok g → prepared_on c s g ≡ Ok (f, n) → Known c s f n
  unfolding prepared_on
  on_font g o e = by_suits (suits_of c s g) refl e
    where
      by_measure : suits_of c s g ≡ Ok tt → (m : Result ℕ ℕ) → measured_of c (tail_of s g) ≡ m → measured_then c g (tail_of s g) m ≡ Ok (f, n) → Known c s f n
      by_measure u (Ok t) q e =
          let r = fit_ready g f (front_len c g + t) n e in
          let h = r.0 in
          let k = opened_sound (source_kind c) s g o in
          record {
            sound = k.0 ∙ ap Ok h;
            kind = subst (λ (x : Font). x.kind ≡ source_kind c) h k.1;
            suits = subst (λ (x : Font). suits_of c s x ≡ Ok tt) h u;
            table = t;
            measured = subst (λ (x : Font). measured_of c (tail_of s x) ≡ Ok t) h q;
            long = sym r.1 ∙ ap (λ (x : Font). front_len c x + t) h;
            short = omega (arith, r.1, r.2);
          }
      by_measure u (Err k) q e = never_ready _ f n e

      by_suits : (x : Result (Unit {0}) Refusal) → suits_of c s g ≡ x → suits_then x (measured_then c g (tail_of s g) (measured_of c (tail_of s g))) ≡ Ok (f, n) → Known c s f n
      by_suits (Ok tt) u e = by_measure u (measured_of c (tail_of s g)) refl e
      by_suits (Err r) u e = never_ready r f n e

  pub known : prepared_of c s ≡ Ok (f, n) → Known c s f n
  unfolding prepared_of
  known e = go (opened_of (source_kind c) s) refl e
    where
      go : (x : Result Font Refusal) → opened_of (source_kind c) s ≡ x → opened_then x (prepared_on c s) ≡ Ok (f, n) → Known c s f n
      go (Ok g) o e = on_font g o e
      go (Err r) o e = never_ready r f n e

-- 18 to PSF1 did not: "n is 256 or 512", and the width is 8
fails : (t : Bool) (r : Refusal) (y : Result (Unit {0}) Refusal) → when t (Err r) y ≡ Ok tt → (t ≡ false) × (y ≡ Ok tt)
unfolding when
fails true r y e = let z : ◌≡◌ {A = ℕ} 0 1 = cc in absurd (omega arith)
fails false r y e = (refl, e)

pub two_counts : (n : ℕ) → is_psf1_count n ≡ true → (n ≡ 256) ⊎ (n ≡ 512)
unfolding is_psf1_count when
two_counts n e = go (eqb n 256) refl e
  where
    go : (t : Bool) → eqb n 256 ≡ t → when t true (eqb n 512) ≡ true → (n ≡ 256) ⊎ (n ≡ 512)
    go true q e = inl (eqb-true n 256 q)
    go false q e = inr (eqb-true n 512 e)

pub psf1_suits : (f : Font) → suits_psf1 f ≡ Ok tt → ((f.count ≡ 256) ⊎ (f.count ≡ 512)) × (f.width ≡ 8)
unfolding suits_psf1
psf1_suits f e =
    let a = fails _ _ _ e in
    let b = fails _ _ _ a.1 in
    (two_counts f.count (not-false _ a.0), eqb-true _ _ (not-false _ b.0))

-- 18 from vfont2 did not: every entry is even
holds : (t : Bool) (y : Bool) → when t false y ≡ true → (t ≡ false) × (y ≡ true)
unfolding when
holds true y e = let z : ◌≡◌ {A = ℕ} 0 1 = cc in absurd (omega arith)
holds false y e = (refl, e)

-- the fields of an entry for which the test holds
pub even_fields : (s : List ℕ) (h w at : ℕ) → is_even s h w at ≡ true →
    (size_at s at ≡ 0 → ⊥) × (le16 s (at + 8) ≡ h) × (le16 s (at + 10) ≡ 0) × (le16 s (at + 12) ≡ 0) × (le16 s (at + 14) ≡ w) × (le16 s (at + 16) ≡ w)
unfolding is_even
even_fields s h w at e =
    let a = holds _ _ e in
    let b = holds _ _ a.1 in
    let c = holds _ _ b.1 in
    let d = holds _ _ c.1 in
    let f = holds _ _ d.1 in
    (eqb-false _ _ a.0, eqb-true _ _ (not-false _ b.0), eqb-true _ _ (not-false _ c.0), eqb-true _ _ (not-false _ d.0), eqb-true _ _ (not-false _ f.0), eqb-true _ _ f.1)

suits_even : (f : Font) (x : Option ℕ) → even_suits f x ≡ Ok tt → x ≡ None
suits_even f None e = refl
suits_even f (Some i) e = let z : ◌≡◌ {A = ℕ} 0 1 = cc in absurd (omega arith)

goes : (t : Bool) (x : Option ℕ) (i : ℕ) → when t x (Some i) ≡ None → (t ≡ true) × (x ≡ None)
unfolding when
goes true x i e = (refl, e)
goes false x i e = let z : ◌≡◌ {A = ℕ} 0 1 = cc in absurd (omega arith)

even_each : (s : List ℕ) (h w start k i : ℕ) → evenness s h w start k i ≡ None → (j : ℕ) → i ≤ j → j < i + k → is_even s h w (entry_at start j) ≡ true
unfolding evenness
even_each s h w start zero i e j a l = absurd (omega arith)
even_each s h w start (suc k) i e j a l = go (below i j) (even_each s h w start k (suc i) (goes _ _ i e).1 j) (goes _ _ i e).0
  where
    go : (i < j) ⊎ (j ≤ i) → (suc i ≤ j → j < suc i + k → is_even s h w (entry_at start j) ≡ true) → is_even s h w (entry_at start i) ≡ true → is_even s h w (entry_at start j) ≡ true
    go (inl b) ih t = ih b (omega arith)
    go (inr b) ih t = let q : i ≡ j = omega arith in subst (λ (x : ℕ). is_even s h w (entry_at start x) ≡ true) q t

pub all_even : (s : List ℕ) (f : Font) → even_suits f (evenness s f.height f.width f.entries f.count 0) ≡ Ok tt → (j : ℕ) → j < f.count → is_even s f.height f.width (entry_at f.entries j) ≡ true
all_even s f e j l = even_each s f.height f.width f.entries f.count 0 (suits_even f _ e) j (omega arith) (omega arith)
