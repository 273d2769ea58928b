-- What is known of a font that a header describes: the fields that the file holds, and every check that they passed.
use mathlib.Core.Path.{◌≡◌, refl, sym, ◌∙◌, ap, subst}
use mathlib.Core.List.{List}
use mathlib.Core.Bool.{Bool, true, false}
use Prim.Native.Nat.{ℕ, ◌%◌, ◌≤◌, ◌<◌}
use native.Mathlib.Omega.{arith}
use lib.Dec.{eqb}
use lib.ListN.{length, get_or}
use borrow.Author.Tests.{ltb-false, eqb-true, eqb-false, not-false}
use Rattle.base.specs.Meaning.{pick, le32}
use Rattle.base.specs.Reading.{when}
use Rattle.refusal.specs.declared.Refusal.{Refusal}
use Rattle.header.specs.declared.Kind.{Kind}
use Rattle.header.specs.declared.Kind.TheVariants.{Psf1, Psf2, Vfont2}
use Rattle.header.specs.declared.Font.{Font}
use Rattle.header.specs.declared.Fields.{Fields}
use Rattle.header.specs.Meaning.{glyph_bytes, psf1_font, fields_of, psf2_font, vfont2_font, psf1_count, psf1_table}
use Rattle.header.specs.Reading.{kind_of, psf1_says, head_of, psf2_shaped, vfont2_shaped, on_fields, named_says, says_of}
use Rattle.header.specs.Bounds.{Described}
use Rattle.std.specs.Prelude.{Result, Ok, Err, Option, Some, None}

pub never : (r : Refusal) (f : Font) → Err r ≡ Ok f → ⊥
never r f e = let z : ◌≡◌ {A = ℕ} 0 1 = cc in omega arith

-- a check that does not refuse does not hold, and the rest decides
pub passes : (t : Bool) (r : Refusal) (y : Result Font Refusal) (f : Font) → when t (Err r) y ≡ Ok f → (t ≡ false) × (y ≡ Ok f)
unfolding when
passes true r y f e = absurd (never r f e)
passes false r y f e = (refl, e)

reads : (t : Bool) (r : Refusal) (y : Result Fields Refusal) (f : Fields) → when t (Err r) y ≡ Ok f → (t ≡ false) × (y ≡ Ok f)
unfolding when
reads true r y f e = let z : ◌≡◌ {A = ℕ} 0 1 = cc in absurd (omega arith)
reads false r y f e = (refl, e)

module _ (s : List ℕ) where
  -- PSF1
  abbrev pub Psf1Known : Font → Type 0
  Psf1Known f =
      (psf1_font (psf1_count (get_or s 2 0)) (get_or s 3 0) (psf1_table (get_or s 2 0)) ≡ f) × (4 ≤ length s) × (get_or s 2 0 ≤ 5) × (get_or s 3 0 ≡ 0 → ⊥)

  psf1_known : (f : Font) → psf1_says s ≡ Ok f → Psf1Known f
  unfolding psf1_says
  psf1_known f e =
      let a = passes _ _ _ f e in
      let b = passes _ _ _ f a.1 in
      let d = passes _ _ _ f b.1 in
      (cc d.1, ltb-false _ _ a.0, ltb-false _ _ b.0, eqb-false _ _ d.0)

  -- the header of 32 bytes
  abbrev pub HeadKnown : Type 0
  HeadKnown =
      (32 ≤ length s) × (le32 s 4 ≡ 0) × (le32 s 12 ≤ 1) × (32 ≤ le32 s 8) × (le32 s 8 ≤ 4096) × (le32 s 16 ≡ 0 → ⊥) × (le32 s 16 ≤ 4096)

  head_known : (k : Fields) → head_of s ≡ Ok k → (fields_of s ≡ k) × HeadKnown
  unfolding head_of
  head_known k e =
      let a = reads _ _ _ k e in
      let b = reads _ _ _ k a.1 in
      let d = reads _ _ _ k b.1 in
      let g = reads _ _ _ k d.1 in
      let h = reads _ _ _ k g.1 in
      let i = reads _ _ _ k h.1 in
      let j = reads _ _ _ k i.1 in
      (cc j.1, (ltb-false _ _ a.0, eqb-true _ _ (not-false _ b.0), ltb-false _ _ d.0, ltb-false _ _ g.0, ltb-false _ _ h.0, eqb-false _ _ i.0, ltb-false _ _ j.0))

-- PSF2
abbrev pub Psf2Known : Fields → Font → Type 0
Psf2Known k f = (psf2_font k ≡ f) × (1 ≤ k.height) × (k.height ≤ 255) × (1 ≤ k.width) × (k.width ≤ 255) × (k.size ≡ glyph_bytes k.height k.width)

psf2_known : (k : Fields) (f : Font) → psf2_shaped k ≡ Ok f → Psf2Known k f
unfolding psf2_shaped
psf2_known k f e =
    let a = passes _ _ _ f e in
    let b = passes _ _ _ f a.1 in
    let d = passes _ _ _ f b.1 in
    let g = passes _ _ _ f d.1 in
    let h = passes _ _ _ f g.1 in
    (cc h.1, ltb-false _ _ a.0, ltb-false _ _ b.0, ltb-false _ _ d.0, ltb-false _ _ g.0, eqb-true _ _ (not-false _ h.0))

-- vfont2
abbrev pub Vfont2Known : Fields → Font → Type 0
Vfont2Known k f = (vfont2_font k ≡ f) × (k.height ≤ 255) × (k.width ≤ 255)

vfont2_known : (k : Fields) (f : Font) → vfont2_shaped k ≡ Ok f → Vfont2Known k f
unfolding vfont2_shaped
vfont2_known k f e =
    let a = passes _ _ _ f e in
    let b = passes _ _ _ f a.1 in
    (cc b.1, ltb-false _ _ a.0, ltb-false _ _ b.0)

-- what a header said, by the kind of its magic
module _ (s : List ℕ) (f : Font) where
  abbrev pub Source : Kind → Type 0
  Source Psf1 = (kind_of s ≡ Some Psf1) × Psf1Known s f
  Source Psf2 = (kind_of s ≡ Some Psf2) × HeadKnown s × Psf2Known (fields_of s) f
  Source Vfont2 = (kind_of s ≡ Some Vfont2) × HeadKnown s × Vfont2Known (fields_of s) f

  on_fields_lem : (Known : Fields → Font → Type 0) (shaped : Fields → Result Font Refusal) → ((k : Fields) → shaped k ≡ Ok f → Known k f) →
      (x : Result Fields Refusal) → head_of s ≡ x → on_fields shaped x ≡ Ok f → HeadKnown s × Known (fields_of s) f
  on_fields_lem Known shaped known (Ok k) q e = let h = head_known s k q in (h.1, subst (λ (j : Fields). Known j f) (sym h.0) (known k e))
  on_fields_lem Known shaped known (Err r) q e = absurd (never r f e)

  by_named : (x : Option Kind) → kind_of s ≡ x → named_says s x ≡ Ok f → (k : Kind) × (f.kind ≡ k) × Source k
  by_named (Some Psf1) q e = let k = psf1_known s f e in (Psf1, sym (ap (λ (g : Font). g.kind) k.0), (q, k))
  by_named (Some Psf2) q e = let h = on_fields_lem Psf2Known psf2_shaped (λ k. psf2_known k f) (head_of s) refl e in (Psf2, sym (ap (λ (g : Font). g.kind) h.1.0), (q, h.0, h.1))
  by_named (Some Vfont2) q e = let h = on_fields_lem Vfont2Known vfont2_shaped (λ k. vfont2_known k f) (head_of s) refl e in (Vfont2, sym (ap (λ (g : Font). g.kind) h.1.0), (q, h.0, h.1))
  by_named None q e = absurd (never _ f e)

  pub source : (k : Kind) → f.kind ≡ k → says_of s ≡ Ok f → Source k
  unfolding says_of
  source k p e = let n = by_named (kind_of s) refl e in subst Source (sym n.1 ∙ p) n.2

-- the bounds of its numbers
few : (mode : ℕ) → (1 ≤ psf1_count mode) × (psf1_count mode ≤ 512)
unfolding psf1_count
few mode = go (eqb (mode % 2) 1)
  where
    go : (t : Bool) → (1 ≤ pick t 512 256) × (pick t 512 256 ≤ 512)
    go true = omega arith
    go false = omega arith

pub eight : (b : ℕ) → b ≡ glyph_bytes b 8
unfolding glyph_bytes
eight b = omega arith

module _ (s : List ℕ) (f : Font) (byte : get_or s 3 0 < 256) where
  by_kind : (k : Kind) → Source s f k → Described f
  by_kind Psf1 (q, (e, l, m, z)) =
      let n = few (get_or s 2 0) in
      subst Described e (n.0, omega arith, omega arith, omega arith, omega arith, omega arith, (refl, eight (get_or s 3 0)))
  by_kind Psf2 (q, h, (e, a, b, c, d, z)) =
      let some : le32 s 16 ≡ 0 → ⊥ = h.5 in
      subst Described e (omega arith, h.6, b, d, omega arith, omega arith, (refl, z))
  by_kind Vfont2 (q, h, (e, a, b)) =
      let some : le32 s 16 ≡ 0 → ⊥ = h.5 in
      subst Described e (omega arith, h.6, a, b, omega arith, omega arith, (refl, refl))

  pub described : says_of s ≡ Ok f → Described f
  described e = by_kind f.kind (source s f f.kind refl e)
