-- A PSF1 or PSF2 file whose header has no extra bytes is what is written of its own parts; a PSF1 file of any mode is so but for the mode.
use mathlib.Core.Path.{◌≡◌, refl, sym, ◌∙◌, ap, subst}
use mathlib.Core.Logic.{◌⊎◌, inl, inr}
use mathlib.Core.List.{List, [], ◌∷◌, ◌++◌, append_assoc, append-nil}
use Prim.Native.Nat.{ℕ, ◌+◌, ◌*◌}
use native.Mathlib.Omega.{arith}
use lib.ListN.{get_or, take, drop, take-append-drop}
use lib.Seq.{drop-drop}
use Rattle.base.specs.Meaning.{Bytes}
use Rattle.header.specs.declared.Kind.{Kind}
use Rattle.header.specs.declared.Kind.TheVariants.{Psf1, Psf2, Vfont2}
use Rattle.header.specs.declared.Font.{Font}
use Rattle.header.specs.Meaning.{char_size, magic_of, header_len}
use Rattle.header.specs.Reading.{mode_of, header_bytes}
use Rattle.header.specs.Bounds.{Even}
use Rattle.header.proofs.Known.{source}
use Rattle.layout.specs.Reading.{font_bytes, kind_glyphs, glyphs_in}
use Rattle.layout.proofs.Parts.{glyphs_of}
use Rattle.stages.specs.Meaning.{tail_of}
use Rattle.stages.specs.Reading.{check_of}
use Rattle.content.specs.Meaning.{Plain}
use Rattle.content.proofs.Magic.{magic_begins}
use Rattle.content.proofs.Headers.{psf1_head, header_self}
use Rattle.content.proofs.Source.{is_kind, says_font}
use Rattle.std.specs.Prelude.{Ok}

-- three parts, end to end
three_parts : (s : List ℕ) (a m : ℕ) → s ≡ take a s ++ take m (drop a s) ++ drop (a + m) s
three_parts s a m =
    sym (append_assoc (take a s) (take m (drop a s)) (drop (a + m) s)
    ∙ ap (λ (x : List ℕ). take a s ++ x) (ap (λ (x : List ℕ). take m (drop a s) ++ x) (sym (drop-drop m a s)) ∙ take-append-drop m (drop a s))
    ∙ take-append-drop a s)

-- a kind that has no dispatch table
abbrev pub Bare : Kind → Type 0
Bare k = (k ≡ Psf1) ⊎ (k ≡ Psf2)

module _ (s : List ℕ) (f : Font) (y : Bytes s) (e : check_of s ≡ Ok f) (xs : List ℕ) where
  abbrev SelfOf : Kind → Type 0
  SelfOf k = s ≡ font_bytes k f.table f.count (char_size f) f.height f.width xs (glyphs_in s f) (tail_of s f)

  -- from a header, behind which the bitmaps stand
  joined : (k : Kind) (hd : List ℕ) (a : ℕ) → f.bitmaps ≡ a → Even f → take a s ≡ hd → kind_glyphs s f k ≡ take (f.count * f.size) (drop f.bitmaps s) → f.kind ≡ k →
      s ≡ hd ++ [] ++ glyphs_in s f ++ tail_of s f
  joined k hd a eb ev eh eg q =
      let m = f.count * f.size in
      let g : take m (drop a s) ≡ glyphs_in s f = ap (λ (x : ℕ). take m (drop x s)) (sym eb) ∙ sym eg ∙ glyphs_of s f k q in
      let z : a + m ≡ f.end = ap (λ (x : ℕ). x + m) (sym eb) ∙ sym ev.0 in
      three_parts s a m ∙ (λ i. (eh ∙ sym (append-nil hd)) i ++ g i ++ drop (z i) s)

  self_of : (k : Kind) → f.kind ≡ k → Bare k → Plain s k → SelfOf k
  unfolding font_bytes
  self_of Psf1 q b p =
      let v : Even f = is_kind s f y e Psf1 q in
      let r = source s f Psf1 q (says_font s f y e) in
      let h = subst (λ (j : Kind). Plain s j → take (header_len j) s ≡ header_bytes j f.table f.count f.size f.height f.width) q (header_self s f y (says_font s f y e)) p in
      joined Psf1 (header_bytes Psf1 f.table f.count (char_size f) f.height f.width) 4 (sym (ap (λ (g : Font). g.bitmaps) r.1.0)) v
      (h ∙ ap (λ (z : ℕ). header_bytes Psf1 f.table f.count z f.height f.width) v.1) refl q
  self_of Psf2 q b p =
      let v : Even f = is_kind s f y e Psf2 q in
      let r = source s f Psf2 q (says_font s f y e) in
      let h = subst (λ (j : Kind). Plain s j → take (header_len j) s ≡ header_bytes j f.table f.count f.size f.height f.width) q (header_self s f y (says_font s f y e)) p in
      joined Psf2 (header_bytes Psf2 f.table f.count (char_size f) f.height f.width) 32 (sym (ap (λ (g : Font). g.bitmaps) r.2.0) ∙ p) v
      (h ∙ ap (λ (z : ℕ). header_bytes Psf2 f.table f.count z f.height f.width) v.1) refl q
  self_of Vfont2 q (inl b) p = absurd (other b)
    where
      other : Vfont2 ≡ Psf1 → ⊥
      other b = let z : ◌≡◌ {A = ℕ} 0 1 = cc in omega arith
  self_of Vfont2 q (inr b) p = absurd (other b)
    where
      other : Vfont2 ≡ Psf2 → ⊥
      other b = let z : ◌≡◌ {A = ℕ} 0 1 = cc in omega arith

  -- the file is its own parts, whatever the addresses, of which it has none
  pub self : Bare f.kind → Plain s f.kind → s ≡ font_bytes f.kind f.table f.count (char_size f) f.height f.width xs (glyphs_in s f) (tail_of s f)
  self b p = self_of f.kind refl b p

  -- a PSF1 file's own parts written as PSF1: its bytes, with the mode that is written of its count and its table
  pub psf1_self : f.kind ≡ Psf1 →
      font_bytes Psf1 f.table f.count (char_size f) f.height f.width xs (glyphs_in s f) (tail_of s f) ≡ take 2 s ++ (mode_of f.count f.table ∷ drop 3 s)
  unfolding font_bytes header_bytes
  psf1_self q =
      let r = source s f Psf1 q (says_font s f y e) in
      let h = get_or s 3 0 in
      let hd = magic_of Psf1 ++ (get_or s 2 0 ∷ h ∷ []) in
      let eh : f.height ≡ h = sym (ap (λ (g : Font). g.height) r.1.0) in
      let p : s ≡ hd ++ [] ++ glyphs_in s f ++ tail_of s f = joined Psf1 hd 4 (sym (ap (λ (g : Font). g.bitmaps) r.1.0)) (is_kind s f y e Psf1 q)
      (psf1_head s r.1.1 (magic_begins s Psf1 r.0)) refl q in
      (λ i. magic_of Psf1 ++ (mode_of f.count f.table ∷ eh i ∷ []) ++ [] ++ glyphs_in s f ++ tail_of s f)
      ∙ sym (ap (λ (x : List ℕ). take 2 x ++ (mode_of f.count f.table ∷ drop 3 x)) p)
