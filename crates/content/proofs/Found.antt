-- What the bitmap questions find in an accepted font is where a glyph's bitmap stands, or that there is none.
use mathlib.Core.Path.{◌≡◌, refl, sym, ◌∙◌, ap, subst}
use mathlib.Core.List.{List}
use mathlib.Core.Option.{none, some}
use Prim.Native.Nat.{ℕ, ◌<◌}
use native.Mathlib.Omega.{arith}
use Rattle.base.specs.Meaning.{Bytes}
use Rattle.refusal.specs.Meaning.{refusal}
use Rattle.refusal.specs.declared.Reason.TheVariants.{NoGlyph as None}
use Rattle.header.specs.declared.Kind.{Kind}
use Rattle.header.specs.declared.Kind.TheVariants.{Psf1, Psf2, Vfont2}
use Rattle.header.specs.declared.Font.{Font}
use Rattle.header.specs.Meaning.{glyph_bytes}
use Rattle.entries.specs.declared.Entry.TheVariants.{Glyph}
use Rattle.entries.specs.Meaning.{entry_at, rows_at, cols_at, HasGlyph, Breaks}
use Rattle.entries.specs.Reading.{entry_of}
use Rattle.entries.proofs.Cases as cases
use Rattle.entries.proofs.Meaning.{keeps_rules}
use Rattle.bitmap.specs.Reading.{entry_located, kind_bitmap, bitmap_of, metrics_of, pixel_of}
use Rattle.bitmap.proofs.Places.{known, pixel_in}
use Rattle.stages.specs.Reading.{check_of}
use Rattle.content.specs.Meaning.{Drawing, Content, bitmap_in, NoGlyph, Draws, HasContent}
use Rattle.content.proofs.Source.{is_placed, unbroken}
use Rattle.std.specs.Prelude.{Result, Ok, Err}
use Rattle.bitmap.specs.declared.Bitmap.{Bitmap}
use Rattle.refusal.specs.declared.Refusal.{Refusal}

-- an entry that breaks no rule and has a glyph
entry_found : (s : List ℕ) (total at : ℕ) → (Breaks s total at → ⊥) → HasGlyph s at → entry_of s total at ≡ Glyph (rows_at s at) (cols_at s at)
unfolding glyph_bytes
entry_found s total at b h = let r = keeps_rules s total at b h in sym (cases.glyph s total at ((((h, r.0.0, r.0.1), r.1.0, r.1.1), r.2), r.3))

module _ (s : List ℕ) (f : Font) (y : Bytes s) (e : check_of s ≡ Ok f) (g : ℕ) (l : g < f.count) where
  found_of : (k : Kind) → f.kind ≡ k → (NoGlyph s f g k → ⊥) → kind_bitmap s f g k ≡ Ok (bitmap_in s f g k)
  found_of Psf1 q n = refl
  found_of Psf2 q n = refl
  found_of Vfont2 q n =
      let at = entry_at f.entries g in
      ap (entry_located s f g at) (entry_found s f.size at (unbroken s f y e q g l) n)

  none_of : (k : Kind) → NoGlyph s f g k → kind_bitmap s f g k ≡ Err (refusal None 0)
  none_of Psf1 n = absurd n
  none_of Psf2 n = absurd n
  none_of Vfont2 n = let at = entry_at f.entries g in ap (entry_located s f g at) (sym (cases.empty s f.size at n))

  -- a glyph is found where its bitmap stands
  pub glyph_found : (NoGlyph s f g f.kind → ⊥) → bitmap_of s f g ≡ Ok (bitmap_in s f g f.kind)
  glyph_found n = sym (known s f g (is_placed s f y e) l f.kind refl) ∙ found_of f.kind refl n

  -- or NO GLYPH is said
  pub glyph_missing : NoGlyph s f g f.kind → bitmap_of s f g ≡ Err (refusal None 0)
  glyph_missing n = sym (known s f g (is_placed s f y e) l f.kind refl) ∙ none_of f.kind n

-- what the questions say of a glyph of a file that has a content
module _ (s : List ℕ) (y : Bytes s) (m : Content) (c : HasContent s m) (g : ℕ) (l : g < m.count) where
  below_count : g < c.font.count
  below_count = omega (arith, l, c.count)

  -- NO GLYPH, where its content has none
  pub none_said : m.glyph g ≡ none → bitmap_of s c.font g ≡ Err (refusal None 0)
  none_said q = glyph_missing s c.font y c.sound g below_count (subst (Draws s c.font g) q (c.glyphs g l))

  module _ (d : Drawing) (q : m.glyph g ≡ some d) where
    drawn : Draws s c.font g (some d)
    drawn = subst (Draws s c.font g) q (c.glyphs g l)

    found : bitmap_of s c.font g ≡ Ok (bitmap_in s c.font g c.font.kind)
    found = glyph_found s c.font y c.sound g below_count drawn.0

    -- its metrics
    pub metrics_said : metrics_of s c.font g (bitmap_of s c.font g) ≡ Ok d.metrics
    metrics_said = ap (metrics_of s c.font g) found ∙ ap Ok drawn.1

    -- each of its pixels
    pub pixel_said : (i j : ℕ) → i < d.rows → j < d.columns → pixel_of s (bitmap_of s c.font g) i j ≡ Ok (d.pixel i j)
    pixel_said i j li lj =
        let p = drawn in
        ap (λ (b : Result Bitmap Refusal). pixel_of s b i j) found
        ∙ pixel_in s (bitmap_in s c.font g c.font.kind) i j (omega (arith, li, p.2)) (omega (arith, lj, p.3)) ∙ ap Ok (p.4 i j li lj)
