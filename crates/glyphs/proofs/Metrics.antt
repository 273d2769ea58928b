-- The metrics of a glyph: whether two glyphs have the same, and the rows and columns that they give.
use mathlib.Core.Path.{◌≡◌, refl, sym, ◌∙◌, ap}
use mathlib.Core.Bool.{true}
use mathlib.Core.List.{List}
use Prim.Native.Nat.{ℕ, ◌<◌}
use native.Mathlib.Omega.{arith}
use lib.IntN.{ℤ, ◌+ℤ◌}
use mathlib.Core.Logic.{◌↔◌}
use Rattle.std.specs.Ordering.{int_eq}
use Rattle.std.proofs.lemmas.Bool.Decides.{Decides-and, Decides-int_eq}
use Rattle.header.specs.declared.Kind.{Kind}
use Rattle.header.specs.declared.Kind.TheVariants.{Psf1, Psf2, Vfont2}
use Rattle.header.specs.declared.Font.{Font}
use Rattle.header.specs.Bounds.{Placed}
use Rattle.entries.specs.declared.Entry.{Entry}
use Rattle.entries.specs.declared.Entry.TheVariants.{Empty, Glyph, Broken}
use Rattle.entries.specs.declared.Metrics.{Metrics}
use Rattle.entries.specs.Meaning.{count_of, metrics_at, entry_at, rows_at, cols_at}
use Rattle.entries.specs.Reading.{entry_of}
use Rattle.entries.proofs.Inverse.{keeps}
use Rattle.bitmap.specs.declared.Bitmap.{Bitmap}
use Rattle.bitmap.specs.Reading.{entry_located, kind_bitmap, bitmap_of}
use Rattle.bitmap.proofs.Places.{known}
use Rattle.bitmap.specs.Meaning.{even_metrics, kind_metrics}
use Rattle.glyphs.specs.Reading.{equal_metrics}
use Rattle.refusal.specs.declared.Refusal.{Refusal}
use Rattle.std.specs.Prelude.{Result, Ok}

-- the test says that all five are the same, and says so wherever they are
pub equal_exactly : (a b : Metrics) → (equal_metrics a b ≡ true) ↔ (a ≡ b)
unfolding equal_metrics
equal_exactly a b = (
  λ e. let p = all.0 e in λ i. record { up = p.0 i; down = p.1.0 i; left = p.1.1.0 i; right = p.1.1.1.0 i; logical = p.1.1.1.1 i },
  λ e. all.1 (ap (λ (m : Metrics). m.up) e, (ap (λ (m : Metrics). m.down) e, (ap (λ (m : Metrics). m.left) e, (ap (λ (m : Metrics). m.right) e, ap (λ (m : Metrics). m.logical) e)))),
)
  where
    each : (x y : ℤ) → (int_eq x y ≡ true) ↔ (x ≡ y)
    each = Decides-int_eq

    all : (equal_metrics a b ≡ true) ↔ ((a.up ≡ b.up) × ((a.down ≡ b.down) × ((a.left ≡ b.left) × ((a.right ≡ b.right) × (a.logical ≡ b.logical)))))
    all = Decides-and _ _ (each a.up b.up) (Decides-and _ _ (each a.down b.down) (Decides-and _ _ (each a.left b.left) (Decides-and _ _ (each a.right b.right) (each a.logical b.logical))))

-- "The number of lines present in the bitmap is up+down. Similarly, the number of columns is left+right."
abbrev pub rows_of : Metrics → ℕ
rows_of m = count_of (m.up +ℤ m.down)

abbrev pub cols_of : Metrics → ℕ
cols_of m = count_of (m.left +ℤ m.right)

even_rows : (h w : ℕ) → h ≡ rows_of (even_metrics h w)
even_rows h w = omega arith

even_cols : (h w : ℕ) → w ≡ cols_of (even_metrics h w)
even_cols h w = omega arith

-- a bitmap that is located has the rows and columns of its glyph's metrics
module _ (s : List ℕ) (f : Font) (g : ℕ) (l : Placed s f) (b : g < f.count) where
  abbrev Sizes : Kind → Bitmap → Type 0
  Sizes k p = (p.height ≡ rows_of (kind_metrics s f g k)) × (p.width ≡ cols_of (kind_metrics s f g k))

  by_entry : (p : Bitmap) (x : Entry) → entry_of s f.size (entry_at f.entries g) ≡ x → entry_located s f g (entry_at f.entries g) x ≡ Ok p → Sizes Vfont2 p
  unfolding rows_at cols_at metrics_at
  by_entry p Empty q e = let z : ◌≡◌ {A = ℕ} 0 1 = cc in absurd (omega arith)
  by_entry p (Glyph r c) q e =
      let k = keeps s f.size (entry_at f.entries g) r c q in
      let er : p.height ≡ r = ap (λ (m : Bitmap). m.height) (found_is _ _ (sym e)) in
      let ec : p.width ≡ c = ap (λ (m : Bitmap). m.width) (found_is _ _ (sym e)) in
      (er ∙ k.1, ec ∙ k.2)
    where
      found_is : (u v : Bitmap) → ◌≡◌ {A = Result Bitmap Refusal} (Ok u) (Ok v) → u ≡ v
      found_is u v h = cc
  by_entry p Broken q e = let z : ◌≡◌ {A = ℕ} 0 1 = cc in absurd (omega arith)

  by_kind : (k : Kind) (p : Bitmap) → kind_bitmap s f g k ≡ Ok p → Sizes k p
  by_kind Psf1 p e = even p e
    where
      even : (p : Bitmap) → kind_bitmap s f g Psf1 ≡ Ok p → Sizes Psf1 p
      even p e = let q : p.height ≡ f.height = cc in let r : p.width ≡ f.width = cc in (q ∙ even_rows _ f.width, r ∙ even_cols f.height _)
  by_kind Psf2 p e = let q : p.height ≡ f.height = cc in let r : p.width ≡ f.width = cc in (q ∙ even_rows _ f.width, r ∙ even_cols f.height _)
  by_kind Vfont2 p e = by_entry p (entry_of s f.size (entry_at f.entries g)) refl e

  pub located_sizes : (p : Bitmap) → bitmap_of s f g ≡ Ok p → Sizes f.kind p
  located_sizes p e = by_kind f.kind p (known s f g l b f.kind refl ∙ e)
