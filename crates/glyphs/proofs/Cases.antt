-- How a glyph of two fonts differs, one law for each answer.
use mathlib.Core.Path.{◌≡◌, sym, ◌∙◌, ap}
use mathlib.Core.Bool.{Bool, true, false}
use mathlib.Core.List.{List}
use Prim.Native.Nat.{ℕ, ◌+◌, ◌-◌, ◌<◌}
use native.Mathlib.Omega.{arith}
use lib.ListN.{length, take, drop, length-drop}
use lib.Seq.{length-take-le}
use Rattle.base.specs.Reading.{when}
use Rattle.header.specs.declared.Font.{Font}
use Rattle.header.specs.Meaning.{glyph_bytes}
use Rattle.header.specs.Bounds.{Placed}
use Rattle.bitmap.specs.declared.Bitmap.{Bitmap}
use Rattle.bitmap.specs.Reading.{bitmap_of}
use Rattle.bitmap.specs.Bounds.{Inside}
use Rattle.pixels.specs.Reading.{same_pixels}
use Rattle.entries.specs.declared.Metrics.{Metrics}
use Rattle.bitmap.specs.Meaning.{kind_metrics}
use Rattle.glyphs.specs.Reading.{equal_metrics, bytes_of, pixel_kind, located_kind, glyph_kind}
use Rattle.glyphs.proofs.Metrics.{rows_of, cols_of, equal_exactly, located_sizes}
use Rattle.std.specs.Prelude.{Result, Ok}
use Rattle.refusal.specs.declared.Refusal.{Refusal}

-- a bitmap's bytes as the part from its start to its end
abbrev part_for : List ℕ → Bitmap → List ℕ
part_for s p = take (p.start + p.len - p.start) (drop p.start s)

part_is : (s : List ℕ) (p : Bitmap) → part_for s p ≡ bytes_of s p
part_is s p = let e : p.start + p.len - p.start ≡ p.len = omega arith in ap (λ (n : ℕ). take n (drop p.start s)) e

-- it has the bytes of its height and width
pub part_length : (s : List ℕ) (p : Bitmap) → Inside s p → length (part_for s p) ≡ glyph_bytes p.height p.width
part_length s p i =
    ap length (part_is s p) ∙ length-take-le p.len (drop p.start s) (omega (arith, i.0, length-drop p.start s)) ∙ i.1

-- the same pixels, or others
module _ (s : List ℕ) (p : Bitmap) (o : List ℕ) (q : Bitmap) (t : Bool) (r : t ≡ same_pixels (part_for s p) (part_for o q) p.height p.width) where
  read : same_pixels (bytes_of s p) (bytes_of o q) p.height p.width ≡ t
  read = (λ i. same_pixels (sym (part_is s p) i) (sym (part_is o q) i) p.height p.width) ∙ sym r

  pub no_pixel : t ≡ true → 0 ≡ pixel_kind s p o q
  unfolding pixel_kind when
  no_pixel e = let z = read ∙ e in rw z

  pub some_pixel : t ≡ false → 4 ≡ pixel_kind s p o q
  unfolding pixel_kind when
  some_pixel e = let z = read ∙ e in rw z

-- a glyph that both fonts draw
module _ (s : List ℕ) (f : Font) (o : List ℕ) (h : Font) (g : ℕ) (p q : Bitmap) (v w : Metrics) (ev : v ≡ kind_metrics s f g f.kind) (ew : w ≡ kind_metrics o h g h.kind) where
  known_metrics : equal_metrics v w ≡ equal_metrics (kind_metrics s f g f.kind) (kind_metrics o h g h.kind)
  known_metrics = λ i. equal_metrics (ev i) (ew i)

  pub other_metrics : equal_metrics v w ≡ false → 3 ≡ located_kind s f o h g (Ok p) (Ok q)
  unfolding when
  other_metrics e = let z = sym known_metrics ∙ e in rw z

  pub same_metrics : (k : ℕ) → equal_metrics v w ≡ true → k ≡ pixel_kind s p o q → k ≡ located_kind s f o h g (Ok p) (Ok q)
  unfolding when
  same_metrics k e r = let z = sym known_metrics ∙ e in rw z r

  -- with the same metrics it has the same rows and columns
  pub same_sizes : Placed s f → Placed o h → g < f.count → g < h.count → bitmap_of s f g ≡ Ok p → bitmap_of o h g ≡ Ok q → equal_metrics v w ≡ true →
      (p.height ≡ q.height) × (p.width ≡ q.width)
  same_sizes ls lo bs bo ep eq e =
      let m = located_sizes s f g ls bs p ep in
      let n = located_sizes o h g lo bo q eq in
      let z : kind_metrics s f g f.kind ≡ kind_metrics o h g h.kind = sym ev ∙ (equal_exactly v w).0 e ∙ ew in
      (m.0 ∙ ap rows_of z ∙ sym n.0, m.1 ∙ ap cols_of z ∙ sym n.1)

-- what was located
pub glyph_kind_lem : (s : List ℕ) (f : Font) (o : List ℕ) (h : Font) (g k : ℕ) (x y : Result Bitmap Refusal) → bitmap_of s f g ≡ x → bitmap_of o h g ≡ y → k ≡ located_kind s f o h g x y → k ≡ glyph_kind s f o h g
unfolding glyph_kind
glyph_kind_lem s f o h g k x y p q e = e ∙ λ i. located_kind s f o h g (sym p i) (sym q i)
