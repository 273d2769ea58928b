-- How one glyph of two fonts differs: what the comparison of its metrics and pixels says of it, by what it is drawn as.
use mathlib.Core.Path.{◌≡◌, refl, sym, ◌∙◌, ap, subst}
use mathlib.Core.Logic.{◌⊎◌, inl, inr}
use mathlib.Core.Bool.{Bool, true, false}
use mathlib.Core.Option.{Option, none, some}
use mathlib.Core.List.{List}
use Prim.Native.Nat.{ℕ, ◌+◌, ◌-◌, ◌*◌, ◌/◌, ◌%◌, ◌≤◌, ◌<◌}
use native.Mathlib.Omega.{arith}
use lib.Dec.{eqb}
use lib.IntN.{pos, negsuc}
use borrow.Author.Tests.{eq-eqb, ne_eqb}
use Rattle.std.specs.Ordering.{int_eq}
use Rattle.std.proofs.lemmas.Bool.Decides.{Decides-int_eq, not_from_Decides}
use lib.ListN.{get_or, drop}
use Rattle.base.specs.Meaning.{Bytes}
use Rattle.base.specs.Reading.{when}
use Rattle.base.proofs.Parts.{bytes_drop, bytes_take}
use Rattle.base.proofs.Tests.{below}
use Rattle.header.specs.declared.Font.{Font}
use Rattle.header.specs.Meaning.{row_bytes}
use Rattle.header.specs.Bounds.{Placed}
use Rattle.entries.specs.declared.Metrics.{Metrics}
use Rattle.entries.specs.Meaning.{signed16}
use Rattle.entries.proofs.Sums.{low, high}
use Rattle.bitmap.specs.declared.Bitmap.{Bitmap}
use Rattle.bitmap.specs.Meaning.{kind_metrics, bit_of, pixel_in}
use Rattle.bitmap.specs.Reading.{bitmap_of}
use Rattle.bitmap.specs.Bounds.{Inside, LocatedInside}
use Rattle.bitmap.proofs.Places.{located_inside}
use Rattle.pixels.specs.Reading.{pixel_at, same_pixels}
use Rattle.pixels.proofs.Meaning.{same_all, differ_some}
use Rattle.glyphs.specs.Reading.{equal_metrics, bytes_of, pixel_kind, glyph_kind}
use Rattle.glyphs.proofs.Metrics.{equal_exactly}
use Rattle.glyphs.proofs.Cases.{same_sizes, other_metrics, same_metrics, glyph_kind_lem}
use Rattle.stages.specs.Reading.{check_of}
use Rattle.content.specs.Meaning.{Drawing, bitmap_in, Draws, SameDrawing}
use Rattle.content.proofs.Found.{glyph_found, glyph_missing}
use Rattle.content.proofs.Same.{pixel_within}
use Rattle.content.proofs.Source.{is_placed}
use Rattle.content.proofs.Stretches.{byte_of_part}
use Rattle.laws.specs.Meaning.{OtherMetrics, OtherPixels}
use Rattle.std.specs.Prelude.{Ok}

-- a signed number of 16 bits has one number of two bytes
pub signed_same : (x y : ℕ) → x < 65536 → y < 65536 → signed16 x ≡ signed16 y → x ≡ y
signed_same x y bx by e = go (below x 32768) (below y 32768)
  where
    go : (x < 32768) ⊎ (32768 ≤ x) → (y < 32768) ⊎ (32768 ≤ y) → x ≡ y
    go (inl a) (inl b) = let q : pos x ≡ pos y = sym (low x a) ∙ e ∙ low y b in cc
    go (inl a) (inr b) = let q : pos x ≡ negsuc (65535 - y) = sym (low x a) ∙ e ∙ high y b by in let z : ◌≡◌ {A = ℕ} 0 1 = cc in absurd (omega arith)
    go (inr a) (inl b) = let q : negsuc (65535 - x) ≡ pos y = sym (high x a bx) ∙ e ∙ low y b in let z : ◌≡◌ {A = ℕ} 0 1 = cc in absurd (omega arith)
    go (inr a) (inr b) = let q : negsuc (65535 - x) ≡ negsuc (65535 - y) = sym (high x a bx) ∙ e ∙ high y b by in let z : 65535 - x ≡ 65535 - y = cc in omega arith

-- so metrics are the same exactly where the numbers of their entries are
pub signed_agree : (x y : ℕ) → x < 65536 → y < 65536 → int_eq (signed16 x) (signed16 y) ≡ eqb x y
signed_agree x y bx by = go (int_eq (signed16 x) (signed16 y)) refl
  where
    go : (t : Bool) → int_eq (signed16 x) (signed16 y) ≡ t → t ≡ eqb x y
    go true q = sym (eq-eqb x y (signed_same x y bx by ((Decides-int_eq (signed16 x) (signed16 y)).0 q)))
    go false q = sym (ne_eqb x y (λ e. not_from_Decides _ (Decides-int_eq (signed16 x) (signed16 y)) q (ap signed16 e)))

-- a pixel of a bitmap in its file is one of its bytes
pixel_there : (s : List ℕ) (b : Bitmap) (w : ℕ) → Inside s b → b.width ≡ w → (y x : ℕ) → y < b.height → x < b.width → pixel_at (bytes_of s b) w y x ≡ pixel_in s b y x
pixel_there s b w i e y x ly lx =
    ap (λ (v : ℕ). pixel_at (bytes_of s b) v y x) (sym e)
    ∙ ap (λ (v : ℕ). bit_of v (x % 8))
    (byte_of_part b.len b.start (y * row_bytes b.width + x / 8) s (omega (arith, pixel_within b.height b.width y x ly lx, i.1)) ∙ ap (λ (v : ℕ). get_or s v 0) (assoc b.start (y * row_bytes b.width) (x / 8)))
  where
    assoc : (k l n : ℕ) → k + (l + n) ≡ k + l + n
    assoc k l n = omega arith

bytes_of_bitmap : (s : List ℕ) (b : Bitmap) → Bytes s → Bytes (bytes_of s b)
bytes_of_bitmap s b y = bytes_take b.len (drop b.start s) (bytes_drop b.start s y)

-- what a kind says of a glyph that is drawn so in one font and so in the other
pub data Compares (k : ℕ) (x z : Option Drawing) : Type 0 where
  alike : k ≡ 0 → SameDrawing x z → Compares k x z
  by_metrics : k ≡ 3 → OtherMetrics x z → Compares k x z
  by_pixels : k ≡ 4 → OtherPixels x z → Compares k x z

-- two sound fonts that both have glyph g
module _ (s : List ℕ) (f : Font) (ys : Bytes s) (es : check_of s ≡ Ok f) (o : List ℕ) (h : Font) (yo : Bytes o) (eo : check_of o ≡ Ok h) (g : ℕ) (ls : g < f.count) (lo : g < h.count) where
  ps : Placed s f
  ps = is_placed s f ys es

  po : Placed o h
  po = is_placed o h yo eo

  abbrev p : Bitmap
  p = bitmap_in s f g f.kind

  abbrev q : Bitmap
  q = bitmap_in o h g h.kind

  -- both draw it
  module _ (d e : Drawing) (a : Draws s f g (some d)) (b : Draws o h g (some e)) where
    found_p : bitmap_of s f g ≡ Ok p
    found_p = glyph_found s f ys es g ls a.0

    found_q : bitmap_of o h g ≡ Ok q
    found_q = glyph_found o h yo eo g lo b.0

    inside_p : Inside s p
    inside_p = subst (LocatedInside s) found_p (located_inside s f g ps ls)

    inside_q : Inside o q
    inside_q = subst (LocatedInside o) found_q (located_inside o h g po lo)

    abbrev v : Metrics
    v = kind_metrics s f g f.kind

    abbrev w : Metrics
    w = kind_metrics o h g h.kind

    -- metrics
    agree : equal_metrics v w ≡ true → d.metrics ≡ e.metrics
    agree t = sym a.1 ∙ (equal_exactly v w).0 t ∙ b.1

    disagree : equal_metrics v w ≡ false → d.metrics ≡ e.metrics → ⊥
    disagree t m =
        let r : false ≡ true = sym t ∙ (equal_exactly v w).1 (a.1 ∙ m ∙ sym b.1) in
        let n : ◌≡◌ {A = ℕ} 0 1 = cc in
        omega arith

    -- pixels, where the metrics agree
    module _ (t : equal_metrics v w ≡ true) where
      sizes : (p.height ≡ q.height) × (p.width ≡ q.width)
      sizes = same_sizes s f o h g p q v w refl refl ps po ls lo found_p found_q t

      here : (y x : ℕ) → y < d.rows → x < d.columns → pixel_at (bytes_of s p) p.width y x ≡ d.pixel y x
      here y x ly lx = pixel_there s p p.width inside_p refl y x (omega (arith, ly, a.2)) (omega (arith, lx, a.3)) ∙ a.4 y x ly lx

      rows_same : d.rows ≡ e.rows
      rows_same = sym a.2 ∙ sizes.0 ∙ b.2

      columns_same : d.columns ≡ e.columns
      columns_same = sym a.3 ∙ sizes.1 ∙ b.3

      there : (y x : ℕ) → y < d.rows → x < d.columns → pixel_at (bytes_of o q) p.width y x ≡ e.pixel y x
      there y x ly lx =
          pixel_there o q p.width inside_q (sym sizes.1) y x (omega (arith, ly, rows_same, b.2)) (omega (arith, lx, columns_same, b.3))
          ∙ b.4 y x (omega (arith, ly, rows_same)) (omega (arith, lx, columns_same))

      by_bytes : (u : Bool) → same_pixels (bytes_of s p) (bytes_of o q) p.height p.width ≡ u → Compares (pixel_kind s p o q) (some d) (some e)
      unfolding pixel_kind when
      by_bytes true z =
          alike (rw z) (
            agree t,
            rows_same,
            columns_same,
            λ y x ly lx. sym (here y x ly lx) ∙ same_all (bytes_of s p) (bytes_of o q) p.height p.width z y x (omega (arith, ly, a.2)) (omega (arith, lx, a.3)) ∙ there y x ly lx,
          )
      by_bytes false z =
          let n = differ_some (bytes_of s p) (bytes_of o q) (bytes_of_bitmap s p ys) (bytes_of_bitmap o q yo) p.height p.width z in
          let ly : n.0 < d.rows = omega (arith, n.2, a.2) in
          let lx : n.1 < d.columns = omega (arith, n.3, a.3) in
          by_pixels (rw z) (agree t, (n.0, n.1, ly, lx, λ m. n.4 (here n.0 n.1 ly lx ∙ m ∙ sym (there n.0 n.1 ly lx))))

    by_equal : (t : Bool) → equal_metrics v w ≡ t → Compares (glyph_kind s f o h g) (some d) (some e)
    by_equal true t =
        subst (λ (k : ℕ). Compares k (some d) (some e))
        (glyph_kind_lem s f o h g (pixel_kind s p o q) _ _ found_p found_q (same_metrics s f o h g p q v w refl refl (pixel_kind s p o q) t refl))
        (by_bytes t (same_pixels (bytes_of s p) (bytes_of o q) p.height p.width) refl)
    by_equal false t =
        by_metrics (sym (glyph_kind_lem s f o h g 3 _ _ found_p found_q (other_metrics s f o h g p q v w refl refl t))) (disagree t)

    both_drawn : Compares (glyph_kind s f o h g) (some d) (some e)
    both_drawn = by_equal (equal_metrics v w) refl

  -- whatever they draw
  pub compared : (x z : Option Drawing) → Draws s f g x → Draws o h g z → Compares (glyph_kind s f o h g) x z
  compared none none a b = alike (sym (glyph_kind_lem s f o h g 0 _ _ (glyph_missing s f ys es g ls a) (glyph_missing o h yo eo g lo b) refl)) tt
  compared none (some e) a b = by_metrics (sym (glyph_kind_lem s f o h g 3 _ _ (glyph_missing s f ys es g ls a) (glyph_found o h yo eo g lo b.0) refl)) tt
  compared (some d) none a b = by_metrics (sym (glyph_kind_lem s f o h g 3 _ _ (glyph_found s f ys es g ls a.0) (glyph_missing o h yo eo g lo b) refl)) tt
  compared (some d) (some e) a b = both_drawn d e a b
