-- What the comparison of two bitmaps says: they are the same exactly where each pixel of one is that of the other.
use mathlib.Core.Path.{◌≡◌, refl, sym, ◌∙◌, ap, subst}
use mathlib.Core.Bool.{Bool, true, false}
use mathlib.Core.Logic.{◌⊎◌, inl, inr}
use mathlib.Core.List.{List}
use Prim.Native.Nat.{ℕ, zero, suc, ◌+◌, ◌-◌, ◌*◌, ◌/◌, ◌%◌, ◌^◌, ◌≤◌, ◌<◌}
use native.Mathlib.Omega.{arith}
use native.Mathlib.Nat.{suc-mul, mul-zero, mul-le-mul_right, mod-lt, div-add-mod', div-lt_iff_lt-mul}
use lib.Dec.{eqb}
use lib.ListN.{get_or}
use borrow.Author.Tests.{eqb-true, eqb-false}
use Rattle.base.specs.Meaning.{Bytes}
use Rattle.base.specs.Reading.{when}
use Rattle.base.proofs.Parts.{byte_at}
use Rattle.base.proofs.Tests.{below, same}
use Rattle.header.specs.Meaning.{row_bytes, glyph_bytes}
use Rattle.bitmap.specs.Meaning.{bit_of}
use Rattle.pixels.specs.Reading.{pixel_at, same_bytes, same_rows, same_pixels}
use Rattle.pixels.proofs.Bits.{top_bits, other_bit, byte_bit}
use Rattle.pixels.proofs.Turns.{by_bytes, by_rows, row_length}

-- an answer is not both
not_both : (t : Bool) → t ≡ true → t ≡ false → ⊥
not_both true e f = let z : ◌≡◌ {A = ℕ} 0 1 = cc in absurd (omega arith)
not_both false e f = let z : ◌≡◌ {A = ℕ} 0 1 = cc in absurd (omega arith)

-- two lists of bytes
module _ (p q : List ℕ) where
  -- bytes that are said to be the same are
  bytes_same : (at n : ℕ) → same_bytes p q at n ≡ true → (i : ℕ) → at ≤ i → i < at + n → get_or p i 0 ≡ get_or q i 0
  unfolding same_bytes when
  bytes_same at zero e i h l = absurd (omega arith)
  bytes_same at (suc n) e i h l = go (eqb (get_or p at 0) (get_or q at 0)) refl e (same at i) (bytes_same (suc at) n)
    where
      go : (t : Bool) → eqb (get_or p at 0) (get_or q at 0) ≡ t → when t (same_bytes p q (suc at) n) false ≡ true → (at ≡ i) ⊎ (at ≡ i → ⊥) →
          (same_bytes p q (suc at) n ≡ true → (i : ℕ) → suc at ≤ i → i < suc at + n → get_or p i 0 ≡ get_or q i 0) → get_or p i 0 ≡ get_or q i 0
      go true b e (inl z) f = subst (λ (m : ℕ). get_or p m 0 ≡ get_or q m 0) z (eqb-true _ _ b)
      go true b e (inr z) f = f e i (omega arith) (omega arith)
      go false b e z f = absurd (not_both false e refl)

  -- where bytes are said to differ, one does
  bytes_differ : (at n : ℕ) → same_bytes p q at n ≡ false → (i : ℕ) × (at ≤ i) × (i < at + n) × (get_or p i 0 ≡ get_or q i 0 → ⊥)
  unfolding same_bytes when
  bytes_differ at zero e = absurd (not_both true refl e)
  bytes_differ at (suc n) e = go (eqb (get_or p at 0) (get_or q at 0)) refl e (bytes_differ (suc at) n)
    where
      go : (t : Bool) → eqb (get_or p at 0) (get_or q at 0) ≡ t → when t (same_bytes p q (suc at) n) false ≡ false →
          (same_bytes p q (suc at) n ≡ false → (i : ℕ) × (suc at ≤ i) × (i < suc at + n) × (get_or p i 0 ≡ get_or q i 0 → ⊥)) →
          (i : ℕ) × (at ≤ i) × (i < at + suc n) × (get_or p i 0 ≡ get_or q i 0 → ⊥)
      go true b e f = let t = f e in (t.0, omega (arith, t.1), omega (arith, t.2), t.3)
      go false b e f = (at, omega arith, omega arith, eqb-false _ _ b)

  -- rows of k whole bytes and a last byte with fillers
  module _ (k fillers : ℕ) where
    -- the row at an offset is the same: its whole bytes, and its last byte without the fillers
    abbrev RowSame : ℕ → Type 0
    RowSame s = ((j : ℕ) → j < k → get_or p (s + j) 0 ≡ get_or q (s + j) 0) × (get_or p (s + k) 0 / 2 ^ fillers ≡ get_or q (s + k) 0 / 2 ^ fillers)

    -- it differs: in a whole byte, or in its last byte without the fillers
    abbrev RowDiffers : ℕ → Type 0
    RowDiffers s = ((j : ℕ) × (j < k) × (get_or p (s + j) 0 ≡ get_or q (s + j) 0 → ⊥)) ⊎ (get_or p (s + k) 0 / 2 ^ fillers ≡ get_or q (s + k) 0 / 2 ^ fillers → ⊥)

    -- where the row after stands
    row_after : (at y : ℕ) → at + k + 1 + y * (k + 1) ≡ at + suc y * (k + 1)
    row_after at y = omega (arith, suc-mul y (k + 1))

    -- and where the first does
    row_first : (at : ℕ) → at ≡ at + 0 * (k + 1)
    row_first at = omega arith

    -- rows that are said to be the same are
    rows_same : (at n : ℕ) → same_rows p q k fillers at n ≡ true → (y : ℕ) → y < n → RowSame (at + y * (k + 1))
    unfolding same_rows when
    rows_same at zero e y l = absurd (omega arith)
    rows_same at (suc n) e y l = go (same_bytes p q at k) refl (eqb (get_or p (at + k) 0 / 2 ^ fillers) (get_or q (at + k) 0 / 2 ^ fillers)) refl e y l (rows_same (at + k + 1) n)
      where
        go : (t : Bool) → same_bytes p q at k ≡ t → (u : Bool) → eqb (get_or p (at + k) 0 / 2 ^ fillers) (get_or q (at + k) 0 / 2 ^ fillers) ≡ u →
            when t (when u (same_rows p q k fillers (at + k + 1) n) false) false ≡ true → (y : ℕ) → y < suc n →
            (same_rows p q k fillers (at + k + 1) n ≡ true → (y : ℕ) → y < n → RowSame (at + k + 1 + y * (k + 1))) → RowSame (at + y * (k + 1))
        go false b u d e y l f = absurd (not_both false e refl)
        go true b false d e y l f = absurd (not_both false e refl)
        go true b true d e zero l f =
            subst (λ (s : ℕ). RowSame s) (row_first at) ((λ j m. bytes_same at k b (at + j) (omega arith) (omega arith)), eqb-true _ _ d)
        go true b true d e (suc y) l f = subst (λ (s : ℕ). RowSame s) (row_after at y) (f e y (omega arith))

    -- where rows are said to differ, one does
    rows_differ : (at n : ℕ) → same_rows p q k fillers at n ≡ false → (y : ℕ) × (y < n) × RowDiffers (at + y * (k + 1))
    unfolding same_rows when
    rows_differ at zero e = absurd (not_both true refl e)
    rows_differ at (suc n) e = go (same_bytes p q at k) refl (eqb (get_or p (at + k) 0 / 2 ^ fillers) (get_or q (at + k) 0 / 2 ^ fillers)) refl e (rows_differ (at + k + 1) n)
      where
        first : RowDiffers at → (y : ℕ) × (y < suc n) × RowDiffers (at + y * (k + 1))
        first r = (0, omega arith, subst (λ (s : ℕ). RowDiffers s) (row_first at) r)

        in_row : (i : ℕ) × (at ≤ i) × (i < at + k) × (get_or p i 0 ≡ get_or q i 0 → ⊥) → RowDiffers at
        in_row (i, h, l, m) =
            let z : i ≡ at + (i - at) = omega arith in
            inl (i - at, omega arith, subst (λ (s : ℕ). get_or p s 0 ≡ get_or q s 0 → ⊥) z m)

        go : (t : Bool) → same_bytes p q at k ≡ t → (u : Bool) → eqb (get_or p (at + k) 0 / 2 ^ fillers) (get_or q (at + k) 0 / 2 ^ fillers) ≡ u →
            when t (when u (same_rows p q k fillers (at + k + 1) n) false) false ≡ false →
            (same_rows p q k fillers (at + k + 1) n ≡ false → (y : ℕ) × (y < n) × RowDiffers (at + k + 1 + y * (k + 1))) →
            (y : ℕ) × (y < suc n) × RowDiffers (at + y * (k + 1))
        go false b u d e f = first (in_row (bytes_differ at k b))
        go true b false d e f = first (inr (eqb-false _ _ d))
        go true b true d e f = let t = f e in (suc t.0, omega (arith, t.1), subst (λ (s : ℕ). RowDiffers s) (row_after at t.0) t.2)

-- the byte of a pixel is one of the bitmap's
pixel_within : (h w y x : ℕ) → y < h → x < w → y * row_bytes w + x / 8 < glyph_bytes h w
unfolding glyph_bytes
pixel_within h w y x ly lx =
    let e : x / 8 < (w + 7) / 8 = omega arith in
    let m = mul-le-mul_right {m = suc y} {n = h} (row_bytes w) ly in
    omega arith

-- the pixel of bit j of the byte i, which is byte c of row y
pixel_of_lem : (p : List ℕ) (w y c j i : ℕ) → j < 8 → y * row_bytes w + c ≡ i → pixel_at p w y (c * 8 + j) ≡ bit_of (get_or p i 0) j
pixel_of_lem p w y c j i l e =
    let a : (c * 8 + j) / 8 ≡ c = omega arith in
    let b : (c * 8 + j) % 8 ≡ j = omega arith in
    rw (a, b, e)

-- a bitmap's bytes are those of its rows
in_rows : (i h w : ℕ) → i < glyph_bytes h w → i < h * row_bytes w
unfolding glyph_bytes
in_rows i h w l = l

-- rows of a byte or more, where a bitmap has bytes
some_bytes : (i h r : ℕ) → i < h * r → 0 < r
some_bytes i h zero l = absurd (omega (arith, l, mul-zero h))
some_bytes i h (suc r) l = omega arith

-- the bytes of a bitmap's rows without fillers are all bits of its pixels
column_whole : (w c j : ℕ) → w % 8 ≡ 0 → c < row_bytes w → j < 8 → c * 8 + j < w
column_whole w c j e l m = omega arith

-- bitmaps that are said to be the same have the same pixels
pub same_all : (p q : List ℕ) (h w : ℕ) → same_pixels p q h w ≡ true → (y x : ℕ) → y < h → x < w → pixel_at p w y x ≡ pixel_at q w y x
same_all p q h w e y x ly lx = go (same (w % 8) 0)
  where
    in_row : (n : w % 8 ≡ 0 → ⊥) → RowSame p q (w / 8) (8 - w % 8) (0 + y * (w / 8 + 1)) → (x / 8 < w / 8) ⊎ (w / 8 ≤ x / 8) → pixel_at p w y x ≡ pixel_at q w y x
    in_row n r (inl l) =
        let z : 0 + y * (w / 8 + 1) + x / 8 ≡ y * row_bytes w + x / 8 = rw (row_length w n) (omega arith) in
        ap (λ (v : ℕ). bit_of v (x % 8)) (subst (λ (i : ℕ). get_or p i 0 ≡ get_or q i 0) z (r.0 (x / 8) l))
    in_row n r (inr l) =
        let c : w / 8 ≡ x / 8 = omega arith in
        let z : 0 + y * (w / 8 + 1) + w / 8 ≡ y * row_bytes w + x / 8 = rw (row_length w n) (omega arith) in
        top_bits (get_or p (y * row_bytes w + x / 8) 0) (get_or q (y * row_bytes w + x / 8) 0) (w % 8) (x % 8) (omega arith) (omega arith)
        (subst (λ (i : ℕ). get_or p i 0 / 2 ^ (8 - w % 8) ≡ get_or q i 0 / 2 ^ (8 - w % 8)) z r.1)

    go : (w % 8 ≡ 0) ⊎ (w % 8 ≡ 0 → ⊥) → pixel_at p w y x ≡ pixel_at q w y x
    go (inl z) =
        let l = pixel_within h w y x ly lx in
        ap (λ (v : ℕ). bit_of v (x % 8)) (bytes_same p q 0 (glyph_bytes h w) (by_bytes p q h w z ∙ e) (y * row_bytes w + x / 8) (omega arith) (omega (arith, l)))
    go (inr n) = in_row n (rows_same p q (w / 8) (8 - w % 8) 0 h (by_rows p q h w n ∙ e) y ly) (below (x / 8) (w / 8))

-- bitmaps that are said to differ have a pixel that differs
pub differ_some : (p q : List ℕ) → Bytes p → Bytes q → (h w : ℕ) → same_pixels p q h w ≡ false →
    (y : ℕ) × (x : ℕ) × (y < h) × (x < w) × (pixel_at p w y x ≡ pixel_at q w y x → ⊥)
differ_some p q bp bq h w e = go (same (w % 8) 0)
  where
    -- from a bit that differs
    at_bit : (y c i j : ℕ) → y < h → j < 8 → c * 8 + j < w → y * row_bytes w + c ≡ i → (bit_of (get_or p i 0) j ≡ bit_of (get_or q i 0) j → ⊥) →
        (y : ℕ) × (x : ℕ) × (y < h) × (x < w) × (pixel_at p w y x ≡ pixel_at q w y x → ⊥)
    at_bit y c i j ly lj lx z n = (y, c * 8 + j, ly, lx, λ s. n (sym (pixel_of_lem p w y c j i lj z) ∙ s ∙ pixel_of_lem q w y c j i lj z))

    -- from a byte that differs, in a row without fillers
    in_bytes : w % 8 ≡ 0 → (i : ℕ) × (0 ≤ i) × (i < 0 + glyph_bytes h w) × (get_or p i 0 ≡ get_or q i 0 → ⊥) →
        (y : ℕ) × (x : ℕ) × (y < h) × (x < w) × (pixel_at p w y x ≡ pixel_at q w y x → ⊥)
    in_bytes z (i, o, l, n) =
        let b = byte_bit (get_or p i 0) (get_or q i 0) (byte_at p bp i) (byte_at q bq i) n in
        let m : i < h * row_bytes w = in_rows i h w (omega (arith, l)) in
        let r : 0 < row_bytes w = some_bytes i h (row_bytes w) m in
        let ly : i / row_bytes w < h = (div-lt_iff_lt-mul {k = row_bytes w} {x = i} {y = h} r).1 m in
        let c : i % row_bytes w < row_bytes w = mod-lt i {m = row_bytes w} r in
        at_bit (i / row_bytes w) (i % row_bytes w) i b.0 ly b.1 (column_whole w (i % row_bytes w) b.0 z c b.1) (div-add-mod' i (row_bytes w)) b.2

    -- from a row that differs
    in_row : (n : w % 8 ≡ 0 → ⊥) (y : ℕ) → y < h → RowDiffers p q (w / 8) (8 - w % 8) (0 + y * (w / 8 + 1)) →
        (y : ℕ) × (x : ℕ) × (y < h) × (x < w) × (pixel_at p w y x ≡ pixel_at q w y x → ⊥)
    in_row n y ly (inl (j, lj, d)) =
        let i = 0 + y * (w / 8 + 1) + j in
        let b = byte_bit (get_or p i 0) (get_or q i 0) (byte_at p bp i) (byte_at q bq i) d in
        let z : y * row_bytes w + j ≡ i = rw (row_length w n) (omega arith) in
        at_bit y j i b.0 ly b.1 (omega (arith, b.1, lj)) z b.2
    in_row n y ly (inr d) =
        let i = 0 + y * (w / 8 + 1) + w / 8 in
        let b = other_bit (get_or p i 0) (get_or q i 0) (byte_at p bp i) (byte_at q bq i) (w % 8) (omega arith) d in
        let z : y * row_bytes w + w / 8 ≡ i = rw (row_length w n) (omega arith) in
        at_bit y (w / 8) i b.0 ly (omega (arith, b.1)) (omega (arith, b.1)) z b.2

    go : (w % 8 ≡ 0) ⊎ (w % 8 ≡ 0 → ⊥) → (y : ℕ) × (x : ℕ) × (y < h) × (x < w) × (pixel_at p w y x ≡ pixel_at q w y x → ⊥)
    go (inl z) = in_bytes z (bytes_differ p q 0 (glyph_bytes h w) (by_bytes p q h w z ∙ e))
    go (inr n) = let t = rows_differ p q (w / 8) (8 - w % 8) 0 h (by_rows p q h w n ∙ e) in in_row n t.0 t.1 t.2

-- bitmaps whose pixels are the same are said to be
pub all_same : (p q : List ℕ) → Bytes p → Bytes q → (h w : ℕ) → ((y x : ℕ) → y < h → x < w → pixel_at p w y x ≡ pixel_at q w y x) → same_pixels p q h w ≡ true
all_same p q bp bq h w f = go (same_pixels p q h w) refl
  where
    go : (t : Bool) → same_pixels p q h w ≡ t → t ≡ true
    go true e = refl
    go false e = let d = differ_some p q bp bq h w e in absurd (d.4 (f d.0 d.1 d.2 d.3))
