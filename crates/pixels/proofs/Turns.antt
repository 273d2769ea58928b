-- Bytes that the library compares, one turn of the loop that compares row by row, and which of the two compares whole bitmaps.
use mathlib.Core.Path.{◌≡◌, refl, sym, ◌∙◌, ap}
use mathlib.Core.Bool.{Bool, true, false, ◌&&◌}
use mathlib.Core.List.{List}
use Prim.Native.Nat.{ℕ, zero, suc, ◌+◌, ◌-◌, ◌*◌, ◌/◌, ◌%◌, ◌^◌, ◌≤◌, ◌<◌}
use native.Mathlib.Omega.{arith}
use native.Mathlib.Numerals.{add-one}
use native.Mathlib.Nat.{suc-mul}
use lib.Dec.{eqb}
use lib.ListN.{length, get_or, take, drop}
use lib.Pointwise.{pointwise}
use lib.Seq.{drop-cons}
use borrow.Author.Tests.{eq-eqb, ne_eqb}
use Rattle.base.specs.Reading.{when}
use Rattle.header.specs.Meaning.{row_bytes, glyph_bytes}
use Rattle.pixels.specs.Reading.{same_bytes, same_rows, same_pixels}

-- the library's answer for two parts of n bytes
pub same_parts : (p q : List ℕ) (n at : ℕ) → at + n ≤ length p → at + n ≤ length q → pointwise eqb (take n (drop at p)) (take n (drop at q)) ≡ same_bytes p q at n
unfolding same_bytes when
same_parts p q zero at h g = refl
same_parts p q (suc n) at h g =
    rw (drop-cons p at 0 (omega arith), drop-cons q at 0 (omega arith))
    (go (eqb (get_or p at 0) (get_or q at 0)) (same_parts p q n (suc at) (omega arith) (omega arith)))
  where
    go : (t : Bool) → pointwise eqb (take n (drop (suc at) p)) (take n (drop (suc at) q)) ≡ same_bytes p q (suc at) n →
        (t && pointwise eqb (take n (drop (suc at) p)) (take n (drop (suc at) q))) ≡ when t (same_bytes p q (suc at) n) false
    go true e = e
    go false e = refl

-- the rows from y to h, at an offset
module _ (p q : List ℕ) (k fillers at h y : ℕ) where
  -- none is left
  pub rows_done : h ≤ y → true ≡ same_rows p q k fillers at (h - y)
  unfolding same_rows
  rows_done l = let e : h - y ≡ 0 = omega arith in rw e

  module _ (l : y < h) where
    -- this row, and those after it
    rows_left : h - y ≡ suc (h - (y + 1))
    rows_left = omega arith

    -- the answer for the whole bytes of row y
    module _ (b : Bool) (eb : b ≡ same_bytes p q at (at + k - at)) where
      -- as many bytes as its whole ones
      whole_of : same_bytes p q at k ≡ b
      whole_of = let z : at + k - at ≡ k = omega arith in sym (eb ∙ ap (same_bytes p q at) z)

      -- its whole bytes differ
      pub rows_whole : b ≡ false → false ≡ same_rows p q k fillers at (h - y)
      unfolding same_rows when
      rows_whole f = let w : same_bytes p q at k ≡ false = whole_of ∙ f in rw (rows_left, w)

      -- its last byte differs
      pub rows_last : b ≡ true → (get_or p (at + k) 0 / 2 ^ fillers ≡ get_or q (at + k) 0 / 2 ^ fillers → ⊥) → false ≡ same_rows p q k fillers at (h - y)
      unfolding same_rows when
      rows_last t n = let w : same_bytes p q at k ≡ true = whole_of ∙ t in rw (rows_left, w, ne_eqb _ _ n)

      -- row y is the same, and those after it decide
      pub rows_next : b ≡ true → get_or p (at + k) 0 / 2 ^ fillers ≡ get_or q (at + k) 0 / 2 ^ fillers →
          same_rows p q k fillers (at + k + 1) (h - (y + 1)) ≡ same_rows p q k fillers at (h - y)
      unfolding same_rows when
      rows_next t e = let w : same_bytes p q at k ≡ true = whole_of ∙ t in rw (rows_left, w, eq-eqb _ _ e)

-- the row after row y begins behind it
pub row_next : (k y : ℕ) → (y + 1) * (k + 1) ≡ y * (k + 1) + k + 1
row_next k y = rw (add-one y, suc-mul y (k + 1)) (omega arith)

-- a row with fillers has its whole bytes and one more
pub row_length : (w : ℕ) → (w % 8 ≡ 0 → ⊥) → row_bytes w ≡ w / 8 + 1
row_length w e = omega (arith, e)

-- two bitmaps of height h and width w
module _ (p q : List ℕ) (h w : ℕ) where
  -- without fillers, all their bytes decide
  pub by_bytes : w % 8 ≡ 0 → same_bytes p q 0 (glyph_bytes h w) ≡ same_pixels p q h w
  unfolding same_pixels when
  by_bytes e = rw (eq-eqb _ _ e)

  -- the same with the number of bytes as it was read
  pub whole_bytes : w % 8 ≡ 0 → (n : ℕ) → n ≡ glyph_bytes h w → same_bytes p q 0 (n - 0) ≡ same_pixels p q h w
  whole_bytes e n g = let z : n - 0 ≡ glyph_bytes h w = omega (arith, g) in ap (same_bytes p q 0) z ∙ by_bytes e

  module _ (e : w % 8 ≡ 0 → ⊥) where
    -- with fillers, their rows decide
    pub by_rows : same_rows p q (w / 8) (8 - w % 8) 0 h ≡ same_pixels p q h w
    unfolding same_pixels when
    by_rows = rw (ne_eqb _ _ e)

    -- and have all their bytes
    pub all_rows : h * (w / 8 + 1) ≡ glyph_bytes h w
    unfolding glyph_bytes
    all_rows = ap (λ (n : ℕ). h * n) (sym (row_length w e))
