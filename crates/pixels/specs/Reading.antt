-- The pixels of a bitmap that stands alone, and whether two have the same: bytes, rows without their filler bits, the whole.
use Rattle.std.specs.Prelude.{ℕ, zero, suc, ◌+◌, ◌-◌, ◌*◌, ◌/◌, ◌%◌, ◌^◌, Bool, true, false, List, eqb, get_or}
use Rattle.base.specs.Reading.{when}
use Rattle.header.specs.Meaning.{row_bytes, glyph_bytes}
use Rattle.bitmap.specs.Meaning.{bit_of}

-- the pixel of row y and column x of a bitmap of width w that stands alone; 1 is drawn
abbrev pub pixel_at : List ℕ → ℕ → ℕ → ℕ → ℕ
pixel_at p w y x = bit_of (get_or p (y * row_bytes w + x / 8) 0) (x % 8)

-- whether the n bytes from an offset on are the same in both
unfoldable pub same_bytes : List ℕ → List ℕ → ℕ → ℕ → Bool
same_bytes p q at zero = true
same_bytes p q at (suc n) = when (eqb (get_or p at 0) (get_or q at 0)) (same_bytes p q (suc at) n) false

-- whether the n rows from an offset on are the same in both: each has k whole bytes and a last byte that ends in fillers, which are left out
unfoldable pub same_rows : List ℕ → List ℕ → ℕ → ℕ → ℕ → ℕ → Bool
same_rows p q k fillers at zero = true
same_rows p q k fillers at (suc n) =
    when (same_bytes p q at k)
    (when (eqb (get_or p (at + k) 0 / 2 ^ fillers) (get_or q (at + k) 0 / 2 ^ fillers))
    (same_rows p q k fillers (at + k + 1) n)
    false) false

-- whether two bitmaps of height h and width w have the same pixels; rows whose width fills their bytes have no fillers
unfoldable pub same_pixels : List ℕ → List ℕ → ℕ → ℕ → Bool
same_pixels p q h w = when (eqb (w % 8) 0) (same_bytes p q 0 (glyph_bytes h w)) (same_rows p q (w / 8) (8 - w % 8) 0 h)
