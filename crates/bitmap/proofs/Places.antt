-- A bitmap that is found stands in the file, and so does each of its rows and the byte of each of its pixels.
use mathlib.Core.Path.{◌≡◌, refl, sym, ◌∙◌}
use mathlib.Core.List.{List}
use mathlib.Core.Bool.{Bool, true, false}
use Prim.Native.Nat.{ℕ, suc, ◌+◌, ◌*◌, ◌/◌, ◌%◌, ◌≤◌, ◌<◌}
use native.Mathlib.Omega.{arith}
use native.Mathlib.Nat.{mul-le-mul_right}
use lib.Dec.{ltb}
use lib.ListN.{length, get_or}
use borrow.Author.Tests.{lt-ltb, le-ltb, ltb-true}
use Rattle.base.specs.Reading.{when}
use Rattle.refusal.specs.Meaning.{refusal}
use Rattle.refusal.specs.declared.Reason.TheVariants.{Ask}
use Rattle.entries.specs.Meaning.{entry_at}
use Rattle.header.specs.Meaning.{row_bytes, glyph_bytes}
use Rattle.entries.specs.Reading.{entry_of}
use Rattle.entries.specs.declared.Entry.{Entry}
use Rattle.entries.specs.declared.Entry.TheVariants.{Empty, Glyph, Broken}
use Rattle.entries.proofs.Inverse.{keeps}
use Rattle.header.specs.declared.Kind.{Kind}
use Rattle.header.specs.declared.Kind.TheVariants.{Psf1, Psf2, Vfont2}
use Rattle.header.specs.declared.Font.{Font}
use Rattle.header.specs.Bounds.{Placed, KindPlaced, Even, Dispatched}
use Rattle.bitmap.specs.declared.Bitmap.{Bitmap}
use Rattle.bitmap.specs.Meaning.{even_bitmap, bit_of}
use Rattle.bitmap.specs.Reading.{entry_located, kind_bitmap, bitmap_of, row_of, pixel_of}
use Rattle.bitmap.specs.Bounds.{Inside, LocatedInside}
use Rattle.std.specs.Prelude.{Ok, Err}

module _ (s : List ℕ) (f : Font) (g : ℕ) (p : Placed s f) (h : g < f.count) where
  pub even_inside : Even f → Inside s (even_bitmap f g)
  even_inside e = (omega (arith, p.7, e.0, mul-le-mul_right {m = suc g} {n = f.count} f.size h), e.1, p.3, p.4)

  by_entry : (at : ℕ) → f.end ≡ f.bitmaps + f.size → (x : Entry) → entry_of s f.size at ≡ x → LocatedInside s (entry_located s f g at x)
  by_entry at e Empty q = tt
  by_entry at e (Glyph r c) q =
      let k = keeps s f.size at r c q in
      let i = k.0.inside in
      let z = k.0.size in
      let rh = k.0.rows_high in
      let ch = k.0.cols_high in
      (omega (arith, p.7, i), z ∙ rw (k.1, k.2), rw k.1 rh, rw k.2 ch)
  by_entry at e Broken q = tt

  by_kind : (k : Kind) → KindPlaced f k → LocatedInside s (kind_bitmap s f g k)
  by_kind Psf1 e = even_inside e
  by_kind Psf2 e = even_inside e
  by_kind Vfont2 e = by_entry (entry_at f.entries g) e.1 (entry_of s f.size (entry_at f.entries g)) refl

  pub known : (k : Kind) → f.kind ≡ k → kind_bitmap s f g k ≡ bitmap_of s f g
  unfolding bitmap_of when
  known k e = rw (lt-ltb g f.count h, e)

  pub located_inside : LocatedInside s (bitmap_of s f g)
  located_inside = rw (← (known f.kind refl)) (by_kind f.kind p.8)

  -- the entry of glyph g stands before the bitmaps
  pub entry_inside : Dispatched f → entry_at f.entries g + 18 ≤ length s
  entry_inside e = omega (arith, p.6, p.7, e.0, mul-le-mul_right {m = suc g} {n = f.count} 18 h)

  -- glyph g begins no later than the bitmaps end
  pub even_start : Even f → f.bitmaps + g * f.size ≤ 1048576
  even_start e = let i = even_inside e in omega (arith, p.0, i.0)

pub too_high : (s : List ℕ) (f : Font) (g : ℕ) → f.count ≤ g → Err (refusal Ask 0) ≡ bitmap_of s f g
unfolding bitmap_of when
too_high s f g h = rw (le-ltb g f.count h)

-- a glyph whose bitmap is found is one of the font's
pub found_below : (s : List ℕ) (f : Font) (g : ℕ) (b : Bitmap) → bitmap_of s f g ≡ Ok b → g < f.count
unfolding bitmap_of when
found_below s f g b e = go (ltb g f.count) refl e
  where
    go : (t : Bool) → ltb g f.count ≡ t → when t (kind_bitmap s f g f.kind) (Err (refusal Ask 0)) ≡ Ok b → g < f.count
    go true q e = ltb-true g f.count q
    go false q e = let z : ◌≡◌ {A = ℕ} 0 1 = cc in absurd (omega arith)

-- a row and a pixel that a bitmap has, and a column that it has not
pub row_in : (b : Bitmap) (y : ℕ) → y < b.height → row_of (Ok b) y ≡ Ok (record { start = b.start + y * row_bytes b.width; len = row_bytes b.width })
unfolding when
row_in b y h = rw (lt-ltb y b.height h)

pub pixel_in : (s : List ℕ) (b : Bitmap) (y x : ℕ) → y < b.height → x < b.width →
    pixel_of s (Ok b) y x ≡ Ok (bit_of (get_or s (b.start + y * row_bytes b.width + x / 8) 0) (x % 8))
unfolding when
pixel_in s b y x h w = rw (lt-ltb y b.height h, lt-ltb x b.width w)

pub pixel_past : (s : List ℕ) (b : Bitmap) (y x : ℕ) → y < b.height → b.width ≤ x → pixel_of s (Ok b) y x ≡ Err (refusal Ask 0)
unfolding when
pixel_past s b y x h w = rw (lt-ltb y b.height h, le-ltb x b.width w)

-- rows
module _ (s : List ℕ) (b : Bitmap) (i : Inside s b) (y : ℕ) (h : y < b.height) where
  pub row_inside : b.start + y * row_bytes b.width + row_bytes b.width ≤ length s
  unfolding glyph_bytes
  row_inside =
      let e : b.len ≡ b.height * row_bytes b.width = i.1 in
      omega (arith, i.0, e, mul-le-mul_right {m = suc y} {n = b.height} (row_bytes b.width) h)

  -- the same, with the bytes of a row as they were read
  module _ (k : ℕ) (e : k ≡ row_bytes b.width) where
    pub row_fits : b.start + y * k + k ≤ length s
    row_fits = rw e row_inside

    pub row_read : Ok (record { start = b.start + y * k; len = k }) ≡ row_of (Ok b) y
    row_read = rw e (sym (row_in b y h))

    module _ (x : ℕ) (w : x < b.width) where
      pub pixel_inside : b.start + y * k + x / 8 < length s
      pixel_inside = let z : x / 8 < (b.width + 7) / 8 = omega arith in omega (arith, row_fits, e)

      pub pixel_read : (v : ℕ) → v ≡ bit_of (get_or s (b.start + y * k + x / 8) 0) (x % 8) → Ok v ≡ pixel_of s (Ok b) y x
      pixel_read v q = rw (q, e) (sym (pixel_in s b y x h w))

  pub pixel_beside : (x : ℕ) → b.width ≤ x → Err (refusal Ask 0) ≡ pixel_of s (Ok b) y x
  pixel_beside x w = sym (pixel_past s b y x h w)

pub row_below : (b : Bitmap) (y : ℕ) → b.height ≤ y → Err (refusal Ask 0) ≡ row_of (Ok b) y
unfolding when
row_below b y h = rw (le-ltb y b.height h)

pub pixel_below : (s : List ℕ) (b : Bitmap) (y x : ℕ) → b.height ≤ y → Err (refusal Ask 0) ≡ pixel_of s (Ok b) y x
unfolding when
pixel_below s b y x h = rw (le-ltb y b.height h)
