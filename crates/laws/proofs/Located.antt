-- The steps from the bitmap questions on any bytes to where a glyph's bitmap stands (Bitmaps says what is shown).
use mathlib.Core.Path.{◌≡◌, refl, sym, ◌∙◌, ap, subst}
use mathlib.Core.Logic.{◌⊎◌, inl, inr}
use mathlib.Core.List.{List, ◌++◌}
use Prim.Native.Nat.{ℕ, zero, suc, ◌+◌, ◌*◌, ◌/◌, ◌%◌, ◌≤◌, ◌<◌}
use native.Mathlib.Omega.{arith}
use native.Mathlib.Nat.{suc-mul, add_comm}
use lib.ListN.{get_or, take, drop}
use lib.Seq.{take-add, drop-drop}
use Rattle.base.specs.Meaning.{Bytes}
use Rattle.base.proofs.Tests.{same}
use Rattle.refusal.specs.declared.Refusal.{Refusal}
use Rattle.header.specs.declared.Kind.{Kind}
use Rattle.header.specs.declared.Kind.TheVariants.{Psf1, Psf2, Vfont2}
use Rattle.header.specs.declared.Font.{Font}
use Rattle.header.specs.Meaning.{row_bytes, glyph_bytes}
use Rattle.entries.specs.Meaning.{entry_at, size_at}
use Rattle.bitmap.specs.declared.Bitmap.{Bitmap}
use Rattle.bitmap.specs.Meaning.{bit_of, view_of}
use Rattle.bitmap.specs.Reading.{bitmap_of, whole_of, row_of, pixel_of, metrics_of}
use Rattle.bitmap.specs.Bounds.{Inside, LocatedInside}
use Rattle.bitmap.proofs.Places.{too_high, row_in, row_below, pixel_in, pixel_past, pixel_below, located_inside}
use Rattle.content.specs.Meaning.{bitmap_in, NoGlyph as Without}
use Rattle.content.proofs.Found.{glyph_found, glyph_missing}
use Rattle.content.proofs.Source.{is_placed}
use Rattle.content.proofs.Stretches.{byte_of_part}
use Rattle.stages.specs.Reading.{check_of}
use Rattle.fonts.specs.Reading.{glyph_part_of, row_part_of, pixel_at, glyph_metrics_of}
use Rattle.laws.specs.Meaning.{Exact, Said, gives, refuses, told, part_says, says, GlyphRows, GlyphPartRows, RowPartRows, PixelRows, MetricsRows, joined}
use Rattle.laws.proofs.Exactly.{is, row, handed_own, own_first, moved, less, at_most, either}
use Rattle.std.specs.Prelude.{Result, Ok, Err}

-- whether a number below the count is that of a glyph without a bitmap
glyph_or_none : (s : List ℕ) (f : Font) (g : ℕ) (k : Kind) → Without s f g k ⊎ (Without s f g k → ⊥)
glyph_or_none s f g Psf1 = inr (λ n. n)
glyph_or_none s f g Psf2 = inr (λ n. n)
glyph_or_none s f g Vfont2 = same (size_at s (entry_at f.entries g)) 0

-- a question x on where glyph g's bitmap stands, which hands a refusal on
module _ (s : List ℕ) (y : Bytes s) (g : ℕ) {A : Type 0} {rest : Font → Said A → Type 0} (x : Said A) (answer : Font → Result Bitmap Refusal → Said A)
    (hands : (f : Font) (r : Refusal) → answer f (Err r) ≡ told r) (stops : (r : Refusal) → check_of s ≡ Err r → x ≡ told r)
    (asks : (f : Font) → check_of s ≡ Ok f → x ≡ answer f (bitmap_of s f g))
    (goes : (f : Font) → check_of s ≡ Ok f → Exact (answer f (Ok (bitmap_in s f g f.kind))) (rest f)) where
  pub glyph_rows : Exact x (GlyphRows s g rest)
  glyph_rows =
      own_first s stops (λ f e.
      row (at_most f.count g) (λ h. asks f e ∙ ap (answer f) (sym (too_high s f g h)) ∙ hands f _) (λ h.
      let l : g < f.count = omega arith in
      row (glyph_or_none s f g f.kind) (λ m. asks f e ∙ ap (answer f) (glyph_missing s f y e g l m) ∙ hands f _) (λ n.
      moved x _ (asks f e ∙ ap (answer f) (glyph_found s f y e g l n)) (goes f e))))

-- the four questions, on a sound font and on any other
module _ (s : List ℕ) (f : Font) (sound : check_of s ≡ Ok f) where
  pub part_asked : (g : ℕ) → glyph_part_of s g ≡ whole_of (bitmap_of s f g)
  unfolding glyph_part_of
  part_asked g = rw sound

  pub row_asked : (g i : ℕ) → row_part_of s g i ≡ row_of (bitmap_of s f g) i
  unfolding row_part_of
  row_asked g i = rw sound

  pub pixel_asked : (g i j : ℕ) → pixel_at s g i j ≡ pixel_of s (bitmap_of s f g) i j
  unfolding pixel_at
  pixel_asked g i j = rw sound

  pub metrics_asked : (g : ℕ) → glyph_metrics_of s g ≡ metrics_of s f g (bitmap_of s f g)
  unfolding glyph_metrics_of
  metrics_asked g = rw sound

module _ (s : List ℕ) (y : Bytes s) where
  pub part_rows : (g : ℕ) → Exact (part_says (glyph_part_of s g)) (GlyphPartRows s g)
  unfolding glyph_part_of
  part_rows g =
      glyph_rows s y g _ (λ f b. part_says (whole_of b)) (λ f r. refl) (λ r e. ap part_says (handed_own s r e _)) (λ f e. ap part_says (part_asked s f e g))
      (λ f e. is _ _ refl)

  pub metrics_rows : (g : ℕ) → Exact (says (glyph_metrics_of s g)) (MetricsRows s g)
  unfolding glyph_metrics_of
  metrics_rows g =
      glyph_rows s y g _ (λ f b. says (metrics_of s f g b)) (λ f r. refl) (λ r e. ap says (handed_own s r e _))
      (λ f e. ap says (metrics_asked s f e g)) (λ f e. is _ _ refl)

  pub row_rows : (g i : ℕ) → Exact (part_says (row_part_of s g i)) (RowPartRows s g i)
  unfolding row_part_of
  row_rows g i =
      glyph_rows s y g _ (λ f b. part_says (row_of b i)) (λ f r. refl) (λ r e. ap part_says (handed_own s r e _)) (λ f e. ap part_says (row_asked s f e g i))
      (λ f e.
      let b = bitmap_in s f g f.kind in
      row (at_most b.height i) (λ h. ap part_says (sym (row_below b i h))) (λ h. is _ _ (ap part_says (row_in b i (omega arith)))))

  pub pixel_rows : (g i j : ℕ) → Exact (says (pixel_at s g i j)) (PixelRows s g i j)
  unfolding pixel_at
  pixel_rows g i j =
      glyph_rows s y g _ (λ f b. says (pixel_of s b i j)) (λ f r. refl) (λ r e. ap says (handed_own s r e _))
      (λ f e. ap says (pixel_asked s f e g i j))
      (λ f e.
      let b = bitmap_in s f g f.kind in
      row (either (at_most b.height i) (at_most b.width j)) (outside b) (λ h.
      let u : b.height ≤ i → ⊥ = λ z. h (inl z) in
      let v : b.width ≤ j → ⊥ = λ z. h (inr z) in
      is _ _ (ap says (pixel_in s b i j (omega arith) (omega arith)))))
    where
      beside : (b : Bitmap) → b.width ≤ j → (i < b.height) ⊎ ((i < b.height) → ⊥) → says (pixel_of s (Ok b) i j) ≡ refuses 13 0
      beside b w (inl l) = ap says (pixel_past s b i j l w)
      beside b w (inr n) = ap says (sym (pixel_below s b i j (omega arith)))

      outside : (b : Bitmap) → (b.height ≤ i) ⊎ (b.width ≤ j) → says (pixel_of s (Ok b) i j) ≡ refuses 13 0
      outside b (inl h) = ap says (sym (pixel_below s b i j h))
      outside b (inr w) = beside b w (less i b.height)

-- a glyph that has a bitmap
module _ (s : List ℕ) (y : Bytes s) (f : Font) (sound : check_of s ≡ Ok f) (g : ℕ) (l : g < f.count) (n : Without s f g f.kind → ⊥) where
  abbrev b : Bitmap
  b = bitmap_in s f g f.kind

  here : bitmap_of s f g ≡ Ok b
  here = glyph_found s f y sound g l n

  pub bitmap_inside : Inside s b
  bitmap_inside = subst (LocatedInside s) here (located_inside s f g (is_placed s f y sound) l)

  glyph_view : view_of s (glyph_part_of s g) ≡ take b.len (drop b.start s)
  glyph_view = ap (view_of s) (part_asked s f sound g ∙ ap whole_of here)

  row_view : (i : ℕ) → i < b.height → view_of s (row_part_of s g i) ≡ take (row_bytes b.width) (drop (b.start + i * row_bytes b.width) s)
  row_view i h = ap (view_of s) (row_asked s f sound g i ∙ ap (λ (z : Result Bitmap Refusal). row_of z i) here ∙ row_in b i h)

  rows_joined : (k i : ℕ) → i + k ≤ b.height → take (k * row_bytes b.width) (drop (b.start + i * row_bytes b.width) s) ≡ joined (λ (j : ℕ). view_of s (row_part_of s g j)) i k
  rows_joined zero i h = let z : 0 * row_bytes b.width ≡ 0 = omega arith in ap (λ (m : ℕ). take m (drop (b.start + i * row_bytes b.width) s)) z
  rows_joined (suc k) i h =
      let r = row_bytes b.width in
      let a = b.start + i * row_bytes b.width in
      let e : suc k * r ≡ r + k * r = suc-mul k r ∙ add_comm (k * r) r in
      let z : a + r ≡ b.start + suc i * r = omega (arith, suc-mul i r) in
      ap (λ (m : ℕ). take m (drop a s)) e ∙ take-add r (k * r) (drop a s)
      ∙ ap (λ (q : List ℕ). q ++ take (k * r) (drop r (drop a s))) (sym (row_view i (omega arith)))
      ∙ ap (λ (q : List ℕ). view_of s (row_part_of s g i) ++ take (k * r) q) (drop-drop r a s ∙ ap (λ (m : ℕ). drop m s) z)
      ∙ ap (λ (q : List ℕ). view_of s (row_part_of s g i) ++ q) (rows_joined k (suc i) (omega arith))

  -- a glyph is its rows end to end
  pub rows_whole : view_of s (glyph_part_of s g) ≡ joined (λ (j : ℕ). view_of s (row_part_of s g j)) 0 b.height
  unfolding glyph_bytes
  rows_whole =
      let e : b.len ≡ b.height * row_bytes b.width = bitmap_inside.1 in
      let z : b.start ≡ b.start + 0 * row_bytes b.width = omega arith in
      glyph_view ∙ ap (λ (m : ℕ). take m (drop b.start s)) e ∙ ap (λ (m : ℕ). take (b.height * row_bytes b.width) (drop m s)) z
      ∙ rows_joined b.height 0 (omega arith)

  -- a pixel is a bit of its row
  pub pixel_of_lem : (i j : ℕ) → i < b.height → j < b.width → says (pixel_at s g i j) ≡ gives (bit_of (get_or (view_of s (row_part_of s g i)) (j / 8) 0) (j % 8))
  pixel_of_lem i j h w =
      let q : j / 8 < row_bytes b.width = omega arith in
      ap says (pixel_asked s f sound g i j ∙ ap (λ (z : Result Bitmap Refusal). pixel_of s z i j) here ∙ pixel_in s b i j h w)
      ∙ ap (λ (v : ℕ). gives (bit_of v (j % 8))) (sym (ap (λ (z : List ℕ). get_or z (j / 8) 0) (row_view i h) ∙ byte_of_part (row_bytes b.width) (b.start + i * row_bytes b.width) (j / 8) s q))
