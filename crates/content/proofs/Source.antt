-- An accepted font whose glyphs all fill its height and width: its numbers, its bitmaps end to end, each glyph.
use mathlib.Core.Path.{◌≡◌, refl, sym, ◌∙◌, ap, subst}
use mathlib.Core.Logic.{◌⊎◌, inl, inr}
use mathlib.Core.Bool.{Bool, true, false}
use mathlib.Core.List.{List}
use Prim.Native.Nat.{ℕ, ◌+◌, ◌*◌, ◌%◌, ◌≤◌, ◌<◌}
use native.Mathlib.Omega.{arith}
use lib.Dec.{eqb}
use lib.ListN.{length, get_or, take, drop, length-drop}
use lib.Seq.{drop-drop, length-take-le}
use Rattle.base.specs.Meaning.{pick, Bytes}
use Rattle.base.proofs.Parts.{byte_at, bytes_drop, bytes_take}
use Rattle.header.specs.declared.Kind.{Kind}
use Rattle.header.specs.declared.Kind.TheVariants.{Psf1, Psf2, Vfont2}
use Rattle.header.specs.declared.Font.{Font}
use Rattle.header.specs.Meaning.{char_size, psf1_count}
use Rattle.header.specs.Bounds.{Placed, KindPlaced, Even, Dispatched}
use Rattle.header.specs.Reading.{says_of}
use Rattle.header.proofs.Known.{source}
use Rattle.entries.specs.Meaning.{entry_at, address_at, size_at, rows_at, cols_at, Breaks}
use Rattle.entries.proofs.Meaning.{scan_greatest}
use Rattle.layout.specs.Reading.{kind_glyphs, glyphs_in}
use Rattle.stages.specs.Reading.{check_of}
use Rattle.stages.proofs.Cases.{accepted, passed_entries, passed_body, placed, scan_right}
use Rattle.content.proofs.Stretches.{part_of_take, nth_within}
use Rattle.bitmap.specs.Meaning.{EvenGlyph}
use Rattle.content.proofs.Evens.{EvenFields, metrics_even, even_rows, even_cols, even_size, even_some}
use Rattle.content.proofs.Gathered.{start_at, gathered_length, nth_gathered, gathered_bytes}
use Rattle.content.proofs.Shapes.{Shape, GlyphIs, AllEven}
use Rattle.std.specs.Prelude.{Ok}

-- PSF1 has 256 glyphs or 512
psf1_counts : (m : ℕ) → (psf1_count m ≡ 256) ⊎ (psf1_count m ≡ 512)
unfolding psf1_count
psf1_counts m = go (eqb (m % 2) 1)
  where
    go : (t : Bool) → (◌≡◌ {A = ℕ} (pick t 512 256) 256) ⊎ (◌≡◌ {A = ℕ} (pick t 512 256) 512)
    go true = inr refl
    go false = inl refl

module _ (s : List ℕ) (f : Font) (y : Bytes s) (e : check_of s ≡ Ok f) where
  -- the parts of an accepted font stand in its file
  pub is_placed : Placed s f
  is_placed = placed s f (byte_at s y 3) (accepted s f e).0

  -- as its kind places them
  pub is_kind : (k : Kind) → f.kind ≡ k → KindPlaced f k
  is_kind k q = subst (λ (x : Kind). KindPlaced f x) q is_placed.8

  -- and it is what its header says
  pub says_font : says_of s ≡ Ok f
  says_font = (passed_body s f (passed_entries s f (accepted s f e).0).0).1

  psf1_shape : f.kind ≡ Psf1 → Shape Psf1 f.count f.height f.width
  psf1_shape q =
      let k = (source s f Psf1 q says_font).1 in
      let n = psf1_counts (get_or s 2 0) in
      let p = is_placed in
      subst (λ (g : Font). (1 ≤ g.count) → (g.count ≤ 4096) → Shape Psf1 g.count g.height g.width) k.0
      (λ a b. (a, b, some k.3, omega (arith, byte_at s y 3), omega arith, omega arith, (n, refl))) p.1 p.2
    where
      some : {x : ℕ} → (x ≡ 0 → ⊥) → 1 ≤ x
      some h = omega arith

  psf2_shape : f.kind ≡ Psf2 → Shape Psf2 f.count f.height f.width
  psf2_shape q =
      let k = (source s f Psf2 q says_font).2 in
      let p = is_placed in
      subst (λ (g : Font). (1 ≤ g.count) → (g.count ≤ 4096) → Shape Psf2 g.count g.height g.width) k.0
      (λ a b. (a, b, k.1, k.2, k.3, k.4, tt)) p.1 p.2

  -- a vfont2 font: no entry breaks a rule
  pub unbroken : f.kind ≡ Vfont2 → (i : ℕ) → i < f.count → Breaks s f.size (entry_at f.entries i) → ⊥
  unbroken q i l = (scan_greatest s f.size f.count f.entries f.height f.width (scan_right s f q (accepted s f e).0)).0 i l

  -- and what an entry says whose glyph fills the greatest height and width
  module _ (q : f.kind ≡ Vfont2) (i : ℕ) (l : i < f.count) (v : EvenGlyph s f.height f.width (entry_at f.entries i)) where
    its_fields : EvenFields s f.height f.width (entry_at f.entries i)
    its_fields = metrics_even s f.height f.width (entry_at f.entries i) y v

    its_rows : rows_at s (entry_at f.entries i) ≡ f.height
    its_rows = even_rows s f.height f.width (entry_at f.entries i) (omega (arith, is_placed.3)) its_fields

    its_cols : cols_at s (entry_at f.entries i) ≡ f.width
    its_cols = even_cols s f.height f.width (entry_at f.entries i) (omega (arith, is_placed.4)) its_fields

    its_size : (size_at s (entry_at f.entries i) ≡ char_size f) × (address_at s (entry_at f.entries i) + char_size f ≤ f.size)
    its_size = even_size s f.height f.width (entry_at f.entries i) f.size (omega (arith, is_placed.3)) (omega (arith, is_placed.4)) its_fields (unbroken q i l)

    its_some : (1 ≤ f.height) × (1 ≤ f.width)
    its_some = even_some s f.height f.width (entry_at f.entries i) f.size (omega (arith, is_placed.3)) (omega (arith, is_placed.4)) its_fields (unbroken q i l)

    -- its bitmap stands in the file
    pub entry_stands : start_at s f i + char_size f ≤ length s
    entry_stands = let d : Dispatched f = is_kind Vfont2 q in omega (arith, its_size.1, d.1, is_placed.7)

  -- the font's numbers
  shape_of : (k : Kind) → f.kind ≡ k → AllEven s f k → Shape k f.count f.height f.width
  shape_of Psf1 q v = psf1_shape q
  shape_of Psf2 q v = psf2_shape q
  shape_of Vfont2 q v =
      let p = is_placed in
      let b = its_some q 0 p.1 (v 0 p.1) in
      (p.1, p.2, b.0, p.3, b.1, p.4, tt)

  -- its bitmaps, end to end
  even_length : Even f → length (take (f.count * f.size) (drop f.bitmaps s)) ≡ f.count * char_size f
  even_length k =
      length-take-le (f.count * f.size) (drop f.bitmaps s) (omega (arith, length-drop f.bitmaps s, k.0, is_placed.7))
      ∙ ap (λ (z : ℕ). f.count * z) k.1

  length_of : (k : Kind) → f.kind ≡ k → AllEven s f k → length (kind_glyphs s f k) ≡ f.count * char_size f
  length_of Psf1 q v = even_length (is_kind Psf1 q)
  length_of Psf2 q v = even_length (is_kind Psf2 q)
  length_of Vfont2 q v = gathered_length s f (char_size f) 0 f.count (λ i a l. let m : i < f.count = omega arith in entry_stands q i m (v i m))

  bytes_of : (k : Kind) → Bytes (kind_glyphs s f k)
  bytes_of Psf1 = bytes_take (f.count * f.size) (drop f.bitmaps s) (bytes_drop f.bitmaps s y)
  bytes_of Psf2 = bytes_take (f.count * f.size) (drop f.bitmaps s) (bytes_drop f.bitmaps s y)
  bytes_of Vfont2 = gathered_bytes s f (char_size f) y 0 f.count

  -- each glyph has the bytes of its place in them
  even_glyph : (g : ℕ) → g < f.count → Even f →
      (f.bitmaps + g * f.size + char_size f ≤ length s)
      × (take (char_size f) (drop (f.bitmaps + g * f.size) s) ≡ take (char_size f) (drop (g * char_size f) (take (f.count * f.size) (drop f.bitmaps s))))
  even_glyph g l k =
      let n = nth_within g f.count f.size l in
      let b = take (f.count * f.size) (drop f.bitmaps s) in
      let q : take f.size (drop (g * f.size) b) ≡ take f.size (drop (f.bitmaps + g * f.size) s) =
      part_of_take f.size (g * f.size) (f.count * f.size) (drop f.bitmaps s) n ∙ ap (take f.size) (drop-drop (g * f.size) f.bitmaps s) in (
        omega (arith, n, k.0, k.1, is_placed.7),
        ap (λ (z : ℕ). take z (drop (f.bitmaps + g * f.size) s)) (sym k.1) ∙ sym q ∙ λ i. take (k.1 i) (drop (g * k.1 i) b),
      )

  glyph_of : (k : Kind) → f.kind ≡ k → AllEven s f k → (g : ℕ) → g < f.count → GlyphIs s f g k f.height f.width (take (char_size f) (drop (g * char_size f) (kind_glyphs s f k)))
  glyph_of Psf1 q v g l = let k : Even f = is_kind Psf1 q in let m = even_glyph g l k in (((λ x. x), refl, refl, refl, k.1), m.0, m.1)
  glyph_of Psf2 q v g l = let k : Even f = is_kind Psf2 q in let m = even_glyph g l k in (((λ x. x), refl, refl, refl, k.1), m.0, m.1)
  glyph_of Vfont2 q v g l =
      let x = v g l in
      let z : 0 + g ≡ g = omega arith in (
        (x.0, x.1, its_rows q g l x, its_cols q g l x, (its_size q g l x).0),
        entry_stands q g l x,
        sym (nth_gathered s f (char_size f) 0 f.count g (λ i a b. let m : i < f.count = omega arith in entry_stands q i m (v i m)) l
            ∙ ap (λ (i : ℕ). take (char_size f) (drop (start_at s f i) s)) z),
      )

  -- the bitmaps are bytes
  pub glyphs_bytes : Bytes (glyphs_in s f)
  unfolding glyphs_in
  glyphs_bytes = bytes_of f.kind

  module _ (v : AllEven s f f.kind) where
    -- the font's numbers are within the bounds of its kind
    pub source_shape : Shape f.kind f.count f.height f.width
    source_shape = shape_of f.kind refl v

    -- the bitmaps have the glyphs' bytes
    pub source_length : length (glyphs_in s f) ≡ f.count * char_size f
    unfolding glyphs_in
    source_length = length_of f.kind refl v

    -- each glyph
    pub source_glyph : (g : ℕ) → g < f.count → GlyphIs s f g f.kind f.height f.width (take (char_size f) (drop (g * char_size f) (glyphs_in s f)))
    unfolding glyphs_in
    source_glyph = glyph_of f.kind refl v

    -- each bitmap of a vfont2 font stands in the file
    pub source_stands : f.kind ≡ Vfont2 → (i : ℕ) → i < f.count → f.bitmaps + address_at s (entry_at f.entries i) + char_size f ≤ length s
    source_stands q i l = entry_stands q i l (subst (AllEven s f) q v i l)
