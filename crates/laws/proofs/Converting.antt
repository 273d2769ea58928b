-- What a conversion that is ready writes: the font, written anew as a file of the target's kind.
use mathlib.Core.Path.{◌≡◌, refl, sym, ◌∙◌, ap, subst}
use mathlib.Core.Logic.{◌⊎◌, inl, inr}
use mathlib.Core.List.{List, ◌++◌}
use Prim.Native.Nat.{ℕ, ◌+◌, ◌-◌, ◌*◌, ◌≤◌, ◌<◌}
use native.Mathlib.Omega.{arith}
use lib.ListN.{length, take, drop}
use lib.Seq.{take_at, drop-append-add, drop-drop}
use Rattle.base.specs.Meaning.{Bytes}
use Rattle.base.specs.Reading.{over}
use Rattle.base.proofs.Parts.{bytes_drop}
use Rattle.base.proofs.Tests.{below}
use Rattle.refusal.specs.declared.Refusal.{Refusal}
use Rattle.coding.specs.declared.Coding.TheVariants.{Utf8, Ucs2}
use Rattle.table.specs.Meaning.{Desc, encode, Readable}
use Rattle.table.specs.Reading.{items_in}
use Rattle.table.proofs.Meaning.{items_read}
use Rattle.transcode.proofs.Meaning.{recoded_table}
use Rattle.header.specs.declared.Kind.{Kind}
use Rattle.header.specs.declared.Kind.TheVariants.{Psf1, Psf2, Vfont2}
use Rattle.header.specs.declared.Font.{Font}
use Rattle.header.specs.Meaning.{limit, row_bytes, glyph_bytes, char_size, header_len}
use Rattle.entries.specs.Meaning.{entry_at, address_at}
use Rattle.bitmap.specs.declared.Bitmap.{Bitmap}
use Rattle.bitmap.specs.Meaning.{even_metrics, view_of}
use Rattle.bitmap.specs.Reading.{bitmap_of, whole_of, row_of, pixel_of, metrics_of}
use Rattle.bitmap.proofs.Places.{too_high, row_in, row_below, pixel_in, pixel_past, pixel_below}
use Rattle.layout.specs.Reading.{evenly, field_at20, glyphs_in}
use Rattle.stages.specs.Meaning.{coding_of, tail_of}
use Rattle.stages.specs.Reading.{check_of}
use Rattle.questions.specs.Reading.{font_items}
use Rattle.content.specs.Meaning.{bitmap_in, Plain}
use Rattle.content.proofs.Stretches.{part_of_take, nth_within}
use Rattle.content.proofs.Tails.{tail_known}
use Rattle.content.proofs.Tables.{Carries, recoded_carries, same_carries}
use Rattle.content.proofs.Headers.{written_is}
use Rattle.content.proofs.Shapes.{KindShape, GlyphIs}
use Rattle.content.proofs.Source.{source_glyph}
use Rattle.content.proofs.Found.{glyph_found}
use Rattle.content.proofs.Written.{evenly_place, written_width, written_plain, written_address, written_glyph}
use Rattle.content.proofs.Same.{same_pixels}
use Rattle.content.proofs.Self.{Bare}
use Rattle.content.proofs.Kept.{rewritten, rewritten_font, rewritten_length, rewritten_bytes, rewritten_as, rewritten_sound, rewritten_tail, rewritten_content, rewritten_again, rewritten_back}
use Rattle.conversion.specs.declared.Conversion.{Conversion}
use Rattle.conversion.specs.declared.Conversion.TheVariants.{Psf1ToPsf2, Psf2ToPsf1, Psf2ToVfont2, Vfont2ToPsf2}
use Rattle.conversion.specs.Meaning.{source_kind, target_kind, front_len}
use Rattle.conversion.specs.Reading.{table_in, output_of, measured_of, prepared_of}
use Rattle.conversion.proofs.Cases.{measured_is, suits_is}
use Rattle.conversion.proofs.Ready.{psf1_suits}
use Rattle.convert.specs.Reading.{converted_of, converted_into}
use Rattle.convert.proofs.Cases.{unprepared, no_room, wrote}
use Rattle.convert.proofs.Asks.{ready, ready_even, ready_long}
use Rattle.laws.specs.Meaning.{gives, refuses, says, Keeps, Wrote}
use Rattle.laws.proofs.Refusals.{not_both}
use Rattle.laws.proofs.Asking.{described, read_as, item_with, item_asked, value_with, value_asked, sequence_with, sequence_asked}
use Rattle.laws.proofs.Located.{part_asked, row_asked, pixel_asked, metrics_asked}
use Rattle.std.specs.Prelude.{Result, Ok, Err}

-- a table of descriptions is written as the same descriptions in the target's coding
pub table_encodes : (c : Conversion) (tl : List ℕ) (ds : List Desc) → Readable (coding_of (source_kind c)) ds → tl ≡ encode (coding_of (source_kind c)) ds →
    table_in c tl ≡ encode (coding_of (target_kind c)) ds
table_encodes Psf1ToPsf2 tl ds o e = recoded_table Ucs2 Utf8 ds tl o e
table_encodes Psf2ToPsf1 tl ds o e = recoded_table Utf8 Ucs2 ds tl o e
table_encodes Psf2ToVfont2 tl ds o e = e
table_encodes Vfont2ToPsf2 tl ds o e = e

-- a table that was measured is carried
carries : (c : Conversion) (tl : List ℕ) (t : ℕ) → Bytes tl → measured_of c tl ≡ Ok t → Carries (coding_of (source_kind c)) (coding_of (target_kind c)) tl (table_in c tl)
carries Psf1ToPsf2 tl t y e = recoded_carries Ucs2 Utf8 tl t (measured_is Psf1ToPsf2 Psf1ToPsf2 tl refl ∙ e)
carries Psf2ToPsf1 tl t y e = recoded_carries Utf8 Ucs2 tl t (measured_is Psf2ToPsf1 Psf2ToPsf1 tl refl ∙ e)
carries Psf2ToVfont2 tl t y e = same_carries Utf8 Utf8 tl refl y
carries Vfont2ToPsf2 tl t y e = same_carries Utf8 Utf8 tl refl y

-- glyph g of two fonts, which fills one height and width with the same bytes, is answered alike
module _ (s : List ℕ) (f : Font) (y : Bytes s) (e : check_of s ≡ Ok f) (g : ℕ) (l : g < f.count) (h w : ℕ) (p : List ℕ) (a : GlyphIs s f g f.kind h w p) where
  located : bitmap_of s f g ≡ Ok (bitmap_in s f g f.kind)
  located = glyph_found s f y e g l a.0.0

  viewed : view_of s (whole_of (bitmap_of s f g)) ≡ p
  viewed = ap (λ (b : Result Bitmap Refusal). view_of s (whole_of b)) located ∙ ap (λ (k : ℕ). take k (drop (bitmap_in s f g f.kind).start s)) a.0.4 ∙ a.2

  measures : metrics_of s f g (bitmap_of s f g) ≡ Ok (even_metrics h w)
  measures = ap (metrics_of s f g) located ∙ ap Ok a.0.1

-- two bitmaps of one height and width, with the same bytes
pixels_alike : (s o : List ℕ) (p q : Bitmap) (h w : ℕ) → p.height ≡ h → q.height ≡ h → p.width ≡ w → q.width ≡ w →
    take (glyph_bytes h w) (drop p.start s) ≡ take (glyph_bytes h w) (drop q.start o) → (y x : ℕ) → pixel_of s (Ok p) y x ≡ pixel_of o (Ok q) y x
pixels_alike s o p q h w hp hq wp wq e y x = go (below y h) (below x w)
  where
    go : (y < h) ⊎ (h ≤ y) → (x < w) ⊎ (w ≤ x) → pixel_of s (Ok p) y x ≡ pixel_of o (Ok q) y x
    go (inl a) (inl b) =
        pixel_in s p y x (omega (arith, a, hp)) (omega (arith, b, wp)) ∙ ap Ok (same_pixels s o p q h w wp wq e y x a b)
        ∙ sym (pixel_in o q y x (omega (arith, a, hq)) (omega (arith, b, wq)))
    go (inl a) (inr b) = pixel_past s p y x (omega (arith, a, hp)) (omega (arith, b, wp)) ∙ sym (pixel_past o q y x (omega (arith, a, hq)) (omega (arith, b, wq)))
    go (inr a) b = sym (pixel_below s p y x (omega (arith, a, hp))) ∙ pixel_below o q y x (omega (arith, a, hq))

-- and their rows have the same bytes
rows_alike : (s o : List ℕ) (p q : Bitmap) (h w : ℕ) → p.height ≡ h → q.height ≡ h → p.width ≡ w → q.width ≡ w →
    take (glyph_bytes h w) (drop p.start s) ≡ take (glyph_bytes h w) (drop q.start o) → (i : ℕ) → view_of s (row_of (Ok p) i) ≡ view_of o (row_of (Ok q) i)
unfolding glyph_bytes
rows_alike s o p q h w hp hq wp wq e i = go (below i h)
  where
    row_of_lem : (l : List ℕ) (b : Bitmap) → b.height ≡ h → b.width ≡ w → i < h → view_of l (row_of (Ok b) i) ≡ take (row_bytes w) (drop (i * row_bytes w) (take (h * row_bytes w) (drop b.start l)))
    row_of_lem l b eh ew a =
        ap (view_of l) (row_in b i (omega (arith, a, eh))) ∙ ap (λ (v : ℕ). take (row_bytes v) (drop (b.start + i * row_bytes v) l)) ew
        ∙ ap (take (row_bytes w)) (sym (drop-drop (i * row_bytes w) b.start l))
        ∙ sym (part_of_take (row_bytes w) (i * row_bytes w) (h * row_bytes w) (drop b.start l) (nth_within i h (row_bytes w) a))

    go : (i < h) ⊎ (h ≤ i) → view_of s (row_of (Ok p) i) ≡ view_of o (row_of (Ok q) i)
    go (inl a) = row_of_lem s p hp wp a ∙ ap (λ (x : List ℕ). take (row_bytes w) (drop (i * row_bytes w) x)) e ∙ sym (row_of_lem o q hq wq a)
    go (inr a) = ap (view_of s) (sym (row_below p i (omega (arith, a, hp)))) ∙ ap (view_of o) (row_below q i (omega (arith, a, hq)))

module _ (c : Conversion) (s : List ℕ) (f : Font) (n : ℕ) (y : Bytes s) (e : prepared_of c s ≡ Ok (f, n)) where
  abbrev tl : List ℕ
  tl = table_in c (tail_of s f)

  abbrev o : List ℕ
  o = rewritten s f (target_kind c) (table_in c (tail_of s f))

  abbrev f' : Font
  f' = rewritten_font s f (target_kind c)

  pub is_sound : check_of s ≡ Ok f
  is_sound = (ready c s f n y e).sound

  pub is_source : f.kind ≡ source_kind c
  is_source = (ready c s f n y e).kind

  -- the output is the font written anew
  pub output_rewritten : output_of c s f ≡ rewritten s f (target_kind c) (table_in c (tail_of s f))
  unfolding output_of
  output_rewritten = refl

  shape_by : (d : Conversion) → c ≡ d → KindShape (target_kind d) f.count f.width
  shape_by Psf1ToPsf2 q = tt
  shape_by Psf2ToPsf1 q = psf1_suits f (suits_is Psf2ToPsf1 c s f q ∙ (ready c s f n y e).suits)
  shape_by Psf2ToVfont2 q = tt
  shape_by Vfont2ToPsf2 q = tt

  shape : KindShape (target_kind c) f.count f.width
  shape = shape_by c refl

  carried : Carries (coding_of f.kind) (coding_of (target_kind c)) (tail_of s f) tl
  carried =
      subst (λ (k : Kind). Carries (coding_of k) (coding_of (target_kind c)) (tail_of s f) tl) (sym is_source)
      (carries c (tail_of s f) (ready c s f n y e).table (bytes_drop f.end s y) (ready c s f n y e).measured)

  out_length : length o ≡ n
  unfolding front_len
  out_length = rewritten_length s f y is_sound (target_kind c) tl (ready_even c s f n y e) ∙ sym (ready_long c s f n y e)

  short : length o ≤ limit
  short = omega (arith, out_length, (ready c s f n y e).short)

  out_bytes : Bytes o
  out_bytes = rewritten_bytes s f y is_sound (target_kind c) tl (carried.tail f.table f.count (tail_known s f y is_sound)).1

  out_sound : check_of o ≡ Ok f'
  out_sound = rewritten_sound s f y is_sound (ready_even c s f n y e) (target_kind c) tl shape carried short

  out_is : (f'.kind ≡ target_kind c) × (f'.count ≡ f.count) × (f'.height ≡ f.height) × (f'.table ≡ f.table)
  out_is = written_is (target_kind c) f.table f.count (field_at20 (target_kind c) (char_size f) (glyphs_in s f)) f.height f.width

  out_width : f'.width ≡ f.width
  out_width =
      written_width (target_kind c) f.table f.count (field_at20 (target_kind c) (char_size f) (glyphs_in s f)) f.height f.width
      (rewritten_as s f y is_sound (ready_even c s f n y e) (target_kind c) tl shape carried short).shape

  out_tail : tail_of o f' ≡ tl
  out_tail = rewritten_tail s f y is_sound (ready_even c s f n y e) (target_kind c) tl shape carried short

  -- its glyphs
  module _ (g : ℕ) (l : g < f.count) where
    abbrev part : List ℕ
    part = take (char_size f) (drop (g * char_size f) (glyphs_in s f))

    was : GlyphIs s f g f.kind f.height f.width part
    was = source_glyph s f y is_sound (ready_even c s f n y e) g l

    is : GlyphIs o f' g f'.kind f.height f.width part
    is =
        subst (λ (x : ℕ). GlyphIs o f' g f'.kind f.height f.width (take (char_size f) (drop x (glyphs_in s f)))) (evenly_place (target_kind c) (char_size f) f.count g l)
        (written_glyph (target_kind c) f.table f.count (char_size f) f.height f.width (evenly (char_size f) 0 f.count) (glyphs_in s f) tl o
        (rewritten_as s f y is_sound (ready_even c s f n y e) (target_kind c) tl shape carried short) g l)

    below_out : g < f'.count
    below_out = omega (arith, l, out_is.1)

    glyph_kept : view_of o (whole_of (bitmap_of o f' g)) ≡ view_of s (whole_of (bitmap_of s f g))
    glyph_kept =
        viewed o f' out_bytes out_sound g below_out f.height f.width part is ∙ sym (viewed s f y is_sound g l f.height f.width part was)

    metrics_kept : metrics_of o f' g (bitmap_of o f' g) ≡ metrics_of s f g (bitmap_of s f g)
    metrics_kept =
        measures o f' out_bytes out_sound g below_out f.height f.width part is ∙ sym (measures s f y is_sound g l f.height f.width part was)

    pixels_kept : (i j : ℕ) → pixel_of o (bitmap_of o f' g) i j ≡ pixel_of s (bitmap_of s f g) i j
    pixels_kept i j =
        ap (λ (b : Result Bitmap Refusal). pixel_of o b i j) (located o f' out_bytes out_sound g below_out f.height f.width part is)
        ∙ pixels_alike o s (bitmap_in o f' g f'.kind) (bitmap_in s f g f.kind) f.height f.width is.0.2 was.0.2 is.0.3 was.0.3 (is.2 ∙ sym was.2) i j
        ∙ sym (ap (λ (b : Result Bitmap Refusal). pixel_of s b i j) (located s f y is_sound g l f.height f.width part was))

    rows_kept : (i : ℕ) → view_of o (row_of (bitmap_of o f' g) i) ≡ view_of s (row_of (bitmap_of s f g) i)
    rows_kept i =
        ap (λ (b : Result Bitmap Refusal). view_of o (row_of b i)) (located o f' out_bytes out_sound g below_out f.height f.width part is)
        ∙ rows_alike o s (bitmap_in o f' g f'.kind) (bitmap_in s f g f.kind) f.height f.width is.0.2 was.0.2 is.0.3 was.0.3 (is.2 ∙ sym was.2) i
        ∙ sym (ap (λ (b : Result Bitmap Refusal). view_of s (row_of b i)) (located s f y is_sound g l f.height f.width part was))

  -- and those that neither has
  glyph_any : (g : ℕ) → (g < f.count) ⊎ (f.count ≤ g) → view_of o (whole_of (bitmap_of o f' g)) ≡ view_of s (whole_of (bitmap_of s f g))
  glyph_any g (inl l) = glyph_kept g l
  glyph_any g (inr h) =
      ap (λ (b : Result Bitmap Refusal). view_of o (whole_of b)) (sym (too_high o f' g (omega (arith, h, out_is.1)))) ∙ ap (λ (b : Result Bitmap Refusal). view_of s (whole_of b)) (too_high s f g h)

  pixels_any : (g : ℕ) → (g < f.count) ⊎ (f.count ≤ g) → (i j : ℕ) → pixel_of o (bitmap_of o f' g) i j ≡ pixel_of s (bitmap_of s f g) i j
  pixels_any g (inl l) i j = pixels_kept g l i j
  pixels_any g (inr h) i j =
      ap (λ (b : Result Bitmap Refusal). pixel_of o b i j) (sym (too_high o f' g (omega (arith, h, out_is.1)))) ∙ ap (λ (b : Result Bitmap Refusal). pixel_of s b i j) (too_high s f g h)

  rows_any : (g : ℕ) → (g < f.count) ⊎ (f.count ≤ g) → (i : ℕ) → view_of o (row_of (bitmap_of o f' g) i) ≡ view_of s (row_of (bitmap_of s f g) i)
  rows_any g (inl l) i = rows_kept g l i
  rows_any g (inr h) i =
      ap (λ (b : Result Bitmap Refusal). view_of o (row_of b i)) (sym (too_high o f' g (omega (arith, h, out_is.1)))) ∙ ap (λ (b : Result Bitmap Refusal). view_of s (row_of b i)) (too_high s f g h)

  metrics_any : (g : ℕ) → (g < f.count) ⊎ (f.count ≤ g) → metrics_of o f' g (bitmap_of o f' g) ≡ metrics_of s f g (bitmap_of s f g)
  metrics_any g (inl l) = metrics_kept g l
  metrics_any g (inr h) = ap (metrics_of o f' g) (sym (too_high o f' g (omega (arith, h, out_is.1)))) ∙ ap (metrics_of s f g) (too_high s f g h)

  -- its table has the same items
  items_kept : font_items o f' ≡ font_items s f
  items_kept =
      let w = described s f y is_sound in
      let ds = w.0 in
      let r = read_as s f y is_sound ds w.1 in
      let x = carried.reading ds r.0 r.1 in
      let z : Readable (coding_of f'.kind) ds × (tl ≡ encode (coding_of f'.kind) ds) = subst (λ (k : Kind). Readable (coding_of k) ds × (tl ≡ encode (coding_of k) ds)) (sym out_is.0) x in
      ap (items_in (coding_of f'.kind)) (out_tail ∙ z.1) ∙ items_read (coding_of f'.kind) ds z.0
      ∙ sym (ap (items_in (coding_of f.kind)) r.1 ∙ items_read (coding_of f.kind) ds r.0)

  -- it keeps what the font has
  pub output_keeps : Keeps s f (output_of c s f) (target_kind c)
  output_keeps = subst (λ (x : List ℕ). Keeps s f x (target_kind c)) (sym output_rewritten) (record {
    font = f';
    sound = out_sound;
    kind = out_is.0;
    count = out_is.1;
    height = out_is.2;
    width = out_width;
    table = out_is.3;
    glyphs = λ g. ap (view_of o) (part_asked o f' out_sound g) ∙ glyph_any g (below g f.count) ∙ sym (ap (view_of s) (part_asked s f is_sound g));
    rows = λ g i. ap (view_of o) (row_asked o f' out_sound g i) ∙ rows_any g (below g f.count) i ∙ sym (ap (view_of s) (row_asked s f is_sound g i));
    pixels = λ g i j. pixel_asked o f' out_sound g i j ∙ pixels_any g (below g f.count) i j ∙ sym (pixel_asked s f is_sound g i j);
    metrics = λ g. metrics_asked o f' out_sound g ∙ metrics_any g (below g f.count) ∙ sym (metrics_asked s f is_sound g);
    walks = λ g k. item_asked o f' out_sound g k ∙ (λ i. item_with (out_is.3 i) g k (items_kept i)) ∙ sym (item_asked s f is_sound g k);
    values = λ v. value_asked o f' out_sound v ∙ (λ i. value_with (out_is.3 i) v (items_kept i)) ∙ sym (value_asked s f is_sound v);
    sequences = λ vs. sequence_asked o f' out_sound vs ∙ (λ i. sequence_with (out_is.3 i) vs (items_kept i)) ∙ sym (sequence_asked s f is_sound vs);
    content = rewritten_content s f y is_sound (ready_even c s f n y e) (target_kind c) tl shape carried short;
  })

  -- its header has no extra bytes
  pub output_plain : Plain (output_of c s f) (target_kind c)
  output_plain =
      subst (λ (x : List ℕ). Plain x (target_kind c)) (sym output_rewritten)
      (written_plain (target_kind c) f.table f.count (char_size f) f.height f.width (evenly (char_size f) 0 f.count) (glyphs_in s f) tl o
      (rewritten_as s f y is_sound (ready_even c s f n y e) (target_kind c) tl shape carried short))

  -- its entries' addresses are evenly spaced
  pub output_addresses : target_kind c ≡ Vfont2 → (i : ℕ) → i < f.count → address_at (output_of c s f) (entry_at (header_len Vfont2) i) ≡ i * char_size f
  output_addresses q i l =
      ap (λ (x : List ℕ). address_at x (entry_at (header_len Vfont2) i)) output_rewritten
      ∙ written_address (target_kind c) f.table f.count (char_size f) f.height f.width (evenly (char_size f) 0 f.count) (glyphs_in s f) tl o
      (rewritten_as s f y is_sound (ready_even c s f n y e) (target_kind c) tl shape carried short) q i l
      ∙ evenly_place Vfont2 (char_size f) f.count i l

  pub output_length : length (output_of c s f) ≡ n
  output_length = ap length output_rewritten ∙ out_length

  pub output_bytes : Bytes (output_of c s f)
  output_bytes = subst Bytes (sym output_rewritten) out_bytes

-- a file is one font
pub one_font : (x : List ℕ) (a b : Font) → check_of x ≡ Ok a → check_of x ≡ Ok b → a ≡ b
one_font x a b p r = let z : Ok a ≡ Ok b = sym p ∙ r in cc

-- written back as the kind that it was, it is the file that it was
module _ (c d : Conversion) (s : List ℕ) (f : Font) (n : ℕ) (y : Bytes s) (e : prepared_of c s ≡ Ok (f, n)) (g : Font) (k : ℕ) (q : prepared_of d (output_of c s f) ≡ Ok (g, k))
    (same : target_kind d ≡ source_kind c) where
  abbrev out : List ℕ
  out = output_of c s f

  out_font : check_of (output_of c s f) ≡ Ok (rewritten_font s f (target_kind c))
  out_font = ap check_of (output_rewritten c s f n y e) ∙ out_sound c s f n y e

  the_font : g ≡ rewritten_font s f (target_kind c)
  the_font = one_font out g (rewritten_font s f (target_kind c)) (is_sound d out g k (output_bytes c s f n y e) q) out_font

  -- the second step began where the first ended
  meets : target_kind c ≡ source_kind d
  meets = sym (out_is c s f n y e).0 ∙ sym (ap (λ (x : Font). x.kind) the_font) ∙ is_source d out g k (output_bytes c s f n y e) q

  -- the table is the one that it was
  table_back : table_in d (table_in c (tail_of s f)) ≡ tail_of s f
  table_back =
      let w = described s f y (is_sound c s f n y e) in
      let ds = w.0 in
      let r = read_as s f y (is_sound c s f n y e) ds w.1 in
      let from : Readable (coding_of (source_kind c)) ds × (tail_of s f ≡ encode (coding_of (source_kind c)) ds) =
      subst (λ (j : Kind). Readable (coding_of j) ds × (tail_of s f ≡ encode (coding_of j) ds)) (is_source c s f n y e) r in
      let x : Readable (coding_of (target_kind c)) ds × (table_in c (tail_of s f) ≡ encode (coding_of (target_kind c)) ds) = (carried c s f n y e).reading ds r.0 r.1 in
      let z : Readable (coding_of (source_kind d)) ds × (table_in c (tail_of s f) ≡ encode (coding_of (source_kind d)) ds) =
      subst (λ (j : Kind). Readable (coding_of j) ds × (table_in c (tail_of s f) ≡ encode (coding_of j) ds)) meets x in
      table_encodes d (table_in c (tail_of s f)) ds z.0 z.1 ∙ ap (λ (j : Kind). encode (coding_of j) ds) same ∙ sym from.1

  abbrev tail_again : List ℕ
  tail_again = table_in d (tail_of (rewritten s f (target_kind c) (table_in c (tail_of s f))) (rewritten_font s f (target_kind c)))

  tail_same : tail_again ≡ tail_of s f
  tail_same = ap (table_in d) (out_tail c s f n y e) ∙ table_back

  -- the second output is the first written anew, with the table that it was
  twice_rewritten : output_of d (output_of c s f) g
      ≡ rewritten (rewritten s f (target_kind c) (table_in c (tail_of s f))) (rewritten_font s f (target_kind c)) f.kind tail_again
  twice_rewritten =
      output_rewritten d out g k (output_bytes c s f n y e) q
      ∙ λ i. rewritten (output_rewritten c s f n y e i) (the_font i) ((same ∙ sym (is_source c s f n y e)) i) (table_in d (tail_of (output_rewritten c s f n y e i) (the_font i)))

  -- which is what is written of the file's own parts
  pub output_again : output_of d (output_of c s f) g ≡ rewritten s f f.kind (tail_of s f)
  output_again =
      twice_rewritten
      ∙ rewritten_again s f y (is_sound c s f n y e) (ready_even c s f n y e) (target_kind c) (table_in c (tail_of s f)) (shape c s f n y e) (carried c s f n y e) (short c s f n y e) tail_again tail_same

  pub output_back : Bare (source_kind c) → Plain s (source_kind c) → output_of d (output_of c s f) g ≡ s
  output_back b p =
      let src = is_source c s f n y e in
      twice_rewritten
      ∙ rewritten_back s f y (is_sound c s f n y e) (ready_even c s f n y e) (target_kind c) (table_in c (tail_of s f)) (shape c s f n y e) (carried c s f n y e) (short c s f n y e)
      (subst Bare (sym src) b) (subst (Plain s) (sym src) p) tail_again tail_same

-- what is kept twice is kept
pub keeps_twice : (s o p : List ℕ) (f g : Font) (j k : Kind) → Keeps s f o j → check_of o ≡ Ok g → Keeps o g p k → Keeps s f p k
keeps_twice s o p f g j k a e b =
    join (subst (λ (x : Font). Keeps o x p k) (one_font o g a.font e a.sound) b)
  where
    join : Keeps o a.font p k → Keeps s f p k
    join b = record {
      font = b.font;
      sound = b.sound;
      kind = b.kind;
      count = b.count ∙ a.count;
      height = b.height ∙ a.height;
      width = b.width ∙ a.width;
      table = b.table ∙ a.table;
      glyphs = λ g. b.glyphs g ∙ a.glyphs g;
      rows = λ g i. b.rows g i ∙ a.rows g i;
      pixels = λ g y x. b.pixels g y x ∙ a.pixels g y x;
      metrics = λ g. b.metrics g ∙ a.metrics g;
      walks = λ g k. b.walks g k ∙ a.walks g k;
      values = λ v. b.values v ∙ a.values v;
      sequences = λ vs. b.sequences vs ∙ a.sequences vs;
      content = λ m h. b.content m (a.content m h);
    }

-- the front and the rest of a buffer over which something was laid
front_is : (p xs : List ℕ) (n : ℕ) → length p ≡ n → take n (over p xs) ≡ p
unfolding over
front_is p xs n e = take_at p (drop (length p) xs) n e

pub rest_from : (p xs : List ℕ) (m : ℕ) → length p ≤ m → drop m (over p xs) ≡ drop m xs
unfolding over
rest_from p xs m h =
    let e : length p + (m - length p) ≡ m = omega arith in
    ap (λ (x : ℕ). drop x (p ++ drop (length p) xs)) (sym e) ∙ drop-append-add p (drop (length p) xs) (m - length p)
    ∙ drop-drop (m - length p) (length p) xs ∙ ap (λ (x : ℕ). drop x xs) e

pub rest_is : (p xs : List ℕ) (n : ℕ) → length p ≡ n → drop n (over p xs) ≡ drop n xs
rest_is p xs n e = rest_from p xs n (omega arith)

-- the answer and the buffer
module _ (c : Conversion) (s xs : List ℕ) where
  -- a refused conversion leaves the buffer as it was
  pub stays : (r : Refusal) → converted_of c s (length xs) ≡ Err r → converted_into c s xs ≡ xs
  stays r e = go (prepared_of c s) refl
    where
      by_room : (f : Font) (n : ℕ) → prepared_of c s ≡ Ok (f, n) → (length xs < n) ⊎ (n ≤ length xs) → converted_into c s xs ≡ xs
      by_room f n q (inl l) = sym (no_room c s xs f n q l).1
      by_room f n q (inr l) = not_both _ n r (sym (wrote c s xs f n q l).0) e

      go : (p : Result (Font × ℕ) Refusal) → prepared_of c s ≡ p → converted_into c s xs ≡ xs
      go (Ok (f, n)) q = by_room f n q (below (length xs) n)
      go (Err u) q = sym (unprepared c s xs u q).1

  -- an answer that something was written comes from a font that the conversion was ready for
  pub readied : (n : ℕ) → converted_of c s (length xs) ≡ Ok n → (f : Font) × (prepared_of c s ≡ Ok (f, n)) × (converted_into c s xs ≡ over (output_of c s f) xs)
  readied n e = go (prepared_of c s) refl
    where
      same_length : (k : ℕ) → ◌≡◌ {A = Result ℕ Refusal} (Ok k) (Ok n) → k ≡ n
      same_length k z = cc

      by_room : (f : Font) (k : ℕ) → prepared_of c s ≡ Ok (f, k) → (length xs < k) ⊎ (k ≤ length xs) →
          (f : Font) × (prepared_of c s ≡ Ok (f, n)) × (converted_into c s xs ≡ over (output_of c s f) xs)
      by_room f k q (inl l) = not_both _ n _ e (sym (no_room c s xs f k q l).0)
      by_room f k q (inr l) = let w = wrote c s xs f k q l in (f, q ∙ ap (λ (m : ℕ). Ok (f, m)) (same_length k (w.0 ∙ e)), sym w.1)

      go : (p : Result (Font × ℕ) Refusal) → prepared_of c s ≡ p → (f : Font) × (prepared_of c s ≡ Ok (f, n)) × (converted_into c s xs ≡ over (output_of c s f) xs)
      go (Ok (f, k)) q = by_room f k q (below (length xs) k)
      go (Err u) q = not_both _ n u e (sym (unprepared c s xs u q).0)

  module _ (n : ℕ) (y : Bytes s) (e : converted_of c s (length xs) ≡ Ok n) where
    -- the first n bytes are the output
    pub output_is : take n (converted_into c s xs) ≡ output_of c s (readied n e).0
    output_is =
        let w = readied n e in
        ap (take n) w.2 ∙ front_is (output_of c s w.0) xs n (output_length c s w.0 n y w.1)

-- an answer by what it says
pub wrote_said : (x : Result ℕ Refusal) (n : ℕ) → says x ≡ gives n → x ≡ Ok n
wrote_said (Ok k) n e = let h : k ≡ n = cc in ap Ok h
wrote_said (Err r) n e = let z : ◌≡◌ {A = ℕ} 0 1 = cc in absurd (omega arith)

pub refused_said : (x : Result ℕ Refusal) (n p : ℕ) → says x ≡ refuses n p → (r : Refusal) × (x ≡ Err r)
refused_said (Ok k) n p e = let z : ◌≡◌ {A = ℕ} 0 1 = cc in absurd (omega arith)
refused_said (Err r) n p e = (r, refl)

module _ (c : Conversion) (s xs : List ℕ) where
  module _ (n : ℕ) (y : Bytes s) (e : converted_of c s (length xs) ≡ Ok n) where
    -- what was written
    pub means : Wrote c s n xs (converted_into c s xs)
    means =
        let w = readied c s xs n e in
        let f = w.0 in
        record {
          font = f;
          sound = is_sound c s f n y w.1;
          kind = is_source c s f n y w.1;
          long = ap length (output_is c s xs n y e) ∙ output_length c s f n y w.1;
          behind = ap (drop n) w.2 ∙ rest_is (output_of c s f) xs n (output_length c s f n y w.1);
          octets = subst Bytes (sym (output_is c s xs n y e)) (output_bytes c s f n y w.1);
          keeps = subst (λ (x : List ℕ). Keeps s f x (target_kind c)) (sym (output_is c s xs n y e)) (output_keeps c s f n y w.1);
          plain = subst (λ (x : List ℕ). Plain x (target_kind c)) (sym (output_is c s xs n y e)) (output_plain c s f n y w.1);
          addresses = λ q i l. ap (λ (x : List ℕ). address_at x (entry_at (header_len Vfont2) i)) (output_is c s xs n y e) ∙ output_addresses c s f n y w.1 q i l;
        }

-- there and back, where both steps are accepted: xs and ys are the two buffers
module _ (c d : Conversion) (s xs ys : List ℕ) (n k : ℕ) (y : Bytes s) (e : converted_of c s (length xs) ≡ Ok n)
    (q : converted_of d (take n (converted_into c s xs)) (length ys) ≡ Ok k) where
  pub back_keeps : (f : Font) × (check_of s ≡ Ok f) × Keeps s f (take k (converted_into d (take n (converted_into c s xs)) ys)) (target_kind d)
  back_keeps =
      let a = means c s xs n y e in
      let b = means d (take n (converted_into c s xs)) ys k a.octets q in
      (a.font, a.sound, keeps_twice s (take n (converted_into c s xs)) _ a.font b.font (target_kind c) (target_kind d) a.keeps b.sound b.keeps)

  -- the second output is the first's, converted
  back_is : (f g : Font) × (prepared_of c s ≡ Ok (f, n)) × (prepared_of d (output_of c s f) ≡ Ok (g, k))
      × (take k (converted_into d (take n (converted_into c s xs)) ys) ≡ output_of d (output_of c s f) g)
  back_is =
      let w = readied c s xs n e in
      let f = w.0 in
      let o = output_of c s f in
      let z : take n (converted_into c s xs) ≡ o = output_is c s xs n y e in
      let q' : converted_of d o (length ys) ≡ Ok k = subst (λ (x : List ℕ). converted_of d x (length ys) ≡ Ok k) z q in
      let v = readied d o ys k q' in
      (f, v.0, w.1, v.1, ap (λ (x : List ℕ). take k (converted_into d x ys)) z ∙ output_is d o ys k (output_bytes c s f n y w.1) q')

  pub back_bytes : target_kind d ≡ source_kind c → (source_kind c ≡ Psf1) ⊎ (source_kind c ≡ Psf2) → Plain s (source_kind c) → take k (converted_into d (take n (converted_into c s xs)) ys) ≡ s
  back_bytes same b p =
      let w = back_is in
      w.4 ∙ output_back c d s w.0 n y w.2 w.1 k w.3 same b p

  -- whatever its header, the file comes back as what is written of its own parts
  pub back_again : target_kind d ≡ source_kind c →
      (f : Font) × (check_of s ≡ Ok f) × (take k (converted_into d (take n (converted_into c s xs)) ys) ≡ rewritten s f f.kind (tail_of s f))
  back_again same =
      let w = back_is in
      (w.0, is_sound c s w.0 n y w.2, w.4 ∙ output_again c d s w.0 n y w.2 w.1 k w.3 same)
