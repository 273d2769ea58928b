-- A font with another table behind the same header and bitmaps: it is accepted, its reading is that table's, and what it is over the front of a
-- buffer.
use mathlib.Core.Path.{◌≡◌, refl, sym, ◌∙◌, ap, subst}
use mathlib.Core.Logic.{◌⊎◌, inl, inr}
use mathlib.Core.Bool.{Bool, true, false}
use mathlib.Core.List.{List, ◌++◌, append_assoc}
use Prim.Native.Nat.{ℕ, suc, ◌+◌, ◌-◌, ◌≤◌, ◌<◌}
use native.Mathlib.Omega.{arith}
use native.Mathlib.Nat.{mul-le-mul_right}
use lib.Dec.{ltb}
use borrow.Author.Tests.{ltb-true}
use lib.ListN.{length, take, drop, replicate, length-append, length-replicate, take-append-drop}
use lib.Seq.{take_at, drop_at, take-take, length-take-le}
use Rattle.base.specs.Meaning.{pick, Bytes}
use Rattle.base.specs.Reading.{when, over}
use Rattle.base.proofs.Parts.{bytes_take}
use Rattle.base.proofs.Over.{length_over}
use Rattle.base.proofs.Tests.{below}
use Rattle.refusal.specs.Meaning.{refusal}
use Rattle.refusal.specs.declared.Reason.TheVariants.{Ask, NoTable}
use Rattle.coding.specs.declared.Coding.TheVariants.{Utf8}
use Rattle.utf8.specs.Meaning.{Scalar}
use Rattle.table.specs.declared.Item.{Item}
use Rattle.table.specs.Meaning.{Desc, items, encode, Readable, IsTable}
use Rattle.table.specs.Reading.{items_in}
use Rattle.table.proofs.Reading.{items_bytes, items_back, unique}
use Rattle.lookup.specs.Reading.{item_at, find_value, find_sequence}
use Rattle.header.specs.declared.Kind.{Kind}
use Rattle.header.specs.declared.Kind.TheVariants.{Psf2}
use Rattle.header.specs.declared.Font.{Font}
use Rattle.header.specs.Meaning.{limit, glyph_bytes}
use Rattle.header.specs.Bounds.{Placed, KindPlaced, Even}
use Rattle.header.specs.Reading.{says_of}
use Rattle.header.proofs.Front.{says_front, parts}
use Rattle.stages.specs.Meaning.{coding_of, tail_of}
use Rattle.stages.specs.Reading.{through_body, through_entries, check_of}
use Rattle.stages.proofs.Cases.{body_after, body_whole, entries_after, entries_of_lem}
use Rattle.bitmap.specs.declared.Bitmap.{Bitmap}
use Rattle.bitmap.specs.Meaning.{even_bitmap, kind_metrics, pixel_in}
use Rattle.bitmap.proofs.Places.{known, too_high}
use Rattle.bitmap.specs.Reading.{kind_bitmap, bitmap_of, whole_of, row_of, pixel_of, metrics_of}
use Rattle.questions.specs.Reading.{font_items, walk_of, lookup_of, askable}
use Rattle.fonts.specs.Reading.{glyph_part_of, row_part_of, pixel_at, glyph_metrics_of, item_of, value_glyph, sequence_glyph}
use Rattle.content.specs.Meaning.{Describes}
use Rattle.content.proofs.Source.{is_placed, says_font}
use Rattle.content.proofs.Tails.{Tail, tail_sound}
use Rattle.content.proofs.Stretches.{part_of_take}
use Rattle.content.proofs.Same.{same_pixels}
use Rattle.mapping.specs.Meaning.{changed}
use Rattle.mapping.proofs.Changing.{length_changed}
use Rattle.mapping.proofs.Looking.{item_same}
use Rattle.laws.specs.Meaning.{Edits}
use Rattle.laws.proofs.Asking.{walks, looks, value_asked, sequence_asked}
use Rattle.laws.proofs.Converting.{rest_from}
use Rattle.laws.proofs.Located.{part_asked, row_asked, pixel_asked, metrics_asked}
use Rattle.std.specs.Prelude.{Result, Ok, Err, Option}
use Rattle.refusal.specs.declared.Refusal.{Refusal}

-- the table of an accepted font stands in the file
pub front_long : (s : List ℕ) (f : Font) → Bytes s → check_of s ≡ Ok f → f.end ≤ length s
front_long s f y sound = (is_placed s f y sound).7

-- a font with another table behind the same front is accepted, and its tail is that table
module _ (s : List ℕ) (f : Font) (y : Bytes s) (sound : check_of s ≡ Ok f) (kind : f.kind ≡ Psf2) (marked : f.table ≡ true) (es : List Desc)
    (count : length es ≡ f.count) (values : Readable Utf8 es) where
  abbrev retabled : List ℕ
  retabled = take f.end s ++ encode Utf8 es

  front_length : length (take f.end s) ≡ f.end
  front_length = length-take-le f.end s (front_long s f y sound)

  pub retabled_tail : tail_of retabled f ≡ encode Utf8 es
  retabled_tail = drop_at (take f.end s) (encode Utf8 es) f.end front_length

  pub retabled_front : take f.end retabled ≡ take f.end s
  retabled_front = take_at (take f.end s) (encode Utf8 es) f.end front_length

  says : says_of retabled ≡ Ok f
  says =
      let e = says_font s f y sound in
      let h : 32 ≤ length (take f.end s) = omega (arith, front_length, (parts s f e).2) in
      says_front (take f.end s) (encode Utf8 es) h ∙ sym (says_front (take f.end s) (drop f.end s) h) ∙ ap says_of (take-append-drop f.end s) ∙ e

  pub retabled_sound : length retabled ≤ limit → check_of retabled ≡ Ok f
  retabled_sound h = tail_sound retabled f tail_bytes through (subst (λ (t : Bool). Tail t (coding_of f.kind) f.count (tail_of retabled f)) (sym marked) is_table)
    where
      tail_bytes : Bytes (tail_of retabled f)
      tail_bytes = subst Bytes (sym retabled_tail) (items_bytes Utf8 (items es) values)

      through : through_entries retabled ≡ Ok f
      through =
          let l : f.end ≤ length retabled = omega (arith, front_length, length-append (take f.end s) (encode Utf8 es)) in
          let b : through_body retabled ≡ Ok f = sym (body_after retabled (Ok f) says h) ∙ sym (body_whole (length retabled) f l) in
          sym (entries_after retabled (Ok f) b) ∙ sym (entries_of_lem retabled f Psf2 kind)

      is_table : IsTable (coding_of f.kind) f.count (tail_of retabled f)
      is_table =
          subst (λ (k : Kind). IsTable (coding_of k) f.count (tail_of retabled f)) (sym kind)
          (record { reading = es; count = count; values = values; same = retabled_tail })

  pub retabled_describes : Describes retabled f true es
  retabled_describes =
      (count, subst (λ (k : Kind). Readable (coding_of k) es) (sym kind) values, subst (λ (k : Kind). tail_of retabled f ≡ encode (coding_of k) es) (sym kind) retabled_tail)

-- bytes laid over a front: the first of them, and others laid over as many
pub over_front : (p q xs : List ℕ) (n : ℕ) → length p ≡ n → take n (over (p ++ q) xs) ≡ p
unfolding over
over_front p q xs n e = ap (take n) (append_assoc p q (drop (length (p ++ q)) xs)) ∙ take_at p (q ++ drop (length (p ++ q)) xs) n e

pub over_over : (p q xs : List ℕ) → length p ≡ length q → over p (over q xs) ≡ over p xs
unfolding over
over_over p q xs e =
    ap (λ (n : ℕ). p ++ drop n (q ++ drop (length q) xs)) e ∙ ap (λ (x : List ℕ). p ++ x) (drop_at q (drop (length q) xs) (length q) refl)
    ∙ ap (λ (n : ℕ). p ++ drop n xs) (sym e)

-- a PSF2 font's bitmaps stand where its header says
same_bitmap : (f : Font) → f.kind ≡ Psf2 → (s o : List ℕ) (g : ℕ) → bitmap_of s f g ≡ bitmap_of o f g
unfolding bitmap_of
same_bitmap f e s o g =
    ap (λ (k : Kind). when (ltb g f.count) (kind_bitmap s f g k) (Err (refusal Ask 0))) e
    ∙ ap (λ (k : Kind). when (ltb g f.count) (kind_bitmap o f g k) (Err (refusal Ask 0))) (sym e)

-- and hold the same pixels where the bytes up to the table are the same
same_pixel : (f : Font) → f.kind ≡ Psf2 → (s o : List ℕ) → Placed s f → take f.end o ≡ take f.end s → (g i j : ℕ) → pixel_of o (bitmap_of o f g) i j ≡ pixel_of s (bitmap_of s f g) i j
unfolding when
same_pixel f e s o p q g i j =
    ap (λ (l : Result Bitmap Refusal). pixel_of o l i j) (same_bitmap f e o s g) ∙ go (below g f.count)
  where
    b : Bitmap
    b = even_bitmap f g

    even : Even f
    even = subst (KindPlaced f) e p.8

    bytes : g < f.count → take (glyph_bytes f.height f.width) (drop b.start o) ≡ take (glyph_bytes f.height f.width) (drop b.start s)
    bytes l =
        let z = glyph_bytes f.height f.width in
        let m : b.start + z ≤ f.end = omega (arith, even.0, even.1, mul-le-mul_right {m = suc g} {n = f.count} f.size l) in
        sym (part_of_take z b.start f.end o m) ∙ ap (λ (x : List ℕ). take z (drop b.start x)) q ∙ part_of_take z b.start f.end s m

    at_pixel : g < f.count → (t u : Bool) → ltb i f.height ≡ t → ltb j f.width ≡ u →
        when t (when u (Ok (pixel_in o b i j)) (Err (refusal Ask 0))) (Err (refusal Ask 0)) ≡ when t (when u (Ok (pixel_in s b i j)) (Err (refusal Ask 0))) (Err (refusal Ask 0))
    at_pixel l true true x y = ap Ok (same_pixels o s b b f.height f.width refl refl (bytes l) i j (ltb-true i f.height x) (ltb-true j f.width y))
    at_pixel l true false x y = refl
    at_pixel l false true x y = refl
    at_pixel l false false x y = refl

    go : (g < f.count) ⊎ (f.count ≤ g) → pixel_of o (bitmap_of s f g) i j ≡ pixel_of s (bitmap_of s f g) i j
    go (inl l) =
        let k = known s f g p l Psf2 e in
        ap (λ (x : Result Bitmap Refusal). pixel_of o x i j) (sym k) ∙ at_pixel l (ltb i f.height) (ltb j f.width) refl refl ∙ ap (λ (x : Result Bitmap Refusal). pixel_of s x i j) k
    go (inr h) =
        let k = too_high s f g h in
        ap (λ (x : Result Bitmap Refusal). pixel_of o x i j) (sym k) ∙ ap (λ (x : Result Bitmap Refusal). pixel_of s x i j) k

same_metrics : (f : Font) → f.kind ≡ Psf2 → (s o : List ℕ) (g : ℕ) (l : Result Bitmap Refusal) → metrics_of o f g l ≡ metrics_of s f g l
same_metrics f e s o g (Ok b) = ap (λ (k : Kind). Ok (kind_metrics o f g k)) e ∙ ap (λ (k : Kind). Ok (kind_metrics s f g k)) (sym e)
same_metrics f e s o g (Err r) = refl

-- a font that an edit may be asked of, and its descriptions
pub record Editable (xs : List ℕ) (len g v : ℕ) (ds : List Desc) : Type 0 where
  pub within : len ≤ length xs
  pub font : Font
  pub sound : check_of (take len xs) ≡ Ok font
  pub kind : font.kind ≡ Psf2
  pub marked : font.table ≡ true
  pub low : g < font.count
  pub scalar : Scalar v
  pub count : length ds ≡ font.count
  pub values : Readable Utf8 ds
  pub same : tail_of (take len xs) font ≡ encode Utf8 ds

-- a font with glyph g's description changed, laid over the front of a buffer with zeros behind it, up to the end of the old one
module _ (xs : List ℕ) (y : Bytes xs) (len g v : ℕ) (ds : List Desc) (a : Editable xs len g v ds) (change : Desc → Desc) (values : Readable Utf8 (changed change g ds))
    (n : ℕ) (out : List ℕ) (laid : out ≡ over ((take a.font.end (take len xs) ++ encode Utf8 (changed change g ds)) ++ replicate (len - n) 0) xs)
    (long : length (take a.font.end (take len xs) ++ encode Utf8 (changed change g ds)) ≡ n) (small : n ≤ limit) (room : n + (len - n) ≤ length xs) where
  abbrev f : Font
  f = a.font

  abbrev old : List ℕ
  old = take len xs

  abbrev new : List ℕ
  new = take f.end old ++ encode Utf8 (changed change g ds)

  zeros : List ℕ
  zeros = replicate (len - n) 0

  old_bytes : Bytes old
  old_bytes = bytes_take len xs y

  count : length (changed change g ds) ≡ f.count
  count = length_changed change g ds ∙ a.count

  all_long : length (new ++ zeros) ≡ n + (len - n)
  unfolding zeros
  all_long = length-append new (replicate (len - n) 0) ∙ omega (arith, long, length-replicate {A = ℕ} (len - n) 0)

  -- its parts in the buffer
  new_front : take n out ≡ new
  unfolding zeros
  new_front = ap (take n) laid ∙ over_front new zeros xs n long

  new_freed : take (len - n) (drop n out) ≡ replicate (len - n) 0
  unfolding over zeros
  new_freed =
      ap (λ (x : List ℕ). take (len - n) (drop n x)) (laid ∙ append_assoc new zeros (drop (length (new ++ zeros)) xs))
      ∙ ap (take (len - n)) (drop_at new (zeros ++ drop (length (new ++ zeros)) xs) n long)
      ∙ take_at zeros (drop (length (new ++ zeros)) xs) (len - n) (length-replicate {A = ℕ} (len - n) 0)

  new_behind : (m : ℕ) → len ≤ m → n ≤ m → drop m out ≡ drop m xs
  unfolding zeros
  new_behind m l k = ap (drop m) laid ∙ rest_from (new ++ zeros) xs m (omega (arith, all_long))

  new_whole : length out ≡ length xs
  unfolding zeros
  new_whole = ap length laid ∙ length_over (new ++ zeros) xs (omega (arith, all_long))

  pub new_sound : check_of (take n out) ≡ Ok f
  new_sound = ap check_of new_front ∙ retabled_sound old f old_bytes a.sound a.kind a.marked (changed change g ds) count values (omega (arith, long))

  -- any reading of the old font is its descriptions
  pub one_reading : (es : List Desc) → Describes old f true es → es ≡ ds
  one_reading es d =
      unique Utf8 es ds (subst (λ (x : Kind). Readable (coding_of x) es) a.kind d.1) a.values
      (sym (subst (λ (x : Kind). tail_of old f ≡ encode (coding_of x) es) a.kind d.2) ∙ a.same)

  new_reading : (es : List Desc) → Describes old f true es → Describes (take n out) f true (changed change g es)
  new_reading es d =
      subst (λ (x : List Desc). Describes (take n out) f true (changed change g x)) (sym (one_reading es d))
      (subst (λ (x : List ℕ). Describes x f true (changed change g ds)) (sym new_front)
      (retabled_describes old f old_bytes a.sound a.kind a.marked (changed change g ds) count values))

  -- the items of both
  items_of : (o : List ℕ) (es : List Desc) → Readable Utf8 es → tail_of o f ≡ encode Utf8 es → font_items o f ≡ items es
  items_of o es r e = subst (λ (x : Kind). items_in (coding_of x) (tail_of o f) ≡ items es) (sym a.kind) (ap (items_in Utf8) e ∙ items_back Utf8 es r)

  old_items : font_items old f ≡ items ds
  old_items = items_of old ds a.values a.same

  pub new_tail : tail_of (take n out) f ≡ encode Utf8 (changed change g ds)
  new_tail = ap (λ (x : List ℕ). tail_of x f) new_front ∙ retabled_tail old f old_bytes a.sound a.kind a.marked (changed change g ds) count values

  new_items : font_items (take n out) f ≡ items (changed change g ds)
  new_items = items_of (take n out) (changed change g ds) values new_tail

  new_others : (h k : ℕ) → (h ≡ g → ⊥) → item_of (take n out) h k ≡ item_of old h k
  new_others h k o =
      walks (take n out) f new_sound a.marked h k
      ∙ ap walk_of (ap (item_at h k) new_items ∙ item_same change g h k ds o ∙ ap (item_at h k) (sym old_items))
      ∙ sym (walks old f a.sound a.marked h k)

  new_glyphs : (h : ℕ) → glyph_part_of (take n out) h ≡ glyph_part_of old h
  new_glyphs h = part_asked (take n out) f new_sound h ∙ ap whole_of (same_bitmap f a.kind (take n out) old h) ∙ sym (part_asked old f a.sound h)

  new_rows : (h i : ℕ) → row_part_of (take n out) h i ≡ row_part_of old h i
  new_rows h i =
      row_asked (take n out) f new_sound h i ∙ ap (λ (x : Result Bitmap Refusal). row_of x i) (same_bitmap f a.kind (take n out) old h) ∙ sym (row_asked old f a.sound h i)

  new_metrics : (h : ℕ) → glyph_metrics_of (take n out) h ≡ glyph_metrics_of old h
  new_metrics h =
      metrics_asked (take n out) f new_sound h ∙ ap (metrics_of (take n out) f h) (same_bitmap f a.kind (take n out) old h)
      ∙ same_metrics f a.kind old (take n out) h (bitmap_of old f h) ∙ sym (metrics_asked old f a.sound h)

  pub same_front : take f.end (take n out) ≡ take f.end old
  same_front = ap (take f.end) new_front ∙ retabled_front old f old_bytes a.sound a.kind a.marked (changed change g ds) count values

  new_pixels : (h i j : ℕ) → pixel_at (take n out) h i j ≡ pixel_at old h i j
  new_pixels h i j =
      pixel_asked (take n out) f new_sound h i j
      ∙ same_pixel f a.kind old (take n out) (is_placed old f old_bytes a.sound) same_front h i j
      ∙ sym (pixel_asked old f a.sound h i j)

  pub edits : Edits (changed change g) g xs len out n
  edits =
      record {
        font = f;
        sound = a.sound;
        kind = a.kind;
        marked = a.marked;
        accepted = new_sound;
        reading = new_reading;
        others = new_others;
        front =
            let e = front_long old f old_bytes a.sound in
            let l = length-take-le len xs a.within in
            let m : f.end ≤ n = omega (arith, long, length-append (take f.end old) (encode Utf8 (changed change g ds)), length-take-le f.end old e) in
            sym (take-take f.end n out m) ∙ same_front ∙ take-take f.end len xs (omega (arith, e, l));
        glyphs = new_glyphs;
        rows = new_rows;
        pixels = new_pixels;
        metrics = new_metrics;
        behind = new_behind;
        freed = new_freed;
        whole = new_whole;
        inside = omega (arith, new_whole);
      }

  -- lookups of both, by what is found among the items
  pub value_moved : (w : ℕ) → find_value w 0 (items (changed change g ds)) ≡ find_value w 0 (items ds) → value_glyph (take n out) w ≡ value_glyph old w
  value_moved w q =
      value_asked (take n out) f new_sound w
      ∙ ap (λ (x : Option ℕ). pick f.table (when (ltb 0x10FFFF w) (Err (refusal Ask 0)) (lookup_of x)) (Err (refusal NoTable 0)))
      (ap (find_value w 0) new_items ∙ q ∙ ap (find_value w 0) (sym old_items))
      ∙ sym (value_asked old f a.sound w)

  pub sequence_moved : (vs : List ℕ) → find_sequence vs (items (changed change g ds)) ≡ find_sequence vs (items ds) → sequence_glyph (take n out) vs ≡ sequence_glyph old vs
  sequence_moved vs q =
      sequence_asked (take n out) f new_sound vs
      ∙ ap (λ (x : Option ℕ). pick f.table (when (askable vs) (lookup_of x) (Err (refusal Ask 0))) (Err (refusal NoTable 0)))
      (ap (find_sequence vs) new_items ∙ q ∙ ap (find_sequence vs) (sym old_items))
      ∙ sym (sequence_asked old f a.sound vs)

  low_value : v ≤ 0x10FFFF
  low_value = go a.scalar
    where
      go : Scalar v → v ≤ 0x10FFFF
      go (inl h) = omega arith
      go (inr h) = omega (arith, h.1)

  -- of v itself
  pub old_value : value_glyph old v ≡ lookup_of (find_value v 0 (items ds))
  old_value = looks old f a.sound a.marked v low_value ∙ ap (λ (x : List Item). lookup_of (find_value v 0 x)) old_items

  pub new_value : value_glyph (take n out) v ≡ lookup_of (find_value v 0 (items (changed change g ds)))
  new_value = looks (take n out) f new_sound a.marked v low_value ∙ ap (λ (x : List Item). lookup_of (find_value v 0 x)) new_items
