-- A written font is accepted, and is what was written: its font, its tail, each of its glyphs, and its bitmaps.
use mathlib.Core.Path.{◌≡◌, refl, sym, ◌∙◌, ap, subst}
use mathlib.Core.Bool.{Bool}
use mathlib.Core.List.{List, ◌++◌, append_assoc}
use Prim.Native.Nat.{ℕ, zero, suc, ◌+◌, ◌*◌, ◌≤◌, ◌<◌}
use native.Mathlib.Omega.{arith}
use lib.ListN.{length, get_or, take, drop, length-append}
use lib.Seq.{drop_at, take_all}
use Rattle.base.specs.Meaning.{Bytes}
use Rattle.header.specs.declared.Kind.{Kind}
use Rattle.header.specs.declared.Kind.TheVariants.{Psf1, Psf2, Vfont2}
use Rattle.header.specs.declared.Font.{Font}
use Rattle.header.specs.Meaning.{limit, glyph_bytes, header_len, entry_len}
use Rattle.header.specs.Reading.{says_of, header_bytes}
use Rattle.header.proofs.Known.{eight}
use Rattle.header.proofs.Written.{header_length}
use Rattle.entries.specs.declared.Entry.TheVariants.{Glyph}
use Rattle.entries.specs.Meaning.{entry_at, address_at, size_at}
use Rattle.entries.specs.Reading.{entry_of, scan_of}
use Rattle.bitmap.specs.Meaning.{even_metrics}
use Rattle.layout.specs.Reading.{evenly, dispatch_bytes, field_at20, font_bytes, kind_glyphs, glyphs_in}
use Rattle.layout.proofs.Parts.{dispatch_length, evenly_length, glyphs_of}
use Rattle.stages.specs.Meaning.{coding_of, tail_of}
use Rattle.stages.specs.Reading.{scanned, kind_entries, through_body, through_entries, check_of}
use Rattle.stages.proofs.Cases.{body_after, body_whole, entries_after, entries_of_lem, greatest_right}
use Rattle.content.specs.Meaning.{bitmap_in, Plain}
use Rattle.content.proofs.Stretches.{part_of_middle, nth_within, parts_same}
use Rattle.content.proofs.Tails.{Tail, tail_sound}
use Rattle.content.proofs.Headers.{glyph_small, written_font, written_is, HeaderAsks, says_written, header_plain}
use Rattle.content.proofs.Evens.{EvenFields, even_metrics_lem, even_rows, even_cols}
use Rattle.content.proofs.Gathered.{start_at, gathered_is}
use Rattle.content.proofs.Shapes.{Shape, Fills, GlyphIs, AllEven, glyph_some}
use Rattle.content.proofs.Dispatch.{entry_numbers, entry_fields, entry_says, scan_even}
use Rattle.std.specs.Prelude.{Ok}

-- where glyph g's bytes stand among the bitmaps
abbrev pub place_in : Kind → ℕ → List ℕ → ℕ → ℕ
place_in Psf1 c xs g = g * c
place_in Psf2 c xs g = g * c
place_in Vfont2 c xs g = get_or xs g 0

-- the bitmaps of n glyphs of c bytes: end to end; in vfont2 wherever the addresses say, which may share bytes
abbrev pub Addressed : Kind → ℕ → ℕ → List ℕ → List ℕ → Type 0
Addressed Psf1 n c xs b = length b ≡ n * c
Addressed Psf2 n c xs b = length b ≡ n * c
Addressed Vfont2 n c xs b = (length xs ≡ n) × ((i : ℕ) → i < n → get_or xs i 0 + c ≤ length b)

-- addresses one after the other
nth_evenly : (c i k j : ℕ) → j < k → get_or (evenly c i k) j 0 ≡ (i + j) * c
unfolding evenly
nth_evenly c i zero j l = absurd (omega arith)
nth_evenly c i (suc k) zero l = let z : i ≡ i + 0 = omega arith in ap (λ (x : ℕ). x * c) z
nth_evenly c i (suc k) (suc j) l = let z : suc i + j ≡ i + suc j = omega arith in nth_evenly c (suc i) k j (omega arith) ∙ ap (λ (x : ℕ). x * c) z

-- each at its index times c
pub evenly_place : (k : Kind) (c n g : ℕ) → g < n → place_in k c (evenly c 0 n) g ≡ g * c
evenly_place Psf1 c n g l = refl
evenly_place Psf2 c n g l = refl
evenly_place Vfont2 c n g l = let z : 0 + g ≡ g = omega arith in nth_evenly c 0 n g l ∙ ap (λ (x : ℕ). x * c) z

-- they serve bitmaps that stand end to end
pub evenly_addressed : (k : Kind) (n c : ℕ) (b : List ℕ) → length b ≡ n * c → Addressed k n c (evenly c 0 n) b
evenly_addressed Psf1 n c b e = e
evenly_addressed Psf2 n c b e = e
evenly_addressed Vfont2 n c b e = (evenly_length c 0 n, λ i l. omega (arith, evenly_place Vfont2 c n i l, nth_within i n c l, e))

-- a file that was written with numbers, bitmaps and a tail as its kind asks
pub record WrittenAs (k : Kind) (t : Bool) (n c h w : ℕ) (xs b tl o : List ℕ) : Type 0 where
  pub same : o ≡ font_bytes k t n c h w xs b tl
  pub shape : Shape k n h w
  pub size : c ≡ glyph_bytes h w
  pub addressed : Addressed k n c xs b
  pub tail : Tail t (coding_of k) n tl
  pub tail_bytes : Bytes tl
  pub short : length o ≤ limit

-- the font that is written
abbrev pub font_of : Kind → Bool → ℕ → ℕ → ℕ → ℕ → List ℕ → Font
font_of k t n c h w b = written_font k t n (field_at20 k c b) h w

-- each glyph's place is among the bitmaps
place_within : (k : Kind) (n c : ℕ) (xs b : List ℕ) → Addressed k n c xs b → (g : ℕ) → g < n → place_in k c xs g + c ≤ length b
place_within Psf1 n c xs b a g l = omega (arith, nth_within g n c l, a)
place_within Psf2 n c xs b a g l = omega (arith, nth_within g n c l, a)
place_within Vfont2 n c xs b a g l = a.1 g l

-- how many bytes a written font has
pub font_length : (k : Kind) (t : Bool) (n c h w : ℕ) (xs b tl : List ℕ) → length (font_bytes k t n c h w xs b tl) ≡ header_len k + length xs * entry_len k + length b + length tl
unfolding font_bytes
font_length k t n c h w xs b tl =
    let p = header_bytes k t n (field_at20 k c b) h w in
    let q = dispatch_bytes k c h w xs in
    omega (arith, length-append (p ++ q ++ b) tl, length-append (p ++ q) b, length-append p q, header_length k t n (field_at20 k c b) h w, dispatch_length k c h w xs)

-- where the bitmaps stand, and where they end
module _ (t : Bool) (n c h w : ℕ) (xs b : List ℕ) where
  bitmaps_at : (k : Kind) → Addressed k n c xs b → header_len k + length xs * entry_len k ≡ (written_font k t n (field_at20 k c b) h w).bitmaps
  bitmaps_at Psf1 a = omega arith
  bitmaps_at Psf2 a = omega arith
  bitmaps_at Vfont2 a = omega (arith, a.0)

  end_at : (k : Kind) → Shape k n h w → c ≡ glyph_bytes h w → Addressed k n c xs b →
      (written_font k t n (field_at20 k c b) h w).bitmaps + length b ≡ (written_font k t n (field_at20 k c b) h w).end
  end_at Psf1 s e a =
      let q : c ≡ h = e ∙ ap (glyph_bytes h) s.6.1 ∙ sym (eight h) in
      ap (λ (x : ℕ). 4 + x) (a ∙ ap (λ (x : ℕ). n * x) q)
  end_at Psf2 s e a = omega (arith, a)
  end_at Vfont2 s e a = refl

  asked : (k : Kind) → Shape k n h w → c ≡ glyph_bytes h w → length b < 4294967296 → HeaderAsks k n (field_at20 k c b) h w
  asked Psf1 s e l = (s.6.0, s.2)
  asked Psf2 s e l = (s.0, s.1, s.2, s.3, s.4, s.5, e)
  asked Vfont2 s e l = (s.0, s.1, s.3, s.5, l)

module _ (k : Kind) (t : Bool) (n c h w : ℕ) (xs b tl o : List ℕ) (r : WrittenAs k t n c h w xs b tl o) where
  abbrev font : Font
  font = font_of k t n c h w b

  abbrev head : List ℕ
  head = header_bytes k t n (field_at20 k c b) h w

  abbrev table : List ℕ
  table = dispatch_bytes k c h w xs

  parts : o ≡ head ++ table ++ b ++ tl
  unfolding font_bytes
  parts = r.same

  flat : o ≡ head ++ (table ++ (b ++ tl))
  flat = parts ∙ append_assoc (head ++ table) b tl ∙ append_assoc head table (b ++ tl)

  front_length : length (head ++ table) ≡ font.bitmaps
  front_length =
      omega (arith, length-append head table, header_length k t n (field_at20 k c b) h w, dispatch_length k c h w xs, bitmaps_at t n c h w xs b k r.addressed)

  whole_length : length (head ++ table ++ b) ≡ font.end
  whole_length = omega (arith, length-append (head ++ table) b, front_length, end_at t n c h w xs b k r.shape r.size r.addressed)

  all_length : length o ≡ font.end + length tl
  all_length = omega (arith, ap length parts, length-append (head ++ table ++ b) tl, whole_length)

  small : length b ≤ limit
  small = omega (arith, r.short, all_length, whole_length, length-append (head ++ table) b)

  says : says_of o ≡ Ok font
  says = says_written t n (field_at20 k c b) h w (table ++ (b ++ tl)) o k flat (asked t n c h w xs b k r.shape r.size (omega (arith, small)))

  -- its header has no extra bytes
  pub written_plain : Plain o k
  written_plain =
      header_plain t n (field_at20 k c b) h w (table ++ (b ++ tl)) o k flat (asked t n c h w xs b k r.shape r.size (omega (arith, small)))

  through_body_lem : through_body o ≡ Ok font
  through_body_lem = sym (body_after o (Ok font) says r.short) ∙ sym (body_whole (length o) font (omega (arith, all_length)))

  -- its tail is the one that was written
  pub written_tail : tail_of o (font_of k t n c h w b) ≡ tl
  written_tail = ap (drop font.end) parts ∙ drop_at (head ++ table ++ b) tl font.end whole_length

  -- where glyph g's bytes stand in the file
  module _ (g : ℕ) (l : g < n) where
    place_inside : font.bitmaps + place_in k c xs g + c ≤ length o
    place_inside =
        omega (arith, all_length, end_at t n c h w xs b k r.shape r.size r.addressed, place_within k n c xs b r.addressed g l)

    place_bytes : take c (drop (font.bitmaps + place_in k c xs g) o) ≡ take c (drop (place_in k c xs g) b)
    place_bytes =
        ap (λ (x : List ℕ). take c (drop (font.bitmaps + place_in k c xs g) x)) parts
        ∙ part_of_middle c font.bitmaps (place_in k c xs g) (head ++ table) b tl front_length (place_within k n c xs b r.addressed g l)

  -- all bitmaps, end to end
  bitmaps_back : take (length b) (drop font.bitmaps o) ≡ b
  bitmaps_back =
      let z : font.bitmaps ≡ font.bitmaps + 0 = omega arith in
      ap (λ (x : List ℕ). take (length b) (drop font.bitmaps x)) parts ∙ ap (λ (m : ℕ). take (length b) (drop m (head ++ table ++ b ++ tl))) z
      ∙ part_of_middle (length b) font.bitmaps 0 (head ++ table) b tl front_length (omega arith) ∙ take_all (length b) b (omega arith)

-- the entries of a written vfont2 file
module _ (t : Bool) (n c h w : ℕ) (xs b tl o : List ℕ) (r : WrittenAs Vfont2 t n c h w xs b tl o) where
  some_byte : 1 ≤ c
  some_byte = omega (arith, r.size, glyph_some h w r.shape.2 r.shape.4)

  module _ (i : ℕ) (l : i < n) where
    low : get_or xs i 0 < 4294967296
    low = omega (arith, r.addressed.1 i l, small Vfont2 t n c h w xs b tl o r)

    few : c < 4294967296
    few = omega (arith, r.size, glyph_small h w r.shape.3 r.shape.5)

    in_list : i < length xs
    in_list = omega (arith, r.addressed.0)

    numbers : (address_at o (entry_at 32 i) ≡ get_or xs i 0) × (size_at o (entry_at 32 i) ≡ c)
    numbers =
        entry_numbers (header_bytes Vfont2 t n (length b) h w) xs (b ++ tl) o 32 c h w (flat Vfont2 t n c h w xs b tl o r) (header_length Vfont2 t n (length b) h w)
        few r.shape.3 r.shape.5 i in_list low

    even_fields : EvenFields o h w (entry_at 32 i)
    even_fields =
        entry_fields (header_bytes Vfont2 t n (length b) h w) xs (b ++ tl) o 32 c h w (flat Vfont2 t n c h w xs b tl o r) (header_length Vfont2 t n (length b) h w)
        few r.shape.3 r.shape.5 i in_list low some_byte

    entry_glyph : entry_of o (length b) (entry_at 32 i) ≡ Glyph h w
    entry_glyph =
        entry_says (header_bytes Vfont2 t n (length b) h w) xs (b ++ tl) o 32 c h w (flat Vfont2 t n c h w xs b tl o r) (header_length Vfont2 t n (length b) h w)
        few r.shape.3 r.shape.5 i in_list low (length b) r.size r.shape.2 r.shape.4 some_byte (r.addressed.1 i l)

  scan_passes : scanned (font_of Vfont2 t n c h w b) (scan_of o (length b) 32 n 0 0 0) ≡ Ok (font_of Vfont2 t n c h w b)
  scan_passes =
      ap (scanned (font_of Vfont2 t n c h w b)) (scan_even o (length b) 32 h w n r.shape.0 r.shape.2 r.shape.4 entry_glyph)
      ∙ sym (greatest_right (font_of Vfont2 t n c h w b) h w (refl, refl))

-- each entry has the address that was written
pub written_address : (k : Kind) (t : Bool) (n c h w : ℕ) (xs b tl o : List ℕ) → WrittenAs k t n c h w xs b tl o → k ≡ Vfont2 → (i : ℕ) → i < n →
    address_at o (entry_at (header_len Vfont2) i) ≡ get_or xs i 0
written_address k t n c h w xs b tl o r q i l = (numbers t n c h w xs b tl o (subst (λ (j : Kind). WrittenAs j t n c h w xs b tl o) q r) i l).0

module _ (t : Bool) (n c h w : ℕ) (xs b tl o : List ℕ) where
  entries_pass : (k : Kind) → WrittenAs k t n c h w xs b tl o → kind_entries o (font_of k t n c h w b) k ≡ Ok (font_of k t n c h w b)
  entries_pass Psf1 r = refl
  entries_pass Psf2 r = refl
  entries_pass Vfont2 r = scan_passes t n c h w xs b tl o r

  -- the tail, as its font asks for it
  tail_asked : (k : Kind) (x : List ℕ) → Tail t (coding_of k) n x → Tail (font_of k t n c h w b).table (coding_of (font_of k t n c h w b).kind) (font_of k t n c h w b).count x
  tail_asked Psf1 x v = v
  tail_asked Psf2 x v = v
  tail_asked Vfont2 x v = v

  -- glyph g's bitmap, by the kind
  abbrev Stands : Kind → ℕ → Type 0
  Stands k g = Fills o (font_of k t n c h w b) g k h w × ((bitmap_in o (font_of k t n c h w b) g k).start ≡ (font_of k t n c h w b).bitmaps + place_in k c xs g)

  stands : (k : Kind) → WrittenAs k t n c h w xs b tl o → (g : ℕ) → g < n → Stands k g
  stands Psf1 r g l =
      let ew = r.shape.6.1 in
      let q : h ≡ glyph_bytes h w = eight h ∙ ap (glyph_bytes h) (sym ew) in
      (((λ x. x), (λ i. even_metrics h (sym ew i)), refl, sym ew, q), ap (λ (x : ℕ). 4 + g * x) (q ∙ sym r.size))
  stands Psf2 r g l = (((λ x. x), refl, refl, refl, r.size), refl)
  stands Vfont2 r g l =
      let a = numbers t n c h w xs b tl o r g l in
      let f = even_fields t n c h w xs b tl o r g l in
      let lh : h < 32768 = omega (arith, r.shape.3) in
      let lw : w < 32768 = omega (arith, r.shape.5) in
      let at = entry_at 32 g in
      ((f.0, even_metrics_lem o h w at lh lw f, even_rows o h w at lh f, even_cols o h w at lw f, a.1 ∙ r.size), ap (λ (x : ℕ). 32 + n * 18 + x) a.0)

-- its width is the one that was written, for PSF1 has no other
pub written_width : (k : Kind) (t : Bool) (n z h w : ℕ) → Shape k n h w → (written_font k t n z h w).width ≡ w
written_width Psf1 t n z h w s = sym s.6.1
written_width Psf2 t n z h w s = refl
written_width Vfont2 t n z h w s = refl

module _ (k : Kind) (t : Bool) (n c h w : ℕ) (xs b tl o : List ℕ) (r : WrittenAs k t n c h w xs b tl o) where
  through_entries_lem : through_entries o ≡ Ok (font_of k t n c h w b)
  through_entries_lem =
      let f = font_of k t n c h w b in
      sym (entries_after o (Ok f) (through_body_lem k t n c h w xs b tl o r)) ∙ sym (entries_of_lem o f k (written_is k t n (field_at20 k c b) h w).0)
      ∙ entries_pass t n c h w xs b tl o k r

  -- it is accepted
  pub written_sound : check_of o ≡ Ok (font_of k t n c h w b)
  written_sound =
      let e = written_tail k t n c h w xs b tl o r in
      tail_sound o (font_of k t n c h w b) (subst Bytes (sym e) r.tail_bytes) through_entries_lem
      (tail_asked t n c h w xs b tl o k (tail_of o (font_of k t n c h w b)) (subst (Tail t (coding_of k) n) (sym e) r.tail))

  -- each glyph fills the height and width, and has the bytes of its place among the bitmaps
  pub written_glyph : (g : ℕ) → g < n → GlyphIs o (font_of k t n c h w b) g (font_of k t n c h w b).kind h w (take c (drop (place_in k c xs g) b))
  written_glyph g l =
      let f = font_of k t n c h w b in
      let m = stands t n c h w xs b tl o k r g l in
      let inside : (bitmap_in o f g k).start + glyph_bytes h w ≤ length o = omega (arith, m.1, r.size, place_inside k t n c h w xs b tl o r g l) in
      let bytes : take (glyph_bytes h w) (drop (bitmap_in o f g k).start o) ≡ take c (drop (place_in k c xs g) b) =
      (λ i. take (sym r.size i) (drop (m.1 i) o)) ∙ place_bytes k t n c h w xs b tl o r g l in
      subst (λ (j : Kind). GlyphIs o f g j h w (take c (drop (place_in k c xs g) b))) (sym (written_is k t n (field_at20 k c b) h w).0) (m.0, inside, bytes)

-- all its glyphs fill its height and width
module _ (t : Bool) (n c h w : ℕ) (xs b tl o : List ℕ) where
  -- so that it can be written anew
  pub written_even : (k : Kind) → WrittenAs k t n c h w xs b tl o → AllEven o (font_of k t n c h w b) (font_of k t n c h w b).kind
  written_even Psf1 r = tt
  written_even Psf2 r = tt
  written_even Vfont2 r = λ i l. let g = written_glyph Vfont2 t n c h w xs b tl o r i l in (g.0.0, g.0.1)

-- the bitmaps that are read again: a list y, where each glyph's bytes stand at its place
module _ (t : Bool) (n c h w : ℕ) (xs b tl o y : List ℕ) (ly : length y ≡ n * c) where
  glyphs_back : (k : Kind) → WrittenAs k t n c h w xs b tl o → ((g : ℕ) → g < n → take c (drop (place_in k c xs g) b) ≡ take c (drop (g * c) y)) →
      kind_glyphs o (font_of k t n c h w b) k ≡ y
  glyphs_back Psf1 r p =
      let q : n * h ≡ length b = omega (arith, end_at t n c h w xs b Psf1 r.shape r.size r.addressed) in
      ap (λ (x : ℕ). take x (drop 4 o)) q ∙ bitmaps_back Psf1 t n c h w xs b tl o r ∙ parts_same n c b y r.addressed ly p
  glyphs_back Psf2 r p =
      ap (λ (x : ℕ). take x (drop 32 o)) (sym r.addressed) ∙ bitmaps_back Psf2 t n c h w xs b tl o r ∙ parts_same n c b y r.addressed ly p
  glyphs_back Vfont2 r p =
      let e = r.size in
      let f = font_of Vfont2 t n c h w b in
      let each : (i : ℕ) → i < n → take (glyph_bytes h w) (drop (start_at o f (0 + i)) o) ≡ take (glyph_bytes h w) (drop (i * glyph_bytes h w) y) =
      λ i l. let z : 0 + i ≡ i = omega arith in
      ap (λ (x : ℕ). take (glyph_bytes h w) (drop (start_at o f x) o)) z ∙ (written_glyph Vfont2 t n c h w xs b tl o r i l).2 ∙ p i l ∙ λ j. take (e j) (drop (i * e j) y) in
      gathered_is o f (glyph_bytes h w) 0 n y (ly ∙ ap (λ (x : ℕ). n * x) e) each

  -- the same, of the font's own kind
  pub written_glyphs : (k : Kind) → WrittenAs k t n c h w xs b tl o → ((g : ℕ) → g < n → take c (drop (place_in k c xs g) b) ≡ take c (drop (g * c) y)) →
      glyphs_in o (font_of k t n c h w b) ≡ y
  written_glyphs k r p = sym (glyphs_of o (font_of k t n c h w b) k (written_is k t n (field_at20 k c b) h w).0) ∙ glyphs_back k r p

-- where they were written end to end, they are those that were written
pub written_evenly : (k : Kind) (t : Bool) (n c h w : ℕ) (b tl o : List ℕ) → length b ≡ n * c → WrittenAs k t n c h w (evenly c 0 n) b tl o → glyphs_in o (font_of k t n c h w b) ≡ b
written_evenly k t n c h w b tl o lb r =
    written_glyphs t n c h w (evenly c 0 n) b tl o b lb k r (λ g l. ap (λ (x : ℕ). take c (drop x b)) (evenly_place k c n g l))
