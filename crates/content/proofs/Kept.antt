-- An accepted font's bitmaps written anew, as a file of any kind: the same content; and, written back, the same bytes.
use mathlib.Core.Path.{◌≡◌, refl, sym, ◌∙◌, ap, subst}
use mathlib.Core.List.{List}
use Prim.Native.Nat.{ℕ, ◌+◌, ◌*◌, ◌≤◌, ◌<◌}
use native.Mathlib.Omega.{arith}
use lib.ListN.{length, take, drop}
use Rattle.base.specs.Meaning.{Bytes}
use Rattle.table.specs.Meaning.{Desc, encode, Readable}
use Rattle.header.specs.declared.Kind.{Kind}
use Rattle.header.specs.declared.Font.{Font}
use Rattle.header.specs.Meaning.{limit, glyph_bytes, char_size, header_len, entry_len}
use Rattle.layout.specs.Reading.{evenly, field_at20, font_bytes, glyphs_in}
use Rattle.layout.proofs.Parts.{evenly_length}
use Rattle.stages.specs.Meaning.{coding_of, tail_of}
use Rattle.stages.specs.Reading.{check_of}
use Rattle.content.specs.Meaning.{Content, bitmap_in, HasContent, Plain}
use Rattle.content.proofs.Tails.{tail_known}
use Rattle.content.proofs.Tables.{Carries}
use Rattle.content.proofs.Headers.{written_is}
use Rattle.content.proofs.Shapes.{KindShape, AllEven}
use Rattle.content.proofs.Source.{is_placed, glyphs_bytes, source_shape, source_length, source_glyph}
use Rattle.content.proofs.Written.{WrittenAs, font_of, place_in, font_length, evenly_place, evenly_addressed, written_tail, written_width, written_sound, written_glyph, written_glyphs}
use Rattle.content.proofs.Octets.{written_bytes}
use Rattle.content.proofs.Same.{SameGlyph, filled_same, described_moved, same_content}
use Rattle.content.proofs.Self.{Bare, self}
use Rattle.std.specs.Prelude.{Ok}

-- a font's glyphs, written one after the other as a file of a kind, before a tail
abbrev pub rewritten : List ℕ → Font → Kind → List ℕ → List ℕ
rewritten s f k tl =
    font_bytes k f.table f.count (char_size f) f.height f.width (evenly (char_size f) 0 f.count) (glyphs_in s f) tl

-- the font that it is
abbrev pub rewritten_font : List ℕ → Font → Kind → Font
rewritten_font s f k = font_of k f.table f.count (char_size f) f.height f.width (glyphs_in s f)

-- a file written with the bytes of each glyph of a font, wherever they stand, and a tail that carries the font's readings
module _ (s : List ℕ) (f : Font) (y : Bytes s) (e : check_of s ≡ Ok f) (v : AllEven s f f.kind) (k : Kind) (xs b tl o : List ℕ)
    (r : WrittenAs k f.table f.count (char_size f) f.height f.width xs b tl o)
    (gs : (g : ℕ) → g < f.count → take (char_size f) (drop (place_in k (char_size f) xs g) b) ≡ take (char_size f) (drop (g * char_size f) (glyphs_in s f)))
    (c : Carries (coding_of f.kind) (coding_of k) (tail_of s f) tl) where
  abbrev font : Font
  font = font_of k f.table f.count (char_size f) f.height f.width b

  -- each of its glyphs is drawn as it was
  pub kept_glyph : (g : ℕ) → g < f.count → SameGlyph s f o (font_of k f.table f.count (char_size f) f.height f.width b) g
  kept_glyph g l =
      let q = written_glyph k f.table f.count (char_size f) f.height f.width xs b tl o r g l in
      filled_same s f o font g f.height f.width (take (char_size f) (drop (g * char_size f) (glyphs_in s f))) (source_glyph s f y e v g l) (q.0, q.1, q.2 ∙ gs g l)

  -- with the same bytes, filler bits among them
  pub kept_bytes : (g : ℕ) → g < f.count →
      let f' = font_of k f.table f.count (char_size f) f.height f.width b in
      take (char_size f) (drop (bitmap_in o f' g f'.kind).start o) ≡ take (char_size f) (drop (bitmap_in s f g f.kind).start s)
  kept_bytes g l =
      (written_glyph k f.table f.count (char_size f) f.height f.width xs b tl o r g l).2 ∙ gs g l ∙ sym (source_glyph s f y e v g l).2

  -- and its bitmaps, end to end, are the font's
  pub kept_glyphs : glyphs_in o (font_of k f.table f.count (char_size f) f.height f.width b) ≡ glyphs_in s f
  kept_glyphs = written_glyphs f.table f.count (char_size f) f.height f.width xs b tl o (glyphs_in s f) (source_length s f y e v) k r gs

  kept_reading : (ds : List Desc) → Readable (coding_of f.kind) ds → tail_of s f ≡ encode (coding_of f.kind) ds → Readable (coding_of font.kind) ds × (tail_of o font ≡ encode (coding_of font.kind) ds)
  kept_reading ds p q =
      let x = c.reading ds p q in
      subst (λ (j : Kind). Readable (coding_of j) ds × (tail_of o font ≡ encode (coding_of j) ds)) (sym (written_is k f.table f.count (field_at20 k (char_size f) b) f.height f.width).0)
      (x.0, written_tail k f.table f.count (char_size f) f.height f.width xs b tl o r ∙ x.1)

  -- it has the font's content
  pub kept_content : (m : Content) → HasContent s m → HasContent o m
  kept_content =
      let w = written_is k f.table f.count (field_at20 k (char_size f) b) f.height f.width in
      same_content s f o font e (written_sound k f.table f.count (char_size f) f.height f.width xs b tl o r) (sym w.1) (sym w.3) kept_glyph
      (described_moved s f o font (sym w.1) kept_reading f.table)

  -- written with the tail that the font had, it is what is written of the font
  pub kept_again : (tl' : List ℕ) → tl' ≡ tail_of s f → rewritten o (font_of k f.table f.count (char_size f) f.height f.width b) f.kind tl' ≡ rewritten s f f.kind (tail_of s f)
  kept_again tl' et =
      let w = written_is k f.table f.count (field_at20 k (char_size f) b) f.height f.width in
      let ww = written_width k f.table f.count (field_at20 k (char_size f) b) f.height f.width r.shape in
      let z : char_size font ≡ char_size f = λ i. glyph_bytes (w.2 i) (ww i) in
      λ i. font_bytes f.kind (w.3 i) (w.1 i) (z i) (w.2 i) (ww i) (evenly (z i) 0 (w.1 i)) (kept_glyphs i) (et i)

  -- written back with the tail that it had, the font is the file that it was
  pub kept_back : Bare f.kind → Plain s f.kind → (tl' : List ℕ) → tl' ≡ tail_of s f → rewritten o (font_of k f.table f.count (char_size f) f.height f.width b) f.kind tl' ≡ s
  kept_back p q tl' et = kept_again tl' et ∙ sym (self s f y e (evenly (char_size f) 0 f.count) p q)

-- how many bytes it has, and that they are bytes
module _ (s : List ℕ) (f : Font) (y : Bytes s) (e : check_of s ≡ Ok f) (k : Kind) (tl : List ℕ) where
  -- a header, entries, bitmaps and the tail
  pub rewritten_length : AllEven s f f.kind → length (rewritten s f k tl) ≡ header_len k + f.count * entry_len k + f.count * char_size f + length tl
  rewritten_length v =
      let xs = evenly (char_size f) 0 f.count in
      let q : length xs * entry_len k ≡ f.count * entry_len k = ap (λ (x : ℕ). x * entry_len k) (evenly_length (char_size f) 0 f.count) in
      omega (arith, font_length k f.table f.count (char_size f) f.height f.width xs (glyphs_in s f) tl, source_length s f y e v, q)

  -- bytes, where the tail is bytes
  pub rewritten_bytes : Bytes tl → Bytes (rewritten s f k tl)
  rewritten_bytes b =
      written_bytes k f.table f.count (char_size f) f.height f.width (evenly (char_size f) 0 f.count) (glyphs_in s f) tl (is_placed s f y e).3
      (glyphs_bytes s f y e) b

module _ (s : List ℕ) (f : Font) (y : Bytes s) (e : check_of s ≡ Ok f) (v : AllEven s f f.kind) (k : Kind) (tl : List ℕ)
    (ks : KindShape k f.count f.width) (c : Carries (coding_of f.kind) (coding_of k) (tail_of s f) tl) (short : length (rewritten s f k tl) ≤ limit) where
  -- it is written as its kind asks
  pub rewritten_as : WrittenAs k f.table f.count (char_size f) f.height f.width (evenly (char_size f) 0 f.count) (glyphs_in s f) tl (rewritten s f k tl)
  rewritten_as =
      let p = source_shape s f y e v in
      let q = c.tail f.table f.count (tail_known s f y e) in
      record {
        same = refl;
        shape = (p.0, p.1, p.2, p.3, p.4, p.5, ks);
        size = refl;
        addressed = evenly_addressed k f.count (char_size f) (glyphs_in s f) (source_length s f y e v);
        tail = q.0;
        tail_bytes = q.1;
        short = short;
      }

  -- it is accepted
  pub rewritten_sound : check_of (rewritten s f k tl) ≡ Ok (rewritten_font s f k)
  rewritten_sound = written_sound k f.table f.count (char_size f) f.height f.width (evenly (char_size f) 0 f.count) (glyphs_in s f) tl (rewritten s f k tl) rewritten_as

  -- its tail is the one that was given
  pub rewritten_tail : tail_of (rewritten s f k tl) (rewritten_font s f k) ≡ tl
  rewritten_tail = written_tail k f.table f.count (char_size f) f.height f.width (evenly (char_size f) 0 f.count) (glyphs_in s f) tl (rewritten s f k tl) rewritten_as

  in_place : (g : ℕ) → g < f.count →
      take (char_size f) (drop (place_in k (char_size f) (evenly (char_size f) 0 f.count) g) (glyphs_in s f)) ≡ take (char_size f) (drop (g * char_size f) (glyphs_in s f))
  in_place g l = ap (λ (x : ℕ). take (char_size f) (drop x (glyphs_in s f))) (evenly_place k (char_size f) f.count g l)

  -- its bitmaps are the font's
  pub rewritten_glyphs : glyphs_in (rewritten s f k tl) (rewritten_font s f k) ≡ glyphs_in s f
  rewritten_glyphs = kept_glyphs s f y e v k (evenly (char_size f) 0 f.count) (glyphs_in s f) tl (rewritten s f k tl) rewritten_as in_place c

  -- it has the font's content
  pub rewritten_content : (m : Content) → HasContent s m → HasContent (rewritten s f k tl) m
  rewritten_content = kept_content s f y e v k (evenly (char_size f) 0 f.count) (glyphs_in s f) tl (rewritten s f k tl) rewritten_as in_place c

  -- written with the tail that the font had, it is what is written of the font
  pub rewritten_again : (tl' : List ℕ) → tl' ≡ tail_of s f → rewritten (rewritten s f k tl) (rewritten_font s f k) f.kind tl' ≡ rewritten s f f.kind (tail_of s f)
  rewritten_again = kept_again s f y e v k (evenly (char_size f) 0 f.count) (glyphs_in s f) tl (rewritten s f k tl) rewritten_as in_place c

  -- and, written back with the tail that it had, it is the file that it was
  pub rewritten_back : Bare f.kind → Plain s f.kind → (tl' : List ℕ) → tl' ≡ tail_of s f → rewritten (rewritten s f k tl) (rewritten_font s f k) f.kind tl' ≡ s
  rewritten_back = kept_back s f y e v k (evenly (char_size f) 0 f.count) (glyphs_in s f) tl (rewritten s f k tl) rewritten_as in_place c
