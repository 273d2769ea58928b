-- Two files with the same glyphs and descriptions have the same content; every accepted file has a content, and one only.
use mathlib.Core.Path.{◌≡◌, refl, sym, ◌∙◌, ap, subst}
use mathlib.Core.Bool.{Bool, true, false}
use mathlib.Core.Option.{Option, none, some}
use mathlib.Core.List.{List, []}
use Prim.Native.Nat.{ℕ, suc, ◌+◌, ◌*◌, ◌/◌, ◌%◌, ◌<◌}
use native.Mathlib.Omega.{arith}
use native.Mathlib.Nat.{mul-le-mul_right}
use lib.Dec.{eqb}
use lib.ListN.{get_or, take, drop}
use borrow.Author.Tests.{eqb-true, eqb-false}
use Rattle.base.specs.Meaning.{pick, Bytes}
use Rattle.table.specs.Meaning.{Desc, encode, Readable}
use Rattle.table.proofs.Meaning.{one_reading}
use Rattle.header.specs.declared.Kind.{Kind}
use Rattle.header.specs.declared.Kind.TheVariants.{Psf1, Psf2, Vfont2}
use Rattle.header.specs.declared.Font.{Font}
use Rattle.header.specs.Meaning.{row_bytes, glyph_bytes}
use Rattle.entries.specs.Meaning.{entry_at, size_at}
use Rattle.bitmap.specs.declared.Bitmap.{Bitmap}
use Rattle.bitmap.specs.Meaning.{kind_metrics, row_start, bit_of, pixel_in}
use Rattle.stages.specs.Meaning.{coding_of, tail_of}
use Rattle.stages.specs.Reading.{check_of}
use Rattle.content.specs.Meaning.{Drawing, Content, bitmap_in, NoGlyph, Draws, Describes, HasContent, SameDrawing, SameContent}
use Rattle.content.proofs.Stretches.{bytes_same}
use Rattle.content.proofs.Tails.{Tail, tail_known}
use Rattle.content.proofs.Shapes.{GlyphIs}
use Rattle.refusal.specs.declared.Refusal.{Refusal}
use Rattle.std.specs.Prelude.{Ok, Result}

-- the byte of a pixel is one of the glyph's
pub pixel_within : (h w y x : ℕ) → y < h → x < w → y * row_bytes w + x / 8 < glyph_bytes h w
unfolding glyph_bytes
pixel_within h w y x ly lx =
    let e : x / 8 < (w + 7) / 8 = omega arith in
    let m = mul-le-mul_right {m = suc y} {n = h} (row_bytes w) ly in
    omega arith

-- bitmaps of one width with the same bytes have the same pixels
pub same_pixels : (s o : List ℕ) (p q : Bitmap) (h w : ℕ) → p.width ≡ w → q.width ≡ w →
    take (glyph_bytes h w) (drop p.start s) ≡ take (glyph_bytes h w) (drop q.start o) →
    (y x : ℕ) → y < h → x < w → pixel_in s p y x ≡ pixel_in o q y x
same_pixels s o p q h w ep eq e y x ly lx =
    ap (λ (v : ℕ). bit_of v (x % 8)) (at s p ep ∙ bytes_same (glyph_bytes h w) p.start q.start s o e (y * row_bytes w + x / 8) (pixel_within h w y x ly lx) ∙ sym (at o q eq))
  where
    assoc : (a b d : ℕ) → a + b + d ≡ a + (b + d)
    assoc a b d = omega arith

    at : (l : List ℕ) (b : Bitmap) → b.width ≡ w → get_or l (row_start b y + x / 8) 0 ≡ get_or l (b.start + (y * row_bytes w + x / 8)) 0
    at l b eb = ap (λ (v : ℕ). get_or l (b.start + y * row_bytes v + x / 8) 0) eb ∙ ap (λ (v : ℕ). get_or l v 0) (assoc b.start (y * row_bytes w) (x / 8))

-- glyph g of two fonts is drawn the same way, or neither has one
pub record SameGlyph (s : List ℕ) (f : Font) (o : List ℕ) (f' : Font) (g : ℕ) : Type 0 where
  pub missing : NoGlyph s f g f.kind → NoGlyph o f' g f'.kind
  pub present : (NoGlyph s f g f.kind → ⊥) → NoGlyph o f' g f'.kind → ⊥
  pub metrics : (NoGlyph s f g f.kind → ⊥) → kind_metrics o f' g f'.kind ≡ kind_metrics s f g f.kind
  pub height : (NoGlyph s f g f.kind → ⊥) → (bitmap_in o f' g f'.kind).height ≡ (bitmap_in s f g f.kind).height
  pub width : (NoGlyph s f g f.kind → ⊥) → (bitmap_in o f' g f'.kind).width ≡ (bitmap_in s f g f.kind).width
  pub pixels : (NoGlyph s f g f.kind → ⊥) → (y x : ℕ) → y < (bitmap_in s f g f.kind).height → x < (bitmap_in s f g f.kind).width →
      pixel_in o (bitmap_in o f' g f'.kind) y x ≡ pixel_in s (bitmap_in s f g f.kind) y x

-- two glyphs that fill one height and width with the same bytes
pub filled_same : (s : List ℕ) (f : Font) (o : List ℕ) (f' : Font) (g h w : ℕ) (p : List ℕ) →
    GlyphIs s f g f.kind h w p → GlyphIs o f' g f'.kind h w p → SameGlyph s f o f' g
filled_same s f o f' g h w p a b = record {
  missing = λ n. absurd (a.0.0 n);
  present = λ m. b.0.0;
  metrics = λ m. b.0.1 ∙ sym a.0.1;
  height = λ m. b.0.2 ∙ sym a.0.2;
  width = λ m. b.0.3 ∙ sym a.0.3;
  pixels = λ m y x ly lx.
      same_pixels o s (bitmap_in o f' g f'.kind) (bitmap_in s f g f.kind) h w b.0.3 a.0.3 (b.2 ∙ sym a.2) y x (omega (arith, ly, a.0.2)) (omega (arith, lx, a.0.3));
}

-- one reading is the other's: the descriptions of a file whose tail carries each reading of another's
pub described_moved : (s : List ℕ) (f : Font) (o : List ℕ) (f' : Font) → f.count ≡ f'.count →
    ((ds : List Desc) → Readable (coding_of f.kind) ds → tail_of s f ≡ encode (coding_of f.kind) ds → Readable (coding_of f'.kind) ds × (tail_of o f' ≡ encode (coding_of f'.kind) ds)) →
    (t : Bool) (ds : List Desc) → Describes s f t ds → Describes o f' t ds
described_moved s f o f' n move true ds (l, r, e) = let m = move ds r e in (l ∙ n, m.0, m.1)
described_moved s f o f' n move false ds e = e

-- a glyph that is drawn in one file is drawn so in the other
drawn_same : (s : List ℕ) (f : Font) (o : List ℕ) (f' : Font) (g : ℕ) → SameGlyph s f o f' g → (d : Option Drawing) → Draws s f g d → Draws o f' g d
drawn_same s f o f' g e none p = e.missing p
drawn_same s f o f' g e (some d) (p, m, h, w, q) = (
  e.present p,
  e.metrics p ∙ m,
  e.height p ∙ h,
  e.width p ∙ w,
  λ y x ly lx. e.pixels p y x (omega (arith, ly, h)) (omega (arith, lx, w)) ∙ q y x ly lx,
)

sound_same : (f g : Font) → ◌≡◌ {A = Result Font Refusal} (Ok f) (Ok g) → f ≡ g
sound_same f g e = cc

-- a file with the glyphs and descriptions of another has its content
pub same_content : (s : List ℕ) (f : Font) (o : List ℕ) (f' : Font) → check_of s ≡ Ok f → check_of o ≡ Ok f' → f.count ≡ f'.count → f.table ≡ f'.table →
    ((g : ℕ) → g < f.count → SameGlyph s f o f' g) → ((ds : List Desc) → Describes s f f.table ds → Describes o f' f.table ds) →
    (m : Content) → HasContent s m → HasContent o m
same_content s f o f' es eo ec et gs dss m c =
    let e : c.font ≡ f = sound_same c.font f (sym c.sound ∙ es) in
    let cn : f.count ≡ m.count = sym (ap (λ (x : Font). x.count) e) ∙ c.count in
    let ct : f.table ≡ m.table = sym (ap (λ (x : Font). x.table) e) ∙ c.table in
    let cg : (g : ℕ) → g < m.count → Draws s f g (m.glyph g) = subst (λ (x : Font). (g : ℕ) → g < m.count → Draws s x g (m.glyph g)) e c.glyphs in
    let cd : Describes s f m.table m.descriptions = subst (λ (x : Font). Describes s x m.table m.descriptions) e c.described in
    let step : Describes s f m.table m.descriptions → Describes o f' m.table m.descriptions =
    subst (λ (t : Bool). Describes s f t m.descriptions → Describes o f' t m.descriptions) ct (dss m.descriptions) in
    record {
      font = f';
      sound = eo;
      count = sym ec ∙ cn;
      table = sym et ∙ ct;
      glyphs = λ g l. drawn_same s f o f' g (gs g (omega (arith, cn))) (m.glyph g) (cg g l);
      described = step cd;
    }

-- what a font's glyph is drawn as
abbrev drawing_of : List ℕ → Font → ℕ → Kind → Drawing
drawing_of s f g k = record {
  metrics = kind_metrics s f g k;
  rows = (bitmap_in s f g k).height;
  columns = (bitmap_in s f g k).width;
  pixel = λ y x. pixel_in s (bitmap_in s f g k) y x;
}

abbrev glyph_of : List ℕ → Font → ℕ → Kind → Option Drawing
glyph_of s f g Psf1 = some (drawing_of s f g Psf1)
glyph_of s f g Psf2 = some (drawing_of s f g Psf2)
glyph_of s f g Vfont2 = pick (eqb (size_at s (entry_at f.entries g)) 0) none (some (drawing_of s f g Vfont2))

module _ (s : List ℕ) (f : Font) (g : ℕ) where
  -- "glyph g is drawn so", said of a kind
  abbrev DrawsAs : Kind → Option Drawing → Type 0
  DrawsAs k none = NoGlyph s f g k
  DrawsAs k (some d) =
      (NoGlyph s f g k → ⊥) × (kind_metrics s f g k ≡ d.metrics) × ((bitmap_in s f g k).height ≡ d.rows) × ((bitmap_in s f g k).width ≡ d.columns)
      × ((y x : ℕ) → y < d.rows → x < d.columns → pixel_in s (bitmap_in s f g k) y x ≡ d.pixel y x)

  drawn_as : (k : Kind) → DrawsAs k (glyph_of s f g k)
  drawn_as Psf1 = ((λ n. n), refl, refl, refl, λ y x ly lx. refl)
  drawn_as Psf2 = ((λ n. n), refl, refl, refl, λ y x ly lx. refl)
  drawn_as Vfont2 = go (eqb (size_at s (entry_at f.entries g)) 0) refl
    where
      go : (t : Bool) → eqb (size_at s (entry_at f.entries g)) 0 ≡ t → DrawsAs Vfont2 (pick t none (some (drawing_of s f g Vfont2)))
      go true e = eqb-true _ _ e
      go false e = (eqb-false _ _ e, refl, refl, refl, λ y x ly lx. refl)

  as_drawn : (d : Option Drawing) → DrawsAs f.kind d → Draws s f g d
  as_drawn none p = p
  as_drawn (some d) p = p

-- a reading of the tail
read_of : (s : List ℕ) (f : Font) (t : Bool) → Tail t (coding_of f.kind) f.count (tail_of s f) → (ds : List Desc) × Describes s f t ds
read_of s f true v = (v.reading, (v.count, v.values, v.same))
read_of s f false v = ([], refl)

-- every accepted file has a content
pub content_exists : (s : List ℕ) (f : Font) → Bytes s → check_of s ≡ Ok f → (m : Content) × HasContent s m
content_exists s f y e =
    let d = read_of s f f.table (tail_known s f y e) in
    let m : Content = record { count = f.count; table = f.table; glyph = λ g. glyph_of s f g f.kind; descriptions = d.0 } in (
      m,
      record {
        font = f;
        sound = e;
        count = refl;
        table = refl;
        glyphs = λ g l. as_drawn s f g (glyph_of s f g f.kind) (drawn_as s f g f.kind);
        described = d.1;
      },
    )

one_drawing : (s : List ℕ) (f : Font) (g : ℕ) (d e : Option Drawing) → Draws s f g d → Draws s f g e → SameDrawing d e
one_drawing s f g none none p q = tt
one_drawing s f g none (some e) p q = q.0 p
one_drawing s f g (some d) none p q = p.0 q
one_drawing s f g (some d) (some e) p q = (
  sym p.1 ∙ q.1,
  sym p.2 ∙ q.2,
  sym p.3 ∙ q.3,
  λ y x ly lx. sym (p.4 y x ly lx) ∙ q.4 y x (omega (arith, ly, p.2, q.2)) (omega (arith, lx, p.3, q.3)),
)

one_description : (s : List ℕ) (f : Font) (t : Bool) (ds es : List Desc) → Describes s f t ds → Describes s f t es → ds ≡ es
one_description s f true ds es p q = one_reading (coding_of f.kind) ds es p.1 q.1 (sym p.2 ∙ q.2)
one_description s f false ds es p q = p ∙ sym q

-- a file has one content
pub content_one : (s : List ℕ) (m m' : Content) → HasContent s m → HasContent s m' → SameContent m m'
content_one s m m' a b =
    let f = a.font in
    let e : b.font ≡ f = sound_same b.font f (sym b.sound ∙ a.sound) in
    let bn : f.count ≡ m'.count = sym (ap (λ (x : Font). x.count) e) ∙ b.count in
    let bt : f.table ≡ m'.table = sym (ap (λ (x : Font). x.table) e) ∙ b.table in
    let bg : (g : ℕ) → g < m'.count → Draws s f g (m'.glyph g) = subst (λ (x : Font). (g : ℕ) → g < m'.count → Draws s x g (m'.glyph g)) e b.glyphs in
    let bd : Describes s f m'.table m'.descriptions = subst (λ (x : Font). Describes s x m'.table m'.descriptions) e b.described in
    let tm : m'.table ≡ m.table = sym bt ∙ a.table in
    record {
      count = sym a.count ∙ bn;
      table = sym tm;
      glyphs = λ g l. one_drawing s f g (m.glyph g) (m'.glyph g) (a.glyphs g l) (bg g (omega (arith, l, a.count, bn)));
      descriptions = one_description s f m.table m.descriptions m'.descriptions a.described (subst (λ (t : Bool). Describes s f t m'.descriptions) tm bd);
    }
