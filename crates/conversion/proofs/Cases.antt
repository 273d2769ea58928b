-- The cases of what comes before a conversion, check by check.
use mathlib.Core.Path.{◌≡◌, refl, sym, ◌∙◌, ap}
use mathlib.Core.List.{List}
use mathlib.Core.Logic.{◌⊎◌, inl, inr}
use mathlib.Core.Bool.{Bool, true, false, not, ◌&&◌}
use Prim.Native.Nat.{ℕ, zero, suc, ◌+◌, ◌-◌, ◌*◌, ◌≤◌, ◌<◌}
use native.Mathlib.Omega.{arith}
use native.Mathlib.Numerals.{add-one}
use lib.Dec.{eqb}
use lib.IntN.{ℤ, pos, negsuc}
use lib.ListN.{length, take, drop}
use lib.Seq.{length-take-le, take-add, drop_at}
use borrow.Author.Tests.{eq-eqb, ne_eqb}
use Rattle.std.specs.Ordering.{int_eq}
use Rattle.std.proofs.lemmas.Bool.Decides.{Decides-int_eq, not_from_Decides}
use Rattle.base.specs.Reading.{when}
use Rattle.base.specs.Meaning.{le16, Bytes}
use Rattle.base.proofs.Chain.{chain}
use Rattle.base.proofs.Parts.{byte_at}
use Rattle.base.proofs.Tests.{below}
use Rattle.refusal.specs.Meaning.{refusal}
use Rattle.refusal.specs.declared.Refusal.{Refusal}
use Rattle.refusal.specs.declared.Reason.TheVariants.{WrongKind, Glyphs, Size}
use Rattle.coding.specs.declared.Coding.TheVariants.{Utf8, Ucs2}
use Rattle.table.specs.Reading.{table_of}
use Rattle.transcode.specs.Reading.{table_len}
use Rattle.header.specs.declared.Kind.{Kind}
use Rattle.header.specs.declared.Kind.TheVariants.{Psf1, Psf2, Vfont2}
use Rattle.header.specs.declared.Font.{Font}
use Rattle.header.specs.Bounds.{Placed}
use Rattle.header.specs.Meaning.{limit, char_size, header_len, entry_len}
use Rattle.entries.specs.declared.Metrics.{Metrics}
use Rattle.entries.specs.Meaning.{entry_at, size_at, signed16, metrics_at, HasGlyph}
use Rattle.entries.proofs.Sums.{low, high}
use Rattle.bitmap.specs.Meaning.{even_metrics, EvenGlyph}
use Rattle.stages.specs.Meaning.{coding_of, tail_of}
use Rattle.stages.specs.Reading.{told_at, table_tail, check_of}
use Rattle.conversion.specs.declared.Conversion.{Conversion}
use Rattle.conversion.specs.declared.Conversion.TheVariants.{Psf1ToPsf2, Psf2ToPsf1, Psf2ToVfont2, Vfont2ToPsf2}
use Rattle.conversion.specs.Meaning.{source_kind, target_kind, front_len}
use Rattle.conversion.specs.Reading.{same_kind, of_kind, opened_of, is_psf1_count, suits_psf1, is_even, evenness, even_suits, suits_of, measured_of, fitting, glyph_told, glyph_at, measured_then, opened_then, prepared_on, prepared_of}
use Rattle.std.specs.Prelude.{Result, Ok, Err, Some, None}

-- 17
pub kind_same : (a b : Kind) → same_kind a b ≡ true → b ≡ a
kind_same Psf1 Psf1 e = refl
kind_same Psf1 Psf2 e = let z : ◌≡◌ {A = ℕ} 0 1 = cc in absurd (omega arith)
kind_same Psf1 Vfont2 e = let z : ◌≡◌ {A = ℕ} 0 1 = cc in absurd (omega arith)
kind_same Psf2 Psf1 e = let z : ◌≡◌ {A = ℕ} 0 1 = cc in absurd (omega arith)
kind_same Psf2 Psf2 e = refl
kind_same Psf2 Vfont2 e = let z : ◌≡◌ {A = ℕ} 0 1 = cc in absurd (omega arith)
kind_same Vfont2 Psf1 e = let z : ◌≡◌ {A = ℕ} 0 1 = cc in absurd (omega arith)
kind_same Vfont2 Psf2 e = let z : ◌≡◌ {A = ℕ} 0 1 = cc in absurd (omega arith)
kind_same Vfont2 Vfont2 e = refl

module _ (k : Kind) (s : List ℕ) (f : Font) (e : check_of s ≡ Ok f) where
  pub right_kind : same_kind k f.kind ≡ true → Ok f ≡ opened_of k s
  unfolding opened_of of_kind when
  right_kind q = rw (e, q)

  pub wrong_kind : same_kind k f.kind ≡ false → Err (refusal WrongKind 0) ≡ opened_of k s
  unfolding opened_of of_kind when
  wrong_kind q = rw (e, q)

pub not_opened : (k : Kind) (s : List ℕ) (r : Refusal) → check_of s ≡ Err r → Err r ≡ opened_of k s
unfolding opened_of
not_opened k s r e = rw e

-- 18
module _ (n : ℕ) where
  pub count_256 : n ≡ 256 → true ≡ is_psf1_count n
  unfolding is_psf1_count when
  count_256 e = rw (eq-eqb n 256 e)

  pub count_512 : (n ≡ 256 → ⊥) → eqb n 512 ≡ is_psf1_count n
  unfolding is_psf1_count when
  count_512 e = rw (ne_eqb n 256 e)

module _ (f : Font) where
  pub count_wrong : is_psf1_count f.count ≡ false → Err (refusal Glyphs 16) ≡ suits_psf1 f
  unfolding suits_psf1 when
  count_wrong e = rw e

  module _ (e : is_psf1_count f.count ≡ true) where
    pub width_other : (f.width ≡ 8 → ⊥) → Err (refusal Glyphs 28) ≡ suits_psf1 f
    unfolding suits_psf1 when
    width_other p = rw (e, ne_eqb _ _ p)

    pub width_eight : f.width ≡ 8 → Ok tt ≡ suits_psf1 f
    unfolding suits_psf1 when
    width_eight p = rw (e, eq-eqb _ _ p)

-- what `==` of two metrics says
abbrev pub same_metrics : Metrics → Metrics → Bool
same_metrics a b =
    int_eq a.up b.up && (int_eq a.down b.down && (int_eq a.left b.left && (int_eq a.right b.right && int_eq a.logical b.logical)))

same_itself : (a : Metrics) → same_metrics a a ≡ true
same_itself a = λ i. itself a.up i && (itself a.down i && (itself a.left i && (itself a.right i && itself a.logical i)))
  where
    itself : (x : ℤ) → int_eq x x ≡ true
    itself x = (Decides-int_eq x x).1 refl

-- a number of two bytes is, with its sign, a small one exactly where it is that one without
signed_small : (x v : ℕ) → x < 65536 → v < 32768 → int_eq (signed16 x) (pos v) ≡ eqb x v
signed_small x v b l = go (int_eq (signed16 x) (pos v)) refl
  where
    same : (x < 32768) ⊎ (32768 ≤ x) → signed16 x ≡ pos v → x ≡ v
    same (inl a) e = let q : pos x ≡ pos v = sym (low x a) ∙ e in cc
    same (inr g) e = let q : negsuc (65535 - x) ≡ pos v = sym (high x g b) ∙ e in let z : ◌≡◌ {A = ℕ} 0 1 = cc in absurd (omega arith)

    go : (t : Bool) → int_eq (signed16 x) (pos v) ≡ t → t ≡ eqb x v
    go true q = sym (eq-eqb x v (same (below x 32768) ((Decides-int_eq (signed16 x) (pos v)).0 q)))
    go false q = sym (ne_eqb x v (λ e. not_from_Decides _ (Decides-int_eq (signed16 x) (pos v)) q (ap signed16 e ∙ low v l)))

two_bytes : (s : List ℕ) → Bytes s → (i : ℕ) → le16 s i < 65536
unfolding le16
two_bytes s y i = omega (arith, byte_at s y i, byte_at s y (i + 1))

field_is : (s : List ℕ) → Bytes s → (i v : ℕ) → v < 32768 → int_eq (signed16 (le16 s i)) (pos v) ≡ eqb (le16 s i) v
field_is s y i v l = signed_small (le16 s i) v (two_bytes s y i) l

-- five tests at once, and one by one
one_by_one : (a b c d e : Bool) → (a && (b && (c && (d && e)))) ≡ when (not a) false (when (not b) false (when (not c) false (when (not d) false e)))
unfolding when
one_by_one false b c d e = refl
one_by_one true false c d e = refl
one_by_one true true false d e = refl
one_by_one true true true false e = refl
one_by_one true true true true e = refl

module _ (s : List ℕ) (h w at : ℕ) where
  pub no_glyph : size_at s at ≡ 0 → false ≡ is_even s h w at
  unfolding is_even
  no_glyph p = search chain depth 30

  abbrev up : Bool
  up = eqb (le16 s (at + 8)) h

  abbrev down : Bool
  down = eqb (le16 s (at + 10)) 0

  abbrev left : Bool
  left = eqb (le16 s (at + 12)) 0

  abbrev right : Bool
  right = eqb (le16 s (at + 14)) w

  abbrev logical : Bool
  logical = eqb (le16 s (at + 16)) w

  module _ (y : Bytes s) (lh : h ≤ 255) (lw : w ≤ 255) where
    as_numbers : same_metrics (metrics_at s at) (even_metrics h w) ≡ (up && (down && (left && (right && logical))))
    unfolding metrics_at
    as_numbers =
        λ i. field_is s y (at + 8) h (omega arith) i
        && (field_is s y (at + 10) 0 (omega arith) i
        && (field_is s y (at + 12) 0 (omega arith) i && (field_is s y (at + 14) w (omega arith) i && field_is s y (at + 16) w (omega arith) i)))

    -- an entry with a glyph, its metrics and (height, 0, 0, width, width) as `==` compares them
    pub by_metrics : HasGlyph s at → (m n : Metrics) → m ≡ metrics_at s at → n ≡ even_metrics h w → same_metrics m n ≡ is_even s h w at
    unfolding is_even when
    by_metrics g m n em en = (λ i. same_metrics (em i) (en i)) ∙ as_numbers ∙ rw (ne_eqb (size_at s at) 0 g) (one_by_one up down left right logical)

    -- an entry with a glyph and those metrics is even
    pub even_glyph : EvenGlyph s h w at → is_even s h w at ≡ true
    even_glyph g = sym (by_metrics g.0 (even_metrics h w) (even_metrics h w) (sym g.1) refl) ∙ same_itself (even_metrics h w)

-- one entry of those that are left, the i-th, which stands at an offset
module _ (s : List ℕ) (h w start i at : ℕ) (here : at ≡ entry_at start i) where
  pub even_next : (k : ℕ) → 0 < k → is_even s h w at ≡ true → evenness s h w start k i ≡ evenness s h w start (k - 1) (i + 1)
  unfolding evenness when
  even_next zero p e = absurd (omega arith)
  even_next (suc k) p e =
      let z : suc k - 1 ≡ k = omega arith in
      let q : is_even s h w (entry_at start i) ≡ true = ap (is_even s h w) (sym here) ∙ e in
      rw (q, z, add-one i)

  pub at_uneven : (k : ℕ) → 0 < k → is_even s h w at ≡ false → evenness s h w start k i ≡ Some i
  unfolding evenness when
  at_uneven zero p e = absurd (omega arith)
  at_uneven (suc k) p e =
      let q : is_even s h w (entry_at start i) ≡ false = ap (is_even s h w) (sym here) ∙ e in
      rw q

pub all_even : (s : List ℕ) (h w start k i : ℕ) → k ≡ 0 → evenness s h w start k i ≡ None
unfolding evenness
all_even s h w start k i e = rw e

-- an entry that is not even is one of them
pub uneven_within : (s : List ℕ) (h w start k i x : ℕ) → evenness s h w start k i ≡ Some x → x < i + k
unfolding evenness when
uneven_within s h w start zero i x e = let z : ◌≡◌ {A = ℕ} 0 1 = cc in absurd (omega arith)
uneven_within s h w start (suc k) i x e = go (is_even s h w (entry_at start i)) (uneven_within s h w start k (suc i) x) e
  where
    go : (t : Bool) → (evenness s h w start k (suc i) ≡ Some x → x < suc i + k) → when t (evenness s h w start k (suc i)) (Some i) ≡ Some x → x < i + suc k
    go true ih e = let l = ih e in omega arith
    go false ih e = let q : i ≡ x = cc in omega arith

-- by the conversion
abbrev pub measured_by : Conversion → List ℕ → Result ℕ ℕ
measured_by Psf1ToPsf2 t = table_len Ucs2 Utf8 t
measured_by Psf2ToPsf1 t = table_len Utf8 Ucs2 t
measured_by Psf2ToVfont2 t = Ok (length t)
measured_by Vfont2ToPsf2 t = Ok (length t)

pub measured_same : (c : Conversion) (t : List ℕ) → measured_by c t ≡ measured_of c t
unfolding measured_of
measured_same Psf1ToPsf2 t = refl
measured_same Psf2ToPsf1 t = refl
measured_same Psf2ToVfont2 t = refl
measured_same Vfont2ToPsf2 t = refl

pub measured_is : (d c : Conversion) (t : List ℕ) → c ≡ d → measured_by d t ≡ measured_of c t
measured_is d c t e = measured_same d t ∙ ap (λ (x : Conversion). measured_of x t) (sym e)

abbrev pub suits_by : Conversion → List ℕ → Font → Result (Unit {0}) Refusal
suits_by Psf1ToPsf2 s f = Ok tt
suits_by Psf2ToPsf1 s f = suits_psf1 f
suits_by Psf2ToVfont2 s f = Ok tt
suits_by Vfont2ToPsf2 s f = even_suits f (evenness s f.height f.width f.entries f.count 0)

suits_same : (c : Conversion) (s : List ℕ) (f : Font) → suits_by c s f ≡ suits_of c s f
unfolding suits_of
suits_same Psf1ToPsf2 s f = refl
suits_same Psf2ToPsf1 s f = refl
suits_same Psf2ToVfont2 s f = refl
suits_same Vfont2ToPsf2 s f = refl

pub suits_is : (d c : Conversion) (s : List ℕ) (f : Font) → c ≡ d → suits_by d s f ≡ suits_of c s f
suits_is d c s f e = suits_same d s f ∙ ap (λ (x : Conversion). suits_of x s f) (sym e)

-- 20
module _ (f : Font) (need : ℕ) where
  pub too_large : limit < need → Err (refusal Size 0) ≡ fitting f need
  unfolding fitting
  too_large h = search chain depth 30

  pub fits : need ≤ limit → Ok (f, need) ≡ fitting f need
  unfolding fitting
  fits h = search chain depth 30

pub front_is : (c : Conversion) (f : Font) (k : Kind) (a b z : ℕ) → k ≡ target_kind c → a ≡ header_len k → b ≡ entry_len k → z ≡ char_size f →
    a + f.count * b + f.count * z ≡ front_len c f
unfolding front_len
front_is c f k a b z e ea eb ez = rw (ea, eb, ez, e)

-- 18 to 20, and before them the font's own and 17
module _ (c : Conversion) (s : List ℕ) (f : Font) where
  pub suited : suits_of c s f ≡ Ok tt → measured_then c f (tail_of s f) (measured_of c (tail_of s f)) ≡ prepared_on c s f
  unfolding prepared_on
  suited e = rw e

  pub unsuited : (r : Refusal) → suits_of c s f ≡ Err r → Err r ≡ prepared_on c s f
  unfolding prepared_on
  unsuited r e = rw e

pub opened_as : (c : Conversion) (s : List ℕ) (x : Result Font Refusal) → opened_of (source_kind c) s ≡ x → opened_then x (prepared_on c s) ≡ prepared_of c s
unfolding prepared_of
opened_as c s x e = rw e

-- the glyph that is told where a table is cut at a place: what the file up to there says
module _ (s : List ℕ) (f : Font) (k : ℕ) (h : f.end + k ≤ length s) where
  pub cut_length : length (take (f.end + k) s) ≡ f.end + k
  cut_length = length-take-le (f.end + k) s h

  pub cut_placed : Placed s f → Placed (take (f.end + k) s) f
  cut_placed p = (omega (arith, cut_length, p.0), p.1, p.2, p.3, p.4, p.5, p.6, omega (arith, cut_length), p.8)

  pub told_at_lem : (a : Result (Unit {0}) Refusal) → a ≡ table_tail (take (f.end + k) s) f → glyph_told a ≡ glyph_at f (tail_of s f) k
  unfolding glyph_at
  told_at_lem a q =
      let e : drop f.end (take (f.end + k) s) ≡ take k (drop f.end s) =
      ap (drop f.end) (take-add f.end k s) ∙ drop_at (take f.end s) (take k (drop f.end s)) f.end (length-take-le f.end s (omega arith)) in
      ap glyph_told q ∙ ap (λ (t : List ℕ). glyph_told (told_at f.end (table_of (coding_of f.kind) f.count t))) e
