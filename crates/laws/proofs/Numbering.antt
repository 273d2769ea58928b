-- The glyph that the check's refusals tell, stage by stage; and that there is one such glyph (Glyphs says what is shown).
use mathlib.Core.Path.{◌≡◌, refl, sym, ◌∙◌, ap, subst}
use mathlib.Core.Bool.{Bool, true, false}
use mathlib.Core.Logic.{inl, inr, ⊎_elim}
use mathlib.Core.List.{List}
use Prim.Native.Nat.{ℕ, ◌+◌, ◌≤◌, ◌<◌}
use native.Mathlib.Omega.{arith}
use Rattle.base.specs.Meaning.{pick, le32, Bytes}
use Rattle.base.specs.Reading.{when}
use Rattle.base.proofs.Parts.{bytes_drop, byte_at}
use Rattle.base.proofs.Tests.{by_when}
use Rattle.refusal.specs.Meaning.{number_of, no_glyph}
use Rattle.refusal.specs.declared.Refusal.{Refusal}
use Rattle.table.specs.Meaning.{InGlyph}
use Rattle.table.specs.Reading.{table_of}
use Rattle.table.proofs.Meaning as table
use Rattle.header.specs.declared.Kind.{Kind}
use Rattle.header.specs.declared.Kind.TheVariants.{Psf1, Psf2, Vfont2}
use Rattle.header.specs.declared.Font.{Font}
use Rattle.header.specs.declared.Fields.{Fields}
use Rattle.header.specs.Meaning.{fields_of}
use Rattle.header.specs.Reading.{kind_of, psf1_says, head_of, psf2_shaped, vfont2_shaped, named_says, says_of}
use Rattle.header.proofs.Known.{HeadKnown, Vfont2Known, source}
use Rattle.entries.specs.Meaning.{entry_at}
use Rattle.entries.specs.Reading.{scan_of}
use Rattle.entries.proofs.Meaning.{scan_broken}
use Rattle.stages.specs.Meaning.{coding_of, tail_of}
use Rattle.stages.specs.Reading.{sized, greatest_of, scanned, kind_entries, entries_of, answered, bare_of, tailed, through_body, through_entries, check_of}
use Rattle.stages.proofs.Cases.{passed_body, placed}
use Rattle.content.proofs.Magic.{magic_begins}
use Rattle.laws.specs.Meaning.{gives, says, OfEntry, at_entry, elsewhere, CompleteBefore, ByEntry, ByTable, GlyphOf, of_entry, of_table, of_none, TellsGlyph}
use Rattle.laws.proofs.Check.{passed_9, to_9_exactly}
use Rattle.laws.proofs.Refusals.{OnRefusal, on_sound, on_fields_lem}
use Rattle.std.specs.Prelude.{Result, Ok, Err, Option, Some, None}
use Rattle.table.specs.declared.Fault.{Fault}
use Rattle.table.specs.declared.Fault.TheVariants.{Cut, Bad, Trailing}

-- there is one such glyph
module _ (s : List ℕ) (p g h : ℕ) where
  one_entry : OfEntry s p g → OfEntry s p h → g ≡ h
  one_entry (at_entry (b, l, e)) (at_entry (b', l', e')) = omega (arith, e, e')
  one_entry (at_entry x) (elsewhere n q) = absurd (n g x)
  one_entry (elsewhere n q) (at_entry x) = absurd (n h x)
  one_entry (elsewhere n q) (elsewhere n' q') = q ∙ sym q'

  one_font : (f f' : Font) → ◌≡◌ {A = Result Font Refusal} (Ok f) (Ok f') → f ≡ f'
  one_font f f' e = cc

  one_complete : CompleteBefore s p g → CompleteBefore s p h → g ≡ h
  one_complete a b =
      let f = one_font a.font b.font (sym (passed_9 s a.font a.passes) ∙ passed_9 s b.font b.passes) in
      let z : a.offset ≡ b.offset = omega (arith, a.here, b.here, ap (λ (k : Font). k.end) f) in
      let w : InGlyph (coding_of b.font.kind) (tail_of s b.font) b.offset g =
      subst (λ (k : ℕ). InGlyph (coding_of b.font.kind) (tail_of s b.font) k g) z (subst (λ (k : Font). InGlyph (coding_of k.kind) (tail_of s k) a.offset g) f a.complete) in
      table.one_glyph (coding_of b.font.kind) (tail_of s b.font) b.offset g h w b.complete

  apart : (n : ℕ) → ByEntry n → ByTable n → ⊥
  apart n (inl e) (inl q) = omega arith
  apart n (inl e) (inr (inl q)) = omega arith
  apart n (inl e) (inr (inr q)) = omega arith
  apart n (inr e) (inl q) = omega arith
  apart n (inr e) (inr (inl q)) = omega arith
  apart n (inr e) (inr (inr q)) = omega arith

  one_glyph : (n : ℕ) → GlyphOf s n p g → GlyphOf s n p h → g ≡ h
  one_glyph n (of_entry b x) (of_entry b' x') = one_entry x x'
  one_glyph n (of_entry b x) (of_table t x') = absurd (apart n b t)
  one_glyph n (of_entry b x) (of_none m m' q) = absurd (m b)
  one_glyph n (of_table t x) (of_entry b x') = absurd (apart n b t)
  one_glyph n (of_table t x) (of_table t' x') = one_complete x x'
  one_glyph n (of_table t x) (of_none m m' q) = absurd (m' t)
  one_glyph n (of_none m m' q) (of_entry b x) = absurd (m b)
  one_glyph n (of_none m m' q) (of_table t x) = absurd (m' t)
  one_glyph n (of_none m m' q) (of_none l l' q') = q ∙ sym q'

-- a number, a place and the glyph that is told with them
abbrev pub Told : List ℕ → ℕ → ℕ → ℕ → Type 0
Told s n p g = GlyphOf s n p g × (g ≤ no_glyph)

-- a refusal that tells its glyph
abbrev pub Tells : List ℕ → Refusal → Type 0
Tells s r = Told s (number_of r.reason) r.place r.glyph

pub tells : (s : List ℕ) (r : Refusal) → Tells s r → TellsGlyph s r
tells s r (a, l) = (λ g. (λ e. subst (GlyphOf s (number_of r.reason) r.place) e a, λ b. one_glyph s r.place r.glyph g (number_of r.reason) a b), l)

-- the other numbers
none : (s : List ℕ) (n p : ℕ) → (n ≡ 9 → ⊥) → (n ≡ 18 → ⊥) → (n ≡ 10 → ⊥) → (n ≡ 11 → ⊥) → (n ≡ 19 → ⊥) → Told s n p no_glyph
none s n p a b c d e = (of_none (⊎_elim a b) (⊎_elim c (⊎_elim d e)) refl, omega arith)

pub before_9 : (s : List ℕ) (n p : ℕ) → n < 9 → Told s n p no_glyph
before_9 s n p h = none s n p (λ e. omega arith) (λ e. omega arith) (λ e. omega arith) (λ e. omega arith) (λ e. omega arith)

pub from_12 : (s : List ℕ) (n p : ℕ) → 12 ≤ n → n < 18 → Told s n p no_glyph
from_12 s n p h l = none s n p (λ e. omega arith) (λ e. omega arith) (λ e. omega arith) (λ e. omega arith) (λ e. omega arith)

pub from_20 : (s : List ℕ) (n p : ℕ) → 20 ≤ n → Told s n p no_glyph
from_20 s n p h = none s n p (λ e. omega arith) (λ e. omega arith) (λ e. omega arith) (λ e. omega arith) (λ e. omega arith)

-- an answer whose refusal tells its glyph
abbrev pub Numbered : {A : Type 0} → List ℕ → Result A Refusal → Type 0
Numbered {A} s = OnRefusal {A = A} (Tells s)

pub refusal_tells : {A : Type 0} (s : List ℕ) (r : Refusal) (x : Result A Refusal) → Numbered s x → x ≡ Err r → TellsGlyph s r
refusal_tells s r x n e = tells s r (subst (Numbered s) e n)

-- the check, stage by stage
module _ (s : List ℕ) where
  or_else : {A : Type 0} (t : Bool) (a b : Result A Refusal) → Numbered s a → Numbered s b → Numbered s (when t a b)
  or_else = by_when (Numbered s)

  low : (n p : ℕ) → n < 9 → Told s n p no_glyph
  low = before_9 s

  head : Numbered s (head_of s)
  unfolding head_of
  head =
      or_else _ _ _ (low _ _ (omega arith)) (or_else _ _ _ (low _ _ (omega arith)) (or_else _ _ _ (low _ _ (omega arith)) (or_else _ _ _ (low _ _ (omega arith))
      (or_else _ _ _ (low _ _ (omega arith)) (or_else _ _ _ (low _ _ (omega arith)) (or_else _ _ _ (low _ _ (omega arith)) tt))))))

  psf1 : Numbered s (psf1_says s)
  unfolding psf1_says
  psf1 = or_else _ _ _ (low _ _ (omega arith)) (or_else _ _ _ (low _ _ (omega arith)) (or_else _ _ _ (low _ _ (omega arith)) tt))

  psf2 : (f : Fields) → Numbered s (psf2_shaped f)
  unfolding psf2_shaped
  psf2 f =
      or_else _ _ _ (low _ _ (omega arith)) (or_else _ _ _ (low _ _ (omega arith)) (or_else _ _ _ (low _ _ (omega arith))
      (or_else _ _ _ (low _ _ (omega arith)) (or_else _ _ _ (low _ _ (omega arith)) tt))))

  vfont2 : (f : Fields) → Numbered s (vfont2_shaped f)
  unfolding vfont2_shaped
  vfont2 f = or_else _ _ _ (low _ _ (omega arith)) (or_else _ _ _ (low _ _ (omega arith)) tt)

  named : (n : Option Kind) → Numbered s (named_says s n)
  named (Some Psf1) = psf1
  named (Some Psf2) = on_fields_lem _ psf2_shaped psf2 (head_of s) head
  named (Some Vfont2) = on_fields_lem _ vfont2_shaped vfont2 (head_of s) head
  named None = low _ _ (omega arith)

  body : Numbered s (through_body s)
  unfolding through_body says_of sized
  body = or_else _ _ _ (low _ _ (omega arith)) (on_sound _ (named_says s (kind_of s)) _ (named (kind_of s)) (λ f e. or_else _ _ _ (low _ _ (omega arith)) tt))

  -- 9, of a vfont2 font that its header describes
  module _ (f : Font) (k : f.kind ≡ Vfont2) (says : says_of s ≡ Ok f) where
    known : (kind_of s ≡ Some Vfont2) × HeadKnown s × Vfont2Known (fields_of s) f
    known = source s f Vfont2 k says

    entries_at : f.entries ≡ le32 s 8
    entries_at = sym (ap (λ (g : Font). g.entries) known.2.0)

    counted : f.count ≡ le32 s 16
    counted = sym (ap (λ (g : Font). g.count) known.2.0)

    -- entry i stands where it starts
    pub at_start : (n i : ℕ) → ByEntry n → i < f.count → Told s n (entry_at f.entries i) i
    at_start n i b l =
        let w : le32 s 16 ≤ 4096 = known.1.6 in
        (of_entry b (at_entry (magic_begins s Vfont2 known.0, omega (arith, counted), ap (λ (x : ℕ). entry_at x i) entries_at)), omega (arith, counted))

    -- none starts within the header
    in_header : (p : ℕ) → p < 32 → Told s 9 p no_glyph
    in_header p l = (of_entry (inl refl) (elsewhere (λ i (b, c, e). let w : 32 ≤ le32 s 8 = known.1.3 in omega (arith, e)) refl), omega arith)

    scan : (x : Result (ℕ × ℕ) ℕ) → scan_of s f.size f.entries f.count 0 0 0 ≡ x → Numbered s (scanned f x)
    unfolding greatest_of
    scan (Err i) e = at_start 9 i (inl refl) (scan_broken s f.size f.count f.entries i e).within
    scan (Ok (h, w)) e = or_else _ _ _ (in_header 24 (omega arith)) (or_else _ _ _ (in_header 28 (omega arith)) tt)

  entries : (f : Font) → through_body s ≡ Ok f → Numbered s (entries_of s f)
  unfolding entries_of
  entries f e = by f.kind refl
    where
      by : (k : Kind) → f.kind ≡ k → Numbered s (kind_entries s f k)
      by Psf1 k = tt
      by Psf2 k = tt
      by Vfont2 k = scan f k (passed_body s f e).1 (scan_of s f.size f.entries f.count 0 0 0) refl

  -- 10 to 12, of a font that passed rows 1 to 9
  module _ (y : Bytes s) (f : Font) (passed : through_entries s ≡ Ok f) where
    pub in_table : (n k g : ℕ) → ByTable n → (g < f.count) × InGlyph (coding_of f.kind) (tail_of s f) k g → Told s n (f.end + k) g
    in_table n k g b w =
        let few : f.count ≤ 4096 = (placed s f (byte_at s y 3) passed).2 in (
          of_table b (record { font = f; passes = (to_9_exactly s (gives f)).0 (ap says passed); offset = k; here = refl; complete = w.1; below = w.0 }),
          omega (arith, w.0),
        )

    answer : (a : Result (Unit {0}) Fault) → table_of (coding_of f.kind) f.count (tail_of s f) ≡ a → Numbered s (answered f a)
    answer (Ok tt) e = tt
    answer (Err (Cut k g)) e = in_table 10 k g (inl refl) (table.glyph_of_place _ _ (tail_of s f) k g (bytes_drop f.end s y) (inl e))
    answer (Err (Bad k g)) e = in_table 11 k g (inr (inl refl)) (table.glyph_of_place _ _ (tail_of s f) k g (bytes_drop f.end s y) (inr e))
    answer (Err (Trailing k)) e = from_12 s _ _ (omega arith) (omega arith)

    tail : Numbered s (tailed s f)
    unfolding tailed bare_of
    tail = by f.table
      where
        by : (b : Bool) → Numbered s (pick b (answered f (table_of (coding_of f.kind) f.count (tail_of s f))) (bare_of s f))
        by true = answer (table_of (coding_of f.kind) f.count (tail_of s f)) refl
        by false = or_else _ _ _ (from_12 s _ _ (omega arith) (omega arith)) tt

  through : Numbered s (through_entries s)
  unfolding through_entries
  through = on_sound _ (through_body s) (entries_of s) body entries

  pub check_numbered : Bytes s → Numbered s (check_of s)
  unfolding check_of
  check_numbered y = on_sound _ (through_entries s) (tailed s) through (tail y)
