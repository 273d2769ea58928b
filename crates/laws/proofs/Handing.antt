-- The glyphs that the calls' refusals tell: each hands the check's on, and what is told with its own (Glyphs says what is shown).
use mathlib.Core.Path.{◌≡◌, refl, sym, ◌∙◌, ap, subst}
use mathlib.Core.Bool.{Bool, true, false}
use mathlib.Core.Logic.{◌⊎◌, inl, inr}
use mathlib.Core.List.{List}
use Prim.Native.Nat.{ℕ, ◌+◌, ◌≤◌, ◌<◌}
use native.Mathlib.Omega.{arith}
use lib.ListN.{length, take}
use Rattle.base.specs.Meaning.{pick, Bytes}
use Rattle.base.proofs.Parts.{bytes_take}
use Rattle.base.proofs.Tests.{below, by_when}
use Rattle.refusal.specs.Meaning.{no_glyph}
use Rattle.refusal.specs.declared.Refusal.{Refusal}
use Rattle.table.specs.Meaning.{Desc, encode, Readable, InGlyph}
use Rattle.table.specs.Reading.{table_of}
use Rattle.lookup.specs.Reading.{item_at, find_value, find_sequence}
use Rattle.transcode.proofs.Meaning.{uncarried_glyph}
use Rattle.header.specs.declared.Kind.{Kind}
use Rattle.header.specs.declared.Kind.TheVariants.{Psf1, Psf2, Vfont2}
use Rattle.header.specs.declared.Font.{Font}
use Rattle.header.proofs.Known.{source}
use Rattle.entries.specs.declared.Entry as E
use Rattle.entries.specs.declared.Entry.TheVariants.{Empty, Glyph as HasBitmap, Broken}
use Rattle.entries.specs.Meaning.{entry_at}
use Rattle.entries.specs.Reading.{entry_of}
use Rattle.bitmap.specs.Reading.{entry_located, kind_bitmap, bitmap_of, whole_of, row_of, pixel_of, metrics_of}
use Rattle.bitmap.proofs.Places.{known, too_high}
use Rattle.stages.specs.Meaning.{coding_of, tail_of}
use Rattle.stages.specs.Reading.{told_at, check_of}
use Rattle.stages.proofs.Cases.{accepted, passed_entries, passed_body}
use Rattle.questions.specs.Reading.{font_items, walk_of, lookup_of}
use Rattle.content.specs.Meaning.{Describes}
use Rattle.content.proofs.Magic.{magic_begins}
use Rattle.content.proofs.Source.{is_placed}
use Rattle.conversion.specs.declared.Conversion.{Conversion}
use Rattle.conversion.specs.declared.Conversion.TheVariants.{Psf1ToPsf2, Psf2ToPsf1, Psf2ToVfont2, Vfont2ToPsf2}
use Rattle.conversion.specs.Meaning.{source_kind, target_kind}
use Rattle.conversion.specs.Reading.{of_kind, opened_of, suits_psf1, evenness, even_suits, suits_of, measured_of, fitting, glyph_told, glyph_at, measured_then, suits_then, opened_then, prepared_on, prepared_of}
use Rattle.conversion.proofs.Cases.{uneven_within}
use Rattle.conversion.proofs.Ready.{opened_sound}
use Rattle.convert.specs.Reading.{converted, converted_of}
use Rattle.mapping.specs.declared.Mapping.{Mapping}
use Rattle.mapping.specs.Reading.{mapping_of}
use Rattle.coding.specs.declared.Coding.TheVariants.{Utf8}
use Rattle.edit.specs.Reading.{sought_at, sought_on, sought_in, sought_of, fitted, insert_answer, adding, dropping, add_answer, drop_answer}
use Rattle.differences.specs.Reading.{pairs_of, fitted as fittedIn, compared_with, compared_by, compare_answer}
use Rattle.loader.specs.declared.Loader.{Loader}
use Rattle.loader.specs.Reading.{is_open, feed_answer}
use Rattle.fonts.specs.Reading.{asked, glyph_part_of, row_part_of, pixel_at, glyph_metrics_of, item_of, value_glyph, sequence_glyph}
use Rattle.laws.specs.Meaning.{EntryStarts, elsewhere, ByEntry, of_entry}
use Rattle.laws.proofs.Deciding.{psf2_not_vfont2}
use Rattle.laws.proofs.Asking.{described, read_as}
use Rattle.laws.proofs.Refusing.{measured_as}
use Rattle.laws.proofs.Numbering.{Told, Tells, from_12, from_20, Numbered, at_start, in_table, check_numbered}
use Rattle.laws.proofs.Refusals.{OnRefusal, on_sound}
use Rattle.std.specs.Prelude.{Result, Option, Some, None, Ok, Err}
use Rattle.bitmap.specs.declared.Bitmap.{Bitmap}
use Rattle.table.specs.declared.Fault.{Fault}
use Rattle.table.specs.declared.Item.{Item}
use Rattle.table.specs.declared.Fault.TheVariants.{Cut}
use Rattle.mapping.specs.declared.Mapping.TheVariants.{Listed, Unlisted}
use Rattle.differences.specs.declared.Uncompared.{Uncompared}
use Rattle.differences.specs.declared.Uncompared.TheVariants.{First, Second, Neither}

by_pick : {A : Type 0} (P : A → Type 0) (t : Bool) (a b : A) → P a → P b → P (pick t a b)
by_pick P true a b x y = x
by_pick P false a b x y = y

module _ (s : List ℕ) (y : Bytes s) where
  -- 12 to 17: no glyph
  middle : (n p : ℕ) → 12 ≤ n → n < 18 → Told s n p 4096
  middle = from_12 s

  -- a question hands the font's own refusal on
  ask : {A : Type 0} (answer : Font → Result A Refusal) → ((f : Font) → check_of s ≡ Ok f → Numbered s (answer f)) → Numbered s (asked Err answer (check_of s))
  ask answer v = go (check_of s) refl (check_numbered s y)
    where
      go : (c : Result Font Refusal) → check_of s ≡ c → Numbered s c → Numbered s (asked Err answer c)
      go (Ok f) e n = v f e
      go (Err r) e n = n

  -- the font that the header describes
  module _ (f : Font) (e : check_of s ≡ Ok f) where
    entry_told : f.kind ≡ Vfont2 → (n i : ℕ) → ByEntry n → i < f.count → Told s n (entry_at f.entries i) i
    entry_told k = at_start s f k (passed_body s f (passed_entries s f (accepted s f e).0).0).1

    located : (g : ℕ) → Numbered s (bitmap_of s f g)
    located g = go (below g f.count)
      where
        by_entry : f.kind ≡ Vfont2 → g < f.count → (x : E.Entry) → Numbered s (entry_located s f g (entry_at f.entries g) x)
        by_entry k l Empty = middle _ _ (omega arith) (omega arith)
        by_entry k l (HasBitmap r c) = tt
        by_entry k l Broken = entry_told k 9 g (inl refl) l

        by : (k : Kind) → f.kind ≡ k → g < f.count → Numbered s (kind_bitmap s f g k)
        by Psf1 k l = tt
        by Psf2 k l = tt
        by Vfont2 k l = by_entry k l (entry_of s f.size (entry_at f.entries g))

        go : (g < f.count) ⊎ (f.count ≤ g) → Numbered s (bitmap_of s f g)
        go (inl l) = subst (Numbered s) (known s f g (is_placed s f y e) l f.kind refl) (by f.kind refl l)
        go (inr h) = subst (Numbered s) (too_high s f g h) (middle _ _ (omega arith) (omega arith))

  whole : (l : Result Bitmap Refusal) → Numbered s l → Numbered s (whole_of l)
  whole (Ok b) a = tt
  whole (Err r) a = a

  row : (i : ℕ) (l : Result Bitmap Refusal) → Numbered s l → Numbered s (row_of l i)
  row i (Ok b) a = by_when (Numbered s) _ _ _ tt (middle _ _ (omega arith) (omega arith))
  row i (Err r) a = a

  pixel : (i j : ℕ) (l : Result Bitmap Refusal) → Numbered s l → Numbered s (pixel_of s l i j)
  pixel i j (Ok b) a = by_when (Numbered s) _ _ _ (by_when (Numbered s) _ _ _ tt (middle _ _ (omega arith) (omega arith))) (middle _ _ (omega arith) (omega arith))
  pixel i j (Err r) a = a

  metrics : (f : Font) (g : ℕ) (l : Result Bitmap Refusal) → Numbered s l → Numbered s (metrics_of s f g l)
  metrics f g (Ok b) a = tt
  metrics f g (Err r) a = a

  pub part_told : (g : ℕ) → Numbered s (glyph_part_of s g)
  unfolding glyph_part_of
  part_told g = ask _ (λ f e. whole (bitmap_of s f g) (located f e g))

  pub row_told : (g i : ℕ) → Numbered s (row_part_of s g i)
  unfolding row_part_of
  row_told g i = ask _ (λ f e. row i (bitmap_of s f g) (located f e g))

  pub pixel_told : (g i j : ℕ) → Numbered s (pixel_at s g i j)
  unfolding pixel_at
  pixel_told g i j = ask _ (λ f e. pixel i j (bitmap_of s f g) (located f e g))

  pub metrics_told : (g : ℕ) → Numbered s (glyph_metrics_of s g)
  unfolding glyph_metrics_of
  metrics_told g = ask _ (λ f e. metrics f g (bitmap_of s f g) (located f e g))

  -- walks and lookups
  walked : (w : Option Item) → Numbered s (walk_of w)
  walked (Some i) = tt
  walked None = middle _ _ (omega arith) (omega arith)

  looked : (w : Option ℕ) → Numbered s (lookup_of w)
  looked (Some g) = tt
  looked None = middle _ _ (omega arith) (omega arith)

  pub item_told : (g k : ℕ) → Numbered s (item_of s g k)
  unfolding item_of
  item_told g k = ask _ (λ f e. by_pick (Numbered s) f.table _ _ (walked (item_at g k (font_items s f))) (middle 14 0 (omega arith) (omega arith)))

  pub value_told : (v : ℕ) → Numbered s (value_glyph s v)
  unfolding value_glyph
  value_told v =
      ask _ (λ f e.
      by_pick (Numbered s) f.table _ _ (by_when (Numbered s) _ _ _ (middle 13 0 (omega arith) (omega arith)) (looked (find_value v 0 (font_items s f)))) (middle 14 0 (omega arith) (omega arith)))

  pub sequence_told : (vs : List ℕ) → Numbered s (sequence_glyph s vs)
  unfolding sequence_glyph
  sequence_told vs =
      ask _ (λ f e.
      by_pick (Numbered s) f.table _ _ (by_when (Numbered s) _ _ _ (looked (find_sequence vs (font_items s f))) (middle 13 0 (omega arith) (omega arith))) (middle 14 0 (omega arith) (omega arith)))

  -- a font of the kind that a call wants
  opened : (k : Kind) → Numbered s (opened_of k s)
  unfolding opened_of of_kind
  opened k = on_sound _ (check_of s) (of_kind k) (check_numbered s y) (λ f e. by_when (Numbered s) _ _ _ tt (middle _ _ (omega arith) (omega arith)))

  -- 18: no entry starts anywhere in a PSF2 file
  not_vfont2 : (f : Font) → check_of s ≡ Ok f → f.kind ≡ Psf2 → (p i : ℕ) → EntryStarts s p i → ⊥
  not_vfont2 f e k p i x =
      let q = (source s f Psf2 k (passed_body s f (passed_entries s f (accepted s f e).0).0).1).0 in
      psf2_not_vfont2 s (magic_begins s Psf2 q) x.0

  suits : (c : Conversion) (f : Font) → check_of s ≡ Ok f → f.kind ≡ source_kind c → Numbered s (suits_of c s f)
  unfolding suits_of suits_psf1
  suits Psf1ToPsf2 f e k = tt
  suits Psf2ToPsf1 f e k =
      by_when (Numbered s) _ _ _ (of_entry (inr refl) (elsewhere (not_vfont2 f e k 16) refl), omega arith)
      (by_when (Numbered s) _ _ _ (of_entry (inr refl) (elsewhere (not_vfont2 f e k 28) refl), omega arith) tt)
  suits Psf2ToVfont2 f e k = tt
  suits Vfont2ToPsf2 f e k = go (evenness s f.height f.width f.entries f.count 0) refl
    where
      go : (x : Option ℕ) → evenness s f.height f.width f.entries f.count 0 ≡ x → Numbered s (even_suits f x)
      go None q = tt
      go (Some i) q = entry_told f e k 18 i (inr refl) (omega (arith, uneven_within s f.height f.width f.entries f.count 0 i q))

  -- 19: a table that describes a glyph describes all
  counted : (f : Font) (t : Bool) (ds : List Desc) (g : ℕ) → Describes s f t ds → g < length ds → length ds ≡ f.count
  counted f true ds g d l = d.0
  counted f false ds g d l = absurd (omega (arith, ap length d))

  measured : (c : Conversion) (f : Font) → check_of s ≡ Ok f → f.kind ≡ source_kind c → Numbered s (measured_then c f (tail_of s f) (measured_of c (tail_of s f)))
  unfolding fitting glyph_at
  measured c f e k = go (measured_of c (tail_of s f)) refl
    where
      go : (x : Result ℕ ℕ) → measured_of c (tail_of s f) ≡ x → Numbered s (measured_then c f (tail_of s f) x)
      go (Ok t) q = by_when (Numbered s) _ _ _ (from_20 s _ _ (omega arith)) tt
      go (Err i) q =
          let d = described s f y e in
          let r = read_as s f y e d.0 d.1 in
          let o = subst (λ (x : Kind). Readable (coding_of x) d.0 × (tail_of s f ≡ encode (coding_of x) d.0)) k r in
          let w = uncarried_glyph (coding_of (source_kind c)) (coding_of (target_kind c)) d.0 (tail_of s f) o.0 o.1 i (sym (measured_as c (tail_of s f) d.0 o.0 o.1) ∙ q) in
          let n : length d.0 ≡ f.count = counted f f.table d.0 w.0 d.1 w.2 in
          let t : table_of (coding_of f.kind) f.count (take i (tail_of s f)) ≡ Err (Cut i w.0) =
          ap (λ (x : Kind). table_of (coding_of x) f.count (take i (tail_of s f))) k ∙ ap (λ (x : ℕ). table_of (coding_of (source_kind c)) x (take i (tail_of s f))) (sym n) ∙ w.1 in
          subst (Told s 19 (f.end + i)) (ap (λ (a : Result (Unit {0}) Fault). glyph_told (told_at f.end a)) (sym t))
          (in_table s y f (accepted s f e).0 19 i w.0 (inr (inr refl)) (omega (arith, w.2, n), subst (λ (x : Kind). InGlyph (coding_of x) (tail_of s f) i w.0) (sym k) w.3))

  prepared : (c : Conversion) → Numbered s (prepared_of c s)
  unfolding prepared_of prepared_on
  prepared c = go (opened_of (source_kind c) s) refl (opened (source_kind c))
    where
      then : (x : Result (Unit {0}) Refusal) (p : Result (Font × ℕ) Refusal) → Numbered s x → Numbered s p → Numbered s (suits_then x p)
      then (Ok tt) p a b = b
      then (Err r) p a b = a

      go : (x : Result Font Refusal) → opened_of (source_kind c) s ≡ x → Numbered s x → Numbered s (opened_then x (prepared_on c s))
      go (Ok f) q n = let w = opened_sound (source_kind c) s f q in then (suits_of c s f) _ (suits c f w.0 w.1) (measured c f w.0 w.1)
      go (Err r) q n = n

  pub conversion_told : (c : Conversion) (m : ℕ) → Numbered s (converted_of c s m)
  unfolding converted_of
  conversion_told c m = go (prepared_of c s) (prepared c)
    where
      go : (p : Result (Font × ℕ) Refusal) → Numbered s p → Numbered s (converted p m)
      go (Ok (f, n)) a = by_when (Numbered s) _ _ _ (from_20 s _ _ (omega arith)) tt
      go (Err r) a = a

-- the edits, on a font in the first len bytes of a buffer
module _ (xs : List ℕ) (y : Bytes xs) (len g v : ℕ) where
  abbrev file : List ℕ
  file = take len xs

  at : (end : ℕ) (m : Mapping) → Numbered file (sought_at end m)
  at end (Listed a b) = tt
  at end (Unlisted a) = tt

  ask_none : Told file 13 0 4096
  ask_none = from_12 file 13 0 (omega arith) (omega arith)

  on_font : (f : Font) → Numbered file (sought_on file g v f)
  unfolding sought_on
  on_font f =
      by_pick (Numbered file) f.table _ _
      (by_when (Numbered file) _ _ _ ask_none (by_when (Numbered file) _ _ _ (at f.end (mapping_of Utf8 g v (tail_of file f))) ask_none))
      (from_12 file 14 0 (omega arith) (omega arith))

  sought : Numbered file (sought_of xs len g v)
  unfolding sought_of
  sought = by_when (Numbered file) _ _ _ ask_none (go (opened_of Psf2 file) (opened file (bytes_take len xs y) Psf2))
    where
      go : (c : Result Font Refusal) → Numbered file c → Numbered file (sought_in file g v c)
      go (Ok f) n = on_font f
      go (Err r) n = n

  pub add_told : Numbered file (add_answer xs len g v)
  unfolding add_answer insert_answer fitted
  add_told = go (sought_of xs len g v) sought
    where
      go : (x : Result Mapping Refusal) → Numbered file x → Numbered file (adding (length xs) len v x)
      go (Ok (Listed a b)) n = from_20 file _ _ (omega arith)
      go (Ok (Unlisted a)) n =
          by_when (Numbered file) _ _ _ (from_12 file _ _ (omega arith) (omega arith))
          (by_when (Numbered file) _ _ _ (from_20 file _ _ (omega arith)) (by_when (Numbered file) _ _ _ (from_20 file _ _ (omega arith)) tt))
      go (Err r) n = n

  pub drop_told : Numbered file (drop_answer xs len g v)
  unfolding drop_answer
  drop_told = go (sought_of xs len g v) sought
    where
      go : (x : Result Mapping Refusal) → Numbered file x → Numbered file (dropping len x)
      go (Ok (Listed a b)) n = tt
      go (Ok (Unlisted a)) n = from_20 file _ _ (omega arith)
      go (Err r) n = n

-- a comparison
abbrev pub OfCompared : List ℕ → List ℕ → Result ℕ Uncompared → Type 0
OfCompared s o (Ok n) = Unit {0}
OfCompared s o (Err (First r)) = Tells s r
OfCompared s o (Err (Second r)) = Tells o r
OfCompared s o (Err (Neither r)) = r.glyph ≡ no_glyph

pub compare_told : (s o : List ℕ) → Bytes s → Bytes o → (room : ℕ) → OfCompared s o (compare_answer s o room)
unfolding compare_answer fittedIn
compare_told s o ys yo room = first (check_of s) (check_numbered s ys)
  where
    fits : (n : ℕ) → OfCompared s o (fittedIn room n)
    fits n = by_when (OfCompared s o) _ _ _ refl tt

    second : (f : Font) (c : Result Font Refusal) → Numbered o c → OfCompared s o (compared_with s f o room c)
    second f (Ok h) n = fits (length (pairs_of s f o h))
    second f (Err r) n = n

    first : (c : Result Font Refusal) → Numbered s c → OfCompared s o (compared_by s o room c)
    first (Ok f) n = second f (check_of o) (check_numbered o yo)
    first (Err r) n = n

-- a piece for a loader
abbrev pub OfReply : Result (Unit {0}) Refusal → Type 0
OfReply = OnRefusal (λ r. r.glyph ≡ no_glyph)

pub feed_told : (l : Loader) → OfReply (feed_answer l)
unfolding feed_answer
feed_told l = by_pick OfReply (is_open l) _ _ tt refl
