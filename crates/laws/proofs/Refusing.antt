-- What decides a conversion's answer, check by check.
use mathlib.Core.Path.{◌≡◌, refl, sym, ◌∙◌, ap, subst}
use mathlib.Core.Logic.{◌↔◌, ◌⊎◌, inl, inr}
use mathlib.Core.Bool.{Bool, true, false}
use mathlib.Core.List.{List, [], ◌∷◌, ◌++◌}
use Prim.Native.Nat.{ℕ, zero, suc, ◌+◌, ◌≤◌, ◌<◌}
use native.Mathlib.Omega.{arith}
use native.Mathlib.Nat.{zero-add}
use lib.ListN.{length}
use borrow.Author.Tests.{lt-ltb, le-ltb, eq-eqb, ne_eqb}
use Rattle.base.specs.Reading.{when}
use Rattle.base.specs.Meaning.{Bytes}
use Rattle.base.proofs.Tests.{below, same}
use Rattle.refusal.specs.Meaning.{refusal, refusal_at, no_glyph}
use Rattle.refusal.specs.declared.Refusal.{Refusal}
use Rattle.refusal.specs.declared.Reason.TheVariants.{WrongKind, Glyphs, Size, Room}
use Rattle.coding.specs.declared.Coding.{Coding}
use Rattle.coding.specs.declared.Coding.TheVariants.{Utf8, Ucs2}
use Rattle.token.specs.Meaning.{Noncharacter}
use Rattle.ucs2.specs.Meaning.{Word}
use Rattle.coding.specs.Meaning.{ValueOf}
use Rattle.table.specs.declared.Item.{Item}
use Rattle.table.specs.declared.Item.TheVariants.{Single, Start, Value as InSequence, End}
use Rattle.table.specs.Meaning.{Desc, items, bytes, OfCoding, encode, Readable}
use Rattle.lookup.specs.Meaning.{Any}
use Rattle.transcode.specs.Reading.{table_len, FirstUncarried}
use Rattle.transcode.proofs.Meaning.{length_exactly, uncarried_exactly}
use Rattle.header.specs.declared.Kind.{Kind}
use Rattle.header.specs.declared.Kind.TheVariants.{Psf1, Psf2, Vfont2}
use Rattle.header.specs.declared.Font.{Font}
use Rattle.header.specs.Meaning.{limit}
use Rattle.entries.specs.Meaning.{entry_at}
use Rattle.stages.specs.Meaning.{coding_of, tail_of}
use Rattle.stages.specs.Reading.{check_of}
use Rattle.content.proofs.Evens.{even_metrics_lem}
use Rattle.content.proofs.Source.{is_placed}
use Rattle.conversion.specs.declared.Conversion.{Conversion}
use Rattle.conversion.specs.declared.Conversion.TheVariants.{Psf1ToPsf2, Psf2ToPsf1, Psf2ToVfont2, Vfont2ToPsf2}
use Rattle.conversion.specs.Meaning.{source_kind, target_kind, FirstUneven}
use Rattle.bitmap.specs.Meaning.{EvenGlyph}
use Rattle.conversion.specs.Reading.{same_kind, is_psf1_count, suits_psf1, is_even, evenness, even_suits, suits_of, measured_of, fitting, measured_then, prepared_on, prepared_of}
use Rattle.conversion.proofs.Cases.{kind_same, right_kind, wrong_kind, not_opened, count_256, count_512, count_wrong, width_other, width_eight, even_glyph, uneven_within, measured_is, suits_is, too_large, fits, suited, unsuited, opened_as}
use Rattle.conversion.proofs.Ready.{even_fields}
use Rattle.convert.specs.Reading.{converted, converted_of}
use Rattle.laws.specs.Meaning.{Exact, refuses, says, GlyphsAt, Holds, FirstValue, ValueAt, needed, ConversionRows}
use Rattle.laws.proofs.Refusals as refusals
use Rattle.laws.proofs.Exactly.{is, row, row_at, own_first, reading_of, less}
use Rattle.laws.proofs.Asking.{described, read_as}
use Rattle.std.specs.Prelude.{Result, Ok, Err, Option, Some, None}

-- the kind that is wanted, and another
pub alike : (k : Kind) → same_kind k k ≡ true
alike Psf1 = refl
alike Psf2 = refl
alike Vfont2 = refl

pub not_alike : (k j : Kind) → (j ≡ k → ⊥) → same_kind k j ≡ false
not_alike k j n = go (same_kind k j) refl
  where
    go : (t : Bool) → same_kind k j ≡ t → same_kind k j ≡ false
    go true q = absurd (n (kind_same k j q))
    go false q = q

-- 1 to 12, then 17
module _ (c : Conversion) (s : List ℕ) (m : ℕ) where
  pub from_prepared : (p : Result (Font × ℕ) Refusal) → p ≡ prepared_of c s → converted_of c s m ≡ converted p m
  unfolding converted_of
  from_prepared p e = ap (λ (x : Result (Font × ℕ) Refusal). converted x m) (sym e)

  pub own_given : (r : Refusal) → check_of s ≡ Err r → converted_of c s m ≡ Err r
  own_given r e = from_prepared (Err r) (opened_as c s (Err r) (sym (not_opened (source_kind c) s r e)))

  module _ (f : Font) (e : check_of s ≡ Ok f) where
    pub kind_given : (f.kind ≡ source_kind c → ⊥) → converted_of c s m ≡ Err (refusal WrongKind 0)
    kind_given n =
        from_prepared (Err (refusal WrongKind 0)) (opened_as c s (Err (refusal WrongKind 0)) (sym (wrong_kind (source_kind c) s f e (not_alike (source_kind c) f.kind n))))

    -- a font of the kind that is wanted is prepared
    pub on_kind : f.kind ≡ source_kind c → prepared_on c s f ≡ prepared_of c s
    on_kind q =
        opened_as c s (Ok f) (sym (right_kind (source_kind c) s f e (subst (λ (k : Kind). same_kind (source_kind c) k ≡ true) (sym q) (alike (source_kind c)))))

-- 18 from vfont2: the first entry that is not even
module _ (s : List ℕ) (h w start : ℕ) where
  first_uneven : (k i x : ℕ) → evenness s h w start k i ≡ Some x →
      (i ≤ x) × (is_even s h w (entry_at start x) ≡ false) × ((j : ℕ) → i ≤ j → j < x → is_even s h w (entry_at start j) ≡ true)
  unfolding evenness when
  first_uneven zero i x e = let z : ◌≡◌ {A = ℕ} 0 1 = cc in absurd (omega arith)
  first_uneven (suc k) i x e = go (is_even s h w (entry_at start i)) refl (first_uneven k (suc i) x) e
    where
      go : (t : Bool) → is_even s h w (entry_at start i) ≡ t →
          (evenness s h w start k (suc i) ≡ Some x → (suc i ≤ x) × (is_even s h w (entry_at start x) ≡ false) × ((j : ℕ) → suc i ≤ j → j < x → is_even s h w (entry_at start j) ≡ true)) →
          when t (evenness s h w start k (suc i)) (Some i) ≡ Some x →
          (i ≤ x) × (is_even s h w (entry_at start x) ≡ false) × ((j : ℕ) → i ≤ j → j < x → is_even s h w (entry_at start j) ≡ true)
      go true q ih e = let r = ih e in (omega (arith, r.0), r.1, λ j a l. before j a l (below i j) r.2)
        where
          before : (j : ℕ) → i ≤ j → j < x → (i < j) ⊎ (j ≤ i) → ((j : ℕ) → suc i ≤ j → j < x → is_even s h w (entry_at start j) ≡ true) → is_even s h w (entry_at start j) ≡ true
          before j a l (inl b) g = g j b l
          before j a l (inr b) g = let z : i ≡ j = omega arith in subst (λ (v : ℕ). is_even s h w (entry_at start v) ≡ true) z q
      go false q ih e =
          let z : i ≡ x = cc in
          (omega arith, subst (λ (v : ℕ). is_even s h w (entry_at start v) ≡ false) z q, λ j a l. absurd (omega arith))

  uneven_found : (k i x : ℕ) → i ≤ x → x < i + k → is_even s h w (entry_at start x) ≡ false → ((j : ℕ) → j < x → is_even s h w (entry_at start j) ≡ true) →
      evenness s h w start k i ≡ Some x
  unfolding evenness when
  uneven_found zero i x a l e f = absurd (omega arith)
  uneven_found (suc k) i x a l e f = go (below i x) (λ b. uneven_found k (suc i) x b (omega arith) e f)
    where
      go : (i < x) ⊎ (x ≤ i) → (i < x → evenness s h w start k (suc i) ≡ Some x) →
          when (is_even s h w (entry_at start i)) (evenness s h w start k (suc i)) (Some i) ≡ Some x
      go (inl b) ih = rw (f i b) (ih b)
      go (inr b) ih =
          let z : x ≡ i = omega arith in
          let q : is_even s h w (entry_at start i) ≡ false = subst (λ (v : ℕ). is_even s h w (entry_at start v) ≡ false) z e in
          rw q (ap Some (sym z))

-- a test that fails, and one that does not hold
test_false : {A : Type 0} (t : Bool) → (t ≡ true) ↔ A → (A → ⊥) → t ≡ false
test_false true p n = absurd (n (p.0 refl))
test_false false p n = refl

false_not : {A : Type 0} (t : Bool) → (t ≡ true) ↔ A → t ≡ false → A → ⊥
false_not t p e a = let q : false ≡ true = sym e ∙ p.1 a in let z : ◌≡◌ {A = ℕ} 0 1 = cc in omega arith

-- 18: whether the font suits the target
module _ (s : List ℕ) (f : Font) (y : Bytes s) (e : check_of s ≡ Ok f) where
  even_is : (at : ℕ) → (is_even s f.height f.width at ≡ true) ↔ EvenGlyph s f.height f.width at
  even_is at =
      let p = is_placed s f y e in
      let h = f.height in
      let w = f.width in (
        λ q. let z = even_fields s h w at q in (z.0, even_metrics_lem s h w at (omega (arith, p.3)) (omega (arith, p.4)) z),
        even_glyph s h w at y p.3 p.4,
      )

  -- the entry of a place is the first that is not even
  found : (i : ℕ) → evenness s f.height f.width f.entries f.count 0 ≡ Some i → FirstUneven s f.height f.width f.count f.entries i
  found i q =
      let r = first_uneven s f.height f.width f.entries f.count 0 i q in
      record {
        within = omega (arith, uneven_within s f.height f.width f.entries f.count 0 i q);
        uneven = false_not (is_even s f.height f.width (entry_at f.entries i)) (even_is (entry_at f.entries i)) r.1;
        first = λ j l. (even_is (entry_at f.entries j)).0 (r.2 j (omega arith) l);
      }

  sought : (i : ℕ) → FirstUneven s f.height f.width f.count f.entries i → evenness s f.height f.width f.entries f.count 0 ≡ Some i
  sought i u =
      let at = entry_at f.entries i in
      uneven_found s f.height f.width f.entries f.count 0 i (omega arith) (omega (arith, u.within))
      (test_false (is_even s f.height f.width at) (even_is at) u.uneven) (λ j l. (even_is (entry_at f.entries j)).1 (u.first j l))

  two_counts : (f.count ≡ 256) ⊎ (f.count ≡ 512) → is_psf1_count f.count ≡ true
  two_counts (inl q) = sym (count_256 f.count q)
  two_counts (inr q) = sym (count_512 f.count (λ x. omega (arith, q, x))) ∙ eq-eqb f.count 512 q

  no_count : (f.count ≡ 256 → ⊥) → (f.count ≡ 512 → ⊥) → is_psf1_count f.count ≡ false
  no_count a b = sym (count_512 f.count a) ∙ ne_eqb f.count 512 b

  narrow_given : (p : ℕ) → GlyphsAt Psf2ToPsf1 s f p → suits_psf1 f ≡ Err (refusal Glyphs p)
  narrow_given p (inl (q, a, b)) = sym (count_wrong f (no_count a b)) ∙ ap (λ (x : ℕ). Err (refusal Glyphs x)) (sym q)
  narrow_given p (inr (q, a, b)) = sym (width_other f (two_counts a) b) ∙ ap (λ (x : ℕ). Err (refusal Glyphs x)) (sym q)

  -- a font that doesn't suit
  glyphs_by : (c : Conversion) (p : ℕ) → GlyphsAt c s f p → (g : ℕ) × (suits_of c s f ≡ Err (refusal_at Glyphs p g))
  glyphs_by Psf1ToPsf2 p g = absurd g
  glyphs_by Psf2ToPsf1 p g = (no_glyph, sym (suits_is Psf2ToPsf1 Psf2ToPsf1 s f refl) ∙ narrow_given p g)
  glyphs_by Psf2ToVfont2 p g = absurd g
  glyphs_by Vfont2ToPsf2 p (i, q, u) = (
    i,
    sym (suits_is Vfont2ToPsf2 Vfont2ToPsf2 s f refl) ∙ ap (even_suits f) (sought i u) ∙ ap (λ (x : ℕ). Err (refusal_at Glyphs x i)) (sym q),
  )

  -- it suits, or it doesn't
  abbrev Suited : Conversion → Result (Unit {0}) Refusal → Type 0
  Suited c x = (x ≡ Ok tt) ⊎ ((p : ℕ) × GlyphsAt c s f p)

  by_narrow : (f.count ≡ 256) ⊎ (f.count ≡ 256 → ⊥) → (f.count ≡ 512) ⊎ (f.count ≡ 512 → ⊥) → (f.width ≡ 8) ⊎ (f.width ≡ 8 → ⊥) → Suited Psf2ToPsf1 (suits_psf1 f)
  by_narrow (inl a) b (inl w) = inl (sym (width_eight f (two_counts (inl a)) w))
  by_narrow (inl a) b (inr w) = inr (28, inr (refl, inl a, w))
  by_narrow (inr a) (inl b) (inl w) = inl (sym (width_eight f (two_counts (inr b)) w))
  by_narrow (inr a) (inl b) (inr w) = inr (28, inr (refl, inr b, w))
  by_narrow (inr a) (inr b) w = inr (16, inl (refl, a, b))

  by_evenness : (x : Option ℕ) → evenness s f.height f.width f.entries f.count 0 ≡ x → Suited Vfont2ToPsf2 (even_suits f x)
  by_evenness None q = inl refl
  by_evenness (Some i) q = inr (entry_at f.entries i, (i, refl, found i q))

  suits_or : (c : Conversion) → Suited c (suits_of c s f)
  suits_or Psf1ToPsf2 = inl (sym (suits_is Psf1ToPsf2 Psf1ToPsf2 s f refl))
  suits_or Psf2ToPsf1 =
      subst (Suited Psf2ToPsf1) (suits_is Psf2ToPsf1 Psf2ToPsf1 s f refl) (by_narrow (same f.count 256) (same f.count 512) (same f.width 8))
  suits_or Psf2ToVfont2 = inl (sym (suits_is Psf2ToVfont2 Psf2ToVfont2 s f refl))
  suits_or Vfont2ToPsf2 =
      subst (Suited Vfont2ToPsf2) (suits_is Vfont2ToPsf2 Vfont2ToPsf2 s f refl) (by_evenness (evenness s f.height f.width f.entries f.count 0) refl)

-- 19: whether the target's coding carries the table
pub measured_as : (c : Conversion) (tl : List ℕ) (ds : List Desc) → Readable (coding_of (source_kind c)) ds → tl ≡ encode (coding_of (source_kind c)) ds →
    measured_of c tl ≡ table_len (coding_of (source_kind c)) (coding_of (target_kind c)) tl
measured_as Psf1ToPsf2 tl ds o e = sym (measured_is Psf1ToPsf2 Psf1ToPsf2 tl refl)
measured_as Psf2ToPsf1 tl ds o e = sym (measured_is Psf2ToPsf1 Psf2ToPsf1 tl refl)
measured_as Psf2ToVfont2 tl ds o e = sym (measured_is Psf2ToVfont2 Psf2ToVfont2 tl refl) ∙ sym ((length_exactly Utf8 Utf8 ds tl o e (length tl)).1 (o, ap length e))
measured_as Vfont2ToPsf2 tl ds o e = sym (measured_is Vfont2ToPsf2 Vfont2ToPsf2 tl refl) ∙ sym ((length_exactly Utf8 Utf8 ds tl o e (length tl)).1 (o, ap length e))

module _ (c : Conversion) (tl : List ℕ) (ds : List Desc) (o : Readable (coding_of (source_kind c)) ds) (e : tl ≡ encode (coding_of (source_kind c)) ds) where
  abbrev from : Coding
  from = coding_of (source_kind c)

  abbrev to : Coding
  to = coding_of (target_kind c)

  -- a value that isn't carried
  value_by : (k : ℕ) → FirstUncarried from to (items ds) 0 k → measured_of c tl ≡ Err k
  value_by k u = measured_as c tl ds o e ∙ (uncarried_exactly from to ds tl o e k).1 u

  -- every value is, or one isn't
  carried_or : (measured_of c tl ≡ Ok (length (encode to ds))) ⊎ ((k : ℕ) × FirstUncarried from to (items ds) 0 k)
  carried_or = go (table_len from to tl) refl
    where
      go : (x : Result ℕ ℕ) → table_len from to tl ≡ x → (measured_of c tl ≡ Ok (length (encode to ds))) ⊎ ((k : ℕ) × FirstUncarried from to (items ds) 0 k)
      go (Ok n) q = inl (measured_as c tl ds o e ∙ q ∙ ap Ok ((length_exactly from to ds tl o e n).0 q).1)
      go (Err k) q = inr (k, (uncarried_exactly from to ds tl o e k).0 q)

-- an item that one coding has and another hasn't has a value that the other hasn't
uncarried_value : (from to : Coding) (i : Item) → OfCoding from (i ∷ []) → (OfCoding to (i ∷ []) → ⊥) → (v : ℕ) × Holds v i × ValueOf from v × (ValueOf to v → ⊥)
uncarried_value a b (Single v) o u = (v, inl refl, o.0, λ x. u (x, tt))
uncarried_value a b (InSequence v) o u = (v, inr refl, o.0, λ x. u (x, tt))
uncarried_value a b Start o u = absurd (u tt)
uncarried_value a b End o u = absurd (u tt)

item_of : (c : Coding) (before : List Item) (i : Item) (after : List Item) → OfCoding c (before ++ (i ∷ after)) → OfCoding c (i ∷ [])
item_of c [] (Single v) after o = (o.0, tt)
item_of c [] (InSequence v) after o = (o.0, tt)
item_of c [] Start after o = tt
item_of c [] End after o = tt
item_of c (Single v ∷ is) i after o = item_of c is i after o.1
item_of c (InSequence v ∷ is) i after o = item_of c is i after o.1
item_of c (Start ∷ is) i after o = item_of c is i after o
item_of c (End ∷ is) i after o = item_of c is i after o

pub first_value : (from to : Coding) (ds : List Desc) (k : ℕ) → Readable from ds → (u : FirstUncarried from to (items ds) 0 k) → (v : ℕ) × Holds v u.item × ValueOf from v × (ValueOf to v → ⊥)
first_value from to ds k o u =
    uncarried_value from to u.item (item_of from u.before u.item u.after (subst (OfCoding from) u.same o)) u.uncarried

-- the values of a list of items
pub carried_value : (c : Coding) (is : List Item) (v : ℕ) → OfCoding c is → Any (Holds v) is → ValueOf c v
carried_value c [] v o h = absurd h
carried_value c (Single w ∷ is) v o (inl (inl e)) = let q : w ≡ v = cc in subst (ValueOf c) q o.0
carried_value c (Single w ∷ is) v o (inl (inr e)) = let z : ◌≡◌ {A = ℕ} 0 1 = cc in absurd (omega arith)
carried_value c (Single w ∷ is) v o (inr h) = carried_value c is v o.1 h
carried_value c (InSequence w ∷ is) v o (inl (inl e)) = let z : ◌≡◌ {A = ℕ} 0 1 = cc in absurd (omega arith)
carried_value c (InSequence w ∷ is) v o (inl (inr e)) = let q : w ≡ v = cc in subst (ValueOf c) q o.0
carried_value c (InSequence w ∷ is) v o (inr h) = carried_value c is v o.1 h
carried_value c (Start ∷ is) v o (inl (inl e)) = let z : ◌≡◌ {A = ℕ} 0 1 = cc in absurd (omega arith)
carried_value c (Start ∷ is) v o (inl (inr e)) = let z : ◌≡◌ {A = ℕ} 0 1 = cc in absurd (omega arith)
carried_value c (Start ∷ is) v o (inr h) = carried_value c is v o h
carried_value c (End ∷ is) v o (inl (inl e)) = let z : ◌≡◌ {A = ℕ} 0 1 = cc in absurd (omega arith)
carried_value c (End ∷ is) v o (inl (inr e)) = let z : ◌≡◌ {A = ℕ} 0 1 = cc in absurd (omega arith)
carried_value c (End ∷ is) v o (inr h) = carried_value c is v o h

-- items of one coding whose values all are another's
all_carried : (from to : Coding) (is js : List Item) → OfCoding from (is ++ js) → ((v : ℕ) → ValueOf from v → Any (Holds v) is → ValueOf to v) → OfCoding to is
all_carried a b [] js o f = tt
all_carried a b (Single v ∷ is) js o f = (f v o.0 (inl (inl refl)), all_carried a b is js o.1 (λ w p h. f w p (inr h)))
all_carried a b (InSequence v ∷ is) js o f = (f v o.0 (inl (inr refl)), all_carried a b is js o.1 (λ w p h. f w p (inr h)))
all_carried a b (Start ∷ is) js o f = all_carried a b is js o (λ w p h. f w p (inr h))
all_carried a b (End ∷ is) js o f = all_carried a b is js o (λ w p h. f w p (inr h))

held_value : (c : Coding) (i : Item) (v : ℕ) → Holds v i → OfCoding c (i ∷ []) → ValueOf c v
held_value c i v h o = carried_value c (i ∷ []) v o (inl h)

-- the first value that is not carried is the first with P, where these are the values of one coding that another hasn't
module _ (from to : Coding) (P : ℕ → Type 0) (lost : (v : ℕ) → ValueOf from v → (ValueOf to v → ⊥) → P v) (kept : (v : ℕ) → ValueOf from v → (P v → ⊥) → ValueOf to v)
    (not_both : (v : ℕ) → P v → ValueOf to v → ⊥) (ds : List Desc) (k : ℕ) (o : Readable from ds) where
  first_there : FirstUncarried from to (items ds) 0 k → FirstValue from P (items ds) k
  first_there u =
      let r = first_value from to ds k o u in
      record {
        before = u.before;
        item = u.item;
        after = u.after;
        same = u.same;
        value = r.0;
        holds = r.1;
        has = lost r.0 r.2 r.3;
        earlier = λ v h p. not_both v p (carried_value to u.before v u.carried h);
        here = u.here ∙ zero-add (length (bytes from u.before));
      }

  first_back : FirstValue from P (items ds) k → FirstUncarried from to (items ds) 0 k
  first_back u = record {
    before = u.before;
    item = u.item;
    after = u.after;
    same = u.same;
    carried = all_carried from to u.before (u.item ∷ u.after) (subst (OfCoding from) u.same o) (λ v p h. kept v p (u.earlier v h));
    uncarried = λ q. not_both u.value u.has (held_value to u.item u.value u.holds q);
    here = u.here ∙ sym (zero-add (length (bytes from u.before)));
  }

-- "the first surrogate, D800 to DFFF"
abbrev Surrogate : ℕ → Type 0
Surrogate v = (0xD800 ≤ v) × (v ≤ 0xDFFF)

lost_surrogate : (v : ℕ) → ValueOf Ucs2 v → (ValueOf Utf8 v → ⊥) → Surrogate v
unfolding ValueOf
lost_surrogate v a n = go (below v 0xD800) (below v 0xE000)
  where
    go : (v < 0xD800) ⊎ (0xD800 ≤ v) → (v < 0xE000) ⊎ (0xE000 ≤ v) → Surrogate v
    go (inl l) y = absurd (n (inl l, a.1))
    go (inr l) (inl h) = (l, omega arith)
    go (inr l) (inr h) = absurd (n (inr (h, omega (arith, a.0)), a.1))

kept_scalar : (v : ℕ) → ValueOf Ucs2 v → (Surrogate v → ⊥) → ValueOf Utf8 v
unfolding ValueOf
kept_scalar v a n = go (below v 0xD800) (below v 0xE000)
  where
    go : (v < 0xD800) ⊎ (0xD800 ≤ v) → (v < 0xE000) ⊎ (0xE000 ≤ v) → ValueOf Utf8 v
    go (inl l) y = (inl l, a.1)
    go (inr l) (inl h) = absurd (n (l, omega arith))
    go (inr l) (inr h) = (inr (h, omega (arith, a.0)), a.1)

no_surrogate : (v : ℕ) → Surrogate v → ValueOf Utf8 v → ⊥
unfolding ValueOf
no_surrogate v s (inl l, n) = omega (arith, s.0, l)
no_surrogate v s (inr h, n) = omega (arith, s.1, h.0)

-- "only for values above FFFF": FFFE and FFFF are noncharacters
below_marks : (v : ℕ) → (Noncharacter v → ⊥) → v ≤ 0xFFFF → v < 0xFFFE
below_marks v n h = go (below v 0xFFFE)
  where
    go : (v < 0xFFFE) ⊎ (0xFFFE ≤ v) → v < 0xFFFE
    go (inl l) = l
    go (inr l) = absurd (n (inr (omega arith)))

lost_above : (v : ℕ) → ValueOf Utf8 v → (ValueOf Ucs2 v → ⊥) → 0xFFFF < v
unfolding ValueOf
lost_above v a n = go (below 0xFFFF v)
  where
    go : (0xFFFF < v) ⊎ (v ≤ 0xFFFF) → 0xFFFF < v
    go (inl l) = l
    go (inr l) = absurd (n (below_marks v a.1 l, a.1))

kept_word : (v : ℕ) → ValueOf Utf8 v → ((0xFFFF < v) → ⊥) → ValueOf Ucs2 v
unfolding ValueOf
kept_word v a n = go (below 0xFFFF v)
  where
    go : (0xFFFF < v) ⊎ (v ≤ 0xFFFF) → Word v
    go (inl l) = absurd (n l)
    go (inr l) = (below_marks v a.1 l, a.1)

no_above : (v : ℕ) → 0xFFFF < v → ValueOf Ucs2 v → ⊥
unfolding ValueOf
no_above v h w = omega (arith, h, w.0)

-- descriptions of PSF1 have none
pub none_above : (ds : List Desc) → Readable Ucs2 ds → (k : ℕ) → FirstValue Utf8 (λ v. 0xFFFF < v) (items ds) k → ⊥
none_above ds o k u = no_above u.value u.has (held_value Ucs2 u.item u.value u.holds (item_of Ucs2 u.before u.item u.after (subst (OfCoding Ucs2) u.same o)))

-- 19, by the conversion
value_first : (c : Conversion) (ds : List Desc) (k : ℕ) → Readable (coding_of (source_kind c)) ds →
    ValueAt c ds k ↔ FirstUncarried (coding_of (source_kind c)) (coding_of (target_kind c)) (items ds) 0 k
value_first Psf1ToPsf2 ds k o = (
  first_back Ucs2 Utf8 Surrogate lost_surrogate kept_scalar no_surrogate ds k o,
  first_there Ucs2 Utf8 Surrogate lost_surrogate kept_scalar no_surrogate ds k o,
)
value_first Psf2ToPsf1 ds k o = (
  first_back Utf8 Ucs2 (λ v. 0xFFFF < v) lost_above kept_word no_above ds k o,
  first_there Utf8 Ucs2 (λ v. 0xFFFF < v) lost_above kept_word no_above ds k o,
)
value_first Psf2ToVfont2 ds k o = (λ z. absurd z, λ u. let r = first_value Utf8 Utf8 ds k o u in r.3 r.2)
value_first Vfont2ToPsf2 ds k o = (λ z. absurd z, λ u. let r = first_value Utf8 Utf8 ds k o u in r.3 r.2)

-- 20 and 21, by the output's length and the buffer's
module _ (f : Font) (need m : ℕ) where
  over_limit : limit < need → converted (fitting f need) m ≡ Err (refusal Size 0)
  over_limit h = ap (λ (x : Result (Font × ℕ) Refusal). converted x m) (sym (too_large f need h))

  under_room : need ≤ limit → m < need → converted (fitting f need) m ≡ Err (refusal Room need)
  unfolding when
  under_room h k = ap (λ (x : Result (Font × ℕ) Refusal). converted x m) (sym (fits f need h)) ∙ rw (lt-ltb m need k)

  in_room : need ≤ limit → need ≤ m → converted (fitting f need) m ≡ Ok need
  unfolding when
  in_room h k = ap (λ (x : Result (Font × ℕ) Refusal). converted x m) (sym (fits f need h)) ∙ rw (le-ltb m need k)

-- no place has it
abbrev Never : (ℕ → Type 0) → Type 0
Never P = (p : ℕ) → P p → ⊥

-- the answer on a sound font of the kind that is wanted, with its descriptions
module _ (c : Conversion) (s : List ℕ) (f : Font) (m : ℕ) (y : Bytes s) (e : check_of s ≡ Ok f) (q : f.kind ≡ source_kind c) (ds : List Desc)
    (r : Readable (coding_of f.kind) ds × (tail_of s f ≡ encode (coding_of f.kind) ds)) where
  of_source : Readable (coding_of (source_kind c)) ds × (tail_of s f ≡ encode (coding_of (source_kind c)) ds)
  of_source = subst (λ (k : Kind). Readable (coding_of k) ds × (tail_of s f ≡ encode (coding_of k) ds)) q r

  from_font : (p : Result (Font × ℕ) Refusal) → p ≡ prepared_on c s f → converted_of c s m ≡ converted p m
  from_font p z = from_prepared c s m p (z ∙ on_kind c s m f e q)

  glyphs_given : (p : ℕ) → GlyphsAt c s f p → says (converted_of c s m) ≡ refuses 18 p
  glyphs_given p g = let w = glyphs_by s f y e c p g in ap says (from_font (Err (refusal_at Glyphs p w.0)) (unsuited c s f (refusal_at Glyphs p w.0) w.1))

  suits : Never (GlyphsAt c s f) → suits_of c s f ≡ Ok tt
  suits n = go (suits_or s f y e c)
    where
      go : (suits_of c s f ≡ Ok tt) ⊎ ((p : ℕ) × GlyphsAt c s f p) → suits_of c s f ≡ Ok tt
      go (inl z) = z
      go (inr (p, g)) = absurd (n p g)

  value_given : Never (GlyphsAt c s f) → (k : ℕ) → ValueAt c ds k → says (converted_of c s m) ≡ refuses 19 (f.end + k)
  value_given n k v =
      let w = value_by c (tail_of s f) ds of_source.0 of_source.1 k ((value_first c ds k of_source.0).0 v) in
      ap says (from_font (measured_then c f (tail_of s f) (measured_of c (tail_of s f))) (suited c s f (suits n)) ∙ ap (λ (x : Result ℕ ℕ). converted (measured_then c f (tail_of s f) x) m) w)

  fitted : Never (GlyphsAt c s f) → Never (ValueAt c ds) → converted_of c s m ≡ converted (fitting f (needed c f ds)) m
  fitted n v = go (carried_or c (tail_of s f) ds of_source.0 of_source.1)
    where
      go : (measured_of c (tail_of s f) ≡ Ok (length (encode (coding_of (target_kind c)) ds))) ⊎ ((k : ℕ) × FirstUncarried (coding_of (source_kind c)) (coding_of (target_kind c)) (items ds) 0 k) →
          converted_of c s m ≡ converted (fitting f (needed c f ds)) m
      go (inl z) = from_font (measured_then c f (tail_of s f) (measured_of c (tail_of s f))) (suited c s f (suits n)) ∙ ap (λ (x : Result ℕ ℕ). converted (measured_then c f (tail_of s f) x) m) z
      go (inr (k, u)) = absurd (v k ((value_first c ds k of_source.0).1 u))

  pub size_given : Never (GlyphsAt c s f) → Never (ValueAt c ds) → limit < needed c f ds → converted_of c s m ≡ Err (refusal Size 0)
  size_given n v h = fitted n v ∙ over_limit f (needed c f ds) m h

  pub room_given : Never (GlyphsAt c s f) → Never (ValueAt c ds) → needed c f ds ≤ limit → m < needed c f ds → converted_of c s m ≡ Err (refusal Room (needed c f ds))
  room_given n v h k = fitted n v ∙ under_room f (needed c f ds) m h k

  pub wrote_given : Never (GlyphsAt c s f) → Never (ValueAt c ds) → needed c f ds ≤ limit → needed c f ds ≤ m → converted_of c s m ≡ Ok (needed c f ds)
  wrote_given n v h k = fitted n v ∙ in_room f (needed c f ds) m h k

  -- 18 applies or not, and 19
  glyphs_or : ((p : ℕ) × GlyphsAt c s f p) ⊎ Never (GlyphsAt c s f)
  glyphs_or = go (suits_or s f y e c)
    where
      go : (suits_of c s f ≡ Ok tt) ⊎ ((p : ℕ) × GlyphsAt c s f p) → ((p : ℕ) × GlyphsAt c s f p) ⊎ Never (GlyphsAt c s f)
      go (inl z) = inr (λ p g. refusals.not_both _ _ _ z (glyphs_by s f y e c p g).1)
      go (inr g) = inl g

  value_or : ((k : ℕ) × ValueAt c ds k) ⊎ Never (ValueAt c ds)
  value_or = go (carried_or c (tail_of s f) ds of_source.0 of_source.1)
    where
      go : (measured_of c (tail_of s f) ≡ Ok (length (encode (coding_of (target_kind c)) ds))) ⊎ ((k : ℕ) × FirstUncarried (coding_of (source_kind c)) (coding_of (target_kind c)) (items ds) 0 k) →
          ((k : ℕ) × ValueAt c ds k) ⊎ Never (ValueAt c ds)
      go (inl z) =
          inr (λ k v. let w = value_by c (tail_of s f) ds of_source.0 of_source.1 k ((value_first c ds k of_source.0).0 v) in refusals.not_both _ _ _ z w)
      go (inr (k, u)) = inl (k, (value_first c ds k of_source.0).1 u)

-- two kinds are one or not
one_kind : (a b : Kind) → (a ≡ b) ⊎ (a ≡ b → ⊥)
one_kind Psf1 Psf1 = inl refl
one_kind Psf2 Psf2 = inl refl
one_kind Vfont2 Vfont2 = inl refl
one_kind Psf1 Psf2 = inr (λ e. let z : ◌≡◌ {A = ℕ} 0 1 = cc in omega arith)
one_kind Psf1 Vfont2 = inr (λ e. let z : ◌≡◌ {A = ℕ} 0 1 = cc in omega arith)
one_kind Psf2 Psf1 = inr (λ e. let z : ◌≡◌ {A = ℕ} 0 1 = cc in omega arith)
one_kind Psf2 Vfont2 = inr (λ e. let z : ◌≡◌ {A = ℕ} 0 1 = cc in omega arith)
one_kind Vfont2 Psf1 = inr (λ e. let z : ◌≡◌ {A = ℕ} 0 1 = cc in omega arith)
one_kind Vfont2 Psf2 = inr (λ e. let z : ◌≡◌ {A = ℕ} 0 1 = cc in omega arith)

pub wrong_or : (a b : Kind) → (a ≡ b → ⊥) ⊎ ((a ≡ b → ⊥) → ⊥)
wrong_or a b = go (one_kind a b)
  where
    go : (a ≡ b) ⊎ (a ≡ b → ⊥) → (a ≡ b → ⊥) ⊎ ((a ≡ b → ⊥) → ⊥)
    go (inl e) = inr (λ n. n e)
    go (inr n) = inl n

pub not_wrong : (a b : Kind) → ((a ≡ b → ⊥) → ⊥) → a ≡ b
not_wrong a b n = go (one_kind a b)
  where
    go : (a ≡ b) ⊎ (a ≡ b → ⊥) → a ≡ b
    go (inl e) = e
    go (inr m) = absurd (n m)

-- all rows
pub conversion_rows : (c : Conversion) (s : List ℕ) (m : ℕ) → Bytes s → Exact (says (converted_of c s m)) (ConversionRows c s m)
conversion_rows c s m y =
    own_first s (λ r e. ap says (own_given c s m r e)) (λ f e.
    row (wrong_or f.kind (source_kind c)) (λ n. ap says (kind_given c s m f e n)) (λ n.
    let q = not_wrong f.kind (source_kind c) n in
    reading_of s f (described s f y e) (λ ds d.
    let r = read_as s f y e ds d in
    row_at (glyphs_or c s f m y e q ds r) (glyphs_given c s f m y e q ds r) (λ ng.
    row_at (value_or c s f m y e q ds r) (value_given c s f m y e q ds r ng) (λ nv.
    row (less limit (needed c f ds)) (λ h. ap says (size_given c s f m y e q ds r ng nv h)) (λ h.
    let small : needed c f ds ≤ limit = omega arith in
    row (less m (needed c f ds)) (λ l. ap says (room_given c s f m y e q ds r ng nv small l)) (λ l.
    is _ _ (ap says (wrote_given c s f m y e q ds r ng nv small (omega arith))))))))))
