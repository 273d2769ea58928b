-- The steps from the walk and the lookups on any bytes to the laws of a font's tail (Questions says what is shown).
use mathlib.Core.Path.{◌≡◌, refl, sym, ◌∙◌, ap}
use mathlib.Core.Logic.{◌↔◌, ◌⊎◌, inl, inr}
use mathlib.Core.Bool.{Bool, true, false}
use mathlib.Core.List.{List, [], ◌∷◌}
use Prim.Native.Nat.{ℕ, ◌≤◌, ◌<◌}
use native.Mathlib.Omega.{arith}
use lib.Dec.{ltb}
use borrow.Author.Tests.{ltb-true, lt-ltb, le-ltb}
use Rattle.base.specs.Meaning.{pick, Bytes}
use Rattle.base.specs.Reading.{when}
use Rattle.refusal.specs.Meaning.{refusal}
use Rattle.refusal.specs.declared.Reason.TheVariants.{Ask, NoTable}
use Rattle.refusal.specs.declared.Refusal.{Refusal}
use Rattle.table.specs.declared.Item.{Item}
use Rattle.table.specs.Meaning.{Desc, encode, Readable}
use Rattle.lookup.specs.Reading.{item_at, find_value, find_sequence}
use Rattle.lookup.specs.Meaning.{Any}
use Rattle.lookup.proofs.Meaning as looked
use Rattle.header.specs.declared.Font.{Font}
use Rattle.stages.specs.Meaning.{coding_of, tail_of}
use Rattle.stages.specs.Reading.{check_of}
use Rattle.questions.specs.Reading.{font_items, walk_of, lookup_of, any_high, askable}
use Rattle.content.specs.Meaning.{Describes}
use Rattle.content.proofs.Tails.{Tail, tail_known}
use Rattle.fonts.specs.Reading.{item_of, value_glyph, sequence_glyph}
use Rattle.laws.specs.Meaning.{Exact, Said, gives, refuses, says, Row, Gives, ItemRows, ValueRows, SequenceRows}
use Rattle.laws.proofs.Exactly.{no_refusal_lem, row, handed_own, own_first, reading_of, is_some, less}
use Rattle.std.specs.Prelude.{Result, Ok, Err, Option, Some, None}

-- the reading of a sound font
module _ (s : List ℕ) (f : Font) (y : Bytes s) (sound : check_of s ≡ Ok f) where
  pub described : (ds : List Desc) × Describes s f f.table ds
  described = go f.table (tail_known s f y sound)
    where
      go : (t : Bool) → Tail t (coding_of f.kind) f.count (tail_of s f) → (ds : List Desc) × Describes s f t ds
      go true v = (v.reading, (v.count, v.values, v.same))
      go false v = ([], refl)

  -- whose bytes are its tail
  pub read_as : (ds : List Desc) → Describes s f f.table ds → Readable (coding_of f.kind) ds × (tail_of s f ≡ encode (coding_of f.kind) ds)
  read_as ds = go f.table (tail_known s f y sound)
    where
      go : (t : Bool) → Tail t (coding_of f.kind) f.count (tail_of s f) → Describes s f t ds →
          Readable (coding_of f.kind) ds × (tail_of s f ≡ encode (coding_of f.kind) ds)
      go true v d = (d.1, d.2)
      go false v d = rw d (tt, v)

-- whether there is a table
pub bare_or : (t : Bool) → (t ≡ false) ⊎ ((t ≡ false) → ⊥)
bare_or true = inr (λ e. let z : ◌≡◌ {A = ℕ} 0 1 = cc in omega arith)
bare_or false = inl refl

pub not_bare : (t : Bool) → ((t ≡ false) → ⊥) → t ≡ true
not_bare true n = refl
not_bare false n = absurd (n refl)

-- the end of a chain: nothing is found, or what is found is given
found : {A N : Type 0} {P : A → Type 0} {n : ℕ} (x : Said A) → ((v : A) × P v) ⊎ N → (N → x ≡ refuses n 0) → ((v : A) → P v → x ≡ gives v) → Exact x (Row N n 0 (Gives P))
found x (inr z) f g = row (inl z) f (λ m. absurd (m z))
found x (inl (v, p)) f g = row (inr (λ z. no_refusal_lem (sym (g v p) ∙ f z))) f (λ m. is_some x (v, p) g)

-- a walk or a lookup found what has P, or nothing
found_or : {A N : Type 0} {P : A → Type 0} (w : Option A) → ((v : A) → (w ≡ Some v) ↔ P v) → (w ≡ None) ↔ N → ((v : A) × P v) ⊎ N
found_or (Some v) m o = inl (v, (m v).0 refl)
found_or None m o = inr (o.0 refl)

-- a sequence may not be asked exactly when it is empty or has a value above 10FFFF
abbrev High : ℕ → Type 0
High v = 0x10FFFF < v

any_high_lem : (vs : List ℕ) → any_high vs ≡ true → Any High vs
unfolding any_high when
any_high_lem [] e = let z : ◌≡◌ {A = ℕ} 0 1 = cc in absurd (omega arith)
any_high_lem (v ∷ vs) e = go (ltb 0x10FFFF v) refl e (any_high_lem vs)
  where
    go : (t : Bool) → ltb 0x10FFFF v ≡ t → when t true (any_high vs) ≡ true → (any_high vs ≡ true → Any High vs) → Any High (v ∷ vs)
    go true p q ih = inl (ltb-true 0x10FFFF v p)
    go false p q ih = inr (ih q)

high_any : (vs : List ℕ) → Any High vs → any_high vs ≡ true
unfolding any_high when
high_any [] a = absurd a
high_any (v ∷ vs) (inl h) = rw (lt-ltb 0x10FFFF v h)
high_any (v ∷ vs) (inr a) = go (ltb 0x10FFFF v) (high_any vs a)
  where
    go : (t : Bool) → any_high vs ≡ true → when t true (any_high vs) ≡ true
    go true e = refl
    go false e = e

abbrev Unaskable : List ℕ → Type 0
Unaskable vs = (vs ≡ []) ⊎ Any High vs

unaskable : (vs : List ℕ) → Unaskable vs → askable vs ≡ false
unaskable vs (inl e) = rw e
unaskable [] (inr a) = absurd a
unaskable (v ∷ vs) (inr a) = rw (high_any (v ∷ vs) a)

not_askable : (vs : List ℕ) → askable vs ≡ false → Unaskable vs
not_askable [] e = inl refl
not_askable (v ∷ vs) e = inr (go (any_high (v ∷ vs)) refl e)
  where
    go : (t : Bool) → any_high (v ∷ vs) ≡ t → pick t false true ≡ false → Any High (v ∷ vs)
    go true p q = any_high_lem (v ∷ vs) p
    go false p q = let z : ◌≡◌ {A = ℕ} 0 1 = cc in absurd (omega arith)

askable_or : (vs : List ℕ) → Unaskable vs ⊎ (Unaskable vs → ⊥)
askable_or vs = go (bare_or (askable vs))
  where
    go : (askable vs ≡ false) ⊎ ((askable vs ≡ false) → ⊥) → Unaskable vs ⊎ (Unaskable vs → ⊥)
    go (inl e) = inl (not_askable vs e)
    go (inr n) = inr (λ u. n (unaskable vs u))

pub is_askable : (vs : List ℕ) → (Unaskable vs → ⊥) → askable vs ≡ true
is_askable vs n = not_bare (askable vs) (λ e. n (not_askable vs e))

-- what the questions answer of a font's items, by whether it has a table
abbrev pub item_with : Bool → ℕ → ℕ → List Item → Result Item Refusal
item_with t g k is = pick t (walk_of (item_at g k is)) (Err (refusal NoTable 0))

abbrev pub value_with : Bool → ℕ → List Item → Result ℕ Refusal
value_with t v is = pick t (when (ltb 0x10FFFF v) (Err (refusal Ask 0)) (lookup_of (find_value v 0 is))) (Err (refusal NoTable 0))

abbrev pub sequence_with : Bool → List ℕ → List Item → Result ℕ Refusal
sequence_with t vs is = pick t (when (askable vs) (lookup_of (find_sequence vs is)) (Err (refusal Ask 0))) (Err (refusal NoTable 0))

-- on a sound font
module _ (s : List ℕ) (f : Font) (sound : check_of s ≡ Ok f) where
  pub item_asked : (g k : ℕ) → item_of s g k ≡ item_with f.table g k (font_items s f)
  unfolding item_of
  item_asked g k = rw sound

  pub value_asked : (v : ℕ) → value_glyph s v ≡ value_with f.table v (font_items s f)
  unfolding value_glyph
  value_asked v = rw sound

  pub sequence_asked : (vs : List ℕ) → sequence_glyph s vs ≡ sequence_with f.table vs (font_items s f)
  unfolding sequence_glyph
  sequence_asked vs = rw sound

  module _ (bare : f.table ≡ false) where
    item_bare : (g k : ℕ) → item_of s g k ≡ Err (refusal NoTable 0)
    unfolding item_of
    item_bare g k = rw (sound, bare)

    value_bare : (v : ℕ) → value_glyph s v ≡ Err (refusal NoTable 0)
    unfolding value_glyph
    value_bare v = rw (sound, bare)

    sequence_bare : (vs : List ℕ) → sequence_glyph s vs ≡ Err (refusal NoTable 0)
    unfolding sequence_glyph
    sequence_bare vs = rw (sound, bare)

  module _ (marked : f.table ≡ true) where
    pub walks : (g k : ℕ) → item_of s g k ≡ walk_of (item_at g k (font_items s f))
    unfolding item_of
    walks g k = rw (sound, marked)

    value_high : (v : ℕ) → 0x10FFFF < v → value_glyph s v ≡ Err (refusal Ask 0)
    unfolding value_glyph when
    value_high v h = rw (sound, marked, lt-ltb 0x10FFFF v h)

    pub looks : (v : ℕ) → v ≤ 0x10FFFF → value_glyph s v ≡ lookup_of (find_value v 0 (font_items s f))
    unfolding value_glyph when
    looks v h = rw (sound, marked, le-ltb 0x10FFFF v h)

    sequence_high : (vs : List ℕ) → askable vs ≡ false → sequence_glyph s vs ≡ Err (refusal Ask 0)
    unfolding sequence_glyph when
    sequence_high vs h = rw (sound, marked, h)

    pub seeks : (vs : List ℕ) → askable vs ≡ true → sequence_glyph s vs ≡ lookup_of (find_sequence vs (font_items s f))
    unfolding sequence_glyph when
    seeks vs h = rw (sound, marked, h)

module _ (s : List ℕ) (y : Bytes s) where
  pub item_rows : (g k : ℕ) → Exact (says (item_of s g k)) (ItemRows s g k)
  unfolding item_of
  item_rows g k =
      own_first s (λ r e. ap says (handed_own s r e _)) (λ f e.
      row (bare_or f.table) (λ t. ap says (item_bare s f e t g k)) (λ n.
      let t = not_bare f.table n in
      reading_of s f (described s f y e) (λ ds d.
      let r = read_as s f y e ds d in
      let m = looked.item_exactly (coding_of f.kind) ds (tail_of s f) r.0 r.1 g k in
      let o = looked.no_item_exactly (coding_of f.kind) ds (tail_of s f) r.0 r.1 g k in
      found (says (item_of s g k)) (found_or (item_at g k (font_items s f)) m o)
      (λ u. ap says (walks s f e t g k ∙ ap walk_of (o.1 u)))
      (λ i h. ap says (walks s f e t g k ∙ ap walk_of ((m i).1 h))))))

  pub value_rows : (v : ℕ) → Exact (says (value_glyph s v)) (ValueRows s v)
  unfolding value_glyph
  value_rows v =
      own_first s (λ r e. ap says (handed_own s r e _)) (λ f e.
      row (bare_or f.table) (λ t. ap says (value_bare s f e t v)) (λ n.
      let t = not_bare f.table n in
      row (less 0x10FFFF v) (λ h. ap says (value_high s f e t v h)) (λ l.
      let h : v ≤ 0x10FFFF = omega arith in
      reading_of s f (described s f y e) (λ ds d.
      let r = read_as s f y e ds d in
      let m = looked.value_exactly (coding_of f.kind) ds (tail_of s f) r.0 r.1 v in
      let o = looked.no_value_exactly (coding_of f.kind) ds (tail_of s f) r.0 r.1 v in
      found (says (value_glyph s v)) (found_or (find_value v 0 (font_items s f)) m o)
      (λ u. ap says (looks s f e t v h ∙ ap lookup_of (o.1 u)))
      (λ g u. ap says (looks s f e t v h ∙ ap lookup_of ((m g).1 u)))))))

  pub sequence_rows : (vs : List ℕ) → Exact (says (sequence_glyph s vs)) (SequenceRows s vs)
  unfolding sequence_glyph
  sequence_rows vs =
      own_first s (λ r e. ap says (handed_own s r e _)) (λ f e.
      row (bare_or f.table) (λ t. ap says (sequence_bare s f e t vs)) (λ n.
      let t = not_bare f.table n in
      row (askable_or vs) (λ h. ap says (sequence_high s f e t vs (unaskable vs h))) (λ l.
      let h = is_askable vs l in
      reading_of s f (described s f y e) (λ ds d.
      let r = read_as s f y e ds d in
      let m = looked.sequence_exactly (coding_of f.kind) ds (tail_of s f) r.0 r.1 vs in
      let o = looked.no_sequence_exactly (coding_of f.kind) ds (tail_of s f) r.0 r.1 vs in
      found (says (sequence_glyph s vs)) (found_or (find_sequence vs (font_items s f)) m o)
      (λ u. ap says (seeks s f e t vs h ∙ ap lookup_of (o.1 u)))
      (λ g u. ap says (seeks s f e t vs h ∙ ap lookup_of ((m g).1 u)))))))
