-- The pairs that the comparison of two files finds are their differences, in order; none is found exactly where the contents are the same; and
-- the files swapped have them swapped (Differences says what is shown).
use mathlib.Core.Path.{◌≡◌, refl, sym, ◌∙◌, ap, subst}
use mathlib.Core.Logic.{◌⊎◌, inl, inr, ◌↔◌}
use mathlib.Core.Bool.{Bool, true, false}
use mathlib.Core.Option.{Option, none, some}
use mathlib.Core.List.{List, [], ◌∷◌, ◌++◌}
use Prim.Native.Nat.{ℕ, zero, suc, ◌+◌, ◌-◌, ◌≤◌, ◌<◌, min, max}
use native.Mathlib.Omega.{arith}
use lib.ListN.{length, drop, drop_of_length-le}
use borrow.Author.Tests.{lt-ltb, le-ltb}
use Rattle.base.specs.Meaning.{Bytes}
use Rattle.base.specs.Reading.{when}
use Rattle.base.proofs.Tests.{below, by_when}
use Rattle.coding.specs.declared.Coding.{Coding}
use Rattle.table.specs.Meaning.{Desc, items_of, items, encode, Readable}
use Rattle.table.proofs.Accepts.{items_inj}
use Rattle.table.proofs.EndToEnd.{described_append}
use Rattle.lookup.specs.Meaning.{Nth}
use Rattle.refusal.specs.declared.Refusal.{Refusal}
use Rattle.header.specs.declared.Font.{Font}
use Rattle.bitmap.specs.Reading.{bitmap_of}
use Rattle.stages.specs.Meaning.{coding_of, tail_of}
use Rattle.stages.specs.Reading.{check_of}
use Rattle.content.specs.Meaning.{Drawing, Content, Describes, HasContent, SameDrawing, SameContent}
use Rattle.content.proofs.Same.{content_exists}
use Rattle.content.proofs.Tails.{Tail, tail_known}
use Rattle.descriptions.specs.Reading.{same_at}
use Rattle.descriptions.proofs.Stepping.{no_steps, none_first}
use Rattle.descriptions.proofs.Meaning.{rest_readable, rest_at, same_items, items_same, same_swapped}
use Rattle.bitmap.specs.Meaning.{kind_metrics}
use Rattle.glyphs.specs.Reading.{equal_metrics, pixel_kind, located_kind, glyph_kind}
use Rattle.differences.specs.Reading.{pair_of, table_kind, item_kind, only_kind, rest_from, compared_tail, common_pairs, rest_pairs, pairs_of, found_with, found_by, differences_of}
use Rattle.differences.proofs.Cases.{from_table, from_end}
use Rattle.laws.specs.Meaning.{OtherMetrics, OtherPixels, OtherItems, Difference, only_first, only_second, metrics_differ, pixels_differ, items_differ, tables_differ, Ordered, Differences, swap_kind, swapped}
use Rattle.laws.proofs.Alike.{Compares, alike, by_metrics, by_pixels, compared}
use Rattle.laws.proofs.Pairing.{In, in_either, in_left, in_right, pair_in, pair_there, pair_ordered, ordered_append, swapped_append, swapped_pair, plain, place_at, items_at, common_plain, plain_in, first_there, second_there, not_six, plain_ordered, plain_swapped, plain_same, rest_in, rest_there, rest_ordered, rest_swapped}
use Rattle.std.specs.Prelude.{Result, Ok, Err}
use Rattle.bitmap.specs.declared.Bitmap.{Bitmap}

-- the kinds that there are
glyph_kinds : (s : List ℕ) (f : Font) (o : List ℕ) (h : Font) (g : ℕ) → (glyph_kind s f o h g ≡ 0) ⊎ ((glyph_kind s f o h g ≡ 3) ⊎ (glyph_kind s f o h g ≡ 4))
unfolding glyph_kind pixel_kind
glyph_kinds s f o h g = go (bitmap_of s f g) (bitmap_of o h g)
  where
    go : (x y : Result Bitmap Refusal) → (located_kind s f o h g x y ≡ 0) ⊎ ((located_kind s f o h g x y ≡ 3) ⊎ (located_kind s f o h g x y ≡ 4))
    go (Ok p) (Ok q) =
        by_when (λ (k : ℕ). (k ≡ 0) ⊎ ((k ≡ 3) ⊎ (k ≡ 4))) (equal_metrics (kind_metrics s f g f.kind) (kind_metrics o h g h.kind)) (pixel_kind s p o q) 3
        (by_when (λ (k : ℕ). (k ≡ 0) ⊎ ((k ≡ 3) ⊎ (k ≡ 4))) _ 0 4 (inl refl) (inr (inr refl))) (inr (inl refl))
    go (Ok p) (Err r) = inr (inl refl)
    go (Err r) (Ok q) = inr (inl refl)
    go (Err r) (Err r') = inl refl

item_kinds : (b : Bool) → (item_kind b ≡ 0) ⊎ (item_kind b ≡ 5)
item_kinds true = inl refl
item_kinds false = inr refl

table_kinds : (x y : Bool) → ((x ≡ y) × (table_kind x y ≡ 0)) ⊎ ((x ≡ y → ⊥) × (table_kind x y ≡ 6))
table_kinds true true = inl (refl, refl)
table_kinds true false = inr ((λ e. let z : ◌≡◌ {A = ℕ} 0 1 = cc in absurd (omega arith)), refl)
table_kinds false true = inr ((λ e. let z : ◌≡◌ {A = ℕ} 0 1 = cc in absurd (omega arith)), refl)
table_kinds false false = inl (refl, refl)

-- two counts in one order or the other
abbrev Counts : ℕ → ℕ → Type 0
Counts a b =
    ((a < b) × (min a b ≡ a) × (max a b ≡ b) × (only_kind a b ≡ 2))
    ⊎ ((b ≤ a) × (min a b ≡ b) × (max a b ≡ a) × (only_kind a b ≡ 1))

counts : (a b : ℕ) → Counts a b
unfolding only_kind when
counts a b = go (below a b)
  where
    go : (a < b) ⊎ (b ≤ a) → Counts a b
    go (inl l) = inl (l, omega arith, omega arith, rw (lt-ltb a b l))
    go (inr l) = inr (l, omega arith, omega arith, rw (le-ltb a b l))

-- a description of a list
nth_of : (i : ℕ) (ds : List Desc) → i < length ds → (x : Desc) × Nth i ds x × (drop i ds ≡ x ∷ drop (suc i) ds)
nth_of zero [] l = absurd (omega arith)
nth_of (suc i) [] l = absurd (omega arith)
nth_of zero (d ∷ ds) l = (d, refl, refl)
nth_of (suc i) (d ∷ ds) l = nth_of i ds (omega arith)

nth_one : (i : ℕ) (ds : List Desc) (x y : Desc) → Nth i ds x → Nth i ds y → x ≡ y
nth_one zero [] x y p q = absurd p
nth_one (suc i) [] x y p q = absurd p
nth_one zero (d ∷ ds) x y p q = sym p ∙ q
nth_one (suc i) (d ∷ ds) x y p q = nth_one i ds x y p q

nth_below : (i : ℕ) (ds : List Desc) (x : Desc) → Nth i ds x → i < length ds
nth_below zero [] x p = absurd p
nth_below (suc i) [] x p = absurd p
nth_below zero (d ∷ ds) x p = omega arith
nth_below (suc i) (d ∷ ds) x p = omega (arith, nth_below i ds x p)

-- descriptions with the same items, one by one
all_items : (ds es : List Desc) → length ds ≡ length es → ((i : ℕ) (x y : Desc) → Nth i ds x → Nth i es y → items_of x ≡ items_of y) → items ds ≡ items es
all_items [] [] l f = refl
all_items [] (e ∷ es) l f = absurd (omega arith)
all_items (d ∷ ds) [] l f = absurd (omega arith)
all_items (d ∷ ds) (e ∷ es) l f =
    described_append d (items ds) ∙ (λ t. f 0 d e refl refl t ++ all_items ds es (omega arith) (λ i x y p q. f (suc i) x y p q) t) ∙ sym (described_append e (items es))

-- descriptions of a tail: each starts where the one before it ends
module _ (c : Coding) (s : List ℕ) (ds : List Desc) (r : Readable c ds) (e : s ≡ encode c ds) where
  placed : (i : ℕ) → i ≤ length ds → Readable c (drop i ds) × (drop (place_at c s i) s ≡ encode c (drop i ds))
  placed zero l = (r, e)
  placed (suc i) l =
      let p = placed i (omega arith) in
      let n = nth_of i ds l in
      let x = n.0 in
      let xs = drop (suc i) ds in
      let rx : Readable c (x ∷ xs) = subst (Readable c) n.2 p.0 in
      let ex : drop (place_at c s i) s ≡ encode c (x ∷ xs) = p.1 ∙ ap (encode c) n.2 in
      (rest_readable c s (place_at c s i) x xs rx ex, rest_at c s (place_at c s i) x xs rx ex)

-- descriptions of two tails: they are alike exactly where they have the same items
module _ (c : Coding) (s : List ℕ) (ds : List Desc) (r : Readable c ds) (e : s ≡ encode c ds) (d : Coding) (t : List ℕ) (es : List Desc) (q : Readable d es) (k : t ≡ encode d es) where
  items_compared : (i : ℕ) (x y : Desc) → Nth i ds x → Nth i es y → ((items_at c s d t i ≡ 0) × (items_of x ≡ items_of y)) ⊎ ((items_at c s d t i ≡ 5) × (items_of x ≡ items_of y → ⊥))
  items_compared i x y nx ny = go (same_at c s (place_at c s i) d t (place_at d t i)) refl
    where
      lx : i < length ds
      lx = nth_below i ds x nx

      ly : i < length es
      ly = nth_below i es y ny

      px : (u : Desc) × Nth i ds u × (drop i ds ≡ u ∷ drop (suc i) ds)
      px = nth_of i ds lx

      py : (u : Desc) × Nth i es u × (drop i es ≡ u ∷ drop (suc i) es)
      py = nth_of i es ly

      ex : drop i ds ≡ x ∷ drop (suc i) ds
      ex = px.2 ∙ ap (λ (u : Desc). u ∷ drop (suc i) ds) (nth_one i ds px.0 x px.1 nx)

      ey : drop i es ≡ y ∷ drop (suc i) es
      ey = py.2 ∙ ap (λ (u : Desc). u ∷ drop (suc i) es) (nth_one i es py.0 y py.1 ny)

      ax : Readable c (x ∷ drop (suc i) ds) × (drop (place_at c s i) s ≡ encode c (x ∷ drop (suc i) ds))
      ax = let p = placed c s ds r e i (omega (arith, lx)) in (subst (Readable c) ex p.0, p.1 ∙ ap (encode c) ex)

      ay : Readable d (y ∷ drop (suc i) es) × (drop (place_at d t i) t ≡ encode d (y ∷ drop (suc i) es))
      ay = let p = placed d t es q k i (omega (arith, ly)) in (subst (Readable d) ey p.0, p.1 ∙ ap (encode d) ey)

      go : (b : Bool) → same_at c s (place_at c s i) d t (place_at d t i) ≡ b → ((items_at c s d t i ≡ 0) × (items_of x ≡ items_of y)) ⊎ ((items_at c s d t i ≡ 5) × (items_of x ≡ items_of y → ⊥))
      go true z = inl (ap item_kind z, same_items c s (place_at c s i) x (drop (suc i) ds) ax.0 ax.1 d t (place_at d t i) y (drop (suc i) es) ay.0 ay.1 z)
      go false z =
          inr (
            ap item_kind z,
            λ m. let w : false ≡ true = sym z ∙ items_same c s (place_at c s i) x (drop (suc i) ds) ax.0 ax.1 d t (place_at d t i) y (drop (suc i) es) ay.0 ay.1 m in let n : ◌≡◌ {A = ℕ} 0 1 = cc in absurd (omega arith),
          )

-- where a tail is empty nothing is compared
nothing_first : (c : Coding) (s : List ℕ) (d : Coding) (t : List ℕ) (i : ℕ) → s ≡ [] → items_at c s d t i ≡ 0
nothing_first c s d t i e = ap item_kind (none_first _ _ (no_steps c s (place_at c s i) (omega (arith, ap length e))))

-- two sound fonts: the tails that are compared
module _ (s : List ℕ) (f : Font) (y : Bytes s) (e : check_of s ≡ Ok f) (h : Font) where
  -- both have a table
  compared_both : f.table ≡ true → h.table ≡ true → compared_tail s f h ≡ tail_of s f
  compared_both p q = ap (λ (i : ℕ). drop i s) (sym (from_table (length s) f h (table_kind f.table h.table) refl (λ i. table_kind (p i) (q i))))

  -- else nothing is compared
  at_end : (table_kind f.table h.table ≡ 0 → ⊥) → compared_tail s f h ≡ []
  at_end n =
      let l : length s ≤ length s = omega arith in
      ap (λ (i : ℕ). drop i s) (sym (from_end (length s) f h (table_kind f.table h.table) refl n)) ∙ drop_of_length-le s l

  compared_none : (a b : Bool) → f.table ≡ a → h.table ≡ b → ((a ≡ true) × (b ≡ true) → ⊥) → compared_tail s f h ≡ []
  compared_none true true p q n = absurd (n (refl, refl))
  compared_none true false p q n = at_end (λ z. let w : 6 ≡ 0 = sym (λ i. table_kind (p i) (q i)) ∙ z in absurd (omega arith))
  compared_none false true p q n = at_end (λ z. let w : 6 ≡ 0 = sym (λ i. table_kind (p i) (q i)) ∙ z in absurd (omega arith))
  compared_none false false p q n =
      ap (λ (i : ℕ). drop i s) (sym (from_table (length s) f h (table_kind f.table h.table) refl (λ i. table_kind (p i) (q i))))
      ∙ subst (λ (t : Bool). Tail t (coding_of f.kind) f.count (tail_of s f)) p (tail_known s f y e)

-- what is drawn alike differs in nothing, and what has other metrics is not compared by its pixels
same_metrics_not : (x z : Option Drawing) → SameDrawing x z → OtherMetrics x z → ⊥
same_metrics_not none none p q = q
same_metrics_not none (some e) p q = p
same_metrics_not (some d) none p q = p
same_metrics_not (some d) (some e) p q = q p.0

same_pixels_not : (x z : Option Drawing) → SameDrawing x z → OtherPixels x z → ⊥
same_pixels_not none none p q = q
same_pixels_not none (some e) p q = q
same_pixels_not (some d) none p q = q
same_pixels_not (some d) (some e) p q = q.1.4 (p.3 q.1.0 q.1.1 q.1.2 q.1.3)

not_both : (x z : Option Drawing) → OtherMetrics x z → OtherPixels x z → ⊥
not_both none none p q = q
not_both none (some e) p q = q
not_both (some d) none p q = q
not_both (some d) (some e) p q = p q.0

-- two files and their contents
module _ (s : List ℕ) (ys : Bytes s) (m : Content) (a : HasContent s m) (o : List ℕ) (yo : Bytes o) (m' : Content) (b : HasContent o m') where
  abbrev f : Font
  f = a.font

  abbrev h : Font
  h = b.font

  abbrev κ : ℕ → ℕ
  κ = glyph_kind s f o h

  abbrev ι : ℕ → ℕ
  ι = items_at (coding_of f.kind) (compared_tail s f h) (coding_of h.kind) (compared_tail o h f)

  abbrev low : ℕ
  low = min f.count h.count

  abbrev high : ℕ
  high = max f.count h.count

  abbrev only : ℕ
  only = only_kind f.count h.count

  abbrev table : ℕ
  table = table_kind f.table h.table

  -- the pairs in three parts
  pairs_are : pairs_of s f o h ≡ pair_of table 0 ++ (plain κ ι low 0 ++ rest_from only (high - low) low)
  unfolding pairs_of common_pairs rest_pairs
  pairs_are = ap (λ (ps : List (ℕ × ℕ)). pair_of table 0 ++ (ps ++ rest_from only (high - low) low)) (common_plain κ (coding_of f.kind) (compared_tail s f h) (coding_of h.kind) (compared_tail o h f) low 0)

  kinds : (i : ℕ) → (κ i ≡ 0) ⊎ ((κ i ≡ 3) ⊎ (κ i ≡ 4))
  kinds i = glyph_kinds s f o h i

  fives : (i : ℕ) → (ι i ≡ 0) ⊎ (ι i ≡ 5)
  fives i = item_kinds (same_at (coding_of f.kind) (compared_tail s f h) (place_at (coding_of f.kind) (compared_tail s f h) i) (coding_of h.kind) (compared_tail o h f) (place_at (coding_of h.kind) (compared_tail o h f) i))

  -- numbers below both counts
  below_both : (g : ℕ) → g < low → (g < m.count) × (g < m'.count)
  below_both g l = go (counts f.count h.count)
    where
      go : Counts f.count h.count → (g < m.count) × (g < m'.count)
      go (inl c) = (omega (arith, l, c.1, a.count), omega (arith, l, c.0, c.1, b.count))
      go (inr c) = (omega (arith, l, c.0, c.1, a.count), omega (arith, l, c.1, b.count))

  both_below : (g : ℕ) → g < m.count → g < m'.count → g < low
  both_below g p q = go (counts f.count h.count)
    where
      go : Counts f.count h.count → g < low
      go (inl c) = omega (arith, p, c.1, a.count)
      go (inr c) = omega (arith, q, c.1, b.count)

  only_some : only ≡ 0 → ⊥
  only_some z = go (counts f.count h.count)
    where
      go : Counts f.count h.count → ⊥
      go (inl c) = omega (arith, z, c.3)
      go (inr c) = omega (arith, z, c.3)

  -- a glyph that both have
  glyph_at : (g : ℕ) → g < m.count → g < m'.count → Compares (κ g) (m.glyph g) (m'.glyph g)
  glyph_at g p q =
      compared s f ys a.sound o h yo b.sound g (omega (arith, p, a.count)) (omega (arith, q, b.count)) (m.glyph g) (m'.glyph g) (a.glyphs g p) (b.glyphs g q)

  -- descriptions, where both have a table
  module _ (t : m.table ≡ true) (t' : m'.table ≡ true) where
    reads_first : Describes s f true m.descriptions
    reads_first = subst (λ (x : Bool). Describes s f x m.descriptions) t a.described

    reads_second : Describes o h true m'.descriptions
    reads_second = subst (λ (x : Bool). Describes o h x m'.descriptions) t' b.described

    items_at_lem : (i : ℕ) (x y : Desc) → Nth i m.descriptions x → Nth i m'.descriptions y → ((ι i ≡ 0) × (items_of x ≡ items_of y)) ⊎ ((ι i ≡ 5) × (items_of x ≡ items_of y → ⊥))
    items_at_lem =
        items_compared (coding_of f.kind) (compared_tail s f h) m.descriptions reads_first.1 (compared_both s f ys a.sound h (a.table ∙ t) (b.table ∙ t') ∙ reads_first.2)
        (coding_of h.kind) (compared_tail o h f) m'.descriptions reads_second.1 (compared_both o h yo b.sound f (b.table ∙ t') (a.table ∙ t) ∙ reads_second.2)

  -- else none differs
  not_compared : ((m.table ≡ true) × (m'.table ≡ true) → ⊥) → (i : ℕ) → ι i ≡ 0
  not_compared n i =
      nothing_first (coding_of f.kind) (compared_tail s f h) (coding_of h.kind) (compared_tail o h f) i
      (compared_none s f ys a.sound h f.table h.table refl refl (λ p. n (sym a.table ∙ p.0, sym b.table ∙ p.1)))

  both_tables : ((m.table ≡ true) × (m'.table ≡ true)) ⊎ ((m.table ≡ true) × (m'.table ≡ true) → ⊥)
  both_tables = go m.table m'.table
    where
      wrong : false ≡ true → ⊥
      wrong e = let z : ◌≡◌ {A = ℕ} 0 1 = cc in absurd (omega arith)

      go : (x z : Bool) → ((x ≡ true) × (z ≡ true)) ⊎ ((x ≡ true) × (z ≡ true) → ⊥)
      go true true = inl (refl, refl)
      go true false = inr (λ p. wrong p.1)
      go false z = inr (λ p. wrong p.0)

  -- a pair that is found is a difference
  from_table_pair : (k g : ℕ) → In (k, g) (pair_of table 0) → Difference m m' k g
  from_table_pair k g i = let p = pair_in table 0 k g i in go (table_kinds f.table h.table) p
    where
      go : ((f.table ≡ h.table) × (table ≡ 0)) ⊎ ((f.table ≡ h.table → ⊥) × (table ≡ 6)) → (k ≡ table) × (g ≡ 0) × (table ≡ 0 → ⊥) → Difference m m' k g
      go (inl c) p = absurd (p.2 c.1)
      go (inr c) p = tables_differ (p.0 ∙ c.1) p.1 (λ e. c.0 (a.table ∙ e ∙ sym b.table))

  from_glyph : (k g : ℕ) → g < m.count → g < m'.count → (k ≡ 0 → ⊥) → k ≡ κ g → Difference m m' k g
  from_glyph k g p q n e = go (glyph_at g p q)
    where
      go : Compares (κ g) (m.glyph g) (m'.glyph g) → Difference m m' k g
      go (alike z d) = absurd (n (e ∙ z))
      go (by_metrics z d) = metrics_differ (e ∙ z) p q d
      go (by_pixels z d) = pixels_differ (e ∙ z) p q d

  from_items : (k g : ℕ) → g < m.count → g < m'.count → (k ≡ 0 → ⊥) → k ≡ ι g → Difference m m' k g
  from_items k g p q n e = go both_tables
    where
      by : m.table ≡ true → m'.table ≡ true → (x y : Desc) → Nth g m.descriptions x → Nth g m'.descriptions y →
          ((ι g ≡ 0) × (items_of x ≡ items_of y)) ⊎ ((ι g ≡ 5) × (items_of x ≡ items_of y → ⊥)) → Difference m m' k g
      by t t' x y nx ny (inl z) = absurd (n (e ∙ z.0))
      by t t' x y nx ny (inr z) = items_differ (e ∙ z.0) p q t t' (record { first = x; second = y; in_first = nx; in_second = ny; differ = z.1 })

      differ : (t : m.table ≡ true) (t' : m'.table ≡ true) → Difference m m' k g
      differ t t' =
          let x = nth_of g m.descriptions (omega (arith, p, (reads_first t t').0, a.count)) in
          let y = nth_of g m'.descriptions (omega (arith, q, (reads_second t t').0, b.count)) in
          by t t' x.0 y.0 x.1 y.1 (items_at_lem t t' g x.0 y.0 x.1 y.1)

      go : ((m.table ≡ true) × (m'.table ≡ true)) ⊎ ((m.table ≡ true) × (m'.table ≡ true) → ⊥) → Difference m m' k g
      go (inl t) = differ t.0 t.1
      go (inr w) = absurd (n (e ∙ not_compared w g))

  from_rest : (k g : ℕ) → In (k, g) (rest_from only (high - low) low) → Difference m m' k g
  from_rest k g i = let p = rest_in only only_some (high - low) low k g i in go (counts f.count h.count) p
    where
      go : Counts f.count h.count → (k ≡ only) × (low ≤ g) × (g < low + (high - low)) → Difference m m' k g
      go (inl c) p = only_second (p.0 ∙ c.3) (omega (arith, p.1, c.1, a.count)) (omega (arith, p.2, c.0, c.1, c.2, b.count))
      go (inr c) p = only_first (p.0 ∙ c.3) (omega (arith, p.2, c.0, c.1, c.2, a.count)) (omega (arith, p.1, c.1, b.count))

  found_differs : (k g : ℕ) → In (k, g) (pairs_of s f o h) → Difference m m' k g
  found_differs k g i = first (in_either (k, g) (pair_of table 0) (plain κ ι low 0 ++ rest_from only (high - low) low) (subst (In (k, g)) pairs_are i))
    where
      kind : (g < m.count) × (g < m'.count) → (k ≡ 0 → ⊥) → (k ≡ κ g) ⊎ (k ≡ ι g) → Difference m m' k g
      kind l n (inl e) = from_glyph k g l.0 l.1 n e
      kind l n (inr e) = from_items k g l.0 l.1 n e

      second : In (k, g) (plain κ ι low 0) ⊎ In (k, g) (rest_from only (high - low) low) → Difference m m' k g
      second (inl q) = let p = plain_in κ ι low 0 k g q in kind (below_both g (omega (arith, p.1))) p.2 p.3
      second (inr q) = from_rest k g q

      first : In (k, g) (pair_of table 0) ⊎ In (k, g) (plain κ ι low 0 ++ rest_from only (high - low) low) → Difference m m' k g
      first (inl q) = from_table_pair k g q
      first (inr q) = second (in_either (k, g) (plain κ ι low 0) (rest_from only (high - low) low) q)

  -- and a difference is found
  in_pairs : (p : ℕ × ℕ) → In p (pair_of table 0) ⊎ (In p (plain κ ι low 0) ⊎ In p (rest_from only (high - low) low)) → In p (pairs_of s f o h)
  in_pairs p w = subst (In p) (sym pairs_are) (go w)
    where
      go : In p (pair_of table 0) ⊎ (In p (plain κ ι low 0) ⊎ In p (rest_from only (high - low) low)) → In p (pair_of table 0 ++ (plain κ ι low 0 ++ rest_from only (high - low) low))
      go (inl q) = in_left p (pair_of table 0) (plain κ ι low 0 ++ rest_from only (high - low) low) q
      go (inr (inl q)) = in_right p (pair_of table 0) (plain κ ι low 0 ++ rest_from only (high - low) low) (in_left p (plain κ ι low 0) (rest_from only (high - low) low) q)
      go (inr (inr q)) = in_right p (pair_of table 0) (plain κ ι low 0 ++ rest_from only (high - low) low) (in_right p (plain κ ι low 0) (rest_from only (high - low) low) q)

  -- a glyph's kind is 3 where its metrics differ, 4 where its pixels do
  three : (g : ℕ) → Compares (κ g) (m.glyph g) (m'.glyph g) → OtherMetrics (m.glyph g) (m'.glyph g) → κ g ≡ 3
  three g (alike z d) w = absurd (same_metrics_not (m.glyph g) (m'.glyph g) d w)
  three g (by_metrics z d) w = z
  three g (by_pixels z d) w = absurd (not_both (m.glyph g) (m'.glyph g) w d)

  four : (g : ℕ) → Compares (κ g) (m.glyph g) (m'.glyph g) → OtherPixels (m.glyph g) (m'.glyph g) → κ g ≡ 4
  four g (alike z d) w = absurd (same_pixels_not (m.glyph g) (m'.glyph g) d w)
  four g (by_metrics z d) w = absurd (not_both (m.glyph g) (m'.glyph g) d w)
  four g (by_pixels z d) w = z

  five : (g : ℕ) → m.table ≡ true → m'.table ≡ true → OtherItems m.descriptions m'.descriptions g → ι g ≡ 5
  five g t t' w = go (items_at_lem t t' g w.first w.second w.in_first w.in_second)
    where
      go : ((ι g ≡ 0) × (items_of w.first ≡ items_of w.second)) ⊎ ((ι g ≡ 5) × (items_of w.first ≡ items_of w.second → ⊥)) → ι g ≡ 5
      go (inl z) = absurd (w.differ z.1)
      go (inr z) = z.0

  as_kind : (k j g : ℕ) → j ≡ k → In (j, g) (plain κ ι low 0) → In (k, g) (pairs_of s f o h)
  as_kind k j g e i = in_pairs (k, g) (inr (inl (subst (λ (x : ℕ). In (x, g) (plain κ ι low 0)) e i)))

  differs_found : (k g : ℕ) → Difference m m' k g → In (k, g) (pairs_of s f o h)
  differs_found k g (only_first e p q) = go (counts f.count h.count)
    where
      go : Counts f.count h.count → In (k, g) (pairs_of s f o h)
      go (inl c) = absurd (omega (arith, p, q, c.0, a.count, b.count))
      go (inr c) =
          in_pairs (k, g) (inr (inr (subst (λ (x : ℕ). In (x, g) (rest_from only (high - low) low)) (c.3 ∙ sym e)
          (rest_there only only_some (high - low) low g (omega (arith, q, c.1, b.count)) (omega (arith, p, c.0, c.1, c.2, a.count))))))
  differs_found k g (only_second e p q) = go (counts f.count h.count)
    where
      go : Counts f.count h.count → In (k, g) (pairs_of s f o h)
      go (inl c) =
          in_pairs (k, g) (inr (inr (subst (λ (x : ℕ). In (x, g) (rest_from only (high - low) low)) (c.3 ∙ sym e)
          (rest_there only only_some (high - low) low g (omega (arith, p, c.1, a.count)) (omega (arith, q, c.0, c.1, c.2, b.count))))))
      go (inr c) = absurd (omega (arith, p, q, c.0, a.count, b.count))
  differs_found k g (metrics_differ e p q w) =
      let z = three g (glyph_at g p q) w in
      as_kind k (κ g) g (z ∙ sym e) (first_there κ ι low 0 g (omega arith) (omega (arith, both_below g p q)) (λ n. absurd (omega (arith, n, z))))
  differs_found k g (pixels_differ e p q w) =
      let z = four g (glyph_at g p q) w in
      as_kind k (κ g) g (z ∙ sym e) (first_there κ ι low 0 g (omega arith) (omega (arith, both_below g p q)) (λ n. absurd (omega (arith, n, z))))
  differs_found k g (items_differ e p q t t' w) =
      let z = five g t t' w in
      as_kind k (ι g) g (z ∙ sym e) (second_there κ ι low 0 g (omega arith) (omega (arith, both_below g p q)) (λ n. absurd (omega (arith, n, z))))
  differs_found k g (tables_differ e z n) = go (table_kinds f.table h.table)
    where
      go : ((f.table ≡ h.table) × (table ≡ 0)) ⊎ ((f.table ≡ h.table → ⊥) × (table ≡ 6)) → In (k, g) (pairs_of s f o h)
      go (inl c) = absurd (n (sym a.table ∙ c.0 ∙ b.table))
      go (inr c) =
          in_pairs (k, g) (inl (subst (λ (p : ℕ × ℕ). In p (pair_of table 0)) (λ i. ((c.1 ∙ sym e) i, sym z i)) (pair_there table 0 (λ w. absurd (omega (arith, w, c.1))))))

  -- they stand in their order
  pairs_ordered : Ordered (pairs_of s f o h)
  pairs_ordered =
      subst Ordered (sym pairs_are)
      (ordered_append (pair_of table 0) (plain κ ι low 0 ++ rest_from only (high - low) low) (pair_ordered table 0)
      (ordered_append (plain κ ι low 0) (rest_from only (high - low) low) (plain_ordered κ ι kinds fives low 0) (rest_ordered only only_some only_low (high - low) low)
      (λ p q i j.
      let u = plain_in κ ι low 0 p.0 p.1 i in
      let v = rest_in only only_some (high - low) low q.0 q.1 j in
      let x = not_six κ ι kinds fives low 0 p.0 p.1 i in
      inr ((λ e. absurd (omega (arith, e, x))), (λ e. absurd (omega (arith, e, v.0, only_low))), inl (omega (arith, u.1, v.1)))))
      (λ p q i j.
      let u = pair_in table 0 p.0 p.1 i in
      inl (u.0 ∙ six u.2, λ e. not_later q e (in_either (q.0, q.1) (plain κ ι low 0) (rest_from only (high - low) low) j))))
    where
      only_low : only < 6
      only_low = go (counts f.count h.count)
        where
          go : Counts f.count h.count → only < 6
          go (inl c) = omega (arith, c.3)
          go (inr c) = omega (arith, c.3)

      six : (table ≡ 0 → ⊥) → table ≡ 6
      six n = go (table_kinds f.table h.table)
        where
          go : ((f.table ≡ h.table) × (table ≡ 0)) ⊎ ((f.table ≡ h.table → ⊥) × (table ≡ 6)) → table ≡ 6
          go (inl c) = absurd (n c.1)
          go (inr c) = c.1

      not_later : (q : ℕ × ℕ) → q.0 ≡ 6 → In (q.0, q.1) (plain κ ι low 0) ⊎ In (q.0, q.1) (rest_from only (high - low) low) → ⊥
      not_later q e (inl i) = omega (arith, e, not_six κ ι kinds fives low 0 q.0 q.1 i)
      not_later q e (inr i) = omega (arith, e, (rest_in only only_some (high - low) low q.0 q.1 i).0, only_low)

  differences_found : Differences m m' (pairs_of s f o h)
  differences_found = record { exactly = λ k g. (found_differs k g, differs_found k g); ordered = pairs_ordered }

  -- what the call finds
  pub found_is : differences_of s o ≡ pairs_of s f o h
  unfolding differences_of
  found_is = ap (found_by s o) a.sound ∙ ap (found_with s f o) b.sound

  pub differences_of_lem : Differences m m' (differences_of s o)
  differences_of_lem = subst (Differences m m') (sym found_is) differences_found

  -- nothing is found where the contents are the same
  same_none : SameContent m m' → differences_of s o ≡ []
  same_none w = empty (differences_of s o) (λ p i. never p.0 p.1 ((differences_of_lem.exactly p.0 p.1).0 i))
    where
      empty : (ps : List (ℕ × ℕ)) → ((p : ℕ × ℕ) → In (p.0, p.1) ps → ⊥) → ps ≡ []
      empty [] n = refl
      empty (p ∷ ps) n = absurd (n p (inl refl))

      never : (k g : ℕ) → Difference m m' k g → ⊥
      never k g (only_first e p q) = omega (arith, p, q, w.count)
      never k g (only_second e p q) = omega (arith, p, q, w.count)
      never k g (metrics_differ e p q d) = same_metrics_not (m.glyph g) (m'.glyph g) (w.glyphs g p) d
      never k g (pixels_differ e p q d) = same_pixels_not (m.glyph g) (m'.glyph g) (w.glyphs g p) d
      never k g (items_differ e p q t t' d) = d.differ (ap items_of (nth_one g m'.descriptions d.first d.second (subst (λ (ds : List Desc). Nth g ds d.first) w.descriptions d.in_first) d.in_second))
      never k g (tables_differ e z n) = n w.table

  -- and where nothing is found, they are
  module _ (z : differences_of s o ≡ []) where
    no_difference : (k g : ℕ) → Difference m m' k g → ⊥
    no_difference k g d = subst (In (k, g)) z ((differences_of_lem.exactly k g).1 d)

    count_same : m.count ≡ m'.count
    count_same = go (below m.count m'.count) (below m'.count m.count)
      where
        go : (m.count < m'.count) ⊎ (m'.count ≤ m.count) → (m'.count < m.count) ⊎ (m.count ≤ m'.count) → m.count ≡ m'.count
        go (inl l) w = absurd (no_difference 2 m.count (only_second refl (omega arith) l))
        go (inr l) (inl u) = absurd (no_difference 1 m'.count (only_first refl u (omega arith)))
        go (inr l) (inr u) = omega arith

    table_same : m.table ≡ m'.table
    table_same = go (table_kinds m.table m'.table)
      where
        go : ((m.table ≡ m'.table) × (table_kind m.table m'.table ≡ 0)) ⊎ ((m.table ≡ m'.table → ⊥) × (table_kind m.table m'.table ≡ 6)) → m.table ≡ m'.table
        go (inl c) = c.0
        go (inr c) = absurd (no_difference 6 0 (tables_differ refl refl c.0))

    glyph_same : (g : ℕ) → g < m.count → SameDrawing (m.glyph g) (m'.glyph g)
    glyph_same g p = go (glyph_at g p q)
      where
        q : g < m'.count
        q = omega (arith, p, count_same)

        go : Compares (κ g) (m.glyph g) (m'.glyph g) → SameDrawing (m.glyph g) (m'.glyph g)
        go (alike e d) = d
        go (by_metrics e d) = absurd (no_difference 3 g (metrics_differ refl p q d))
        go (by_pixels e d) = absurd (no_difference 4 g (pixels_differ refl p q d))

    items_alike : m.table ≡ true → m'.table ≡ true → (g : ℕ) (x y : Desc) → Nth g m.descriptions x → Nth g m'.descriptions y → items_of x ≡ items_of y
    items_alike t t' g x y nx ny = go (items_at_lem t t' g x y nx ny)
      where
        p : g < m.count
        p = omega (arith, nth_below g m.descriptions x nx, (reads_first t t').0, a.count)

        go : ((ι g ≡ 0) × (items_of x ≡ items_of y)) ⊎ ((ι g ≡ 5) × (items_of x ≡ items_of y → ⊥)) → items_of x ≡ items_of y
        go (inl e) = e.1
        go (inr e) = absurd (no_difference 5 g (items_differ refl p (omega (arith, p, count_same)) t t' (record { first = x; second = y; in_first = nx; in_second = ny; differ = e.1 })))

    descriptions_same : m.descriptions ≡ m'.descriptions
    descriptions_same = go m.table refl
      where
        go : (t : Bool) → m.table ≡ t → m.descriptions ≡ m'.descriptions
        go true t =
            let t' : m'.table ≡ true = sym table_same ∙ t in
            items_inj m.descriptions m'.descriptions
            (all_items m.descriptions m'.descriptions ((reads_first t t').0 ∙ a.count ∙ count_same ∙ sym b.count ∙ sym (reads_second t t').0) (items_alike t t'))
        go false t =
            let t' : m'.table ≡ false = sym table_same ∙ t in
            subst (λ (x : Bool). Describes s f x m.descriptions) t a.described ∙ sym (subst (λ (x : Bool). Describes o h x m'.descriptions) t' b.described)

    none_same : SameContent m m'
    none_same = record { count = count_same; table = table_same; glyphs = glyph_same; descriptions = descriptions_same }

  -- none exactly where the contents are the same
  pub none_exactly : (differences_of s o ≡ []) ↔ SameContent m m'
  none_exactly = (none_same, same_none)

-- a content is the same as itself
pub same_self : (m : Content) → SameContent m m
same_self m = record { count = refl; table = refl; glyphs = λ g l. drawn (m.glyph g); descriptions = refl }
  where
    drawn : (x : Option Drawing) → SameDrawing x x
    drawn none = tt
    drawn (some d) = (refl, refl, refl, λ y x ly lx. refl)

-- one glyph, the other way round
same_back : (x z : Option Drawing) → SameDrawing x z → SameDrawing z x
same_back none none p = p
same_back none (some e) p = p
same_back (some d) none p = p
same_back (some d) (some e) p = (sym p.0, sym p.1, sym p.2, λ y x ly lx. sym (p.3 y x (omega (arith, ly, p.1)) (omega (arith, lx, p.2))))

not_back : (x z : Option Drawing) → OtherMetrics x z → OtherPixels z x → ⊥
not_back none none p q = q
not_back none (some e) p q = q
not_back (some d) none p q = q
not_back (some d) (some e) p q = p (sym q.0)

compares_back : (k j : ℕ) (x z : Option Drawing) → Compares k x z → Compares j z x → k ≡ j
compares_back k j x z (alike e p) (alike f q) = e ∙ sym f
compares_back k j x z (alike e p) (by_metrics f q) = absurd (same_metrics_not z x (same_back x z p) q)
compares_back k j x z (alike e p) (by_pixels f q) = absurd (same_pixels_not z x (same_back x z p) q)
compares_back k j x z (by_metrics e p) (alike f q) = absurd (same_metrics_not x z (same_back z x q) p)
compares_back k j x z (by_metrics e p) (by_metrics f q) = e ∙ sym f
compares_back k j x z (by_metrics e p) (by_pixels f q) = absurd (not_back x z p q)
compares_back k j x z (by_pixels e p) (alike f q) = absurd (same_pixels_not x z (same_back z x q) p)
compares_back k j x z (by_pixels e p) (by_metrics f q) = absurd (not_back z x q p)
compares_back k j x z (by_pixels e p) (by_pixels f q) = e ∙ sym f

table_back : (x z : Bool) → swap_kind (table_kind x z) ≡ table_kind z x
table_back true true = refl
table_back true false = refl
table_back false true = refl
table_back false false = refl

table_some : (x z : Bool) → swap_kind (table_kind x z) ≡ 0 → table_kind x z ≡ 0
table_some true true e = refl
table_some true false e = e
table_some false true e = e
table_some false false e = refl

-- the counts, the other way round
min_back : (a b : ℕ) → min a b ≡ min b a
min_back a b = omega arith

max_back : (a b : ℕ) → max a b ≡ max b a
max_back a b = omega arith

no_rest : (r g : ℕ) → rest_from r 0 g ≡ []
unfolding rest_from
no_rest r g = refl

rest_back : (a b : ℕ) → swapped (rest_from (only_kind a b) (max a b - min a b) (min a b)) ≡ rest_from (only_kind b a) (max b a - min b a) (min b a)
rest_back a b = go (counts a b) (counts b a)
  where
    turned : (r n g : ℕ) → (r ≡ 0 → ⊥) → (swap_kind r ≡ 0 → r ≡ 0) → (r' n' g' : ℕ) → swap_kind r ≡ r' → n ≡ n' → g ≡ g' → swapped (rest_from r n g) ≡ rest_from r' n' g'
    turned r n g z f r' n' g' e p q = rest_swapped r z f n g ∙ (λ i. rest_from (e i) (p i) (q i))

    sizes : max a b - min a b ≡ max b a - min b a
    sizes = λ i. max_back a b i - min_back a b i

    go : Counts a b → Counts b a → swapped (rest_from (only_kind a b) (max a b - min a b) (min a b)) ≡ rest_from (only_kind b a) (max b a - min b a) (min b a)
    go (inl c) (inl d) = absurd (omega (arith, c.0, d.0))
    go (inl c) (inr d) =
        ap (λ (r : ℕ). swapped (rest_from r (max a b - min a b) (min a b))) c.3
        ∙ turned 2 _ _ (λ z. absurd (omega arith)) (λ z. absurd (omega arith)) _ _ _ (sym d.3) sizes (min_back a b)
    go (inr c) (inl d) =
        ap (λ (r : ℕ). swapped (rest_from r (max a b - min a b) (min a b))) c.3
        ∙ turned 1 _ _ (λ z. absurd (omega arith)) (λ z. absurd (omega arith)) _ _ _ (sym d.3) sizes (min_back a b)
    go (inr c) (inr d) =
        let z : max a b - min a b ≡ 0 = omega (arith, c.0, d.0, c.1, c.2) in
        ap (λ (n : ℕ). swapped (rest_from (only_kind a b) n (min a b))) z ∙ ap swapped (no_rest (only_kind a b) (min a b))
        ∙ sym (ap (λ (n : ℕ). rest_from (only_kind b a) n (min b a)) (sym sizes ∙ z) ∙ no_rest (only_kind b a) (min b a))

-- two files, the other way round
module _ (s : List ℕ) (ys : Bytes s) (m : Content) (a : HasContent s m) (o : List ℕ) (yo : Bytes o) (m' : Content) (b : HasContent o m') where
  swapped_found : swapped (differences_of s o) ≡ differences_of o s
  swapped_found =
      let k = table_kind a.font.table b.font.table in
      let p = plain (κ s ys m a o yo m' b) (ι s ys m a o yo m' b) (min a.font.count b.font.count) 0 in
      let r = rest_from (only_kind a.font.count b.font.count) (max a.font.count b.font.count - min a.font.count b.font.count) (min a.font.count b.font.count) in
      ap swapped (found_is s ys m a o yo m' b ∙ pairs_are s ys m a o yo m' b)
      ∙ swapped_append (pair_of k 0) (p ++ r)
      ∙ (λ i. swapped_pair k 0 (table_some a.font.table b.font.table) i ++ swapped_append p r i)
      ∙ (λ i. pair_of (table_back a.font.table b.font.table i) 0 ++ (middle i ++ rest_back a.font.count b.font.count i))
      ∙ sym (found_is o yo m' b s ys m a ∙ pairs_are o yo m' b s ys m a)
    where
      turn : (i : ℕ) → 0 ≤ i → i < 0 + min a.font.count b.font.count → (κ s ys m a o yo m' b i ≡ κ o yo m' b s ys m a i) × (ι s ys m a o yo m' b i ≡ ι o yo m' b s ys m a i)
      turn i l u =
          let w = below_both s ys m a o yo m' b i (omega (arith, u)) in
          (compares_back _ _ (m.glyph i) (m'.glyph i) (glyph_at s ys m a o yo m' b i w.0 w.1) (glyph_at o yo m' b s ys m a i w.1 w.0), ap item_kind (same_swapped _ _))

      middle : swapped (plain (κ s ys m a o yo m' b) (ι s ys m a o yo m' b) (min a.font.count b.font.count) 0)
          ≡ plain (κ o yo m' b s ys m a) (ι o yo m' b s ys m a) (min b.font.count a.font.count) 0
      middle =
          plain_swapped (κ s ys m a o yo m' b) (ι s ys m a o yo m' b) (kinds s ys m a o yo m' b) (fives s ys m a o yo m' b) (min a.font.count b.font.count) 0
          ∙ plain_same (κ s ys m a o yo m' b) (ι s ys m a o yo m' b) (κ o yo m' b s ys m a) (ι o yo m' b s ys m a) (min a.font.count b.font.count) 0 turn
          ∙ ap (λ (n : ℕ). plain (κ o yo m' b s ys m a) (ι o yo m' b s ys m a) n 0) (min_back a.font.count b.font.count)

-- nothing is found where a file is refused
none_first_refused : (s o : List ℕ) (r : Refusal) → check_of s ≡ Err r → differences_of s o ≡ []
unfolding differences_of
none_first_refused s o r e = ap (found_by s o) e

none_second_refused : (s o : List ℕ) (r : Refusal) → check_of o ≡ Err r → differences_of s o ≡ []
unfolding differences_of
none_second_refused s o r e = go (check_of s)
  where
    go : (x : Result Font Refusal) → found_by s o x ≡ []
    go (Ok f) = ap (found_with s f o) e
    go (Err q) = refl

-- two files of any bytes
pub files_swapped : (s o : List ℕ) → Bytes s → Bytes o → differences_of o s ≡ swapped (differences_of s o)
files_swapped s o ys yo = go (check_of s) (check_of o) refl refl
  where
    go : (x z : Result Font Refusal) → check_of s ≡ x → check_of o ≡ z → differences_of o s ≡ swapped (differences_of s o)
    go (Ok f) (Ok h) e q =
        let a = content_exists s f ys e in
        let b = content_exists o h yo q in
        sym (swapped_found s ys a.0 a.1 o yo b.0 b.1)
    go (Err r) z e q = none_second_refused o s r e ∙ sym (ap swapped (none_first_refused s o r e))
    go (Ok f) (Err r) e q = none_first_refused o s r q ∙ sym (ap swapped (none_second_refused s o r q))
