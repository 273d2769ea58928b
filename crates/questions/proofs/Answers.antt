-- The cases of the walk and the lookups on a font whose header passed; of the lookups, those where the table is refused too.
use mathlib.Core.Path.{◌≡◌, refl, sym, ◌∙◌, ap}
use mathlib.Core.Bool.{Bool, true, false, not, ◌||◌}
use mathlib.Core.Logic.{◌⊎◌, inl, inr}
use mathlib.Core.List.{List, [], ◌∷◌}
use Prim.Native.Nat.{ℕ, ◌+◌, ◌≤◌, ◌<◌}
use native.Mathlib.Omega.{arith}
use lib.ListN.{length, get_or, drop}
use lib.Seq.{drop-cons}
use lib.Dec.{leb, ltb}
use Rattle.std.specs.List.{list_any}
use borrow.Author.Tests.{lt-ltb, le-ltb, lt-leb, le-leb}
use Rattle.base.specs.Meaning.{pick, Bytes}
use Rattle.base.specs.Reading.{when}
use Rattle.base.proofs.Tests.{below}
use Rattle.refusal.specs.Meaning.{refusal}
use Rattle.refusal.specs.declared.Reason.TheVariants.{Ask, NoTable}
use Rattle.coding.specs.declared.Coding.{Coding}
use Rattle.table.specs.Reading.{items_in, table_of, table_place}
use Rattle.lookup.specs.Reading.{item_at, find_value, find_sequence, looked_of, looked_place}
use Rattle.header.specs.declared.Font.{Font}
use Rattle.header.specs.Bounds.{Placed}
use Rattle.stages.specs.Meaning.{coding_of, tail_of}
use Rattle.stages.specs.Reading.{answered, table_tail, tabled}
use Rattle.stages.proofs.Cases.{place_fits, table_read, tabled_by}
use Rattle.questions.specs.Reading.{font_items, walk_of, item_on, lookup_of, value_on, any_high, askable, sequence_on, after_tail, lookup_told}
use Rattle.std.specs.Prelude.{Result, Ok, Err, Option, Some, None}
use Rattle.refusal.specs.declared.Refusal.{Refusal}
use Rattle.table.specs.declared.Fault.{Fault}
use Rattle.table.specs.declared.Item.{Item}
use Rattle.table.specs.declared.Fault.TheVariants.{Cut as TableCut, Bad as TableBad, Trailing}

module _ (s : List ℕ) (f : Font) where
  -- the items of the part that the reader is handed
  part_items : (c : Coding) → c ≡ coding_of f.kind → (tl : List ℕ) → tl ≡ tail_of s f → items_in c tl ≡ font_items s f
  part_items c e tl l = rw (l, e)

  module _ (g k : ℕ) where
    pub item_told : f.table ≡ true → (c : Coding) → c ≡ coding_of f.kind → (tl : List ℕ) → tl ≡ tail_of s f → (w : Option Item) →
        w ≡ item_at g k (items_in c tl) → walk_of w ≡ item_on s g k f
    item_told t c e tl l w q = rw t (ap walk_of (q ∙ ap (item_at g k) (part_items c e tl l)))

    pub item_bare : f.table ≡ false → Err (refusal NoTable 0) ≡ item_on s g k f
    item_bare t = rw t

  module _ (v : ℕ) where
    pub value_told : f.table ≡ true → (m : Bool) → m ≡ leb v 0x10FFFF → (c : Coding) → c ≡ coding_of f.kind → (tl : List ℕ) → tl ≡ tail_of s f → (w : Option ℕ) →
        w ≡ find_value v 0 (items_in c tl) → pick m (lookup_of w) (Err (refusal Ask 0)) ≡ value_on s v f
    unfolding when
    value_told t m a c e tl l w q = rw (t, a) (go (below 0x10FFFF v))
      where
        go : (0x10FFFF < v) ⊎ (v ≤ 0x10FFFF) →
            pick (leb v 0x10FFFF) (lookup_of w) (Err (refusal Ask 0)) ≡ pick (ltb 0x10FFFF v) (Err (refusal Ask 0)) (lookup_of (find_value v 0 (font_items s f)))
        go (inl h) = rw (lt-leb v 0x10FFFF h, lt-ltb 0x10FFFF v h)
        go (inr h) = rw (le-leb v 0x10FFFF h, le-ltb 0x10FFFF v h) (ap lookup_of (q ∙ ap (find_value v 0) (part_items c e tl l)))

    pub value_bare : f.table ≡ false → Err (refusal NoTable 0) ≡ value_on s v f
    value_bare t = rw t

  module _ (vs : List ℕ) where
    pub sequence_told : f.table ≡ true → (m : Bool) → m ≡ askable vs → m ≡ true → (c : Coding) → c ≡ coding_of f.kind → (tl : List ℕ) → tl ≡ tail_of s f → (w : Option ℕ) →
        w ≡ find_sequence vs (items_in c tl) → lookup_of w ≡ sequence_on s vs f
    unfolding when
    sequence_told t m a b c e tl l w q = rw (t, sym a ∙ b) (ap lookup_of (q ∙ ap (find_sequence vs) (part_items c e tl l)))

    pub sequence_ask : f.table ≡ true → (m : Bool) → m ≡ askable vs → m ≡ false → Err (refusal Ask 0) ≡ sequence_on s vs f
    unfolding when
    sequence_ask t m a b = rw (t, sym a ∙ b)

    pub sequence_bare : f.table ≡ false → Err (refusal NoTable 0) ≡ sequence_on s vs f
    sequence_bare t = rw t

-- a lookup in one pass, by what was found and what the table's check answers
by_table : (asked : Bool) (f : Font) (w : Option ℕ) (t : Result (Unit {0}) Fault) → lookup_told f.end asked (looked_of w t) ≡ after_tail (λ _. pick asked (lookup_of w) (Err (refusal Ask 0))) (answered f t)
by_table asked f (Some g) (Ok tt) = refl
by_table asked f None (Ok tt) = refl
by_table asked f w (Err (TableCut k g)) = refl
by_table asked f w (Err (TableBad k g)) = refl
by_table asked f w (Err (Trailing k)) = refl

looked_place_lem : (w : Option ℕ) (t : Result (Unit {0}) Fault) → looked_place (looked_of w t) ≡ table_place t
looked_place_lem w (Ok tt) = refl
looked_place_lem w (Err t) = refl

-- answers that agree on the font agree after its table
after_table : (f : Font) (t : Result (Unit {0}) Fault) (a b : Font → Result ℕ Refusal) → a f ≡ b f → after_tail a (answered f t) ≡ after_tail b (answered f t)
after_table f (Ok tt) a b q = q
after_table f (Err (TableCut k g)) a b q = refl
after_table f (Err (TableBad k g)) a b q = refl
after_table f (Err (Trailing k)) a b q = refl

module _ (s : List ℕ) (f : Font) where
  -- a font without a table
  pub bare_told : f.table ≡ false → (x : Result ℕ Refusal) (a : Font → Result ℕ Refusal) → x ≡ a f → x ≡ after_tail a (tabled s f)
  bare_told t x a q = q ∙ ap (after_tail a) (tabled_by s f false t (Ok tt) refl)

  module _ (c : Coding) (e : c ≡ coding_of f.kind) (tl : List ℕ) (l : tl ≡ tail_of s f) (w : Option ℕ) (x : Result (Option ℕ) Fault) (q : x ≡ looked_of w (table_of c f.count tl)) where
    from_tail : x ≡ looked_of w (table_of (coding_of f.kind) f.count (tail_of s f))
    from_tail = q ∙ ap (looked_of w) (table_read s f c e tl l _ refl)

    pub place_told : Bytes s → Placed s f → f.end + looked_place x ≤ length s
    place_told y p =
        let z : looked_place x ≡ table_place (table_of (coding_of f.kind) f.count (tail_of s f)) = ap looked_place from_tail ∙ looked_place_lem w (table_of (coding_of f.kind) f.count (tail_of s f)) in
        omega (arith, z, place_fits s f y p (coding_of f.kind))

    -- what was found, or why the table is refused
    pub looked_told : f.table ≡ true → (asked : Bool) (a : Font → Result ℕ Refusal) → pick asked (lookup_of w) (Err (refusal Ask 0)) ≡ a f →
        lookup_told f.end asked x ≡ after_tail a (tabled s f)
    looked_told t asked a k =
        ap (lookup_told f.end asked) from_tail
        ∙ by_table asked f w (table_of (coding_of f.kind) f.count (tail_of s f))
        ∙ after_table f (table_of (coding_of f.kind) f.count (tail_of s f)) (λ _. pick asked (lookup_of w) (Err (refusal Ask 0))) a k
        ∙ ap (after_tail a) (tabled_by s f true t (table_tail s f) refl)

-- some value is there to ask for
pub ask_one : (vs : List ℕ) → askable vs ≡ true → 1 ≤ length vs
ask_one [] e = let z : ◌≡◌ {A = ℕ} 0 1 = cc in absurd (omega arith)
ask_one (v ∷ vs) e = omega arith

-- a value above 10FFFF in a sequence
pub high_here : (vs : List ℕ) (i : ℕ) → i < length vs → 0x10FFFF < get_or vs i 0 → any_high (drop i vs) ≡ true
unfolding any_high when
high_here vs i l h = rw (drop-cons vs i 0 l, lt-ltb 0x10FFFF (get_or vs i 0) h)

-- the library's test of all values is this one
pub high_listed : (vs : List ℕ) → list_any (ltb 0x10FFFF) vs ≡ any_high vs
unfolding any_high when
high_listed [] = refl
high_listed (v ∷ vs) = go (ltb 0x10FFFF v) (high_listed vs)
  where
    go : (t : Bool) → list_any (ltb 0x10FFFF) vs ≡ any_high vs → (t || list_any (ltb 0x10FFFF) vs) ≡ when t true (any_high vs)
    go true e = refl
    go false e = e

pub ask_empty : (vs : List ℕ) → length vs ≡ 0 → false ≡ askable vs
ask_empty [] h = refl
ask_empty (v ∷ vs) h = absurd (omega arith)

pub ask_some : (vs : List ℕ) → (length vs ≡ 0 → ⊥) → (h : Bool) → h ≡ any_high vs → not h ≡ askable vs
ask_some [] l h e = absurd (l refl)
ask_some (v ∷ vs) l true e = rw (← e)
ask_some (v ∷ vs) l false e = rw (← e)
