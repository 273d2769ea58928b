-- The walk on the items of descriptions: glyph g's items are those of description g.
use mathlib.Core.Path.{◌≡◌, refl, sym, ◌∙◌, ap, subst}
use mathlib.Core.List.{List, [], ◌∷◌}
use Prim.Native.Nat.{ℕ, zero, suc}
use native.Mathlib.Omega.{arith}
use Rattle.table.specs.declared.Item.{Item}
use Rattle.table.specs.declared.Item.TheVariants.{Single, Start, Value, End}
use Rattle.table.specs.Meaning.{Seq, Desc, each, seqs, described, items_of, items}
use Rattle.lookup.specs.Reading.{item_at}
use Rattle.lookup.specs.Meaning.{Nth, ItemIs}
use Rattle.lookup.proofs.Turns.{Inner}
use Rattle.std.specs.Prelude.{Option, Some, None}

-- item k of a list
unfoldable nth_item : ℕ → List Item → Option Item
nth_item k [] = None
nth_item zero (i ∷ is) = Some i
nth_item (suc k) (i ∷ is) = nth_item k is

next : (k : ℕ) (i : Item) (is : List Item) → Inner i → item_at zero (suc k) (i ∷ is) ≡ item_at zero k is
unfolding item_at
next k (Single v) is n = refl
next k Start is n = refl
next k (Value v) is n = refl
next k End is n = absurd n

first : (i : Item) (is : List Item) → item_at zero zero (i ∷ is) ≡ Some i
unfolding item_at
first i is = refl

past : (g k : ℕ) (i : Item) (is : List Item) → Inner i → item_at (suc g) k (i ∷ is) ≡ item_at (suc g) k is
unfolding item_at
past g k (Single v) is n = refl
past g k Start is n = refl
past g k (Value v) is n = refl
past g k End is n = absurd n

-- glyph 0's items
abbrev Alike : List Item → List Item → Type 0
Alike is js = (k : ℕ) → item_at zero k is ≡ nth_item k js

alike_cons : (i : Item) (is js : List Item) → Inner i → Alike is js → Alike (i ∷ is) (i ∷ js)
unfolding nth_item
alike_cons i is js n a zero = first i is
alike_cons i is js n a (suc k) = next k i is n ∙ a k

alike_end : (is : List Item) → Alike (End ∷ is) (End ∷ [])
unfolding item_at nth_item
alike_end is zero = refl
alike_end is (suc k) = refl

alike_each : (f : ℕ → Item) → ((v : ℕ) → Inner (f v)) → (vs : List ℕ) (is js : List Item) → Alike is js → Alike (each f vs is) (each f vs js)
alike_each f n [] is js a = a
alike_each f n (v ∷ vs) is js a = alike_cons (f v) (each f vs is) (each f vs js) (n v) (alike_each f n vs is js a)

alike_seqs : (qs : List Seq) (is js : List Item) → Alike is js → Alike (seqs qs is) (seqs qs js)
alike_seqs [] is js a = a
alike_seqs (q ∷ qs) is js a =
    alike_cons Start _ _ tt (alike_cons (Value q.first) _ _ tt (alike_each Value (λ v. tt) q.others _ _ (alike_seqs qs is js a)))

alike_first : (d : Desc) (is : List Item) → Alike (described d is) (items_of d)
alike_first d is = alike_each Single (λ v. tt) d.singles _ _ (alike_seqs d.sequences (End ∷ is) (End ∷ []) (alike_end is))

-- the items of a glyph before
past_end : (g k : ℕ) (is : List Item) → item_at (suc g) k (End ∷ is) ≡ item_at g k is
unfolding item_at
past_end g k is = refl

past_each : (f : ℕ → Item) → ((v : ℕ) → Inner (f v)) → (g k : ℕ) (vs : List ℕ) (is : List Item) → item_at (suc g) k (each f vs is) ≡ item_at (suc g) k is
past_each f n g k [] is = refl
past_each f n g k (v ∷ vs) is = past g k (f v) (each f vs is) (n v) ∙ past_each f n g k vs is

past_seqs : (g k : ℕ) (qs : List Seq) (is : List Item) → item_at (suc g) k (seqs qs is) ≡ item_at (suc g) k is
past_seqs g k [] is = refl
past_seqs g k (q ∷ qs) is =
    past g k Start _ tt ∙ past g k (Value q.first) _ tt ∙ past_each Value (λ v. tt) g k q.others (seqs qs is) ∙ past_seqs g k qs is

past_described : (g k : ℕ) (d : Desc) (is : List Item) → item_at (suc g) k (described d is) ≡ item_at g k is
past_described g k d is = past_each Single (λ v. tt) g k d.singles _ ∙ past_seqs g k d.sequences (End ∷ is) ∙ past_end g k is

-- a place of a list
got_nth : (k : ℕ) (is : List Item) (i : Item) → nth_item k is ≡ Some i → Nth k is i
unfolding nth_item
got_nth k [] i e = let z : ◌≡◌ {A = ℕ} 0 1 = cc in absurd (omega arith)
got_nth zero (j ∷ is) i e = let h : j ≡ i = cc in h
got_nth (suc k) (j ∷ is) i e = got_nth k is i e

nth_got : (k : ℕ) (is : List Item) (i : Item) → Nth k is i → nth_item k is ≡ Some i
unfolding nth_item
nth_got k [] i n = absurd n
nth_got zero (j ∷ is) i n = ap Some n
nth_got (suc k) (j ∷ is) i n = nth_got k is i n

nothing : (g k : ℕ) → item_at g k [] ≡ None
unfolding item_at
nothing g k = refl

pub found_item : (ds : List Desc) (g k : ℕ) (i : Item) → item_at g k (items ds) ≡ Some i → ItemIs ds g k i
found_item [] g k i e = let f = sym (nothing g k) ∙ e in let z : ◌≡◌ {A = ℕ} 0 1 = cc in absurd (omega arith)
found_item (d ∷ ds) zero k i e = record { description = d; here = refl; item = got_nth k (items_of d) i (sym (alike_first d (items ds) k) ∙ e) }
found_item (d ∷ ds) (suc g) k i e =
    let r = found_item ds g k i (sym (past_described g k d (items ds)) ∙ e) in
    record { description = r.description; here = r.here; item = r.item }

pub item_found : (ds : List Desc) (g k : ℕ) (i : Item) → ItemIs ds g k i → item_at g k (items ds) ≡ Some i
item_found [] g k i r = absurd r.here
item_found (d ∷ ds) zero k i r =
    alike_first d (items ds) k ∙ nth_got k (items_of d) i (subst (λ (x : Desc). Nth k (items_of x) i) (sym r.here) r.item)
item_found (d ∷ ds) (suc g) k i r =
    past_described g k d (items ds) ∙ item_found ds g k i (record { description = r.description; here = r.here; item = r.item })

pub none_item : (ds : List Desc) (g k : ℕ) → item_at g k (items ds) ≡ None → (i : Item) → ItemIs ds g k i → ⊥
none_item ds g k e i r = let f = sym e ∙ item_found ds g k i r in let z : ◌≡◌ {A = ℕ} 0 1 = cc in absurd (omega arith)

pub item_none : (ds : List Desc) (g k : ℕ) → ((i : Item) → ItemIs ds g k i → ⊥) → item_at g k (items ds) ≡ None
item_none ds g k f = go (item_at g k (items ds)) refl
  where
    go : (w : Option Item) → item_at g k (items ds) ≡ w → item_at g k (items ds) ≡ None
    go (Some i) e = absurd (f i (found_item ds g k i e))
    go None e = e
