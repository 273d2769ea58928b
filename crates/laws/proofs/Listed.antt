-- What descriptions of a coding list are its values.
use mathlib.Core.Path.{◌≡◌, sym, subst}
use mathlib.Core.Logic.{inl, inr}
use mathlib.Core.List.{List, [], ◌∷◌}
use Prim.Native.Nat.{ℕ, zero, suc}
use Rattle.token.specs.Meaning.{Noncharacter}
use Rattle.coding.specs.declared.Coding.{Coding}
use Rattle.coding.specs.declared.Coding.TheVariants.{Utf8, Ucs2}
use Rattle.coding.specs.Meaning.{ValueOf}
use Rattle.table.specs.declared.Item.{Item}
use Rattle.table.specs.declared.Item.TheVariants.{Single, Value, End}
use Rattle.table.specs.Meaning.{Seq, Desc, each, seqs, items_of, items, OfCoding, Readable}
use Rattle.table.proofs.EndToEnd.{described_append, of_left, of_right}
use Rattle.lookup.specs.Meaning.{Nth, Any, ListsValue, ListsSequence, ItemIs}
use Rattle.laws.specs.Meaning.{Holds}
use Rattle.laws.proofs.Refusing.{carried_value}

-- no value is a noncharacter
pub no_value : (c : Coding) (v : ℕ) → ValueOf c v → Noncharacter v → ⊥
unfolding ValueOf
no_value Utf8 v p = p.1
no_value Ucs2 v p = p.1

module _ (c : Coding) where
  -- singles, and what follows them
  singles_of : (v : ℕ) (vs : List ℕ) (k : List Item) → OfCoding c (each Single vs k) → Any (λ (w : ℕ). w ≡ v) vs → ValueOf c v
  singles_of v [] k o a = absurd a
  singles_of v (w ∷ vs) k o (inl e) = subst (ValueOf c) e o.0
  singles_of v (w ∷ vs) k o (inr a) = singles_of v vs k o.1 a

  after_singles : (vs : List ℕ) (k : List Item) → OfCoding c (each Single vs k) → OfCoding c k
  after_singles [] k o = o
  after_singles (w ∷ vs) k o = after_singles vs k o.1

  -- the same of values in a sequence
  values_of : (v : ℕ) (vs : List ℕ) (k : List Item) → OfCoding c (each Value vs k) → Any (λ (w : ℕ). w ≡ v) vs → ValueOf c v
  values_of v [] k o a = absurd a
  values_of v (w ∷ vs) k o (inl e) = subst (ValueOf c) e o.0
  values_of v (w ∷ vs) k o (inr a) = values_of v vs k o.1 a

  after_values : (vs : List ℕ) (k : List Item) → OfCoding c (each Value vs k) → OfCoding c k
  after_values [] k o = o
  after_values (w ∷ vs) k o = after_values vs k o.1

  sequences_of : (v : ℕ) (vs : List ℕ) (qs : List Seq) (k : List Item) → OfCoding c (seqs qs k) → Any (λ (q : Seq). q.first ∷ q.others ≡ vs) qs → Any (λ (w : ℕ). w ≡ v) vs → ValueOf c v
  sequences_of v vs [] k o a h = absurd a
  sequences_of v vs (q ∷ qs) k o (inl e) h = go (subst (Any (λ (w : ℕ). w ≡ v)) (sym e) h)
    where
      go : Any (λ (w : ℕ). w ≡ v) (q.first ∷ q.others) → ValueOf c v
      go (inl f) = subst (ValueOf c) f o.0
      go (inr f) = values_of v q.others (seqs qs k) o.1 f
  sequences_of v vs (q ∷ qs) k o (inr a) h = sequences_of v vs qs k (after_values q.others (seqs qs k) o.1) a h

  -- one of the descriptions
  description_of : (ds : List Desc) (g : ℕ) (d : Desc) → Readable c ds → Nth g ds d → OfCoding c (items_of d)
  description_of [] g d o h = absurd h
  description_of (e ∷ ds) zero d o h = subst (λ (x : Desc). OfCoding c (items_of x)) h (of_left c (items_of e) (items ds) (subst (OfCoding c) (described_append e (items ds)) o))
  description_of (e ∷ ds) (suc g) d o h = description_of ds g d (of_right c (items_of e) (items ds) (subst (OfCoding c) (described_append e (items ds)) o)) h

  module _ (ds : List Desc) (o : Readable c ds) (g : ℕ) (d : Desc) (h : Nth g ds d) where
    pub listed_value : (v : ℕ) → ListsValue v d → ValueOf c v
    listed_value v = singles_of v d.singles (seqs d.sequences (End ∷ [])) (description_of ds g d o h)

    pub listed_sequence : (vs : List ℕ) → ListsSequence vs d → (v : ℕ) → Any (λ (w : ℕ). w ≡ v) vs → ValueOf c v
    listed_sequence vs a v = sequences_of v vs d.sequences (End ∷ []) (after_singles d.singles (seqs d.sequences (End ∷ [])) (description_of ds g d o h)) a

  -- and one of its items
  some_item : (v k : ℕ) (is : List Item) (i : Item) → Nth k is i → Holds v i → Any (Holds v) is
  some_item v k [] i h q = absurd h
  some_item v zero (x ∷ is) i h q = inl (subst (Holds v) (sym h) q)
  some_item v (suc k) (x ∷ is) i h q = inr (some_item v k is i h q)

  pub item_value : (ds : List Desc) → Readable c ds → (g k : ℕ) (i : Item) (v : ℕ) → ItemIs ds g k i → Holds v i → ValueOf c v
  item_value ds o g k i v m h = carried_value c (items_of m.description) v (description_of ds g m.description o m.here) (some_item v k (items_of m.description) i m.item h)
