-- The grammar on items: n descriptions' items are accepted, what is accepted is n descriptions' items, and no two lists of
-- descriptions have the same items.
use mathlib.Core.Path.{◌≡◌, refl, sym, ◌∙◌, ap, subst}
use mathlib.Core.List.{List, [], ◌∷◌}
use Prim.Native.Nat.{ℕ, zero, suc}
use native.Mathlib.Omega.{arith}
use lib.ListN.{length}
use Rattle.table.specs.declared.Item.{Item}
use Rattle.table.specs.declared.Item.TheVariants.{Single, Start, Value, End}
use Rattle.table.specs.Meaning.{Seq, Desc, each, seqs, items}
use Rattle.table.specs.Skipping.{Phase, singles, opened, filled}

-- items that are n descriptions, from a phase on
abbrev pub Accepts : ℕ → Phase → List Item → Type 0
Accepts zero p [] = Unit {0}
Accepts zero p (i ∷ is) = ⊥
Accepts (suc n) p [] = ⊥
Accepts (suc n) singles (Single v ∷ is) = Accepts (suc n) singles is
Accepts (suc n) opened (Single v ∷ is) = ⊥
Accepts (suc n) filled (Single v ∷ is) = ⊥
Accepts (suc n) singles (Value v ∷ is) = ⊥
Accepts (suc n) opened (Value v ∷ is) = Accepts (suc n) filled is
Accepts (suc n) filled (Value v ∷ is) = Accepts (suc n) filled is
Accepts (suc n) singles (Start ∷ is) = Accepts (suc n) opened is
Accepts (suc n) opened (Start ∷ is) = ⊥
Accepts (suc n) filled (Start ∷ is) = Accepts (suc n) opened is
Accepts (suc n) singles (End ∷ is) = Accepts n singles is
Accepts (suc n) opened (End ∷ is) = ⊥
Accepts (suc n) filled (End ∷ is) = Accepts n singles is

-- items of n descriptions are accepted
accepts_singles : (n : ℕ) (vs : List ℕ) (k : List Item) → Accepts (suc n) singles k → Accepts (suc n) singles (each Single vs k)
accepts_singles n [] k a = a
accepts_singles n (v ∷ vs) k a = accepts_singles n vs k a

accepts_others : (n : ℕ) (vs : List ℕ) (k : List Item) → Accepts (suc n) filled k → Accepts (suc n) filled (each Value vs k)
accepts_others n [] k a = a
accepts_others n (v ∷ vs) k a = accepts_others n vs k a

accepts_more : (n : ℕ) (qs : List Seq) (k : List Item) → Accepts n singles k → Accepts (suc n) filled (seqs qs (End ∷ k))
accepts_more n [] k a = a
accepts_more n (q ∷ qs) k a = accepts_others n q.others _ (accepts_more n qs k a)

accepts_seqs : (n : ℕ) (qs : List Seq) (k : List Item) → Accepts n singles k → Accepts (suc n) singles (seqs qs (End ∷ k))
accepts_seqs n [] k a = a
accepts_seqs n (q ∷ qs) k a = accepts_others n q.others _ (accepts_more n qs k a)

pub accepts_items : (ds : List Desc) → Accepts (length ds) singles (items ds)
accepts_items [] = tt
accepts_items (d ∷ ds) = accepts_singles (length ds) d.singles _ (accepts_seqs (length ds) d.sequences (items ds) (accepts_items ds))

-- accepted items are those of n descriptions. What is left of one, after values of a kind f:
record Left (f : ℕ → Item) (n : ℕ) (is : List Item) : Type 0 where
  values : List ℕ
  further : List Seq
  rest : List Desc
  count : length rest ≡ n
  same : is ≡ each f values (seqs further (End ∷ items rest))

-- just after a start mark
record LeftOpen (n : ℕ) (is : List Item) : Type 0 where
  value : ℕ
  after : List Item
  same : is ≡ Value value ∷ after
  left : Left Value n after

pub record Whole (n : ℕ) (is : List Item) : Type 0 where
  pub all : List Desc
  pub count : length all ≡ n
  pub same : is ≡ items all

abbrev From : ℕ → Phase → List Item → Type 0
From zero p is = is ≡ []
From (suc n) singles is = Left Single n is
From (suc n) opened is = LeftOpen n is
From (suc n) filled is = Left Value n is

more_left : (f : ℕ → Item) (n v : ℕ) (is : List Item) → Left f n is → Left f n (f v ∷ is)
more_left f n v is l =
    record { values = v ∷ l.values; further = l.further; rest = l.rest; count = l.count; same = ap (λ (x : List Item). f v ∷ x) l.same }

start_left : (f : ℕ → Item) (n : ℕ) (is : List Item) → LeftOpen n is → Left f n (Start ∷ is)
start_left f n is o =
    let l = o.left in
    record {
      values = [];
      further = record { first = o.value; others = l.values } ∷ l.further;
      rest = l.rest;
      count = l.count;
      same = ap (λ (x : List Item). Start ∷ x) (o.same ∙ ap (λ (x : List Item). Value o.value ∷ x) l.same);
    }

whole : (n : ℕ) (is : List Item) → From n singles is → Whole n is
whole zero is e = record { all = []; count = refl; same = e }
whole (suc n) is l =
    record { all = record { singles = l.values; sequences = l.further } ∷ l.rest; count = ap suc l.count; same = l.same }

end_left : (f : ℕ → Item) (n : ℕ) (is : List Item) → From n singles is → Left f n (End ∷ is)
end_left f n is g =
    let w = whole n is g in
    record { values = []; further = []; rest = w.all; count = w.count; same = ap (λ (x : List Item). End ∷ x) w.same }

from : (n : ℕ) (p : Phase) (is : List Item) → Accepts n p is → From n p is
from zero p [] a = refl
from zero p (i ∷ is) a = absurd a
from (suc n) p [] a = absurd a
from (suc n) singles (Single v ∷ is) a = more_left Single n v is (from (suc n) singles is a)
from (suc n) opened (Single v ∷ is) a = absurd a
from (suc n) filled (Single v ∷ is) a = absurd a
from (suc n) singles (Value v ∷ is) a = absurd a
from (suc n) opened (Value v ∷ is) a = record { value = v; after = is; same = refl; left = from (suc n) filled is a }
from (suc n) filled (Value v ∷ is) a = more_left Value n v is (from (suc n) filled is a)
from (suc n) singles (Start ∷ is) a = start_left Single n is (from (suc n) opened is a)
from (suc n) opened (Start ∷ is) a = absurd a
from (suc n) filled (Start ∷ is) a = start_left Value n is (from (suc n) opened is a)
from (suc n) singles (End ∷ is) a = end_left Single n is (from n singles is a)
from (suc n) opened (End ∷ is) a = absurd a
from (suc n) filled (End ∷ is) a = end_left Value n is (from n singles is a)

pub accepted_items : (n : ℕ) (is : List Item) → Accepts n singles is → Whole n is
accepted_items n is a = whole n is (from n singles is a)

-- no two lists of descriptions have the same items. Values end where a mark stands:
abbrev Mark : List Item → Type 0
Mark [] = ⊥
Mark (Single v ∷ is) = ⊥
Mark (Value v ∷ is) = ⊥
Mark (Start ∷ is) = Unit {0}
Mark (End ∷ is) = Unit {0}

mark_seqs : (qs : List Seq) (k : List Item) → Mark (seqs qs (End ∷ k))
mark_seqs [] k = tt
mark_seqs (q ∷ qs) k = tt

abbrev Some : List Item → Type 0
Some [] = ⊥
Some (i ∷ is) = Unit {0}

some : (vs : List ℕ) (qs : List Seq) (k : List Item) → Some (each Single vs (seqs qs (End ∷ k)))
some [] [] k = tt
some [] (q ∷ qs) k = tt
some (v ∷ vs) qs k = tt

-- the value of an item
abbrev number : Item → ℕ
number (Single v) = v
number (Value v) = v
number Start = 0
number End = 0

tail_same : (i j : Item) (is js : List Item) → i ∷ is ≡ j ∷ js → (i ≡ j) × (is ≡ js)
tail_same i j is js e = (cc, cc)

each_inj : (f : ℕ → Item) → ((v : ℕ) → number (f v) ≡ v) → ((v : ℕ) (is : List Item) → Mark (f v ∷ is) → ⊥) →
    (vs ws : List ℕ) (j k : List Item) → Mark j → Mark k → each f vs j ≡ each f ws k → (vs ≡ ws) × (j ≡ k)
each_inj f p q [] [] j k m n e = (refl, e)
each_inj f p q [] (w ∷ ws) j k m n e = absurd (q w (each f ws k) (subst Mark e m))
each_inj f p q (v ∷ vs) [] j k m n e = absurd (q v (each f vs j) (subst Mark (sym e) n))
each_inj f p q (v ∷ vs) (w ∷ ws) j k m n e =
    let t = tail_same (f v) (f w) (each f vs j) (each f ws k) e in
    let h : v ≡ w = sym (p v) ∙ ap number t.0 ∙ p w in
    let r = each_inj f p q vs ws j k m n t.1 in
    (λ i. h i ∷ r.0 i, r.1)

seqs_inj : (qs rs : List Seq) (j k : List Item) → seqs qs (End ∷ j) ≡ seqs rs (End ∷ k) → (qs ≡ rs) × (j ≡ k)
seqs_inj [] [] j k e = (refl, cc)
seqs_inj [] (r ∷ rs) j k e = let z : ◌≡◌ {A = ℕ} 0 1 = cc in absurd (omega arith)
seqs_inj (q ∷ qs) [] j k e = let z : ◌≡◌ {A = ℕ} 0 1 = cc in absurd (omega arith)
seqs_inj (q ∷ qs) (r ∷ rs) j k e =
    let h : q.first ≡ r.first = cc in
    let t : each Value q.others (seqs qs (End ∷ j)) ≡ each Value r.others (seqs rs (End ∷ k)) = cc in
    let o = each_inj Value (λ v. refl) (λ v is m. m) q.others r.others _ _ (mark_seqs qs j) (mark_seqs rs k) t in
    let u = seqs_inj qs rs j k o.1 in
    (λ i. record { first = h i; others = o.0 i } ∷ u.0 i, u.1)

pub items_inj : (ds es : List Desc) → items ds ≡ items es → ds ≡ es
items_inj [] [] e = refl
items_inj [] (d ∷ es) e = absurd (subst Some (sym e) (some d.singles d.sequences (items es)))
items_inj (d ∷ ds) [] e = absurd (subst Some e (some d.singles d.sequences (items ds)))
items_inj (d ∷ ds) (f ∷ es) e =
    let o = each_inj Single (λ v. refl) (λ v is m. m) d.singles f.singles _ _ (mark_seqs d.sequences (items ds)) (mark_seqs f.sequences (items es)) e in
    let u = seqs_inj d.sequences f.sequences (items ds) (items es) o.1 in
    let r = items_inj ds es u.1 in
    λ i. record { singles = o.0 i; sequences = u.0 i } ∷ r i
