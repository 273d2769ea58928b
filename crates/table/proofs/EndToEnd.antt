-- The items of descriptions are each one's items end to end, and so are their bytes.
use mathlib.Core.Path.{◌≡◌, refl, sym, ◌∙◌, ap, subst}
use mathlib.Core.List.{List, [], ◌∷◌, ◌++◌, append_assoc}
use Prim.Native.Nat.{ℕ}
use lib.ListN.{take, drop, take-append-drop}
use lib.Seq.{take_at, drop_at}
use Rattle.coding.specs.declared.Coding.{Coding}
use Rattle.table.specs.declared.Item.{Item}
use Rattle.table.specs.declared.Item.TheVariants.{Single, Start, Value, End}
use Rattle.table.specs.Meaning.{Seq, Desc, each, seqs, described, items_of, items, item_bytes, bytes, OfCoding, encode, start_of, Readable}

pub each_append : (f : ℕ → Item) (vs : List ℕ) (j k : List Item) → each f vs (j ++ k) ≡ each f vs j ++ k
each_append f [] j k = refl
each_append f (v ∷ vs) j k = ap (λ (x : List Item). f v ∷ x) (each_append f vs j k)

pub seqs_append : (qs : List Seq) (j k : List Item) → seqs qs (j ++ k) ≡ seqs qs j ++ k
seqs_append [] j k = refl
seqs_append (q ∷ qs) j k =
    ap (λ (x : List Item). Start ∷ Value q.first ∷ x)
    (ap (each Value q.others) (seqs_append qs j k) ∙ each_append Value q.others (seqs qs j) k)

-- what follows a description stands behind its items
pub described_append : (d : Desc) (k : List Item) → described d k ≡ items_of d ++ k
described_append d k =
    ap (each Single d.singles) (seqs_append d.sequences (End ∷ []) k) ∙ each_append Single d.singles (seqs d.sequences (End ∷ [])) k

pub bytes_of_append : (c : Coding) (is js : List Item) → bytes c (is ++ js) ≡ bytes c is ++ bytes c js
bytes_of_append c [] js = refl
bytes_of_append c (i ∷ is) js =
    ap (λ (x : List ℕ). item_bytes c i ++ x) (bytes_of_append c is js) ∙ sym (append_assoc (item_bytes c i) (bytes c is) (bytes c js))

pub encode_cons : (c : Coding) (d : Desc) (ds : List Desc) → encode c (d ∷ ds) ≡ bytes c (items_of d) ++ encode c ds
encode_cons c d ds = ap (bytes c) (described_append d (items ds)) ∙ bytes_of_append c (items_of d) (items ds)

pub items_append : (ds es : List Desc) → items (ds ++ es) ≡ items ds ++ items es
items_append [] es = refl
items_append (d ∷ ds) es =
    ap (described d) (items_append ds es)
    ∙ described_append d (items ds ++ items es)
    ∙ sym (append_assoc (items_of d) (items ds) (items es))
    ∙ ap (λ (x : List Item). x ++ items es) (sym (described_append d (items ds)))

pub encode_append : (c : Coding) (ds es : List Desc) → encode c (ds ++ es) ≡ encode c ds ++ encode c es
encode_append c ds es = ap (bytes c) (items_append ds es) ∙ bytes_of_append c (items ds) (items es)

-- items end to end have the values of both
pub of_append : (c : Coding) (is js : List Item) → OfCoding c is → OfCoding c js → OfCoding c (is ++ js)
of_append c [] js o p = p
of_append c (Single v ∷ is) js o p = (o.0, of_append c is js o.1 p)
of_append c (Value v ∷ is) js o p = (o.0, of_append c is js o.1 p)
of_append c (Start ∷ is) js o p = of_append c is js o p
of_append c (End ∷ is) js o p = of_append c is js o p

pub of_right : (c : Coding) (is js : List Item) → OfCoding c (is ++ js) → OfCoding c js
of_right c [] js o = o
of_right c (Single v ∷ is) js o = of_right c is js o.1
of_right c (Value v ∷ is) js o = of_right c is js o.1
of_right c (Start ∷ is) js o = of_right c is js o
of_right c (End ∷ is) js o = of_right c is js o

pub of_left : (c : Coding) (is js : List Item) → OfCoding c (is ++ js) → OfCoding c is
of_left c [] js o = tt
of_left c (Single v ∷ is) js o = (o.0, of_left c is js o.1)
of_left c (Value v ∷ is) js o = (o.0, of_left c is js o.1)
of_left c (Start ∷ is) js o = of_left c is js o
of_left c (End ∷ is) js o = of_left c is js o

-- descriptions are those before g, and those from g on
module _ (c : Coding) (ds : List Desc) (g : ℕ) where
  split : encode c ds ≡ encode c (take g ds) ++ encode c (drop g ds)
  split = ap (encode c) (sym (take-append-drop g ds)) ∙ encode_append c (take g ds) (drop g ds)

  -- before the start of description g stand the bytes of those before it
  pub start_before : take (start_of c ds g) (encode c ds) ≡ encode c (take g ds)
  start_before = ap (take (start_of c ds g)) split ∙ take_at (encode c (take g ds)) (encode c (drop g ds)) (start_of c ds g) refl

  -- from the start of description g on stand its bytes and those of the others behind it
  pub start_on : drop (start_of c ds g) (encode c ds) ≡ encode c (drop g ds)
  start_on = ap (drop (start_of c ds g)) split ∙ drop_at (encode c (take g ds)) (encode c (drop g ds)) (start_of c ds g) refl

  pub readable_before : Readable c ds → Readable c (take g ds)
  readable_before o =
      of_left c (items (take g ds)) (items (drop g ds))
      (subst (OfCoding c) (ap items (sym (take-append-drop g ds)) ∙ items_append (take g ds) (drop g ds)) o)
