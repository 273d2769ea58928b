-- Where glyph g lists v, its first listing's bytes taken out leave the bytes of the descriptions with v dropped; where it does not, v's bytes put
-- in where its singles end make those of the descriptions with v added.
use mathlib.Core.Path.{◌≡◌, refl, sym, ◌∙◌, ap, subst}
use mathlib.Core.Logic.{◌⊎◌, inl, inr}
use mathlib.Core.Bool.{Bool, true, false}
use mathlib.Core.List.{List, [], ◌∷◌, ◌++◌, append_assoc}
use Prim.Native.Nat.{ℕ, suc, ◌+◌, ◌<◌}
use native.Mathlib.Omega.{arith}
use lib.Dec.{eqb}
use borrow.Author.Tests.{eqb-true, eqb-false}
use lib.ListN.{length, take, drop, take-append-drop, length-append}
use Rattle.base.specs.Meaning.{pick}
use Rattle.coding.specs.declared.Coding.{Coding}
use Rattle.coding.specs.Meaning.{ValueOf, value_bytes}
use Rattle.table.specs.declared.Item.{Item}
use Rattle.table.specs.declared.Item.TheVariants.{Single, Start, Value, End}
use Rattle.table.specs.Meaning.{Seq, Desc, each, seqs, items, bytes, OfCoding, encode, Readable}
use Rattle.table.specs.Reading.{steps_from, steps_at}
use Rattle.table.proofs.Stepping.{item_front}
use Rattle.table.proofs.EndToEnd.{each_append, encode_append, of_left, of_right, items_append, start_on}
use Rattle.lookup.specs.Meaning.{Nth, Any}
use Rattle.mapping.specs.Meaning.{Lists, changed, with_single, without, without_single, added, dropped}
use Rattle.mapping.specs.declared.Mapping.TheVariants.{Listed, Unlisted}
use Rattle.mapping.specs.Reading.{single_from, mapping_of}
use Rattle.mapping.proofs.Changing.{nth_some, nth_one, nth_drop, changed_parts}
use Rattle.mapping.proofs.Starts.{starts}

-- a value behind others
each_last : (vs : List ℕ) (v : ℕ) (k : List Item) → each Single (vs ++ (v ∷ [])) k ≡ each Single vs (Single v ∷ k)
each_last [] v k = refl
each_last (w ∷ vs) v k = ap (λ (x : List Item). Single w ∷ x) (each_last vs v k)

module _ (c : Coding) (v : ℕ) where
  abbrev n : ℕ
  n = length (value_bytes c v)

  -- the first v among the singles in front of k
  record HoleIn (vs : List ℕ) (k : List Item) : Type 0 where
    front : List ℕ
    back : List ℕ
    same : bytes c (each Single vs k) ≡ front ++ (value_bytes c v ++ back)
    less : bytes c (each Single (without v vs) k) ≡ front ++ back
    place : (at : ℕ) → single_from v at (steps_from c at 0 (bytes c (each Single vs k))) ≡ Listed (at + length front) (at + length front + n)
    listed : Any (λ (w : ℕ). w ≡ v) vs

  -- no v among them
  record GapIn (vs : List ℕ) (k : List Item) : Type 0 where
    front : List ℕ
    same : bytes c (each Single vs k) ≡ front ++ bytes c k
    more : bytes c (each Single (vs ++ (v ∷ [])) k) ≡ front ++ (value_bytes c v ++ bytes c k)
    place : (at : ℕ) → single_from v at (steps_from c at 0 (bytes c (each Single vs k))) ≡ Unlisted (at + length front)
    unlisted : Any (λ (w : ℕ). w ≡ v) vs → ⊥

  -- the steps with a single in front
  StepsOf : (w : ℕ) (vs : List ℕ) (k : List Item) → Type 0
  StepsOf w vs k = (at : ℕ) → (t : Bool) → eqb w v ≡ t → single_from v at (steps_from c at 0 (bytes c (each Single (w ∷ vs) k)))
      ≡ pick t (Listed at (at + length (value_bytes c w))) (single_from v (at + length (value_bytes c w)) (steps_from c (at + length (value_bytes c w)) 0 (bytes c (each Single vs k))))

  steps_of : (w : ℕ) (vs : List ℕ) (k : List Item) → ValueOf c w → StepsOf w vs k
  unfolding single_from StepsOf
  steps_of w vs k o at t e =
      let m = at + length (value_bytes c w) in
      ap (single_from v at) (item_front c (Single w) at (bytes c (each Single vs k)) (o, tt))
      ∙ ap (λ (b : Bool). pick b (Listed at m) (single_from v m (steps_from c m 0 (bytes c (each Single vs k))))) e

  here : (w : ℕ) (vs : List ℕ) (k : List Item) → eqb w v ≡ true → StepsOf w vs k → HoleIn (w ∷ vs) k
  unfolding without StepsOf
  here w vs k e step =
      let q = eqb-true w v e in
      record {
        front = [];
        back = bytes c (each Single vs k);
        same = ap (λ (x : ℕ). value_bytes c x ++ bytes c (each Single vs k)) q;
        less = ap (λ (t : Bool). bytes c (each Single (pick t vs (w ∷ without v vs)) k)) e;
        place = λ at.
            let a : at ≡ at + 0 = omega arith in
            step at true e ∙ ap (λ (x : ℕ). Listed at (at + length (value_bytes c x))) q ∙ ap (λ (x : ℕ). Listed x (x + n)) a;
        listed = inl q;
      }

  beyond : (w : ℕ) (vs : List ℕ) (k : List Item) → eqb w v ≡ false → StepsOf w vs k → HoleIn vs k → HoleIn (w ∷ vs) k
  unfolding without StepsOf
  beyond w vs k e step r =
      let b = value_bytes c w in
      record {
        front = b ++ r.front;
        back = r.back;
        same = ap (λ (x : List ℕ). b ++ x) r.same ∙ sym (append_assoc b r.front (value_bytes c v ++ r.back));
        less = ap (λ (t : Bool). bytes c (each Single (pick t vs (w ∷ without v vs)) k)) e ∙ ap (λ (x : List ℕ). b ++ x) r.less ∙ sym (append_assoc b r.front r.back);
        place = λ at.
            let z : at + length b + length r.front ≡ at + length (b ++ r.front) = omega (arith, length-append b r.front) in
            step at false e ∙ r.place (at + length b) ∙ ap (λ (x : ℕ). Listed x (x + n)) z;
        listed = inr r.listed;
      }

  further : (w : ℕ) (vs : List ℕ) (k : List Item) → eqb w v ≡ false → StepsOf w vs k → GapIn vs k → GapIn (w ∷ vs) k
  unfolding StepsOf
  further w vs k e step r =
      let b = value_bytes c w in
      record {
        front = b ++ r.front;
        same = ap (λ (x : List ℕ). b ++ x) r.same ∙ sym (append_assoc b r.front (bytes c k));
        more = ap (λ (x : List ℕ). b ++ x) r.more ∙ sym (append_assoc b r.front (value_bytes c v ++ bytes c k));
        place = λ at.
            let z : at + length b + length r.front ≡ at + length (b ++ r.front) = omega (arith, length-append b r.front) in
            step at false e ∙ r.place (at + length b) ∙ ap Unlisted z;
        unlisted = no;
      }
    where
      no : (w ≡ v) ⊎ Any (λ (u : ℕ). u ≡ v) vs → ⊥
      no (inl q) = eqb-false w v e q
      no (inr q) = r.unlisted q

  -- singles end at a start mark or at the end mark
  ended : (qs : List Seq) (j : List Item) (at : ℕ) → single_from v at (steps_from c at 0 (bytes c (seqs qs (End ∷ j)))) ≡ Unlisted at
  unfolding single_from
  ended [] j at = ap (single_from v at) (item_front c End at (bytes c j) tt)
  ended (q ∷ qs) j at = ap (single_from v at) (item_front c Start at (bytes c (Value q.first ∷ each Value q.others (seqs qs (End ∷ j)))) tt)

  among : (vs : List ℕ) (qs : List Seq) (j : List Item) → OfCoding c (each Single vs []) → HoleIn vs (seqs qs (End ∷ j)) ⊎ GapIn vs (seqs qs (End ∷ j))
  among [] qs j o =
      inr (record {
        front = [];
        same = refl;
        more = refl;
        place = λ at. let a : at ≡ at + 0 = omega arith in ended qs j at ∙ ap Unlisted a;
        unlisted = λ a. a;
      })
  among (w ∷ vs) qs j o = go (eqb w v) refl (among vs qs j o.1)
    where
      k : List Item
      k = seqs qs (End ∷ j)

      go : (t : Bool) → eqb w v ≡ t → HoleIn vs k ⊎ GapIn vs k → HoleIn (w ∷ vs) k ⊎ GapIn (w ∷ vs) k
      go true e r = inl (here w vs k e (steps_of w vs k o.0))
      go false e (inl r) = inl (beyond w vs k e (steps_of w vs k o.0) r)
      go false e (inr r) = inr (further w vs k e (steps_of w vs k o.0) r)

  -- glyph g lists v: where its bytes stand
  pub record Hole (g : ℕ) (ds : List Desc) : Type 0 where
    pub front : List ℕ
    pub back : List ℕ
    pub same : encode c ds ≡ front ++ (value_bytes c v ++ back)
    pub less : encode c (dropped v g ds) ≡ front ++ back
    pub place : mapping_of c g v (encode c ds) ≡ Listed (length front) (length front + n)
    pub listed : Lists v g ds

  -- it does not: where they would
  pub record Gap (g : ℕ) (ds : List Desc) : Type 0 where
    pub front : List ℕ
    pub back : List ℕ
    pub same : encode c ds ≡ front ++ back
    pub more : encode c (added v g ds) ≡ front ++ (value_bytes c v ++ back)
    pub place : mapping_of c g v (encode c ds) ≡ Unlisted (length front)
    pub unlisted : Lists v g ds → ⊥

  module _ (g : ℕ) (ds : List Desc) (o : Readable c ds) (d : Desc) (nth : Nth g ds d) where
    abbrev before : List ℕ
    before = encode c (take g ds)

    abbrev later : List Desc
    later = drop (suc g) ds

    abbrev marks : List Item
    marks = seqs d.sequences (End ∷ items later)

    -- the descriptions are those before g, its own and those behind it
    parts : encode c ds ≡ before ++ encode c (d ∷ later)
    parts =
        ap (encode c) (sym (take-append-drop g ds)) ∙ encode_append c (take g ds) (drop g ds)
        ∙ ap (λ (x : List Desc). before ++ encode c x) (nth_drop g ds d nth)

    changed_bytes : (f : Desc → Desc) → encode c (changed f g ds) ≡ before ++ encode c (f d ∷ later)
    changed_bytes f = ap (encode c) (changed_parts f g ds d nth) ∙ encode_append c (take g ds) (f d ∷ later)

    here_place : mapping_of c g v (encode c ds) ≡ single_from v (length before) (steps_from c (length before) 0 (encode c (d ∷ later)))
    unfolding mapping_of
    here_place =
        ap (λ (x : ℕ). single_from v x (steps_at c (encode c ds) x)) (starts c g ds o)
        ∙ ap (λ (x : List ℕ). single_from v (length before) (steps_from c (length before) 0 x)) (start_on c ds g ∙ ap (encode c) (nth_drop g ds d nth))

    singles_of : OfCoding c (each Single d.singles [])
    singles_of =
        let o1 : OfCoding c (items (take g ds) ++ items (d ∷ later)) = subst (OfCoding c) (ap items (sym (take-append-drop g ds) ∙ ap (λ (x : List Desc). take g ds ++ x) (nth_drop g ds d nth)) ∙ items_append (take g ds) (d ∷ later)) o in
        of_left c (each Single d.singles []) marks (subst (OfCoding c) (each_append Single d.singles [] marks) (of_right c (items (take g ds)) (items (d ∷ later)) o1))

    hole : HoleIn d.singles marks → Hole g ds
    hole r =
        let e : length before + length r.front ≡ length (before ++ r.front) = sym (length-append before r.front) in
        record {
          front = before ++ r.front;
          back = r.back;
          same = parts ∙ ap (λ (x : List ℕ). before ++ x) r.same ∙ sym (append_assoc before r.front (value_bytes c v ++ r.back));
          less = changed_bytes (without_single v) ∙ ap (λ (x : List ℕ). before ++ x) r.less ∙ sym (append_assoc before r.front r.back);
          place = here_place ∙ r.place (length before) ∙ ap (λ (x : ℕ). Listed x (x + n)) e;
          listed = record { description = d; here = nth; lists = r.listed };
        }

    gap : GapIn d.singles marks → Gap g ds
    gap r =
        let e : length before + length r.front ≡ length (before ++ r.front) = sym (length-append before r.front) in
        record {
          front = before ++ r.front;
          back = bytes c marks;
          same = parts ∙ ap (λ (x : List ℕ). before ++ x) r.same ∙ sym (append_assoc before r.front (bytes c marks));
          more = changed_bytes (with_single v) ∙ ap (λ (x : List ℕ). before ++ x) r.more ∙ sym (append_assoc before r.front (value_bytes c v ++ bytes c marks));
          place = here_place ∙ r.place (length before) ∙ ap Unlisted e;
          unlisted = λ l. r.unlisted (subst (λ (x : Desc). Any (λ (w : ℕ). w ≡ v) x.singles) (nth_one g ds l.description d l.here nth) l.lists);
        }

    hole_or_gap_at : Hole g ds ⊎ Gap g ds
    hole_or_gap_at = go (among d.singles d.sequences (items later) singles_of)
      where
        go : HoleIn d.singles marks ⊎ GapIn d.singles marks → Hole g ds ⊎ Gap g ds
        go (inl r) = inl (hole r)
        go (inr r) = inr (gap r)

  pub hole_or_gap : (g : ℕ) (ds : List Desc) → g < length ds → Readable c ds → Hole g ds ⊎ Gap g ds
  hole_or_gap g ds h o = let d = nth_some g ds h in hole_or_gap_at g ds o d.0 d.1
