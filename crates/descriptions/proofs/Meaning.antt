-- What the comparison of two descriptions means: at the starts of two descriptions it says that they have the same items exactly when they do,
-- and each ends where the next one starts.
use mathlib.Core.Path.{◌≡◌, refl, sym, ◌∙◌, ap, subst}
use mathlib.Core.Logic.{◌⊎◌, inl, inr}
use mathlib.Core.Bool.{Bool, true, false}
use mathlib.Core.List.{List, [], ◌∷◌, ◌++◌, append_assoc}
use Prim.Native.Nat.{ℕ, ◌+◌}
use native.Mathlib.Omega.{arith}
use lib.ListN.{length, drop, length-append}
use lib.Seq.{drop-drop, drop_at}
use Rattle.base.proofs.Tests as tests
use Rattle.coding.specs.declared.Coding.{Coding}
use Rattle.table.specs.declared.Item.{Item}
use Rattle.table.specs.declared.Item.TheVariants.{Single, Start, Value, End}
use Rattle.table.specs.Meaning.{Seq, Desc, each, seqs, items_of, items, item_bytes, bytes, OfCoding, encode, Readable}
use Rattle.table.specs.Reading.{steps_from}
use Rattle.table.proofs.Stepping.{step_for, item_front}
use Rattle.table.proofs.EndToEnd.{described_append, encode_cons, of_left, of_right}
use Rattle.descriptions.specs.Reading.{code_of, next_of, same_steps, end_from, same_at, end_at}
use Rattle.descriptions.proofs.Stepping.{end_here, end_later, other_step, same_later, same_here}
use Rattle.token.specs.Reading.{Step}

-- items from a place of a description on, inside a sequence or before the first one: singles before the first start mark, values behind it,
-- and the end mark last
abbrev Shaped : Bool → List Item → Type 0
Shaped b [] = ⊥
Shaped b (Single v ∷ is) = (b ≡ false) × Shaped b is
Shaped b (Start ∷ is) = Shaped true is
Shaped b (Value v ∷ is) = (b ≡ true) × Shaped b is
Shaped b (End ∷ is) = is ≡ []

shaped_singles : (vs : List ℕ) (k : List Item) → Shaped false k → Shaped false (each Single vs k)
shaped_singles [] k h = h
shaped_singles (v ∷ vs) k h = (refl, shaped_singles vs k h)

shaped_others : (vs : List ℕ) (k : List Item) → Shaped true k → Shaped true (each Value vs k)
shaped_others [] k h = h
shaped_others (v ∷ vs) k h = (refl, shaped_others vs k h)

shaped_seqs : (b : Bool) (qs : List Seq) → Shaped b (seqs qs (End ∷ []))
shaped_seqs b [] = refl
shaped_seqs b (q ∷ qs) = (refl, shaped_others q.others (seqs qs (End ∷ [])) (shaped_seqs true qs))

shaped : (d : Desc) → Shaped false (items_of d)
shaped d = shaped_singles d.singles (seqs d.sequences (End ∷ [])) (shaped_seqs false d.sequences)

-- an item as a number, as its step is
abbrev item_code : Item → ℕ
item_code (Single v) = v + 2
item_code Start = 1
item_code (Value v) = v + 2
item_code End = 0

code_for : (c : Coding) (next : ℕ) (i : Item) → code_of (step_for c next i) ≡ item_code i
code_for c next (Single v) = refl
code_for c next Start = refl
code_for c next (Value v) = refl
code_for c next End = refl

next_for : (c : Coding) (at next : ℕ) (i : Item) → next_of at (step_for c next i) ≡ next
next_for c at next (Single v) = refl
next_for c at next Start = refl
next_for c at next (Value v) = refl
next_for c at next End = refl

-- the steps of items, from a place on, with y behind them
abbrev steps_of : Coding → ℕ → List Item → List ℕ → List Step
steps_of c at is y = steps_from c at 0 (bytes c is ++ y)

one : (c : Coding) (i : Item) (is : List Item) → OfCoding c (i ∷ is) → OfCoding c (i ∷ [])
one c (Single v) is o = (o.0, tt)
one c Start is o = tt
one c (Value v) is o = (o.0, tt)
one c End is o = tt

later : (c : Coding) (i : Item) (is : List Item) → OfCoding c (i ∷ is) → OfCoding c is
later c (Single v) is o = o.1
later c Start is o = o
later c (Value v) is o = o.1
later c End is o = o

-- the first item's step, and those of the others
steps_cons : (c : Coding) (at : ℕ) (i : Item) (is : List Item) (y : List ℕ) → OfCoding c (i ∷ is) →
    steps_of c at (i ∷ is) y ≡ step_for c (at + length (item_bytes c i)) i ∷ steps_of c (at + length (item_bytes c i)) is y
steps_cons c at i is y o = ap (steps_from c at 0) (append_assoc (item_bytes c i) (bytes c is) y) ∙ item_front c i at (bytes c is ++ y) (one c i is o)

-- a description's items end where its bytes do
module _ (c : Coding) where
  abbrev EndsAt : ℕ → List Item → List ℕ → Type 0
  EndsAt at is y = end_from at (steps_of c at is y) ≡ at + length (bytes c is)

  on : (at : ℕ) (i : Item) (is : List Item) (y : List ℕ) → OfCoding c (i ∷ is) → (item_code i ≡ 0 → ⊥) → EndsAt (at + length (item_bytes c i)) is y → EndsAt at (i ∷ is) y
  on at i is y o n e =
      let l = length (item_bytes c i) in
      let x = step_for c (at + l) i in
      end_later at x _ _ (λ z. n (sym (code_for c (at + l) i) ∙ z)) (steps_cons c at i is y o)
      ∙ ap (λ (m : ℕ). end_from m (steps_of c (at + l) is y)) (next_for c at (at + l) i)
      ∙ e ∙ sums at (item_bytes c i) (bytes c is)
    where
      sums : (k : ℕ) (p q : List ℕ) → k + length p + length q ≡ k + length (p ++ q)
      sums k p q = omega (arith, length-append p q)

  ends_at : (b : Bool) (at : ℕ) (is : List Item) (y : List ℕ) → Shaped b is → OfCoding c is → EndsAt at is y
  ends_at b at [] y h o = absurd h
  ends_at b at (Single v ∷ is) y h o = on at (Single v) is y o (λ z. absurd (omega arith)) (ends_at b _ is y h.1 o.1)
  ends_at b at (Start ∷ is) y h o = on at Start is y o (λ z. absurd (omega arith)) (ends_at true _ is y h o)
  ends_at b at (Value v ∷ is) y h o = on at (Value v) is y o (λ z. absurd (omega arith)) (ends_at b _ is y h.1 o.1)
  ends_at b at (End ∷ is) y h o =
      let l = length (item_bytes c End) in
      let e : at + l ≡ at + length (bytes c (End ∷ is)) = sums at (item_bytes c End) (bytes c is) (ap (λ (k : List Item). length (bytes c k)) h) in
      end_here at (step_for c (at + l) End) _ _ refl (steps_cons c at End is y o) ∙ e
    where
      sums : (k : ℕ) (p q : List ℕ) → length q ≡ 0 → k + length p ≡ k + length (p ++ q)
      sums k p q n = omega (arith, length-append p q, n)

-- two descriptions' items, with the same steps or not
module _ (c d : Coding) where
  abbrev Alike : ℕ → ℕ → List Item → List Item → List ℕ → List ℕ → Type 0
  Alike a e is js y z = same_steps (steps_of c a is y) (steps_of d e js z) ≡ true

  -- the same first item
  heads : (a e : ℕ) (i j : Item) (is js : List Item) (y z : List ℕ) → OfCoding c (i ∷ is) → OfCoding d (j ∷ js) → item_code i ≡ item_code j → (item_code i ≡ 0 → ⊥) →
      same_steps (steps_of c a (i ∷ is) y) (steps_of d e (j ∷ js) z) ≡ same_steps (steps_of c (a + length (item_bytes c i)) is y) (steps_of d (e + length (item_bytes d j)) js z)
  heads a e i j is js y z o p q n =
      let x = step_for c (a + length (item_bytes c i)) i in
      let w = step_for d (e + length (item_bytes d j)) j in
      let cx = code_for c (a + length (item_bytes c i)) i in
      let cw = code_for d (e + length (item_bytes d j)) j in
      same_later x w _ _ _ _ (steps_cons c a i is y o) (steps_cons d e j js z p) (cx ∙ q ∙ sym cw) (λ m. n (sym cx ∙ m))

  -- another first item
  others : (a e : ℕ) (i j : Item) (is js : List Item) (y z : List ℕ) → OfCoding c (i ∷ is) → OfCoding d (j ∷ js) → (item_code i ≡ item_code j → ⊥) → Alike a e (i ∷ is) (j ∷ js) y z → ⊥
  others a e i j is js y z o p n h =
      let x = step_for c (a + length (item_bytes c i)) i in
      let w = step_for d (e + length (item_bytes d j)) j in
      let cx = code_for c (a + length (item_bytes c i)) i in
      let cw = code_for d (e + length (item_bytes d j)) j in
      let f : false ≡ true = sym (other_step x w _ _ _ _ (steps_cons c a i is y o) (steps_cons d e j js z p) (λ m. n (sym cx ∙ m ∙ cw))) ∙ h in
      let r : ◌≡◌ {A = ℕ} 0 1 = cc in
      absurd (omega arith)

  both_ways : (b : Bool) → b ≡ false → b ≡ true → ⊥
  both_ways b p q = let f : false ≡ true = sym p ∙ q in let r : ◌≡◌ {A = ℕ} 0 1 = cc in absurd (omega arith)

  -- two first values, of one kind of item
  values_same : (f : ℕ → Item) → ((n : ℕ) → item_code (f n) ≡ n + 2) → (v w : ℕ) (is js : List Item) (a e : ℕ) (y z : List ℕ) → OfCoding c (f v ∷ is) → OfCoding d (f w ∷ js) →
      (Alike (a + length (item_bytes c (f v))) (e + length (item_bytes d (f w))) is js y z → is ≡ js) → Alike a e (f v ∷ is) (f w ∷ js) y z → f v ∷ is ≡ f w ∷ js
  values_same f cf v w is js a e y z o p rest m = go (tests.same v w)
    where
      go : (v ≡ w) ⊎ ((v ≡ w) → ⊥) → f v ∷ is ≡ f w ∷ js
      go (inl q) =
          let r = rest (sym (heads a e (f v) (f w) is js y z o p (ap (λ (n : ℕ). item_code (f n)) q) (λ n. absurd (omega (arith, cf v, n)))) ∙ m) in
          λ t. f (q t) ∷ r t
      go (inr n) = absurd (others a e (f v) (f w) is js y z o p (λ q. n (omega (arith, q, cf v, cf w))) m)

  -- the same steps are the same items
  alike_same : (b : Bool) (is js : List Item) (a e : ℕ) (y z : List ℕ) → Shaped b is → Shaped b js → OfCoding c is → OfCoding d js → Alike a e is js y z → is ≡ js
  alike_same b [] js a e y z h k o p m = absurd h
  alike_same b (i ∷ is) [] a e y z h k o p m = absurd k
  alike_same b (Single v ∷ is) (Single w ∷ js) a e y z h k o p m = values_same Single (λ n. refl) v w is js a e y z o p (λ q. alike_same b is js _ _ y z h.1 k.1 o.1 p.1 q) m
  alike_same b (Single v ∷ is) (Start ∷ js) a e y z h k o p m = absurd (others a e (Single v) Start is js y z o p (λ q. absurd (omega arith)) m)
  alike_same b (Single v ∷ is) (Value w ∷ js) a e y z h k o p m = absurd (both_ways b h.0 k.0)
  alike_same b (Single v ∷ is) (End ∷ js) a e y z h k o p m = absurd (others a e (Single v) End is js y z o p (λ q. absurd (omega arith)) m)
  alike_same b (Start ∷ is) (Single w ∷ js) a e y z h k o p m = absurd (others a e Start (Single w) is js y z o p (λ q. absurd (omega arith)) m)
  alike_same b (Start ∷ is) (Start ∷ js) a e y z h k o p m =
      ap (λ (r : List Item). Start ∷ r) (alike_same true is js _ _ y z h k o p (sym (heads a e Start Start is js y z o p refl (λ n. absurd (omega arith))) ∙ m))
  alike_same b (Start ∷ is) (Value w ∷ js) a e y z h k o p m = absurd (others a e Start (Value w) is js y z o p (λ q. absurd (omega arith)) m)
  alike_same b (Start ∷ is) (End ∷ js) a e y z h k o p m = absurd (others a e Start End is js y z o p (λ q. absurd (omega arith)) m)
  alike_same b (Value v ∷ is) (Single w ∷ js) a e y z h k o p m = absurd (both_ways b k.0 h.0)
  alike_same b (Value v ∷ is) (Start ∷ js) a e y z h k o p m = absurd (others a e (Value v) Start is js y z o p (λ q. absurd (omega arith)) m)
  alike_same b (Value v ∷ is) (Value w ∷ js) a e y z h k o p m = values_same Value (λ n. refl) v w is js a e y z o p (λ q. alike_same b is js _ _ y z h.1 k.1 o.1 p.1 q) m
  alike_same b (Value v ∷ is) (End ∷ js) a e y z h k o p m = absurd (others a e (Value v) End is js y z o p (λ q. absurd (omega arith)) m)
  alike_same b (End ∷ is) (Single w ∷ js) a e y z h k o p m = absurd (others a e End (Single w) is js y z o p (λ q. absurd (omega arith)) m)
  alike_same b (End ∷ is) (Start ∷ js) a e y z h k o p m = absurd (others a e End Start is js y z o p (λ q. absurd (omega arith)) m)
  alike_same b (End ∷ is) (Value w ∷ js) a e y z h k o p m = absurd (others a e End (Value w) is js y z o p (λ q. absurd (omega arith)) m)
  alike_same b (End ∷ is) (End ∷ js) a e y z h k o p m = ap (λ (r : List Item). End ∷ r) (h ∙ sym k)

  -- the same items have the same steps
  same_alike : (b : Bool) (is : List Item) (a e : ℕ) (y z : List ℕ) → Shaped b is → OfCoding c is → OfCoding d is → Alike a e is is y z
  same_alike b [] a e y z h o p = absurd h
  same_alike b (Single v ∷ is) a e y z h o p = heads a e (Single v) (Single v) is is y z o p refl (λ n. absurd (omega arith)) ∙ same_alike b is _ _ y z h.1 o.1 p.1
  same_alike b (Start ∷ is) a e y z h o p = heads a e Start Start is is y z o p refl (λ n. absurd (omega arith)) ∙ same_alike true is _ _ y z h o p
  same_alike b (Value v ∷ is) a e y z h o p = heads a e (Value v) (Value v) is is y z o p refl (λ n. absurd (omega arith)) ∙ same_alike b is _ _ y z h.1 o.1 p.1
  same_alike b (End ∷ is) a e y z h o p =
      same_here (step_for c (a + length (item_bytes c End)) End) (step_for d (e + length (item_bytes d End)) End) _ _ _ _ (steps_cons c a End is y o) (steps_cons d e End is z p) refl refl

-- a description that starts at a place of a tail, with others behind it
module _ (c : Coding) (s : List ℕ) (a : ℕ) (x : Desc) (xs : List Desc) (r : Readable c (x ∷ xs)) (e : drop a s ≡ encode c (x ∷ xs)) where
  parts : OfCoding c (items_of x) × OfCoding c (items xs)
  parts =
      let o : OfCoding c (items_of x ++ items xs) = subst (OfCoding c) (described_append x (items xs)) r in
      (of_left c (items_of x) (items xs) o, of_right c (items_of x) (items xs) o)

  steps_are : steps_from c a 0 (drop a s) ≡ steps_of c a (items_of x) (encode c xs)
  steps_are = ap (steps_from c a 0) (e ∙ encode_cons c x xs)

  -- the others can be read
  pub rest_readable : Readable c xs
  rest_readable = parts.1

  -- and start where it ends
  pub rest_at : drop (end_at c s a) s ≡ encode c xs
  rest_at =
      let b = bytes c (items_of x) in
      let q : end_at c s a ≡ a + length b = ap (end_from a) steps_are ∙ ends_at c false a (items_of x) (encode c xs) (shaped x) parts.0 in
      ap (λ (m : ℕ). drop m s) q ∙ sym (drop-drop (length b) a s) ∙ ap (drop (length b)) (e ∙ encode_cons c x xs) ∙ drop_at b (encode c xs) (length b) refl

-- two such descriptions
module _ (c : Coding) (s : List ℕ) (a : ℕ) (x : Desc) (xs : List Desc) (r : Readable c (x ∷ xs)) (e : drop a s ≡ encode c (x ∷ xs))
    (d : Coding) (t : List ℕ) (b : ℕ) (y : Desc) (ys : List Desc) (q : Readable d (y ∷ ys)) (f : drop b t ≡ encode d (y ∷ ys)) where
  steps_of_both : same_at c s a d t b ≡ same_steps (steps_of c a (items_of x) (encode c xs)) (steps_of d b (items_of y) (encode d ys))
  steps_of_both = λ i. same_steps (steps_are c s a x xs r e i) (steps_are d t b y ys q f i)

  -- that they are alike means that they have the same items
  pub same_items : same_at c s a d t b ≡ true → items_of x ≡ items_of y
  same_items h = alike_same c d false (items_of x) (items_of y) a b (encode c xs) (encode d ys) (shaped x) (shaped y) (parts c s a x xs r e).0 (parts d t b y ys q f).0 (sym steps_of_both ∙ h)

  -- and where they have the same items, they are alike
  pub items_same : items_of x ≡ items_of y → same_at c s a d t b ≡ true
  items_same h =
      steps_of_both
      ∙ ap (λ (k : List Item). same_steps (steps_of c a (items_of x) (encode c xs)) (steps_of d b k (encode d ys))) (sym h)
      ∙ same_alike c d false (items_of x) a b (encode c xs) (encode d ys) (shaped x) (parts c s a x xs r e).0 (subst (OfCoding d) (sym h) (parts d t b y ys q f).0)

-- the comparison goes both ways
pub same_swapped : (xs ys : List Step) → same_steps xs ys ≡ same_steps ys xs
unfolding same_steps
same_swapped [] [] = refl
same_swapped [] (y ∷ ys) = refl
same_swapped (x ∷ xs) [] = refl
same_swapped (x ∷ xs) (y ∷ ys) = go (tests.same (code_of x) (code_of y)) (tests.same (code_of x) 0) (same_swapped xs ys)
  where
    go : (code_of x ≡ code_of y) ⊎ ((code_of x ≡ code_of y) → ⊥) → (code_of x ≡ 0) ⊎ ((code_of x ≡ 0) → ⊥) → same_steps xs ys ≡ same_steps ys xs → same_steps (x ∷ xs) (y ∷ ys) ≡ same_steps (y ∷ ys) (x ∷ xs)
    go (inl q) (inl z) h = same_here x y _ _ xs ys refl refl q z ∙ sym (same_here y x _ _ ys xs refl refl (sym q) (sym q ∙ z))
    go (inl q) (inr z) h = same_later x y _ _ xs ys refl refl q z ∙ h ∙ sym (same_later y x _ _ ys xs refl refl (sym q) (λ m. z (q ∙ m)))
    go (inr n) z h = other_step x y _ _ xs ys refl refl n ∙ sym (other_step y x _ _ ys xs refl refl (λ m. n (sym m)))
