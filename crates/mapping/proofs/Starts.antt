-- The place after g descriptions is where description g starts.
use mathlib.Core.Path.{◌≡◌, ◌∙◌, ap, subst}
use mathlib.Core.List.{List, [], ◌∷◌, ◌++◌, append_assoc, append-nil}
use Prim.Native.Nat.{ℕ, zero, suc, ◌+◌}
use native.Mathlib.Omega.{arith}
use native.Mathlib.Nat.{zero-add}
use lib.ListN.{length, take, length-append}
use Rattle.coding.specs.declared.Coding.{Coding}
use Rattle.coding.specs.Meaning.{end_bytes}
use Rattle.table.specs.declared.Item.{Item}
use Rattle.table.specs.declared.Item.TheVariants.{Single, Start, Value, End}
use Rattle.table.specs.Meaning.{Seq, Desc, each, seqs, items_of, items, item_bytes, bytes, OfCoding, encode, Readable, start_of}
use Rattle.table.specs.Reading.{steps_from}
use Rattle.table.proofs.Stepping.{item_front}
use Rattle.table.proofs.EndToEnd.{each_append, seqs_append, described_append, bytes_of_append, encode_cons, of_left, of_right}
use Rattle.mapping.specs.Reading.{place_after, description_at}

-- items that end no description
abbrev NoEnd : List Item → Type 0
NoEnd [] = Unit {0}
NoEnd (Single v ∷ is) = NoEnd is
NoEnd (Start ∷ is) = NoEnd is
NoEnd (Value v ∷ is) = NoEnd is
NoEnd (End ∷ is) = ⊥

-- a description's items before its end mark
abbrev body : Desc → List Item
body d = each Single d.singles (seqs d.sequences [])

body_end : (d : Desc) → items_of d ≡ body d ++ (End ∷ [])
body_end d = ap (each Single d.singles) (seqs_append d.sequences [] (End ∷ [])) ∙ each_append Single d.singles (seqs d.sequences []) (End ∷ [])

others_no_end : (vs : List ℕ) (k : List Item) → NoEnd k → NoEnd (each Value vs k)
others_no_end [] k n = n
others_no_end (v ∷ vs) k n = others_no_end vs k n

seqs_no_end : (qs : List Seq) → NoEnd (seqs qs [])
seqs_no_end [] = tt
seqs_no_end (q ∷ qs) = others_no_end q.others (seqs qs []) (seqs_no_end qs)

singles_no_end : (vs : List ℕ) (k : List Item) → NoEnd k → NoEnd (each Single vs k)
singles_no_end [] k n = n
singles_no_end (v ∷ vs) k n = singles_no_end vs k n

module _ (c : Coding) where
  pub readable_later : (d : Desc) (ds : List Desc) → Readable c (d ∷ ds) → Readable c ds
  readable_later d ds o = of_right c (items_of d) (items ds) (subst (OfCoding c) (described_append d (items ds)) o)

  module _ (g : ℕ) where
    -- a run of items is passed
    abbrev Passed : ℕ → List Item → List ℕ → Type 0
    Passed at is y =
        place_after (suc g) at (steps_from c at 0 (bytes c is ++ y)) ≡ place_after (suc g) (at + length (bytes c is)) (steps_from c (at + length (bytes c is)) 0 y)

    -- one item more in front
    on : (at : ℕ) (i : Item) (is : List Item) (y : List ℕ) → OfCoding c (i ∷ []) → NoEnd (i ∷ []) → Passed (at + length (item_bytes c i)) is y → Passed at (i ∷ is) y
    unfolding place_after
    on at i is y o n p =
        let l = length (item_bytes c i) in
        let e : at + l + length (bytes c is) ≡ at + length (item_bytes c i ++ bytes c is) = omega (arith, length-append (item_bytes c i) (bytes c is)) in
        ap (λ (x : List ℕ). place_after (suc g) at (steps_from c at 0 x)) (append_assoc (item_bytes c i) (bytes c is) y)
        ∙ step i n o (bytes c is ++ y) ∙ p ∙ ap (λ (m : ℕ). place_after (suc g) m (steps_from c m 0 y)) e
      where
        step : (i : Item) → NoEnd (i ∷ []) → OfCoding c (i ∷ []) → (z : List ℕ) →
            place_after (suc g) at (steps_from c at 0 (item_bytes c i ++ z)) ≡ place_after (suc g) (at + length (item_bytes c i)) (steps_from c (at + length (item_bytes c i)) 0 z)
        step (Single v) n o z = ap (place_after (suc g) at) (item_front c (Single v) at z o)
        step Start n o z = ap (place_after (suc g) at) (item_front c Start at z o)
        step (Value v) n o z = ap (place_after (suc g) at) (item_front c (Value v) at z o)
        step End n o z = absurd n

    pass : (at : ℕ) (is : List Item) (y : List ℕ) → NoEnd is → OfCoding c is → Passed at is y
    pass at [] y n o =
        let e : at ≡ at + 0 = omega arith in
        ap (λ (m : ℕ). place_after (suc g) m (steps_from c m 0 y)) e
    pass at (Single v ∷ is) y n o = on at (Single v) is y (o.0, tt) tt (pass (at + length (item_bytes c (Single v))) is y n o.1)
    pass at (Start ∷ is) y n o = on at Start is y tt tt (pass (at + length (item_bytes c Start)) is y n o)
    pass at (Value v ∷ is) y n o = on at (Value v) is y (o.0, tt) tt (pass (at + length (item_bytes c (Value v))) is y n o.1)
    pass at (End ∷ is) y n o = absurd n

    -- a whole description
    past : (at : ℕ) (d : Desc) (ds : List Desc) → Readable c (d ∷ ds) →
        place_after (suc g) at (steps_from c at 0 (encode c (d ∷ ds))) ≡ place_after g (at + length (bytes c (items_of d))) (steps_from c (at + length (bytes c (items_of d))) 0 (encode c ds))
    unfolding place_after
    past at d ds o =
        let od : OfCoding c (items_of d ++ items ds) = subst (OfCoding c) (described_append d (items ds)) o in
        let ob : OfCoding c (body d) = of_left c (body d) (End ∷ []) (subst (OfCoding c) (body_end d) (of_left c (items_of d) (items ds) od)) in
        let b = bytes c (items_of d) in
        let w = bytes c (body d) in
        let y = encode c ds in
        let eb : b ≡ w ++ bytes c (End ∷ []) = ap (bytes c) (body_end d) ∙ bytes_of_append c (body d) (End ∷ []) in
        let e1 : at + length w + length (end_bytes c) ≡ at + length b = omega (arith, ap length eb, length-append w (bytes c (End ∷ [])), length-append (end_bytes c) []) in
        let s1 : encode c (d ∷ ds) ≡ w ++ (end_bytes c ++ y) = encode_cons c d ds ∙ ap (λ (x : List ℕ). x ++ y) eb ∙ append_assoc w (bytes c (End ∷ [])) y ∙ ap (λ (x : List ℕ). w ++ x) (ap (λ (x : List ℕ). x ++ y) (append-nil (end_bytes c))) in
        ap (λ (x : List ℕ). place_after (suc g) at (steps_from c at 0 x)) s1
        ∙ pass at (body d) (end_bytes c ++ y) (singles_no_end d.singles (seqs d.sequences []) (seqs_no_end d.sequences)) ob
        ∙ ap (place_after (suc g) (at + length w)) (item_front c End (at + length w) y tt)
        ∙ ap (λ (m : ℕ). place_after g m (steps_from c m 0 y)) e1

  after : (g at : ℕ) (ds : List Desc) → Readable c ds → place_after g at (steps_from c at 0 (encode c ds)) ≡ at + start_of c ds g
  unfolding place_after steps_from
  after zero at ds o = omega arith
  after (suc g) at [] o = omega arith
  after (suc g) at (d ∷ ds) o =
      let b = bytes c (items_of d) in
      let e : at + length b + start_of c ds g ≡ at + start_of c (d ∷ ds) (suc g) = omega (arith, ap length (encode_cons c d (take g ds)), length-append b (encode c (take g ds))) in
      past g at d ds o ∙ after g (at + length b) ds (readable_later d ds o) ∙ e

  pub starts : (g : ℕ) (ds : List Desc) → Readable c ds → description_at c g (encode c ds) ≡ start_of c ds g
  unfolding description_at
  starts g ds o = after g 0 ds o ∙ zero-add (start_of c ds g)
