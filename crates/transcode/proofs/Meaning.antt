-- What the transcoder's calls mean on a table: s is the bytes of the descriptions ds in one coding. `table_len` answers `table_len`,
-- and `write_table` writes `recoded`.
use mathlib.Core.Path.{◌≡◌, refl, sym, ◌∙◌, ap, subst}
use mathlib.Core.Logic.{◌↔◌}
use mathlib.Core.List.{List, [], ◌∷◌, ◌++◌}
use Prim.Native.Nat.{ℕ, ◌<◌}
use native.Mathlib.Omega.{arith}
use lib.ListN.{length, take}
use lib.Seq.{take_at}
use Rattle.coding.specs.declared.Coding.{Coding}
use Rattle.table.specs.declared.Item.{Item}
use Rattle.table.specs.declared.Item.TheVariants.{Single, Start, Value, End}
use Rattle.table.specs.Meaning.{Desc, items, bytes, OfCoding, encode, Readable, InGlyph}
use Rattle.table.specs.Reading.{ends_in, steps_from, items_in, table_of}
use Rattle.table.proofs.Meaning.{items_read, glyph_of_item}
use Rattle.table.proofs.EndToEnd.{bytes_of_append}
use Rattle.table.proofs.Places.{cut_before}
use Rattle.table.proofs.Answers.{same_cut}
use Rattle.transcode.specs.Reading.{measure, table_len, recoded, FirstUncarried}
use Rattle.transcode.proofs.Measuring.{Said, same_place, measured, uncarried_measured}
use Rattle.std.specs.Prelude.{Result, Ok, Err}
use Rattle.table.specs.declared.Fault.TheVariants.{Cut}

-- an item among items of a coding
at_item : (to : Coding) (before : List Item) (i : Item) (after : List Item) → OfCoding to (before ++ (i ∷ after)) → OfCoding to (i ∷ [])
at_item to [] (Single v) after o = (o.0, tt)
at_item to [] (Value v) after o = (o.0, tt)
at_item to [] Start after o = tt
at_item to [] End after o = tt
at_item to (Single v ∷ is) i after o = at_item to is i after o.1
at_item to (Value v ∷ is) i after o = at_item to is i after o.1
at_item to (Start ∷ is) i after o = at_item to is i after o
at_item to (End ∷ is) i after o = at_item to is i after o

-- items of a coding have no first that it can't carry
all_carried : (from to : Coding) (is : List Item) (at k : ℕ) → FirstUncarried from to is at k → OfCoding to is → ⊥
all_carried from to is at k f o = f.uncarried (at_item to f.before f.item f.after (subst (OfCoding to) f.same o))

module _ (from to : Coding) (ds : List Desc) (s : List ℕ) (o : Readable from ds) (e : s ≡ encode from ds) where
  said : (r : Result ℕ ℕ) → table_len from to s ≡ r → Said from to (items ds) 0 0 r
  unfolding table_len
  said r q = subst (Said from to (items ds) 0 0) (sym (ap (λ (x : List ℕ). measure to 0 0 (steps_from from 0 0 x)) e) ∙ q) (measured from to (items ds) 0 0 o)

  -- a length is told exactly when the coding carries every value, and then it is that of the table in the coding
  pub length_exactly : (m : ℕ) → (table_len from to s ≡ Ok m) ↔ (Readable to ds × (m ≡ length (encode to ds)))
  length_exactly m = (λ q. let p = said (Ok m) q in (p.0, omega (arith, p.1)), λ p. go (table_len from to s) refl p)
    where
      go : (r : Result ℕ ℕ) → table_len from to s ≡ r → Readable to ds × (m ≡ length (encode to ds)) → table_len from to s ≡ Ok m
      go (Ok n) q p = let z = (said (Ok n) q).1 in q ∙ ap Ok (omega (arith, p.1))
      go (Err k) q p = absurd (all_carried from to (items ds) 0 k (said (Err k) q) p.0)

  -- a place is told exactly when there is a first value that the coding can't carry, and then it is that value's first byte
  pub uncarried_exactly : (k : ℕ) → (table_len from to s ≡ Err k) ↔ FirstUncarried from to (items ds) 0 k
  unfolding table_len
  uncarried_exactly k = (
    said (Err k),
    λ f.
        ap (λ (x : List ℕ). measure to 0 0 (steps_from from 0 0 x)) (e ∙ ap (bytes from) f.same)
        ∙ uncarried_measured from to f.before f.item f.after 0 0 (subst (OfCoding from) f.same o) f.carried f.uncarried
        ∙ same_place (sym f.here),
  )

  -- up to such a place the table is cut, and the place stands in the description of the glyph that is told with that, one of the table's
  pub uncarried_glyph : (k : ℕ) → table_len from to s ≡ Err k → (g : ℕ) × (table_of from (length ds) (take k s) ≡ Err (Cut k g)) × (g < length ds) × InGlyph from s k g
  uncarried_glyph k q =
      let u = (uncarried_exactly k).0 q in
      let is = u.before in
      let w = glyph_of_item from ds is u.item u.after o u.same in
      let p : length (bytes from is) ≡ k = omega (arith, u.here) in
      let t : take k s ≡ bytes from is = ap (take k) (e ∙ ap (bytes from) u.same ∙ bytes_of_append from is (u.item ∷ u.after)) ∙ take_at (bytes from is) (bytes from (u.item ∷ u.after)) k p in (
        ends_in is,
        ap (table_of from (length ds)) t ∙ cut_before from (length ds) ds is u.item u.after refl o u.same ∙ same_cut (omega (arith, p)) (omega arith),
        w.0,
        subst (λ (x : List ℕ). InGlyph from x k (ends_in is)) (sym e) (subst (λ (j : ℕ). InGlyph from (encode from ds) j (ends_in is)) p w.1),
      )

  -- what is written is the same descriptions in the other coding
  pub recoded_table : recoded from to s ≡ encode to ds
  unfolding recoded
  recoded_table = ap (bytes to) (ap (items_in from) e ∙ items_read from ds o)
