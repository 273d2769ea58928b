-- Descriptions that are written are read again as the same items; so no other descriptions have their bytes.
use mathlib.Core.Path.{◌≡◌, refl, sym, ◌∙◌, ap}
use mathlib.Core.List.{List, [], ◌∷◌}
use Prim.Native.Nat.{ℕ, ◌+◌}
use lib.ListN.{length}
use Rattle.base.specs.Meaning.{Bytes}
use Rattle.base.proofs.Parts.{bytes_append}
use Rattle.coding.specs.declared.Coding.{Coding}
use Rattle.coding.specs.Meaning.{value_bytes, start_bytes, end_bytes}
use Rattle.coding.proofs.Codings.{coded}
use Rattle.table.specs.declared.Item.{Item}
use Rattle.table.specs.declared.Item.TheVariants.{Single, Start, Value, End}
use Rattle.table.specs.Meaning.{Desc, items, item_bytes, bytes, OfCoding, encode, Readable}
use Rattle.table.specs.Reading.{steps_from, step_items, items_in}
use Rattle.table.proofs.Accepts.{Accepts, accepts_items, items_inj}
use Rattle.table.proofs.Moves.{moved}
use Rattle.table.specs.Skipping.{Phase, singles, is_inside}
use Rattle.table.proofs.Stepping.{item_front}

module _ (c : Coding) where
  nothing_left : (p : Phase) (at : ℕ) → step_items (is_inside p) (steps_from c at 0 []) ≡ []
  unfolding step_items steps_from
  nothing_left p at = refl

  -- accepted items, written, are read again
  read_back : (is : List Item) (n : ℕ) (p : Phase) (at : ℕ) → OfCoding c is → Accepts n p is → step_items (is_inside p) (steps_from c at 0 (bytes c is)) ≡ is
  read_back [] n p at o a = nothing_left p at
  read_back (i ∷ is) n p at o a =
      let m = moved c n p i is o a in
      ap (step_items (is_inside p)) (item_front c i at (bytes c is) m.move.of)
      ∙ m.move.tells (at + length (item_bytes c i)) (steps_from c (at + length (item_bytes c i)) 0 (bytes c is))
      ∙ ap (λ (x : List Item). i ∷ x) (read_back is m.left m.phase (at + length (item_bytes c i)) m.rest_of m.rest)

  pub items_back : (ds : List Desc) → Readable c ds → items_in c (encode c ds) ≡ items ds
  items_back ds o = read_back (items ds) (length ds) singles 0 o (accepts_items ds)

  pub unique : (ds es : List Desc) → Readable c ds → Readable c es → encode c ds ≡ encode c es → ds ≡ es
  unique ds es o q e = items_inj ds es (sym (items_back ds o) ∙ ap (items_in c) e ∙ items_back es q)

  -- what is written is bytes
  pub items_bytes : (is : List Item) → OfCoding c is → Bytes (bytes c is)
  items_bytes [] o = tt
  items_bytes (Single v ∷ is) o = bytes_append (value_bytes c v) (bytes c is) ((coded c).value_bytes_lem v o.0) (items_bytes is o.1)
  items_bytes (Value v ∷ is) o = bytes_append (value_bytes c v) (bytes c is) ((coded c).value_bytes_lem v o.0) (items_bytes is o.1)
  items_bytes (Start ∷ is) o = bytes_append (start_bytes c) (bytes c is) (coded c).start_bytes_lem (items_bytes is o)
  items_bytes (End ∷ is) o = bytes_append (end_bytes c) (bytes c is) (coded c).end_bytes_lem (items_bytes is o)
