-- What the walk and the lookups mean on a table: s is the bytes of the descriptions ds, whose values are the coding's.
-- `item_at` answers `item_at`, `find_value` answers `find_value` and `find_sequence` answers `find_sequence`, on the items of s.
use mathlib.Core.Path.{◌≡◌, sym, ◌∙◌, ap}
use mathlib.Core.Logic.{◌↔◌}
use mathlib.Core.List.{List}
use Prim.Native.Nat.{ℕ}
use Rattle.coding.specs.declared.Coding.{Coding}
use Rattle.table.specs.declared.Item.{Item}
use Rattle.table.specs.Meaning.{Desc, items, encode, Readable}
use Rattle.table.specs.Reading.{items_in}
use Rattle.table.proofs.Meaning.{items_read}
use Rattle.lookup.specs.Reading.{item_at, find_value, find_sequence}
use Rattle.lookup.specs.Meaning.{ListsValue, ListsSequence, Lowest, Nowhere, ItemIs}
use Rattle.lookup.proofs.Searching.{at_exactly, none_exactly}
use Rattle.lookup.proofs.Walking.{found_item, item_found, none_item, item_none}
use Rattle.lookup.proofs.Finding.{has_value, value_yes, value_no, find_value_lem, has_sequence, sequence_yes, sequence_no, find_sequence_lem}
use Rattle.std.specs.Prelude.{Some, None}

module _ (c : Coding) (ds : List Desc) (s : List ℕ) (o : Readable c ds) (e : s ≡ encode c ds) where
  its_items : items_in c s ≡ items ds
  its_items = ap (items_in c) e ∙ items_read c ds o

  -- the walk gives an item exactly when glyph g has an item k, and then that item
  pub item_exactly : (g k : ℕ) (i : Item) → (item_at g k (items_in c s) ≡ Some i) ↔ ItemIs ds g k i
  item_exactly g k i = (λ q. found_item ds g k i (sym (ap (item_at g k) its_items) ∙ q), λ r. ap (item_at g k) its_items ∙ item_found ds g k i r)

  -- the walk gives nothing exactly when there is no such item
  pub no_item_exactly : (g k : ℕ) → (item_at g k (items_in c s) ≡ None) ↔ ((i : Item) → ItemIs ds g k i → ⊥)
  no_item_exactly g k = (λ q. none_item ds g k (sym (ap (item_at g k) its_items) ∙ q), λ f. ap (item_at g k) its_items ∙ item_none ds g k f)

  -- a value is found exactly at the lowest glyph that lists it as a single
  pub value_exactly : (v g : ℕ) → (find_value v 0 (items_in c s) ≡ Some g) ↔ Lowest (ListsValue v) 0 ds g
  value_exactly v g = at_exactly (has_value v) (ListsValue v) (value_yes v) (value_no v) ds _ (ap (find_value v 0) its_items ∙ find_value_lem v 0 ds) g

  -- and nowhere exactly when no glyph does
  pub no_value_exactly : (v : ℕ) → (find_value v 0 (items_in c s) ≡ None) ↔ Nowhere (ListsValue v) 0 ds
  no_value_exactly v = none_exactly (has_value v) (ListsValue v) (value_yes v) (value_no v) ds _ (ap (find_value v 0) its_items ∙ find_value_lem v 0 ds)

  -- a sequence is found exactly at the lowest glyph that lists it
  pub sequence_exactly : (vs : List ℕ) (g : ℕ) → (find_sequence vs (items_in c s) ≡ Some g) ↔ Lowest (ListsSequence vs) 0 ds g
  sequence_exactly vs g =
      at_exactly (has_sequence vs) (ListsSequence vs) (sequence_yes vs) (sequence_no vs) ds _ (ap (find_sequence vs) its_items ∙ find_sequence_lem vs 0 vs ds) g

  -- and nowhere exactly when no glyph does
  pub no_sequence_exactly : (vs : List ℕ) → (find_sequence vs (items_in c s) ≡ None) ↔ Nowhere (ListsSequence vs) 0 ds
  no_sequence_exactly vs =
      none_exactly (has_sequence vs) (ListsSequence vs) (sequence_yes vs) (sequence_no vs) ds _ (ap (find_sequence vs) its_items ∙ find_sequence_lem vs 0 vs ds)
