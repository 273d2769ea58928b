-- What the table's calls mean: `check_table` answers `table_of`, and here is what `table_of` says of the bytes, in both codings.
use mathlib.Core.Path.{◌≡◌}
use mathlib.Core.Logic.{◌⊎◌, ◌↔◌, inl, inr}
use mathlib.Core.List.{List, ◌∷◌, ◌++◌}
use Prim.Native.Nat.{ℕ, ◌≤◌, ◌<◌}
use lib.ListN.{length, take, drop}
use Rattle.base.specs.Meaning.{Bytes}
use Rattle.coding.specs.declared.Coding.{Coding}
use Rattle.table.specs.declared.Item.{Item}
use Rattle.table.specs.Meaning.{Desc, items_of, items, bytes, encode, start_of, Readable, IsTable, LongestStart, Unfinished, BadAt, TrailingAt, InGlyph}
use Rattle.table.specs.Reading.{ends_in, items_in, table_of, table_place}
use Rattle.table.proofs.Reading.{unique, items_back}
use Rattle.table.proofs.EndToEnd.{described_append, encode_cons}
use Rattle.table.proofs.EndToEnd as end_to_end
use Rattle.table.proofs.Places.{complete_table, table_complete, cut_short, short_cut, bad_broken, broken_bad, trailing_over, over_trailing, within_tail}
use Rattle.table.proofs.Numbers.{glyph_told, in_cut, in_bad, item_glyph}
use Rattle.table.proofs.Numbers as numbers
use Rattle.std.specs.Prelude.{Ok, Err}
use Rattle.table.specs.declared.Fault.TheVariants.{Cut, Bad, Trailing}

-- exactly the bytes of n descriptions, nothing over, are accepted
pub complete_exactly : (c : Coding) (n : ℕ) (s : List ℕ) → Bytes s → (table_of c n s ≡ Ok tt) ↔ IsTable c n s
complete_exactly c n s y = (complete_table c n s y, table_complete c n s)

-- a table has one reading: other descriptions have other bytes
pub one_reading : (c : Coding) (ds es : List Desc) → Readable c ds → Readable c es → encode c ds ≡ encode c es → ds ≡ es
one_reading = unique

-- the items that a table's bytes are, are those of its descriptions
pub items_read : (c : Coding) (ds : List Desc) → Readable c ds → items_in c (encode c ds) ≡ items ds
items_read = items_back

-- descriptions stand end to end: the first one's items, and then those of the others; and their bytes likewise
pub items_end_to_end : (d : Desc) (ds : List Desc) → items (d ∷ ds) ≡ items_of d ++ items ds
items_end_to_end d ds = described_append d (items ds)

pub bytes_end_to_end : (c : Coding) (d : Desc) (ds : List Desc) → encode c (d ∷ ds) ≡ bytes c (items_of d) ++ encode c ds
bytes_end_to_end = encode_cons

-- description g starts behind the bytes of the first g, and from there on stand its bytes and those of the others
pub start_before : (c : Coding) (ds : List Desc) (g : ℕ) → take (start_of c ds g) (encode c ds) ≡ encode c (take g ds)
start_before = end_to_end.start_before

pub start_on : (c : Coding) (ds : List Desc) (g : ℕ) → drop (start_of c ds g) (encode c ds) ≡ encode c (drop g ds)
start_on = end_to_end.start_on

-- TABLE CUT is given exactly when the whole tail could still be completed, but isn't complete; its place is the end, and its glyph is
-- the one in whose description that stands
pub cut_exactly : (c : Coding) (n : ℕ) (s : List ℕ) (k g : ℕ) → Bytes s →
    (table_of c n s ≡ Err (Cut k g)) ↔ ((k ≡ length s) × Unfinished c n s × InGlyph c s k g)
cut_exactly c n s k g y = (
  λ e. let r = cut_short c n s k g y e in (r.0, r.1, (glyph_told c s n k y g (inl e)).1),
  λ r. in_cut c s n k y g (r.0, r.1) r.2,
)

-- the same, whatever the glyph
pub cut_place : (c : Coding) (n : ℕ) (s : List ℕ) (k : ℕ) → Bytes s →
    ((g : ℕ) × (table_of c n s ≡ Err (Cut k g))) ↔ ((k ≡ length s) × Unfinished c n s)
cut_place c n s k y = (λ (g, e). cut_short c n s k g y e, short_cut c n s k y)

-- TABLE BAD is given exactly when the longest completable start is shorter than the tail and not a complete table; its place is that start's
-- end, and its glyph is the one in whose description that stands
pub bad_exactly : (c : Coding) (n : ℕ) (s : List ℕ) (k g : ℕ) → Bytes s →
    (table_of c n s ≡ Err (Bad k g)) ↔ (BadAt c n s k × InGlyph c s k g)
bad_exactly c n s k g y = (
  λ e. (bad_broken c n s k g y e, (glyph_told c s n k y g (inr e)).1),
  λ r. in_bad c s n k y g r.0 r.1,
)

-- the same, whatever the glyph
pub bad_place : (c : Coding) (n : ℕ) (s : List ℕ) (k : ℕ) → Bytes s →
    ((g : ℕ) × (table_of c n s ≡ Err (Bad k g))) ↔ BadAt c n s k
bad_place c n s k y = (λ (g, e). bad_broken c n s k g y e, broken_bad c n s k y)

-- the glyph that is told with a place is one of the n, and the place stands in its description
pub glyph_of_place : (c : Coding) (n : ℕ) (s : List ℕ) (k g : ℕ) → Bytes s →
    (table_of c n s ≡ Err (Cut k g)) ⊎ (table_of c n s ≡ Err (Bad k g)) → (g < n) × InGlyph c s k g
glyph_of_place c n s k g y = glyph_told c s n k y g

-- no place stands in the descriptions of two
pub one_glyph : (c : Coding) (s : List ℕ) (k g h : ℕ) → InGlyph c s k g → InGlyph c s k h → g ≡ h
one_glyph = numbers.one_glyph

-- the place of a table's item stands in the description of the glyph that has it: as many as end before it
pub glyph_of_item : (c : Coding) (ds : List Desc) (is : List Item) (i : Item) (js : List Item) → Readable c ds → items ds ≡ is ++ (i ∷ js) →
    (ends_in is < length ds) × InGlyph c (encode c ds) (length (bytes c is)) (ends_in is)
glyph_of_item = item_glyph

-- TRAILING is given exactly when bytes stand after a complete table; its place is the first of them
pub trailing_exactly : (c : Coding) (n : ℕ) (s : List ℕ) (k : ℕ) → Bytes s → (table_of c n s ≡ Err (Trailing k)) ↔ TrailingAt c n s k
trailing_exactly c n s k y = (λ e. let r = trailing_over c n s k y e in (r.1, r.2), λ h. over_trailing c n s k h.0 h.1)

-- that table is then the longest start that could still be completed
pub trailing_start : (c : Coding) (n : ℕ) (s : List ℕ) (k : ℕ) → Bytes s → TrailingAt c n s k → LongestStart c n s k
trailing_start c n s k y h = (trailing_over c n s k y (over_trailing c n s k h.0 h.1)).0

-- no place is past the tail's end
pub place_within : (c : Coding) (n : ℕ) (s : List ℕ) → Bytes s → table_place (table_of c n s) ≤ length s
place_within = within_tail
