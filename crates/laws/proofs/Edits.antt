-- A mapping added to a PSF2 font or dropped from it, in place (document 02, W4): the font stands in the first len bytes of a buffer xs; the value
-- is v, the glyph g. `add_mapping` answers `add_answer xs len g v` and leaves `add_into xs len g v` in the buffer, `drop_mapping` answers
-- `drop_answer xs len g v` and leaves `drop_into xs len g v`. Bytes xs holds of any slice. `Exact x rows`: x is an answer exactly when the rows say
-- so of it.
use mathlib.Core.Path.{◌≡◌, ap}
use mathlib.Core.Logic.{◌↔◌}
use mathlib.Core.Bool.{true}
use mathlib.Core.List.{List}
use Prim.Native.Nat.{ℕ, min}
use lib.ListN.{take, drop}
use Rattle.base.specs.Meaning.{Bytes}
use Rattle.table.specs.Meaning.{Desc}
use Rattle.lookup.specs.Meaning.{ListsValue}
use Rattle.header.specs.declared.Font.{Font}
use Rattle.stages.specs.Reading.{check_of}
use Rattle.content.specs.Meaning.{Describes}
use Rattle.mapping.specs.Meaning.{Lists, added, dropped, First, LowestOther, NoOther}
use Rattle.mapping.proofs.Changing.{first_dropped}
use Rattle.edit.specs.Reading.{add_answer, add_into, drop_answer, drop_into}
use Rattle.fonts.specs.Reading.{value_glyph, sequence_glyph}
use Rattle.laws.specs.Meaning.{Exact, gives, refuses, says, AddRows, DropRows, Edits}
use Rattle.laws.proofs.Editing as inner
use Rattle.laws.proofs.Adding as adding
use Rattle.laws.proofs.Dropping as dropping
use Rattle.laws.proofs.Editing.{add_good, drop_good}
use Rattle.std.specs.Prelude.{Ok}

-- each refusal exactly when its row says, in their order, and else the new length
module _ (xs : List ℕ) (y : Bytes xs) (len g v : ℕ) where
  pub add_exactly : Exact (says (add_answer xs len g v)) (AddRows xs len g v)
  add_exactly = inner.add_rows xs y len g v

  pub drop_exactly : Exact (says (drop_answer xs len g v)) (DropRows xs len g v)
  drop_exactly = inner.drop_rows xs y len g v

-- a refused call changes nothing
module _ (xs : List ℕ) (len g v number p : ℕ) where
  pub add_untouched : says (add_answer xs len g v) ≡ refuses number p → add_into xs len g v ≡ xs
  add_untouched = inner.add_untouched xs len g v number p

  pub drop_untouched : says (drop_answer xs len g v) ≡ refuses number p → drop_into xs len g v ≡ xs
  drop_untouched = inner.drop_untouched xs len g v number p

-- after an add that gave n
module _ (xs : List ℕ) (y : Bytes xs) (len g v n : ℕ) (e : says (add_answer xs len g v) ≡ gives n) where
  abbrev old : List ℕ
  old = take len xs

  abbrev new : List ℕ
  new = take n (add_into xs len g v)

  -- the font is accepted, its reading is the old one with v put after glyph g's singles, and all else stays
  pub add_means : Edits (added v g) g xs len (add_into xs len g v) n
  add_means = adding.add_edits xs y len g v n (add_good xs y len g v n e)

  -- "the value's glyph is the lower of g and its old answer", every other value and every sequence answers as before
  pub add_mapped : (h : ℕ) → says (value_glyph old v) ≡ gives h → says (value_glyph new v) ≡ gives (min g h)
  add_mapped = adding.add_mapped xs y len g v n (add_good xs y len g v n e)

  pub add_unmapped : says (value_glyph old v) ≡ refuses 15 0 → says (value_glyph new v) ≡ gives g
  add_unmapped = adding.add_unmapped xs y len g v n (add_good xs y len g v n e)

  pub add_other_values : (w : ℕ) → (w ≡ v → ⊥) → value_glyph new w ≡ value_glyph old w
  add_other_values = adding.add_other xs y len g v n (add_good xs y len g v n e)

  pub add_sequences : (vs : List ℕ) → sequence_glyph new vs ≡ sequence_glyph old vs
  add_sequences = adding.add_sequence xs y len g v n (add_good xs y len g v n e)

  -- "An add followed by the drop, where the value wasn't listed, gives back the font": it was not, or the add was refused. The bytes
  -- between are 0 again, by `drop_means`
  pub add_then_drop : says (drop_answer (add_into xs len g v) n g v) ≡ gives len
  add_then_drop = ap says (adding.drop_after xs y len g v n (add_good xs y len g v n e))

  pub add_then_drop_font : take len (drop_into (add_into xs len g v) n g v) ≡ old
  add_then_drop_font = adding.drop_after_font xs y len g v n (add_good xs y len g v n e)

  pub add_then_drop_behind : drop n (drop_into (add_into xs len g v) n g v) ≡ drop n xs
  add_then_drop_behind = adding.drop_after_behind xs y len g v n (add_good xs y len g v n e)

-- what is dropped from a description that lists v is the first listing: "drop its first listing there as a single"
pub first_listing : (v : ℕ) (d : Desc) → ListsValue v d → First v d.singles
first_listing v d = first_dropped v d.singles

-- after a drop that gave n
module _ (xs : List ℕ) (y : Bytes xs) (len g v n : ℕ) (e : says (drop_answer xs len g v) ≡ gives n) where
  -- the font is accepted, its reading is the old one without the first listing of v as a single of glyph g, and all else stays
  pub drop_means : Edits (dropped v g) g xs len (drop_into xs len g v) n
  drop_means = dropping.drop_edits xs y len g v n (drop_good xs y len g v n e)

  -- every other value and every sequence answers as before
  pub drop_other_values : (w : ℕ) → (w ≡ v → ⊥) → value_glyph (take n (drop_into xs len g v)) w ≡ value_glyph (take len xs) w
  drop_other_values = dropping.drop_other xs y len g v n (drop_good xs y len g v n e)

  pub drop_sequences : (vs : List ℕ) → sequence_glyph (take n (drop_into xs len g v)) vs ≡ sequence_glyph (take len xs) vs
  drop_sequences = dropping.drop_sequence xs y len g v n (drop_good xs y len g v n e)

  -- v itself, by the old reading: as before where glyph g had it twice; else the lowest of the other glyphs that list it, unmapped where none does
  module _ (f : Font) (ds : List Desc) (sound : check_of (take len xs) ≡ Ok f) (d : Describes (take len xs) f true ds) where
    pub drop_listed_twice : Lists v g (dropped v g ds) → value_glyph (take n (drop_into xs len g v)) v ≡ value_glyph (take len xs) v
    drop_listed_twice = dropping.drop_still xs y len g v n (drop_good xs y len g v n e) f ds sound d

    pub drop_lowest : (Lists v g (dropped v g ds) → ⊥) → (h : ℕ) → (says (value_glyph (take n (drop_into xs len g v)) v) ≡ gives h) ↔ LowestOther (ListsValue v) g ds h
    drop_lowest = dropping.drop_lowest xs y len g v n (drop_good xs y len g v n e) f ds sound d

    pub drop_unmapped : (Lists v g (dropped v g ds) → ⊥) → (says (value_glyph (take n (drop_into xs len g v)) v) ≡ refuses 15 0) ↔ NoOther (ListsValue v) g ds
    drop_unmapped = dropping.drop_unmapped xs y len g v n (drop_good xs y len g v n e) f ds sound d
