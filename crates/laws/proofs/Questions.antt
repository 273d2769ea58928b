-- The walk and the lookups on any bytes: "Lookups and walks: NO TABLE, then ASK, then UNMAPPED", behind the font's own refusal. `item` answers
-- `item_of s g k`, `find_value` answers `value_glyph s v`, `find_sequence` answers `sequence_glyph s vs`. `Exact x rows`: x is an answer exactly
-- when the rows say so of it.
use mathlib.Core.List.{List}
use Prim.Native.Nat.{ℕ}
use Rattle.base.specs.Meaning.{Bytes}
use Rattle.fonts.specs.Reading.{item_of, value_glyph, sequence_glyph}
use Rattle.laws.specs.Meaning.{Exact, says, ItemRows, ValueRows, SequenceRows}
use Rattle.laws.proofs.Asking.{item_rows, value_rows, sequence_rows}

module _ (s : List ℕ) (y : Bytes s) where
  pub item_exactly : (g k : ℕ) → Exact (says (item_of s g k)) (ItemRows s g k)
  item_exactly = item_rows s y

  pub value_exactly : (v : ℕ) → Exact (says (value_glyph s v)) (ValueRows s v)
  value_exactly = value_rows s y

  pub sequence_exactly : (vs : List ℕ) → Exact (says (sequence_glyph s vs)) (SequenceRows s vs)
  sequence_exactly = sequence_rows s y
