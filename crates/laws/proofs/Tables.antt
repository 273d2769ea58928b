-- Demand 3 about the public calls on a whole file: "For any font within the size limit, marked as having a table, that none of refusals 1 to 9
-- applies to, with n glyphs". `check` answers `check_of s`, `item` answers `item_of s`, `find_value` answers `value_glyph s`, `find_sequence`
-- answers `sequence_glyph s`. `of_tail P s f`: P of the font's tail, in its coding, with n its count of glyphs.
use mathlib.Core.Path.{◌≡◌, sym, ◌∙◌, subst}
use mathlib.Core.Logic.{◌↔◌}
use mathlib.Core.Bool.{true}
use mathlib.Core.List.{List, []}
use Prim.Native.Nat.{ℕ, ◌+◌, ◌≤◌, ◌<◌}
use lib.ListN.{length}
use Rattle.base.specs.Meaning.{Begins, Bytes}
use Rattle.utf8.specs.Meaning.{Scalar, Utf8Value, utf8_bytes}
use Rattle.utf8.specs.Reading.{read_value}
use Rattle.table.specs.declared.Item.{Item}
use Rattle.table.specs.Meaning.{Desc, encode, Readable, IsTable, LongestStart, Unfinished, BadAt, TrailingAt}
use Rattle.table.proofs.Meaning as meaning
use Rattle.lookup.specs.Meaning.{Any, ListsValue, ListsSequence, Lowest, Nowhere, ItemIs}
use Rattle.header.specs.declared.Font.{Font}
use Rattle.stages.specs.Meaning.{coding_of, tail_of}
use Rattle.stages.specs.Reading.{check_of}
use Rattle.fonts.specs.Reading.{item_of, value_glyph, sequence_glyph}
use Rattle.laws.specs.Meaning.{gives, refuses, says, of_tail, RowsTo9, WellFormed}
use Rattle.laws.proofs.Check.{passed_9}
use Rattle.laws.proofs.Tails as tail
use Rattle.laws.proofs.Reading as inner
use Rattle.laws.proofs.WellFormed.{formed_is, is_formed}
use Rattle.laws.proofs.WellFormed as reader
use Rattle.std.specs.Prelude.{Ok}

module _ (s : List ℕ) (y : Bytes s) (f : Font) (passes : RowsTo9 s (gives f)) (marked : f.table ≡ true) where
  -- (a) "its table is accepted exactly when they are n descriptions of the published grammar, end to end, nothing over"
  pub accepted_exactly : (says (check_of s) ≡ gives f) ↔ of_tail IsTable s f
  accepted_exactly = tail.accepted_exactly s y f (passed_9 s f passes) marked

  -- (e) "A refused table's place is where the table begins plus the length of its longest start that some further bytes, or none, could still
  -- complete for n glyphs, file size aside; no longer start can be completed"
  pub refused_place : (number p : ℕ) → says (check_of s) ≡ refuses number p → (k : ℕ) × (p ≡ f.end + k) × of_tail LongestStart s f k
  refused_place = tail.refused_place s y f (passed_9 s f passes) marked

  -- TABLE CUT: "the whole tail could still be completed, but isn't complete", place "file length"
  pub cut_exactly : (p : ℕ) → (says (check_of s) ≡ refuses 10 p) ↔ ((p ≡ length s) × of_tail Unfinished s f)
  cut_exactly = tail.cut_exactly s y f (passed_9 s f passes) marked

  -- TABLE BAD: "the longest completable start is shorter than the tail and not a complete table", place "its end"
  pub bad_exactly : (p : ℕ) → (says (check_of s) ≡ refuses 11 p) ↔ ((k : ℕ) × (p ≡ f.end + k) × of_tail BadAt s f k)
  bad_exactly = tail.bad_exactly s y f (passed_9 s f passes) marked

  -- TRAILING: "bytes after a complete table", place "first such byte"
  pub trailing_exactly : (p : ℕ) → (says (check_of s) ≡ refuses 12 p) ↔ ((k : ℕ) × (p ≡ f.end + k) × of_tail TrailingAt s f k)
  trailing_exactly = tail.trailing_exactly s y f (passed_9 s f passes) marked

  -- of an accepted font
  module _ (r : of_tail IsTable s f) where
    -- (b) "It then has one reading: any other n descriptions, in the file's coding, have other bytes."
    pub one_reading : (ds : List Desc) → Readable (coding_of f.kind) ds → encode (coding_of f.kind) ds ≡ tail_of s f → ds ≡ r.reading
    one_reading ds o e = meaning.one_reading (coding_of f.kind) ds r.reading o r.values (e ∙ r.same)

    -- (c) "A walk answers for glyph g and item k exactly when the reading has that item, and gives it."
    pub walk_exactly : (g k : ℕ) (i : Item) → (says (item_of s g k) ≡ gives i) ↔ ItemIs r.reading g k i
    walk_exactly = inner.walk_exactly s y f (passed_9 s f passes) marked r

    -- (d) "A lookup (values to 10FFFF, no empty sequence) gives the lowest glyph the reading lists for that value or sequence, and says unmapped
    -- exactly when it lists none."
    pub value_exactly : (v g : ℕ) → v ≤ 0x10FFFF → (says (value_glyph s v) ≡ gives g) ↔ Lowest (ListsValue v) 0 r.reading g
    value_exactly = inner.value_exactly s y f (passed_9 s f passes) marked r

    pub value_unmapped_exactly : (v : ℕ) → v ≤ 0x10FFFF → (says (value_glyph s v) ≡ refuses 15 0) ↔ Nowhere (ListsValue v) 0 r.reading
    value_unmapped_exactly = inner.value_unmapped_exactly s y f (passed_9 s f passes) marked r

    module _ (vs : List ℕ) (some : vs ≡ [] → ⊥) (low : Any (λ (v : ℕ). 0x10FFFF < v) vs → ⊥) where
      pub sequence_exactly : (g : ℕ) → (says (sequence_glyph s vs) ≡ gives g) ↔ Lowest (ListsSequence vs) 0 r.reading g
      sequence_exactly = inner.sequence_exactly s y f (passed_9 s f passes) marked r vs some low

      pub sequence_unmapped_exactly : (says (sequence_glyph s vs) ≡ refuses 15 0) ↔ Nowhere (ListsSequence vs) 0 r.reading
      sequence_unmapped_exactly = inner.sequence_unmapped_exactly s y f (passed_9 s f passes) marked r vs some low

-- "In PSF2 and vfont2 a value is well-formed UTF-8": the bytes of the scalar values are the rows of the Unicode Standard's Table 3-7, all of them
pub well_formed_exactly : (s : List ℕ) → WellFormed s ↔ ((v : ℕ) × Scalar v × (s ≡ utf8_bytes v))
well_formed_exactly s = (formed_is s, λ (v, h, e). subst WellFormed (sym e) (is_formed v h))

-- the one reader of a value (`utf8::read_value`) gives v, l bytes long, exactly when v is a value (a scalar value and no noncharacter), l its length,
-- and the bytes begin with its bytes
pub read_exactly : (s : List ℕ) → Bytes s → (v l : ℕ) → (read_value s ≡ Ok (v, l)) ↔ (Utf8Value v × (l ≡ length (utf8_bytes v)) × Begins (utf8_bytes v) s)
read_exactly = reader.value_exactly
