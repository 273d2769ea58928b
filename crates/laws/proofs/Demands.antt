-- The three demands on the library; each is cited from its pages. Bytes s holds of any slice. `Exact x rows`: x is said exactly when the rows
-- (crates/laws/specs/Meaning.antt) say so of it. Which definition each call answers by stands in its contract (crates/fonts/src/lib.rt).
use mathlib.Core.Path.{◌≡◌}
use mathlib.Core.Logic.{◌↔◌}
use mathlib.Core.Bool.{true}
use mathlib.Core.List.{List, []}
use Prim.Native.Nat.{ℕ, ◌+◌, ◌≤◌, ◌<◌}
use lib.ListN.{length}
use Rattle.base.specs.Meaning.{Bytes}
use Rattle.table.specs.Meaning.{Desc, encode, Readable, IsTable, LongestStart}
use Rattle.table.specs.declared.Item.{Item}
use Rattle.lookup.specs.Meaning.{Any, ListsValue, ListsSequence, Lowest, Nowhere, ItemIs}
use Rattle.header.specs.declared.Font.{Font}
use Rattle.stages.specs.Meaning.{coding_of, tail_of}
use Rattle.stages.specs.Reading.{check_of}
use Rattle.content.specs.Meaning.{Content, HasContent, SameContent}
use Rattle.content.proofs.Same.{content_exists, content_one}
use Rattle.conversion.specs.declared.Conversion.{Conversion}
use Rattle.convert.specs.Reading.{converted_of, converted_into}
use Rattle.fonts.specs.Reading.{glyph_part_of, row_part_of, pixel_at, glyph_metrics_of, item_of, value_glyph, sequence_glyph}
use Rattle.laws.specs.Meaning.{Exact, gives, refuses, says, part_says, CheckRows, RowsTo9, GlyphPartRows, RowPartRows, PixelRows, MetricsRows, ItemRows, ValueRows, SequenceRows, ConversionRows, of_tail, Wrote}
use Rattle.laws.proofs.Check as check
use Rattle.laws.proofs.Tables as tables
use Rattle.laws.proofs.Bitmaps as bitmaps
use Rattle.laws.proofs.Questions as questions
use Rattle.laws.proofs.Conversions as conversions

module _ (s : List ℕ) (y : Bytes s) where
  -- 1. "Any bytes may come in and any question may be asked. Each call answers, or gives one numbered refusal for exactly the cause written
  -- beside it, with its place. A refused call writes to no buffer."
  pub demand_1 : Exact (says (check_of s)) (CheckRows s)
      × ((g : ℕ) → Exact (part_says (glyph_part_of s g)) (GlyphPartRows s g)) × ((g : ℕ) → Exact (says (glyph_metrics_of s g)) (MetricsRows s g))
      × ((g i : ℕ) → Exact (part_says (row_part_of s g i)) (RowPartRows s g i)) × ((g i j : ℕ) → Exact (says (pixel_at s g i j)) (PixelRows s g i j))
      × ((g k : ℕ) → Exact (says (item_of s g k)) (ItemRows s g k)) × ((v : ℕ) → Exact (says (value_glyph s v)) (ValueRows s v))
      × ((vs : List ℕ) → Exact (says (sequence_glyph s vs)) (SequenceRows s vs))
      × ((c : Conversion) (m : ℕ) → Exact (says (converted_of c s m)) (ConversionRows c s m))
      × ((c : Conversion) (xs : List ℕ) (n p : ℕ) → says (converted_of c s (length xs)) ≡ refuses n p → converted_into c s xs ≡ xs)
  demand_1 = (check.check_exactly s y, bitmaps.glyph_exactly s y, bitmaps.metrics_exactly s y, bitmaps.row_exactly s y, bitmaps.pixel_exactly s y, questions.item_exactly s y, questions.value_exactly s y, questions.sequence_exactly s y, λ c m. conversions.conversion_exactly c s m y, λ c xs. conversions.untouched c s xs)

  -- 2. "Headers, bitmaps and Unicode tables mean what the published formats say": an accepted file has a content, one only. "PSF1↔PSF2 and
  -- PSF2↔vfont2 keep every pixel, metric and mapping, and are refused exactly" as above.
  pub demand_2 : ((f : Font) → says (check_of s) ≡ gives f → (m : Content) × HasContent s m × ((o : Content) → HasContent s o → SameContent m o))
      × ((c : Conversion) (xs : List ℕ) (n : ℕ) → says (converted_of c s (length xs)) ≡ gives n → Wrote c s n xs (converted_into c s xs))
  demand_2 = (λ f e. let m = content_exists s f y (check.sound_said _ f e) in (m.0, m.1, λ o h. content_one s m.0 o m.1 h), λ c xs n. conversions.means c s xs n y)

  -- 3. "For any font within the size limit, marked as having a table, that none of refusals 1 to 9 applies to, with n glyphs"
  pub demand_3 : (f : Font) → RowsTo9 s (gives f) → f.table ≡ true → ((says (check_of s) ≡ gives f) ↔ of_tail IsTable s f)
      × ((n p : ℕ) → says (check_of s) ≡ refuses n p → (k : ℕ) × (p ≡ f.end + k) × of_tail LongestStart s f k)
      × ((r : of_tail IsTable s f) → ((ds : List Desc) → Readable (coding_of f.kind) ds → encode (coding_of f.kind) ds ≡ tail_of s f → ds ≡ r.reading)
      × ((g k : ℕ) (i : Item) → (says (item_of s g k) ≡ gives i) ↔ ItemIs r.reading g k i)
      × ((v g : ℕ) → v ≤ 0x10FFFF → (says (value_glyph s v) ≡ gives g) ↔ Lowest (ListsValue v) 0 r.reading g)
      × ((v : ℕ) → v ≤ 0x10FFFF → (says (value_glyph s v) ≡ refuses 15 0) ↔ Nowhere (ListsValue v) 0 r.reading)
      × ((vs : List ℕ) → (vs ≡ [] → ⊥) → (Any (λ (v : ℕ). 0x10FFFF < v) vs → ⊥) → ((g : ℕ) → (says (sequence_glyph s vs) ≡ gives g) ↔ Lowest (ListsSequence vs) 0 r.reading g)
      × ((says (sequence_glyph s vs) ≡ refuses 15 0) ↔ Nowhere (ListsSequence vs) 0 r.reading)))
  demand_3 f p t = (tables.accepted_exactly s y f p t, tables.refused_place s y f p t, λ r. (tables.one_reading s y f p t r, tables.walk_exactly s y f p t r, tables.value_exactly s y f p t r, tables.value_unmapped_exactly s y f p t r, λ vs a b. (tables.sequence_exactly s y f p t r vs a b, tables.sequence_unmapped_exactly s y f p t r vs a b)))
