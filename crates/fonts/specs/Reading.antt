-- What the public calls answer on any bytes: the font's own refusal first, then the question's (document 01).
use Rattle.std.specs.Prelude.{ℕ, List, Result, Ok, Err}
use Rattle.refusal.specs.declared.Refusal.{Refusal}
use Rattle.header.specs.declared.Font.{Font}
use Rattle.bitmap.specs.Reading.{bitmap_of, whole_of, row_of, pixel_of, metrics_of}
use Rattle.stages.specs.Reading.{check_of}
use Rattle.questions.specs.Reading.{item_on, value_on, sequence_on}
use Rattle.bitmap.specs.declared.Part.{Part}
use Rattle.entries.specs.declared.Metrics.{Metrics}
use Rattle.table.specs.declared.Item.{Item}

-- an answer on a sound font, or the font's own refusal
abbrev pub asked : {A : Type 0} → (Refusal → A) → (Font → A) → Result Font Refusal → A
asked refuse answer (Ok f) = answer f
asked refuse answer (Err r) = refuse r

-- where glyph g's bytes stand
unfoldable pub glyph_part_of : List ℕ → ℕ → Result Part Refusal
glyph_part_of s g = asked Err (λ f. whole_of (bitmap_of s f g)) (check_of s)

-- where row y of glyph g stands
unfoldable pub row_part_of : List ℕ → ℕ → ℕ → Result Part Refusal
row_part_of s g y = asked Err (λ f. row_of (bitmap_of s f g) y) (check_of s)

-- the pixel of row y and column x of glyph g
unfoldable pub pixel_at : List ℕ → ℕ → ℕ → ℕ → Result ℕ Refusal
pixel_at s g y x = asked Err (λ f. pixel_of s (bitmap_of s f g) y x) (check_of s)

-- the metrics of glyph g
unfoldable pub glyph_metrics_of : List ℕ → ℕ → Result Metrics Refusal
glyph_metrics_of s g = asked Err (λ f. metrics_of s f g (bitmap_of s f g)) (check_of s)

-- item k of glyph g
unfoldable pub item_of : List ℕ → ℕ → ℕ → Result Item Refusal
item_of s g k = asked Err (item_on s g k) (check_of s)

-- the lowest glyph that lists v as a single
unfoldable pub value_glyph : List ℕ → ℕ → Result ℕ Refusal
value_glyph s v = asked Err (value_on s v) (check_of s)

-- the lowest glyph that lists the sequence vs
unfoldable pub sequence_glyph : List ℕ → List ℕ → Result ℕ Refusal
sequence_glyph s vs = asked Err (sequence_on s vs) (check_of s)
