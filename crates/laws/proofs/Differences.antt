-- The differences of two fonts (document 02, W5). On the files s and o and a buffer xs of 32-bit numbers `compare` answers
-- `compare_answer s o (length xs)` and leaves `compare_into s o xs` in the buffer; the pairs that it finds are `differences_of s o`. Bytes s and Bytes o
-- hold of any slices. `Exact x rows`: x is an answer exactly when the rows say so of it.
use mathlib.Core.Path.{◌≡◌, ◌∙◌, ap}
use mathlib.Core.Logic.{◌↔◌}
use mathlib.Core.List.{List}
use Prim.Native.Nat.{ℕ, ◌+◌, ◌≤◌}
use lib.ListN.{length, take}
use Rattle.base.specs.Meaning.{Bytes}
use Rattle.refusal.specs.declared.Refusal.{Refusal}
use Rattle.lookup.specs.Meaning.{Nth}
use Rattle.header.specs.declared.Font.{Font}
use Rattle.stages.specs.Reading.{check_of}
use Rattle.content.specs.Meaning.{Content, HasContent, SameContent}
use Rattle.content.proofs.Same.{content_exists}
use Rattle.conversion.specs.declared.Conversion.{Conversion}
use Rattle.convert.specs.Reading.{converted_of, converted_into}
use Rattle.differences.specs.Reading.{compare_answer, differences_of, compare_into}
use Rattle.laws.specs.Meaning.{Exact, gives, refuses, says, compared_says, whose_refusal, CompareRows, Listed, Differences, swapped}
use Rattle.laws.proofs.Differing as differing
use Rattle.laws.proofs.Comparing as comparing
use Rattle.laws.proofs.Conversions.{means}
use Rattle.std.specs.Prelude.{Ok, Err}

-- the first font's own refusal, the second's, ROOM with twice the pairs, each exactly when its row says, and else the count of pairs
pub compare_exactly : (s o : List ℕ) (room : ℕ) → Exact (compared_says (compare_answer s o room)) (CompareRows s o room (length (differences_of s o)))
compare_exactly = comparing.compare_rows

-- "the first font's, else the second's, with which one it was": 1 exactly when the first font is refused, 2 exactly when the first is sound and the
-- second refused, 0 exactly when both are sound
module _ (s o : List ℕ) (room : ℕ) where
  pub first_exactly : (whose_refusal (compare_answer s o room) ≡ 1) ↔ ((r : Refusal) × (check_of s ≡ Err r))
  first_exactly = comparing.first_whose s o room

  pub second_exactly : (whose_refusal (compare_answer s o room) ≡ 2) ↔ (((f : Font) × (check_of s ≡ Ok f)) × ((r : Refusal) × (check_of o ≡ Err r)))
  second_exactly = comparing.second_whose s o room

  pub neither_exactly : (whose_refusal (compare_answer s o room) ≡ 0) ↔ (((f : Font) × (check_of s ≡ Ok f)) × ((f : Font) × (check_of o ≡ Ok f)))
  neither_exactly = comparing.neither_whose s o room

module _ (s o xs : List ℕ) where
  -- a refused call changes nothing
  pub compare_untouched : (number p : ℕ) → compared_says (compare_answer s o (length xs)) ≡ refuses number p → compare_into s o xs ≡ xs
  compare_untouched = comparing.untouched s o xs

  -- one that answers n found n pairs and wrote them to the buffer's front: "Other numbers in the buffer stay."
  pub compare_listed : (n : ℕ) → compared_says (compare_answer s o (length xs)) ≡ gives n → (n ≡ length (differences_of s o)) × Listed (differences_of s o) xs (compare_into s o xs)
  compare_listed = comparing.listed s o xs

-- two fonts have no more pairs than glyphs together, so two numbers for each glyph of both are always room enough
pub count_most : (s o : List ℕ) (f h : Font) → Bytes s → Bytes o → check_of s ≡ Ok f → check_of o ≡ Ok h → length (differences_of s o) ≤ f.count + h.count
count_most = comparing.count_most

-- of two sound fonts, by their contents
module _ (s : List ℕ) (ys : Bytes s) (m : Content) (a : HasContent s m) (o : List ℕ) (yo : Bytes o) (m' : Content) (b : HasContent o m') where
  -- a pair stands in the list exactly when its difference holds, and the list is in the stated order
  pub differences_exactly : Differences m m' (differences_of s o)
  differences_exactly = differing.differences_of_lem s ys m a o yo m' b

  -- no other list has these two properties
  pub differences_one : (ps : List (ℕ × ℕ)) → Differences m m' ps → ps ≡ differences_of s o
  differences_one ps d =
      let e = differences_exactly in
      comparing.one_list ps (differences_of s o) d.ordered e.ordered (λ p i. (e.exactly p.0 p.1).1 ((d.exactly p.0 p.1).0 i)) (λ p i. (d.exactly p.0 p.1).1 ((e.exactly p.0 p.1).0 i))

  -- each once
  pub each_once : (i j : ℕ) (p : ℕ × ℕ) → Nth i (differences_of s o) p → Nth j (differences_of s o) p → i ≡ j
  each_once = comparing.once (differences_of s o) differences_exactly.ordered

  -- "0 exactly when glyph count, table presence, metrics, pixels and items all agree", whatever the room
  pub none_exactly : (room : ℕ) → (compared_says (compare_answer s o room) ≡ gives 0) ↔ SameContent m m'
  none_exactly = comparing.none_said s ys m a o yo m' b

-- a font against itself
pub itself_none : (s : List ℕ) (f : Font) → Bytes s → check_of s ≡ Ok f → (room : ℕ) → compared_says (compare_answer s s room) ≡ gives 0
itself_none s f y e room = let c = content_exists s f y e in comparing.one_content s y s y c.0 c.1 c.1 room

-- the two fonts swapped: 1 for 2 and 2 for 1, and nothing else different; as many pairs
pub compare_swapped : (s o : List ℕ) → Bytes s → Bytes o → differences_of o s ≡ swapped (differences_of s o)
compare_swapped = differing.files_swapped

pub swapped_count : (s o : List ℕ) → Bytes s → Bytes o → length (differences_of o s) ≡ length (differences_of s o)
swapped_count s o ys yo = ap length (compare_swapped s o ys yo) ∙ comparing.swapped_length (differences_of s o)

-- what a conversion wrote, against its source and the other way round, for all four conversions: nothing differs
module _ (c : Conversion) (s xs : List ℕ) (n : ℕ) (y : Bytes s) (e : says (converted_of c s (length xs)) ≡ gives n) (room : ℕ) where
  pub conversion_none : compared_says (compare_answer s (take n (converted_into c s xs)) room) ≡ gives 0
  conversion_none =
      let w = means c s xs n y e in
      let m = content_exists s w.font y w.sound in
      comparing.one_content s y (take n (converted_into c s xs)) w.octets m.0 m.1 (w.keeps.content m.0 m.1) room

  pub none_conversion : compared_says (compare_answer (take n (converted_into c s xs)) s room) ≡ gives 0
  none_conversion =
      let w = means c s xs n y e in
      let m = content_exists s w.font y w.sound in
      comparing.one_content (take n (converted_into c s xs)) w.octets s y m.0 (w.keeps.content m.0 m.1) m.1 room
