-- The differences of two fonts as pairs of kind and glyph, in their order, and what the call answers and leaves (document 02, W5).
use Rattle.std.specs.Prelude.{ℕ, zero, suc, ◌-◌, ◌*◌, min, max, Bool, true, false, List, [], ◌∷◌, ◌++◌, ltb, eqb, length, drop, Result, Ok, Err}
use Rattle.base.specs.Reading.{when, over}
use Rattle.refusal.specs.Meaning.{refusal}
use Rattle.refusal.specs.declared.Reason.TheVariants.{Room}
use Rattle.coding.specs.declared.Coding.{Coding}
use Rattle.header.specs.declared.Font.{Font}
use Rattle.stages.specs.Meaning.{coding_of}
use Rattle.stages.specs.Reading.{check_of}
use Rattle.descriptions.specs.Reading.{same_at, end_at}
use Rattle.glyphs.specs.Reading.{glyph_kind}
use Rattle.differences.specs.Meaning.{numbers}
use Rattle.refusal.specs.declared.Refusal.{Refusal}
use Rattle.differences.specs.declared.Uncompared.{Uncompared}
use Rattle.differences.specs.declared.Uncompared.TheVariants.{First, Second, Neither}

-- a pair of a kind and a glyph; none of kind 0
unfoldable pub pair_of : ℕ → ℕ → List (ℕ × ℕ)
pair_of k g = when (eqb k 0) [] ((k, g) ∷ [])

-- the pairs of a glyph: "by kind within it"
abbrev pub glyph_pairs : ℕ → ℕ → ℕ → List (ℕ × ℕ)
glyph_pairs k j g = pair_of k g ++ pair_of j g

-- 6: "If just one has a table"
abbrev pub table_kind : Bool → Bool → ℕ
table_kind true true = 0
table_kind true false = 6
table_kind false true = 6
table_kind false false = 0

-- 5: "items differ"
abbrev pub item_kind : Bool → ℕ
item_kind true = 0
item_kind false = 5

-- 1: "only in the first", 2: "only in the second"
unfoldable pub only_kind : ℕ → ℕ → ℕ
only_kind n m = when (ltb n m) 2 1

-- of k glyphs from glyph g on that both fonts have: how each differs, by κ, and whether its description does, where those of s go on at
-- a and those of t at b
unfoldable pub common_from : (ℕ → ℕ) → Coding → List ℕ → Coding → List ℕ → ℕ → ℕ → ℕ → ℕ → List (ℕ × ℕ)
common_from κ c s d t zero g a b = []
common_from κ c s d t (suc k) g a b =
    glyph_pairs (κ g) (item_kind (same_at c s a d t b)) g ++ common_from κ c s d t k (suc g) (end_at c s a) (end_at d t b)

-- k glyphs from glyph g on that one font has alone
unfoldable pub rest_from : ℕ → ℕ → ℕ → List (ℕ × ℕ)
rest_from r zero g = []
rest_from r (suc k) g = pair_of r g ++ rest_from r k (suc g)

-- where the descriptions of font f that are compared begin: at its table; at the file's end where just one font has a table
unfoldable pub compared_start : ℕ → Font → Font → ℕ
compared_start len f h = when (eqb (table_kind f.table h.table) 0) f.end len

-- the descriptions that are compared
abbrev pub compared_tail : List ℕ → Font → Font → List ℕ
compared_tail s f h = drop (compared_start (length s) f h) s

-- the pairs of the glyphs that both have
unfoldable pub common_pairs : List ℕ → Font → List ℕ → Font → List (ℕ × ℕ)
common_pairs s f o h =
    common_from (glyph_kind s f o h) (coding_of f.kind) (compared_tail s f h) (coding_of h.kind) (compared_tail o h f) (min f.count h.count) 0 0 0

-- the pairs of the others
unfoldable pub rest_pairs : Font → Font → List (ℕ × ℕ)
rest_pairs f h = rest_from (only_kind f.count h.count) (max f.count h.count - min f.count h.count) (min f.count h.count)

-- all pairs of font f in s and font h in o
unfoldable pub pairs_of : List ℕ → Font → List ℕ → Font → List (ℕ × ℕ)
pairs_of s f o h = pair_of (table_kind f.table h.table) 0 ++ (common_pairs s f o h ++ rest_pairs f h)

-- 21, "ROOM with the count of numbers needed", for a buffer of so many numbers; or "the count of pairs"
unfoldable pub fitted : ℕ → ℕ → Result ℕ Uncompared
fitted room n = when (ltb room (2 * n)) (Err (Neither (refusal Room (2 * n)))) (Ok n)

-- "the first font's, else the second's, with which one it was"
abbrev pub compared_with : List ℕ → Font → List ℕ → ℕ → Result Font Refusal → Result ℕ Uncompared
compared_with s f o room (Ok h) = fitted room (length (pairs_of s f o h))
compared_with s f o room (Err r) = Err (Second r)

abbrev pub compared_by : List ℕ → List ℕ → ℕ → Result Font Refusal → Result ℕ Uncompared
compared_by s o room (Ok f) = compared_with s f o room (check_of o)
compared_by s o room (Err r) = Err (First r)

-- what the call answers, for a buffer of so many numbers
unfoldable pub compare_answer : List ℕ → List ℕ → ℕ → Result ℕ Uncompared
compare_answer s o room = compared_by s o room (check_of s)

-- the pairs of two files, none where one is refused
abbrev pub found_with : List ℕ → Font → List ℕ → Result Font Refusal → List (ℕ × ℕ)
found_with s f o (Ok h) = pairs_of s f o h
found_with s f o (Err r) = []

abbrev pub found_by : List ℕ → List ℕ → Result Font Refusal → List (ℕ × ℕ)
found_by s o (Ok f) = found_with s f o (check_of o)
found_by s o (Err r) = []

unfoldable pub differences_of : List ℕ → List ℕ → List (ℕ × ℕ)
differences_of s o = found_by s o (check_of s)

-- the buffer at the end: the pairs laid over its front, or as it was
abbrev pub left_by : Result ℕ Uncompared → List (ℕ × ℕ) → List ℕ → List ℕ
left_by (Ok n) ps xs = over (numbers ps) xs
left_by (Err u) ps xs = xs

unfoldable pub compare_into : List ℕ → List ℕ → List ℕ → List ℕ
compare_into s o xs = left_by (compare_answer s o (length xs)) (differences_of s o) xs
