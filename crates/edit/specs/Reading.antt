-- What the edits answer, and what they leave in the buffer (document 02, W4): "ASK also for L beyond the buffer (before all others)"; "Order:
-- the font's, 17, 14, 13, 24 or 25, 20, 21." And W6: "adding one is ASK."
use Rattle.std.specs.Prelude.{ℕ, ◌+◌, ◌-◌, List, ◌++◌, ltb, leb, length, take, replicate, Result, Err, Ok}
use Rattle.base.specs.Meaning.{pick}
use Rattle.base.specs.Reading.{when, over}
use Rattle.refusal.specs.Meaning.{refusal}
use Rattle.refusal.specs.declared.Reason.TheVariants.{Ask, NoTable, Size, Room, Have, NotThere}
use Rattle.coding.specs.declared.Coding.TheVariants.{Utf8}
use Rattle.token.specs.Reading.{is_noncharacter}
use Rattle.utf8.specs.Meaning.{utf8_bytes}
use Rattle.utf8.specs.Reading.{is_scalar}
use Rattle.header.specs.declared.Kind.TheVariants.{Psf2}
use Rattle.header.specs.declared.Font.{Font}
use Rattle.header.specs.Meaning.{limit}
use Rattle.stages.specs.Meaning.{tail_of}
use Rattle.conversion.specs.Reading.{opened_of}
use Rattle.moves.specs.Reading.{inserted, removed}
use Rattle.mapping.specs.declared.Mapping.{Mapping}
use Rattle.mapping.specs.Reading.{mapping_of}
use Rattle.refusal.specs.declared.Refusal.{Refusal}
use Rattle.mapping.specs.declared.Mapping.TheVariants.{Listed, Unlisted}

-- a place in a font's table as one in its file
abbrev pub sought_at : ℕ → Mapping → Result Mapping Refusal
sought_at end (Listed at next) = Ok (Listed (end + at) (end + next))
sought_at end (Unlisted at) = Ok (Unlisted (end + at))

-- 14 and 13 of a PSF2 font, or where its glyph g lists v as a single
unfoldable pub sought_on : List ℕ → ℕ → ℕ → Font → Result Mapping Refusal
sought_on s g v f =
    pick f.table
    (when (leb f.count g) (Err (refusal Ask 0))
    (when (is_scalar v) (sought_at f.end (mapping_of Utf8 g v (tail_of s f))) (Err (refusal Ask 0))))
    (Err (refusal NoTable 0))

-- behind the font's own refusal and 17
abbrev pub sought_in : List ℕ → ℕ → ℕ → Result Font Refusal → Result Mapping Refusal
sought_in s g v (Ok f) = sought_on s g v f
sought_in s g v (Err r) = Err r

-- in the first len bytes of a buffer
unfoldable pub sought_of : List ℕ → ℕ → ℕ → ℕ → Result Mapping Refusal
sought_of xs len g v = when (ltb (length xs) len) (Err (refusal Ask 0)) (sought_in (take len xs) g v (opened_of Psf2 (take len xs)))

-- the length of a font of len bytes with v added
abbrev pub longer : ℕ → ℕ → ℕ
longer len v = len + length (utf8_bytes v)

-- 20 and 21, for a buffer of so many bytes
unfoldable pub fitted : ℕ → ℕ → Result ℕ Refusal
fitted room need = when (ltb limit need) (Err (refusal Size 0)) (when (ltb room need) (Err (refusal Room need)) (Ok need))

-- adding v to a font of len bytes that does not list it: a noncharacter is ASK
unfoldable pub insert_answer : ℕ → ℕ → ℕ → Result ℕ Refusal
insert_answer room len v = when (is_noncharacter v) (Err (refusal Ask 0)) (fitted room (longer len v))

-- what adding v to a font of len bytes answers
abbrev pub adding : ℕ → ℕ → ℕ → Result Mapping Refusal → Result ℕ Refusal
adding room len v (Ok (Listed at next)) = Err (refusal Have 0)
adding room len v (Ok (Unlisted at)) = insert_answer room len v
adding room len v (Err r) = Err r

-- what dropping answers
abbrev pub dropping : ℕ → Result Mapping Refusal → Result ℕ Refusal
dropping len (Ok (Listed at next)) = Ok (len - (next - at))
dropping len (Ok (Unlisted at)) = Err (refusal NotThere 0)
dropping len (Err r) = Err r

-- the font of bytes t with v added, or dropped and the bytes freed set to 0
abbrev pub inserted_at : ℕ → List ℕ → Result Mapping Refusal → List ℕ
inserted_at v t (Ok (Listed at next)) = t
inserted_at v t (Ok (Unlisted at)) = inserted at (utf8_bytes v) t
inserted_at v t (Err r) = t

abbrev pub removed_at : List ℕ → Result Mapping Refusal → List ℕ
removed_at t (Ok (Listed at next)) = removed at (next - at) t ++ replicate (next - at) 0
removed_at t (Ok (Unlisted at)) = t
removed_at t (Err r) = t

-- the buffer at the end: bytes laid over its front, or as it was
abbrev pub left_by : Result ℕ Refusal → List ℕ → List ℕ → List ℕ
left_by (Ok n) p xs = over p xs
left_by (Err r) p xs = xs

-- the two calls, on a font in the first len bytes of a buffer xs: the answers, and what is left in the buffer
unfoldable pub add_answer : List ℕ → ℕ → ℕ → ℕ → Result ℕ Refusal
add_answer xs len g v = adding (length xs) len v (sought_of xs len g v)

unfoldable pub add_into : List ℕ → ℕ → ℕ → ℕ → List ℕ
add_into xs len g v = left_by (add_answer xs len g v) (inserted_at v (take len xs) (sought_of xs len g v)) xs

unfoldable pub drop_answer : List ℕ → ℕ → ℕ → ℕ → Result ℕ Refusal
drop_answer xs len g v = dropping len (sought_of xs len g v)

unfoldable pub drop_into : List ℕ → ℕ → ℕ → ℕ → List ℕ
drop_into xs len g v = left_by (drop_answer xs len g v) (removed_at (take len xs) (sought_of xs len g v)) xs
