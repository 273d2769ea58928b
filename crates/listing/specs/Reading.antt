-- The listing of a file, and what a call leaves in a buffer.
use Rattle.std.specs.Prelude.{ℕ, List, [], ◌++◌, ltb, length, Result, Ok, Err}
use Rattle.base.specs.Meaning.{pick}
use Rattle.base.specs.Reading.{over, when}
use Rattle.refusal.specs.declared.Reason.TheVariants.{Room}
use Rattle.refusal.specs.Meaning.{refusal}
use Rattle.header.specs.declared.Font.{Font}
use Rattle.lines.specs.Reading.{table_text}
use Rattle.stages.specs.Meaning.{coding_of, tail_of}
use Rattle.stages.specs.Reading.{check_of}
use Rattle.words.specs.Meaning.{refused_text, big_text}
use Rattle.listing.specs.Meaning.{first_line}
use Rattle.refusal.specs.declared.Refusal.{Refusal}

-- the lines after the first; "A bare font has that line only."
unfoldable pub lines_text : List ℕ → Font → List ℕ
lines_text s f = pick f.table (table_text (coding_of f.kind) (tail_of s f)) []

-- the first line, and the lines after it
unfoldable pub font_text : List ℕ → Font → List ℕ
font_text s f = first_line f ++ lines_text s f

-- what the check answers, as text
abbrev pub answer_text : List ℕ → Result Font Refusal → List ℕ
answer_text s (Ok f) = font_text s f
answer_text s (Err r) = refused_text r

-- "a file of up to 65,536 bytes"; "Longer input writes `too big`", whatever it holds
unfoldable pub listing_of : List ℕ → List ℕ
listing_of s = when (ltb 65536 (length s)) big_text (answer_text s (check_of s))

-- what a call that lists a text into a buffer of so many bytes answers
unfoldable pub listed_of : List ℕ → ℕ → Result ℕ Refusal
listed_of text room = when (ltb room (length text)) (Err (refusal Room (length text))) (Ok (length text))

-- and what it leaves in the buffer
unfoldable pub left_of : List ℕ → List ℕ → List ℕ
left_of text xs = when (ltb (length xs) (length text)) xs (over text xs)
