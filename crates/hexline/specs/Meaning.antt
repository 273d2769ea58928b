-- One line of hexadecimal (document 02, W2): "lines of hexadecimal, one frame a line: 0 to 128 upper-case digits, an even number, each
-- line one piece". A line of 2k digits is k bytes, the high digit of each first.
use Rattle.std.specs.Prelude.{ℕ, ◌/◌, ◌%◌, ◌≤◌, ◌≡◌, List, [], ◌∷◌, length, replicate, Option, Some}
use Rattle.base.specs.Meaning.{Bytes}
use Rattle.base.specs.Reading.{over}
use Rattle.text.specs.Reading.{digit_of}
use Rattle.hexline.specs.declared.Frame.{Frame}

-- the digits of bytes
abbrev pub spelled : List ℕ → List ℕ
spelled [] = []
spelled (b ∷ bs) = digit_of (b / 16) ∷ digit_of (b % 16) ∷ spelled bs

-- a line that is a frame of these bytes
abbrev pub IsFrame : List ℕ → List ℕ → Type 0
IsFrame line bs = (line ≡ spelled bs) × Bytes bs × (length bs ≤ 64)

-- a line that is no frame
abbrev pub NoFrame : List ℕ → Type 0
NoFrame line = (bs : List ℕ) → IsFrame line bs → ⊥

-- what is said of a frame of these bytes
abbrev pub good_frame : List ℕ → Option Frame
good_frame bs = Some (record { len = length bs; bytes = over bs (replicate 64 0) })
