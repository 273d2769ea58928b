-- Inputs that are answered by computing: a letter in lower case, an odd line, a carriage return.
use mathlib.Core.Path.{◌≡◌, refl}
use mathlib.Core.List.{[], ◌∷◌}
use Rattle.base.specs.Reading.{when}
use Rattle.refusal.specs.declared.Reason.TheVariants.{Line}
use Rattle.refusal.specs.Meaning.{refusal}
use Rattle.hexline.specs.Reading.{hex_value, pair_value, bytes_from, frame_of}
use Rattle.frames.specs.Reading.{counted_of, fresh_of, held_frame, ended_of, with_of, byte_of, fed_of, last_of, closed_of}
use Rattle.std.specs.Prelude.{Err}
use Rattle.frames.specs.declared.Failure.TheVariants.{Refused}

-- `7F`, `0a`, `0`
pub lower_case : closed_of (fed_of fresh_of (55 ∷ 70 ∷ 10 ∷ 48 ∷ 97 ∷ 10 ∷ 48 ∷ [])) ≡ Err (Refused (refusal Line 2))
unfolding when hex_value pair_value bytes_from frame_of counted_of fresh_of held_frame ended_of with_of byte_of fed_of last_of closed_of
lower_case = refl

-- an empty line, `0`, with no newline behind it
pub odd_line : closed_of (fed_of fresh_of (10 ∷ 48 ∷ [])) ≡ Err (Refused (refusal Line 2))
unfolding when hex_value pair_value bytes_from frame_of counted_of fresh_of held_frame ended_of with_of byte_of fed_of last_of closed_of
odd_line = refl

-- `7F` and a carriage return
pub carriage_return : closed_of (fed_of fresh_of (55 ∷ 70 ∷ 13 ∷ 10 ∷ [])) ≡ Err (Refused (refusal Line 1))
unfolding when hex_value pair_value bytes_from frame_of counted_of fresh_of held_frame ended_of with_of byte_of fed_of last_of closed_of
carriage_return = refl
