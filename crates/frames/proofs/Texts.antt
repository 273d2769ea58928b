-- A line of output: the text stands in front.
use mathlib.Core.Path.{◌≡◌}
use mathlib.Core.List.{List}
use Prim.Native.Nat.{ℕ}
use lib.ListN.{length, take, drop, replicate}
use lib.Seq.{take-append_seam}
use Rattle.base.specs.Reading.{over}
use Rattle.frames.specs.Meaning.{output_of}

-- what is written is the text
pub text_in_front : (text : List ℕ) → take (output_of text).len (output_of text).bytes ≡ text
unfolding over
text_in_front text = take-append_seam text (drop (length text) (replicate 96 0))
