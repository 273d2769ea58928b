-- The state of the input, byte by byte, and what is answered where it ends.
use Rattle.std.specs.Prelude.{ℕ, ◌+◌, List, [], ◌∷◌, ltb, eqb, replicate, set, take, Option, Some, None, is_some, Result, Ok, Err}
use Rattle.base.specs.Reading.{when}
use Rattle.refusal.specs.declared.Reason.TheVariants.{Line}
use Rattle.refusal.specs.Meaning.{refusal}
use Rattle.hexline.specs.declared.Frame.{Frame}
use Rattle.hexline.specs.Reading.{frame_of}
use Rattle.loader.specs.Reading.{fresh_of as no_piece, fed_of as pieceFed, close_answer}
use Rattle.loader.specs.declared.Loader.{Loader}
use Rattle.frames.specs.declared.Frames.{Frames}
use Rattle.frames.specs.declared.Failure.{Failure}
use Rattle.header.specs.declared.Font.{Font}
use Rattle.refusal.specs.declared.Refusal.{Refusal}
use Rattle.frames.specs.declared.Failure.TheVariants.{Refused, TooBig}

-- one more, up to one more than the limit
unfoldable pub counted_of : ℕ → ℕ
counted_of n = when (ltb n 4194305) (n + 1) n

-- before any input
unfoldable pub fresh_of : Frames
fresh_of = record { loader = no_piece; line = replicate 128 0; len = 0; ended = 0; bad = None; taken = 0 }

-- the line that is held; no frame where it is a bad one
unfoldable pub held_frame : List ℕ → ℕ → Option Frame
held_frame line len = when (ltb 128 len) None (frame_of (take len line))

-- a line ended as the n-th: its bytes are one piece, or it is bad
abbrev pub after_line : Frames → Option Frame → ℕ → Frames
after_line f (Some g) n = record { loader = pieceFed f.loader (take g.len g.bytes); line = f.line; len = 0; ended = n; bad = f.bad; taken = f.taken }
after_line f None n = record { loader = f.loader; line = f.line; len = 0; ended = n; bad = Some n; taken = f.taken }

unfoldable pub ended_of : Frames → Frames
ended_of f = after_line f (held_frame f.line f.len) (counted_of f.ended)

-- one more character of a line
unfoldable pub with_of : Frames → ℕ → Frames
with_of f b =
    when (ltb f.len 128)
    (record { loader = f.loader; line = set f.line f.len b; len = f.len + 1; ended = f.ended; bad = f.bad; taken = f.taken })
    (record { loader = f.loader; line = f.line; len = 129; ended = f.ended; bad = f.bad; taken = f.taken })

-- one more byte taken
abbrev pub took_of : Frames → Frames
took_of f = record { loader = f.loader; line = f.line; len = f.len; ended = f.ended; bad = f.bad; taken = counted_of f.taken }

-- one byte: behind a bad line nothing is read, and behind the limit it is only counted
unfoldable pub byte_of : Frames → ℕ → Frames
byte_of f b =
    when (is_some f.bad) f
    (when (ltb f.taken 4194304) (when (eqb b 10) (ended_of (took_of f)) (with_of (took_of f) b))
    (took_of f))

-- a chunk
unfoldable pub fed_of : Frames → List ℕ → Frames
fed_of f [] = f
fed_of f (b ∷ s) = fed_of (byte_of f b) s

-- what the loader answers
abbrev pub answered_of : Result Font Refusal → Result (Unit {0}) Failure
answered_of (Ok f) = Ok tt
answered_of (Err r) = Err (Refused r)

-- the answer where all lines are ended: the first bad one comes first
abbrev pub last_by : Loader → Option ℕ → Result (Unit {0}) Failure
last_by l (Some n) = Err (Refused (refusal Line n))
last_by l None = answered_of (close_answer l)

unfoldable pub last_of : Frames → Result (Unit {0}) Failure
last_of f = last_by f.loader f.bad

-- the answer where the input ends: what is left is the last line, unless there was more than the limit
unfoldable pub closed_of : Frames → Result (Unit {0}) Failure
closed_of f = when (is_some f.bad) (last_of f) (when (ltb 4194304 f.taken) (Err TooBig) (last_of (ended_of f)))
