-- The end of a line: a piece more, or the first bad line.
use mathlib.Core.Path.{◌≡◌, sym, ◌∙◌, ap}
use Prim.Native.Nat.{ℕ}
use lib.ListN.{take}
use Rattle.std.specs.Prelude.{Option, Some, None}
use Rattle.hexline.specs.declared.Frame.{Frame}
use Rattle.loader.specs.declared.Loader.{Loader}
use Rattle.loader.specs.Reading.{fed_of as pieceFed}
use Rattle.frames.specs.declared.Frames.{Frames}
use Rattle.frames.specs.Reading.{counted_of, held_frame, after_line, ended_of, took_of}

-- the state behind a line
abbrev pub fed_line : Frames → Loader → ℕ → Frames
fed_line f l n = record { loader = l; line = f.line; len = 0; ended = n; bad = f.bad; taken = f.taken }

abbrev pub bad_line : Frames → ℕ → Frames
bad_line f n = record { loader = f.loader; line = f.line; len = 0; ended = n; bad = Some n; taken = f.taken }

module _ (f : Frames) (n : ℕ) (q : n ≡ counted_of f.ended) where
  after : (x : Option Frame) → held_frame f.line f.len ≡ x → after_line f x n ≡ ended_of f
  unfolding ended_of
  after x p = ap (λ (y : Option Frame). after_line f y n) (sym p) ∙ ap (λ (m : ℕ). after_line f (held_frame f.line f.len) m) q

  pub good_ended : (g : Frame) (l : Loader) → held_frame f.line f.len ≡ Some g → l ≡ pieceFed f.loader (take g.len g.bytes) → fed_line f l n ≡ ended_of f
  good_ended g l p e = ap (λ (x : Loader). fed_line f x n) e ∙ after (Some g) p

  pub bad_ended : held_frame f.line f.len ≡ None → bad_line f n ≡ ended_of f
  bad_ended p = after None p

-- one byte more
pub took_as : (f : Frames) (n : ℕ) → n ≡ counted_of f.taken → record { loader = f.loader; line = f.line; len = f.len; ended = f.ended; bad = f.bad; taken = n } ≡ took_of f
took_as f n e = λ i. record { loader = f.loader; line = f.line; len = f.len; ended = f.ended; bad = f.bad; taken = e i }
