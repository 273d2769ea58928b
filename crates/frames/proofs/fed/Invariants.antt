use mathlib.Core.Path.{◌≡◌}
use lib.ListN.{drop}
use Rattle.frames.specs.Reading.{fed_of}
use Rattle.frames.proofs.Chars.{holding}
use Rattle.frames.proofs.fed.Given as goal

abbrev pub invariant-loop-b : goal.invariant-loop-b
invariant-loop-b l = fed_of (holding l.state l.line l.len l.taken) (drop l.b-index l.chunk) ≡ fed_of l.initial.state l.chunk
