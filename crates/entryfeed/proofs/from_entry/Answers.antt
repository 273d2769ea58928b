-- `entryfeed::from_entry` meets its contract. Assumes a start in the part, and a part within the file limit.
use native.Mathlib.Omega.{arith}
use mathlib.Core.Path.{◌∙◌, ap}
use Rattle.base.proofs.Parts.{rest_all}
use Rattle.unfinished.specs.Reading.{held_of}
use Rattle.entryfeed.proofs.Feeding.{from_start}
use Rattle.entryfeed.proofs.from_entry.Goals as goal

pub returns : goal.returns
returns c = from_start _ _ _ c.args.part.now _ _ _ (omega arith) (c.hold.ensures ∙ ap held_of (rest_all c.args.part.now _)) c.more_sums.ensures
