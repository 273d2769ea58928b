-- `text::put_value` meets its contract: the byte stands in front, and the value behind it. Assumes nothing.
use native.Mathlib.Omega.{arith}
use mathlib.Core.List.{[], ◌∷◌}
use Rattle.text.proofs.Putting.{first_stands, behind_stands}
use Rattle.text.specs.Reading.{numeral}
use Rattle.text.proofs.put_value.Goals as goal

pub returns : goal.returns
returns c = let a = c.args in
    let h = c.requires in
    let s = first_stands (a.lead ∷ []) a.out.now c.put_byte-a.new.out c.put_byte-a.result (omega (arith, h)) c.put_byte-a.ensures in
    let r = behind_stands (a.lead ∷ []) (numeral 16 a.v) a.out.now _ _ s (omega (arith, h)) _ _ c.put_numeral-l.ensures in
    (r.0, r.2)
