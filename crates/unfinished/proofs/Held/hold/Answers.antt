-- `Held::hold` meets its contract. Assumes that the bytes fit.
use native.Mathlib.Omega.{arith}
use mathlib.Core.Path.{◌≡◌, ◌∙◌, ap}
use Rattle.unfinished.specs.declared.Held.{Held}
use Rattle.unfinished.specs.Reading.{put_of}
use Rattle.unfinished.proofs.Holding.{none_len, put_none}
use Rattle.unfinished.proofs.Held.hold.Goals as goal

pub put-requires : goal.put-requires
put-requires c = let e : c.none.result.len ≡ 0 = none_len _ c.none.ensures in omega arith

pub returns : goal.returns
returns c = let a = c.args in
    c.put.ensures.equal ∙ ap (λ (h : Held). put_of h a.s.now) c.none.ensures ∙ put_none a.s.now
