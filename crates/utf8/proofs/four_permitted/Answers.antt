-- `utf8::four_permitted` meets its contract: by its place in the plane. Assumes nothing but what it asks.
use native.Mathlib.Omega.{arith}
use mathlib.Core.Logic.{inl, inr}
use Rattle.utf8.proofs.Plain.{four_free, four_last}
use Rattle.utf8.proofs.four_permitted.Goals as goal

pub returns-then-y-lt191 : goal.returns-then-y-lt191
returns-then-y-lt191 c = four_free c.args.b c.args.x c.args.y c.args.z (omega arith) (inr (inl (omega arith)))

pub returns-then-x-lt15 : goal.returns-then-x-lt15
returns-then-x-lt15 c = four_free c.args.b c.args.x c.args.y c.args.z (omega arith) (inr (inr (omega arith)))

pub returns : goal.returns
returns c = four_last c.args.b c.args.x c.args.y c.args.z (omega arith)
