-- `conversion::first_uneven` meets its contract: the entries passed are even. Assumes that the entries stand in the file.
use native.Mathlib.Omega.{arith}
use mathlib.Core.Path.{◌≡◌, refl, sym, ◌∙◌}
use Prim.Native.Nat.{◌+◌, ◌-◌}
use Rattle.conversion.proofs.Cases as cases
use Rattle.conversion.proofs.first_uneven.Goals as goal

pub loop-i-preserved : goal.loop-i-preserved
loop-i-preserved c = let e : c.args.n - (c.loop-i.i + 1) ≡ c.args.n - c.loop-i.i - 1 = omega arith in rw e (sym (cases.even_next c.args.file.now c.args.height c.args.width c.args.start c.loop-i.i _ refl (c.args.n - c.loop-i.i) (omega arith) (sym c.is_even.ensures ∙ c.if-not-is_even.false)) ∙ c.loop-i.invariant)

pub returns-then-not-is_even : goal.returns-then-not-is_even
returns-then-not-is_even c = sym (cases.at_uneven c.args.file.now c.args.height c.args.width c.args.start c.loop-i.i _ refl (c.args.n - c.loop-i.i) (omega arith) (sym c.is_even.ensures ∙ c.if-not-is_even.true)) ∙ c.loop-i.invariant

pub returns : goal.returns
returns c = sym (cases.all_even c.args.file.now c.args.height c.args.width c.args.start (c.args.n - c.loop-i.i) c.loop-i.i (omega arith)) ∙ c.loop-i.invariant
