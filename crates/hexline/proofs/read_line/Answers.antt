-- `hexline::read_line` meets its contract: at each turn what is left of the line is read behind the bytes so far. Assumes nothing.
use native.Mathlib.Omega.{arith}
use mathlib.Core.Path.{sym, ◌∙◌}
use lib.ListN.{length-set}
use Rattle.hexline.proofs.Steps.{fewer, goes_on, no_byte}
use Rattle.hexline.proofs.read_line.Goals as goal

pub returns-in_err-bytes-clause-equal : goal.returns-in_err-bytes-clause-equal
returns-in_err-bytes-clause-equal c =
    let s = c.in-Some.ensures.steps in
    c.from_residual.ensures ∙ sym (no_byte _ _ _ _ _ s.0.1.0 (s.0.1.1 ∙ c.loop-k.invariant.0) (sym c.pair_value.ensures ∙ c.in_err-bytes.was)) ∙ c.loop-k.invariant.3

pub loop-k-preserved : goal.loop-k-preserved
loop-k-preserved c =
    let s = c.in-Some.ensures.steps in
    let two = s.0.1.1 ∙ c.loop-k.invariant.0 in
    let n = fewer _ _ _ s.0.1.0 two in
    (s.0.0 ∙ c.loop-k.invariant.0, omega (arith, n, s.2), simp length-set c.loop-k.invariant.2, sym (goes_on _ _ _ _ _ s.0.1.0 two _ _ _ s.1 s.2 (sym c.pair_value.ensures ∙ c.in_ok-bytes.was)) ∙ c.loop-k.invariant.3)
