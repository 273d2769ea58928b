-- `table::utf8_refused` meets its contract: the reader of a value says why. Assumes nothing.
use mathlib.Core.Path.{sym, ◌∙◌, ap}
use native.Mathlib.Omega.{arith}
use lib.ListN.{length, drop, length-drop}
use Rattle.base.proofs.Parts.{rest_all}
use Rattle.utf8.specs.Reading.{read_value}
use Rattle.utf8.proofs.Sizes.{bad_within}
use Rattle.std.specs.Prelude.{Err}
use Rattle.token.specs.declared.Malformed.{Malformed}
use Rattle.table.proofs.Plainly.{said, utf8_said}
use Rattle.table.proofs.utf8_refused.Goals as goal

pub overflow_add-result : goal.overflow_add-result
overflow_add-result c = let w = rw (sym (c.read_value-r.ensures ∙ ap read_value (rest_all c.args.s.now c.args.at)) ∙ c.in-Err.is ∙ ap (λ (t : Malformed). Err t) c.in-Bad.is) at (bad_within (drop c.args.at c.args.s.now)) in
    omega (arith, w, length-drop c.args.at c.args.s.now)

pub returns-in-Ok : goal.returns-in-Ok
returns-in-Ok c = ap (said _ _ _) (sym c.in-Ok.is ∙ c.read_value-r.ensures ∙ ap read_value (rest_all c.args.s.now c.args.at)) ∙ utf8_said c.args.s.now c.args.g c.args.at c.requires.1 c.requires.0

pub returns-in-Cut : goal.returns-in-Cut
returns-in-Cut c = ap (said (length c.args.s.now) c.args.g c.args.at) (sym (c.in-Err.is ∙ ap (λ (t : Malformed). Err t) c.in-Cut.is) ∙ c.read_value-r.ensures ∙ ap read_value (rest_all c.args.s.now c.args.at)) ∙ utf8_said c.args.s.now c.args.g c.args.at c.requires.1 c.requires.0

pub returns-in-Bad : goal.returns-in-Bad
returns-in-Bad c = ap (said (length c.args.s.now) c.args.g c.args.at) (sym (c.in-Err.is ∙ ap (λ (t : Malformed). Err t) c.in-Bad.is) ∙ c.read_value-r.ensures ∙ ap read_value (rest_all c.args.s.now c.args.at)) ∙ utf8_said c.args.s.now c.args.g c.args.at c.requires.1 c.requires.0
