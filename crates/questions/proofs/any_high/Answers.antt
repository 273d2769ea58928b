-- `questions::any_high` meets its contract: the library's test of all values is this one. Assumes nothing.
use mathlib.Core.Path.{◌∙◌}
use Rattle.std.proofs.Common.{rules, tests}
use Rattle.std.proofs.lemmas.Iterator.{YieldsList-from_slice}
use Rattle.std.proofs.lemmas.Iterator.Search.{any_from_yields_List}
use lib.Dec.{ltb}
use Rattle.questions.proofs.Answers.{high_listed}
use Rattle.questions.proofs.any_high.Goals as goal

pub returns : goal.returns
returns c =
    any_from_yields_List (ltb 0x10FFFF) _ _ c.any.result c.any.ensures.ran (YieldsList-from_slice c.args.vs.now cc) (λ x b q k. search (rules, tests))
    ∙ high_listed c.args.vs.now
