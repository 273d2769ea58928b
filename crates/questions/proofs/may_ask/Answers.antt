-- `questions::may_ask` meets its contract: not empty, and no value above 10FFFF. Assumes nothing.
use mathlib.Core.Path.{sym, ◌∙◌}
use borrow.Author.Rules.{rules}
use borrow.Author.Tests.{eqb-false}
use Rattle.questions.proofs.Answers.{ask_empty, ask_some}
use Rattle.questions.proofs.may_ask.Goals as goal

pub returns : goal.returns
returns c = ask_some c.args.vs.now (eqb-false _ _ (sym c.is_empty.ensures ∙ c.if-is_empty.false)) _ c.any_high.ensures
