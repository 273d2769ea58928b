-- `listing::list_refused` meets its contract: the line is written and listed. Assumes nothing.
use native.Mathlib.Omega.{arith}
use mathlib.Core.Path.{sym, ◌∙◌, ap}
use lib.ListN.{length}
use Rattle.listing.proofs.Answers.{same_text, in_front}
use Rattle.words.specs.Meaning.{refused_text}
use borrow.Author.Rules.{rules}
use Rattle.listing.proofs.list_refused.Goals as goal

pub slice_bounds-list_text-end : goal.slice_bounds-list_text-end
slice_bounds-list_text-end c = c.put_refused-n.ensures.0 ∙ sym (ap length (in_front (refused_text c.args.r) _ _ _ c.put_refused-n.ensures.0 c.put_refused-n.ensures.1))

pub returns : goal.returns
returns c = record { equal = same_text _ _ _ _ _ (in_front (refused_text c.args.r) _ _ _ c.put_refused-n.ensures.0 c.put_refused-n.ensures.1) c.list_text.ensures; bounded = omega (arith, c.put_refused-n.ensures.0, c.put_refused-n.ensures.2) }
