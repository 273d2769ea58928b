-- `listing::list` meets its contract: a text, the listing of a refused font or that of a sound one. Assumes nothing.
use native.Mathlib.Omega.{arith}
use mathlib.Core.Path.{sym, ◌∙◌, ap}
use lib.ListN.{length}
use Rattle.listing.proofs.Answers.{same_text, listing_big, listing_answer}
use borrow.Author.Rules.{rules}
use Rattle.listing.proofs.list.Goals as goal

pub list_font-requires : goal.list_font-requires
list_font-requires c = (rw c.in-Ok.is at c.check-a.ensures.bounded, omega arith)

pub returns-in-Ok : goal.returns-in-Ok
returns-in-Ok c = let e = listing_answer c.args.file.now _ c.if-file-gt65536.false (sym c.in-Ok.is ∙ c.check-a.ensures.equal) in record { equal = same_text _ _ _ _ _ e c.list_font.ensures.equal; bounded = omega (arith, ap length e, c.list_font.ensures.bounded) }

pub returns-in-Err : goal.returns-in-Err
returns-in-Err c = let e = listing_answer c.args.file.now _ c.if-file-gt65536.false (sym c.in-Err.is ∙ c.check-a.ensures.equal) in record { equal = same_text _ _ _ _ _ e c.list_refused.ensures.equal; bounded = omega (arith, ap length e, c.list_refused.ensures.bounded) }
