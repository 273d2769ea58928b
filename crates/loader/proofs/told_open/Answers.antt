-- `loader::told_open` meets its contract. Assumes an open record.
use native.Mathlib.Omega.{arith}
use mathlib.Core.Path.{◌≡◌, sym, ◌∙◌, ap}
use Rattle.stages.specs.Reading.{and_then}
use lib.ListN.{length, length-map}
use lib.Seq.{length-take-le}
use Rattle.loader.specs.Reading.{font_told}
use Rattle.loader.proofs.Opening.{opened}
use Rattle.loader.proofs.Cases.{answer_long, answer_short, answer_whole}
use Rattle.base.proofs.Handed.{handed_on}
use borrow.Author.Rules.{rules}
use Rattle.loader.proofs.told_open.Goals as goal
use Rattle.std.specs.Prelude.{Result, Err}
use Rattle.header.specs.declared.Font.{Font}
use Rattle.refusal.specs.declared.Refusal.{Refusal}

pub returns-then-l-gt-LIMIT : goal.returns-then-l-gt-LIMIT
returns-then-l-gt-LIMIT c = ap Err c.refuse.ensures ∙ answer_long c.args.l (omega arith)

pub slice_bounds-bytes-end : goal.slice_bounds-bytes-end
slice_bounds-bytes-end c = let w : length c.args.l.held.bytes ≡ 32 = c.well_formed.0.1.1.1.1.1.0.1.1.1.0.1.0.1 in let o = (opened c.args.l c.requires).1 (omega arith) in omega arith

pub slice_bounds-check-end : goal.slice_bounds-check-end
slice_bounds-check-end c = let w : length c.args.l.held.bytes ≡ 32 = c.well_formed.0.1.1.1.1.1.0.1.1.1.0.1.0.1 in let o = (opened c.args.l c.requires).1 (omega arith) in sym (length-take-le c.args.l.held.len c.args.l.held.bytes (omega arith))

pub returns-then-l-lt32 : goal.returns-then-l-lt32
returns-then-l-lt32 c = c.check.ensures.equal ∙ answer_short c.args.l (omega arith, omega arith)

pub returns-in_err-f : goal.returns-in_err-f
returns-in_err-f c = handed_on c.from_residual.result _ _ c.from_residual.ensures.1 (ap (λ (x : Result Font Refusal). and_then x (λ f. font_told f c.args.l)) (sym c.in_err-f.was ∙ c.describes.ensures) ∙ answer_whole c.args.l (omega arith, omega arith))

pub returns : goal.returns
returns c = c.told_font.ensures ∙ ap (λ (x : Result Font Refusal). and_then x (λ f. font_told f c.args.l)) (sym c.in_ok-f.was ∙ c.describes.ensures) ∙ answer_whole c.args.l (omega arith, omega arith)
