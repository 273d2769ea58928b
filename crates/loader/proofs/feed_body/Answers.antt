-- `loader::feed_body` meets its contract. Assumes a piece within the file limit, and few bytes held.
use mathlib.Core.Path.{sym, ◌∙◌, ap}
use Rattle.header.proofs.Front.{parts}
use Rattle.loader.specs.Reading.{said_fed}
use Rattle.loader.proofs.Cases.{said_fed_lem}
use borrow.Author.Rules.{rules}
use Rattle.loader.proofs.feed_body.Goals as goal
use Rattle.std.specs.Prelude.{Result}
use Rattle.header.specs.declared.Font.{Font}
use Rattle.refusal.specs.declared.Refusal.{Refusal}

pub feed_font-requires : goal.feed_font-requires
feed_font-requires c = (parts _ _ (sym c.describes-c.ensures ∙ c.in-Ok.is), c.requires.0, c.requires.1)

pub returns-in-Ok : goal.returns-in-Ok
returns-in-Ok c = said_fed_lem c.args.l c.args.piece.now _ c.describes-c.ensures _ (c.feed_font.ensures ∙ ap (λ (x : Result Font Refusal). said_fed x c.args.l c.args.piece.now) (sym c.in-Ok.is))

pub returns-in-Err : goal.returns-in-Err
returns-in-Err c = said_fed_lem c.args.l c.args.piece.now _ c.describes-c.ensures _ (ap (λ (x : Result Font Refusal). said_fed x c.args.l c.args.piece.now) (sym c.in-Err.is))
