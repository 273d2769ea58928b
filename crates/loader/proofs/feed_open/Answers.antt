-- `loader::feed_open` meets its contract. Assumes an open record.
use native.Mathlib.Omega.{arith}
use mathlib.Core.Path.{◌∙◌}
use Rattle.loader.proofs.Opening.{opened}
use Rattle.loader.proofs.Cases.{too_long, grows_long, in_head, in_body}
use borrow.Author.Rules.{rules}
use Rattle.loader.proofs.feed_open.Goals as goal

pub returns-then-l-gt-LIMIT : goal.returns-then-l-gt-LIMIT
returns-then-l-gt-LIMIT c = too_long c.args.l c.args.piece.now (omega arith)

pub returns-then-l-piece : goal.returns-then-l-piece
returns-then-l-piece c = c.past_limit.ensures ∙ grows_long c.args.l c.args.piece.now (omega arith, omega arith)

pub feed_header-requires : goal.feed_header-requires
feed_header-requires c = let o = opened c.args.l c.requires in (omega arith, o.1 (omega arith), omega arith)

pub returns-then-l-lt32 : goal.returns-then-l-lt32
returns-then-l-lt32 c = c.feed_header.ensures ∙ in_head c.args.l c.args.piece.now (omega arith, omega arith, omega arith)

pub feed_body-requires : goal.feed_body-requires
feed_body-requires c = let o = opened c.args.l c.requires in ((omega arith, o.2 (omega arith)), λ h. absurd (omega arith))

pub returns : goal.returns
returns c = c.feed_body.ensures ∙ in_body c.args.l c.args.piece.now (omega arith, omega arith, omega arith)
