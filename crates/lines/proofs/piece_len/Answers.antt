-- `lines::piece_len` meets its contract: the item's text, and the number in front of it where it is fresh. Assumes nothing.
use native.Mathlib.Omega.{arith}
use mathlib.Core.Path.{ap, sym, ◌∙◌}
use lib.ListN.{length}
use Rattle.text.proofs.Digits.{decimal_5}
use Rattle.lines.proofs.Pieces.{piece_fresh_length, piece_plain}
use borrow.Author.Rules.{rules}
use Rattle.lines.proofs.piece_len.Goals as goal

pub returns-then-fresh : goal.returns-then-fresh
returns-then-fresh c = let e = piece_fresh_length c.args.fresh c.args.g c.args.i c.if-fresh.true in (omega (arith, c.item_len-l.ensures.0, c.numeral_len.ensures.0), λ h. omega (arith, decimal_5 c.args.g h, c.item_len-l.ensures.1, c.numeral_len.ensures.0))

pub returns : goal.returns
returns c = (c.item_len-l.ensures.0 ∙ sym (ap length (piece_plain c.args.fresh c.args.g c.args.i c.if-fresh.false)), λ h. omega (arith, c.item_len-l.ensures.1))
