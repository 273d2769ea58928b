-- `loader::feed_font` meets its contract. Assumes a piece within the file limit, and few bytes held.
use native.Mathlib.Omega.{arith}
use Rattle.loader.proofs.Cases.{font_fed_lem}
use Rattle.loader.proofs.Shortness.{entries_short}
use borrow.Author.Rules.{rules}
use Rattle.loader.proofs.feed_font.Goals as goal

pub feed_table-t-requires : goal.feed_table-t-requires
feed_table-t-requires c = let l = entries_short _ _ _ _ c.args.piece.now _ c.feed_entries-e.ensures (omega arith) in (c.requires.0.2, (omega arith, l))

pub returns : goal.returns
returns c = font_fed_lem c.args.l c.args.piece.now _ _ _ c.feed_entries-e.ensures c.feed_table-t.ensures
