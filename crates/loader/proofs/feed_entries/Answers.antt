-- `loader::feed_entries` meets its contract. Assumes a piece within the file limit, and few bytes held, none in the first 32 bytes.
use native.Mathlib.Omega.{arith}
use mathlib.Core.Path.{◌≡◌, sym, ◌∙◌, ap}
use lib.ListN.{length}
use mathlib.Core.List.{List}
use mathlib.Core.Logic.{⊎_elim}
use Prim.Native.Nat.{ℕ, ◌<◌, ◌≤◌}
use Rattle.base.proofs.Tests.{below}
use Rattle.unfinished.proofs.Holding.{none_len}
use Rattle.loader.proofs.Parting.{part_later, part_begins}
use Rattle.loader.proofs.Cases.{no_entries, entries_on, entries_first}
use borrow.Author.Rules.{rules}
use borrow.Author.Tests.{eqb-true, eqb-false}
use Rattle.loader.proofs.feed_entries.Goals as goal

pub returns-then-is_empty : goal.returns-then-is_empty
returns-then-is_empty c = no_entries c.args.f c.args.total c.args.h c.args.x c.args.piece.now _ c.part-s.ensures (eqb-true _ _ (sym c.is_empty.ensures ∙ c.if-is_empty.true))

pub feed-requires : goal.feed-requires
feed-requires c = let k = part_later c.args.total c.args.f.entries c.args.f.bitmaps c.args.piece.now in let j : length c.part-s.result.now ≡ _ = ap (λ (x : List ℕ). length x) c.part-s.ensures in let i = c.requires.2 in (omega arith, ⊎_elim (λ (w : c.args.total < 32). omega (arith, i w)) (λ (w : 32 ≤ c.args.total). omega arith) (below c.args.total 32), omega arith)

pub returns-then-f-total : goal.returns-then-f-total
returns-then-f-total c = entries_on c.args.f c.args.total c.args.h c.args.x c.args.piece.now _ c.part-s.ensures (eqb-false _ _ (sym c.is_empty.ensures ∙ c.if-is_empty.false)) (omega arith) _ c.feed.ensures

pub feed-requires-2 : goal.feed-requires-2
feed-requires-2 c = let n = none_len _ c.none.ensures in let j : length c.part-s.result.now ≡ _ = ap (λ (x : List ℕ). length x) c.part-s.ensures in let k = part_begins c.args.total c.args.f.entries c.args.f.bitmaps c.args.piece.now (omega arith) (λ z. (eqb-false _ _ (sym c.is_empty.ensures ∙ c.if-is_empty.false)) (j ∙ z)) in (omega arith, omega arith, omega arith)

pub returns : goal.returns
returns c = entries_first c.args.f c.args.total c.args.h c.args.x c.args.piece.now _ c.part-s.ensures (eqb-false _ _ (sym c.is_empty.ensures ∙ c.if-is_empty.false)) (omega arith) _ c.none.ensures _ c.feed-2.ensures
