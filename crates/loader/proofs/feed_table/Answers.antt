-- `loader::feed_table` meets its contract. Assumes a piece within the file limit, and few bytes held.
use native.Mathlib.Omega.{arith}
use mathlib.Core.Path.{◌≡◌, sym, ◌∙◌, ap}
use lib.ListN.{length}
use mathlib.Core.List.{List}
use Prim.Native.Nat.{ℕ}
use borrow.Author.Tests.{not-true, not-false}
use Rattle.header.specs.Meaning.{limit}
use Rattle.unfinished.proofs.Holding.{none_len}
use Rattle.loader.proofs.Parting.{part_later, part_begins}
use Rattle.loader.proofs.Cases.{no_tail, no_table, table_on, table_first}
use borrow.Author.Rules.{rules}
use borrow.Author.Tests.{eqb-true, eqb-false}
use Rattle.loader.proofs.feed_table.Goals as goal

pub returns-then-is_empty : goal.returns-then-is_empty
returns-then-is_empty c = no_tail c.args.f c.args.total c.args.h c.args.t c.args.piece.now _ c.part-s.ensures (eqb-true _ _ (sym c.is_empty.ensures ∙ c.if-is_empty.true))

pub returns-then-not-f : goal.returns-then-not-f
returns-then-not-f c = no_table c.args.f c.args.total c.args.h c.args.t c.args.piece.now _ c.part-s.ensures (eqb-false _ _ (sym c.is_empty.ensures ∙ c.if-is_empty.false)) (not-true _ c.if-not-f.true)

pub feed-requires : goal.feed-requires
feed-requires c = let k = part_later c.args.total c.args.f.end limit c.args.piece.now in let j : length c.part-s.result.now ≡ _ = ap (λ (x : List ℕ). length x) c.part-s.ensures in let p = c.requires in (omega (arith, p.1.1), omega (arith, p.0, p.1.1), omega (arith, p.1.0))

pub returns-then-f-total : goal.returns-then-f-total
returns-then-f-total c = table_on c.args.f c.args.total c.args.h c.args.t c.args.piece.now _ c.part-s.ensures (eqb-false _ _ (sym c.is_empty.ensures ∙ c.if-is_empty.false)) (not-false _ c.if-not-f.false) (omega arith) _ c.coding_of-c.ensures _ c.feed.ensures

pub feed-requires-2 : goal.feed-requires-2
feed-requires-2 c = let n = none_len _ c.none.ensures in let p = c.requires in let j : length c.part-s.result.now ≡ _ = ap (λ (x : List ℕ). length x) c.part-s.ensures in let k = part_begins c.args.total c.args.f.end limit c.args.piece.now (omega arith) (λ z. (eqb-false _ _ (sym c.is_empty.ensures ∙ c.if-is_empty.false)) (j ∙ z)) in (omega arith, omega (arith, p.0), omega (arith, j, k, p.1.0))

pub returns : goal.returns
returns c = table_first c.args.f c.args.total c.args.h c.args.t c.args.piece.now _ c.part-s.ensures (eqb-false _ _ (sym c.is_empty.ensures ∙ c.if-is_empty.false)) (not-false _ c.if-not-f.false) (omega arith) _ c.coding_of-c.ensures _ c.none.ensures _ c.feed-2.ensures
