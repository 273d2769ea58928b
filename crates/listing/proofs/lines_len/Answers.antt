-- `listing::lines_len` meets its contract: the tail's lines, or none. Assumes nothing.
use native.Mathlib.Omega.{arith}
use mathlib.Core.Path.{◌≡◌, sym, ◌∙◌, ap}
use mathlib.Core.List.{List}
use Prim.Native.Nat.{ℕ}
use lib.ListN.{length, length-drop}
use Rattle.listing.proofs.Answers.{lines_table, lines_bare}
use borrow.Author.Rules.{rules}
use Rattle.listing.proofs.lines_len.Goals as goal

pub returns-then-f : goal.returns-then-f
returns-then-f c = (c.table_len.ensures.0 ∙ ap length (lines_table c.args.file.now c.args.f c.if-f.true _ c.coding_of.ensures _ c.tail_of.ensures), let n : length c.tail_of.result.now ≡ _ = ap (λ (x : List ℕ). length x) c.tail_of.ensures ∙ length-drop c.args.f.end c.args.file.now in omega (arith, n, c.table_len.ensures.1))

pub returns : goal.returns
returns c = (sym (ap length (lines_bare c.args.file.now c.args.f c.if-f.false)), omega arith)
