-- `listing::put_lines` meets its contract: the tail's lines, or none. Assumes nothing.
use native.Mathlib.Omega.{arith}
use mathlib.Core.Path.{sym, ◌∙◌, ap}
use mathlib.Core.List.{List}
use Prim.Native.Nat.{ℕ}
use lib.ListN.{length}
use Rattle.listing.proofs.Answers.{lines_table, lines_bare}
use Rattle.base.proofs.Over.{over_none}
use Rattle.base.specs.Reading.{over}
use borrow.Author.Rules.{rules}
use Rattle.listing.proofs.put_lines.Goals as goal

pub put_table-requires : goal.put_table-requires
put_table-requires c = let e = ap length (lines_table c.args.file.now c.args.f c.if-f.true _ c.coding_of.ensures _ c.tail_of.ensures) in omega (arith, e, c.requires.1)

pub returns-then-f : goal.returns-then-f
returns-then-f c = c.put_table.ensures ∙ ap (λ (z : List ℕ). over z c.args.out.now) (lines_table c.args.file.now c.args.f c.if-f.true _ c.coding_of.ensures _ c.tail_of.ensures)

pub returns-else-f : goal.returns-else-f
returns-else-f c = over_none c.args.out.now ∙ sym (ap (λ (z : List ℕ). over z c.args.out.now) (lines_bare c.args.file.now c.args.f c.if-f.false))
