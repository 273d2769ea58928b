-- `stages::check_dispatch` meets its contract: what all entries say. Assumes `Placed`, of a vfont2 font.
use native.Mathlib.Omega.{arith}
use mathlib.Core.Path.{sym, ◌∙◌, ap, subst}
use Prim.Native.Nat.{◌≤◌}
use Rattle.header.specs.declared.Kind.{Kind}
use Rattle.header.specs.Bounds.{KindPlaced}
use Rattle.entries.proofs.Meaning.{scan_broken}
use Rattle.stages.specs.Reading.{scanned}
use borrow.Author.Rules.{rules}
use Rattle.stages.proofs.check_dispatch.Goals as goal
use Rattle.std.specs.Prelude.{Err}

pub scan_entries-s-requires : goal.scan_entries-s-requires
scan_entries-s-requires c = let p = c.requires.0 in let d = subst (λ (k : Kind). KindPlaced c.args.f k) c.requires.1 p.8 in omega (arith, d.0, p.6, p.7)

pub overflow_mul-i : goal.overflow_mul-i
overflow_mul-i c = let w = (scan_broken c.args.file.now c.args.f.size c.args.f.count c.args.f.entries c.in-Err.i (sym c.scan_entries-s.ensures ∙ c.in-Err.is)).within in let n : c.args.f.count ≤ 4096 = c.requires.0.2 in omega (arith, w)

pub overflow_add-f : goal.overflow_add-f
overflow_add-f c = let w = (scan_broken c.args.file.now c.args.f.size c.args.f.count c.args.f.entries c.in-Err.i (sym c.scan_entries-s.ensures ∙ c.in-Err.is)).within in let n : c.args.f.count ≤ 4096 = c.requires.0.2 in omega (arith, w, c.requires.0.0, c.requires.0.5, c.requires.0.6, c.requires.0.7)

pub returns-in-Err : goal.returns-in-Err
returns-in-Err c = ap Err c.refuse_at.ensures ∙ ap (scanned c.args.f) (sym c.in-Err.is ∙ c.scan_entries-s.ensures)

pub returns-in-Ok : goal.returns-in-Ok
returns-in-Ok c = c.check_greatest.ensures ∙ ap (scanned c.args.f) (sym c.in-Ok.is ∙ c.scan_entries-s.ensures)
