-- `conversion::suits_psf2` meets its contract: the first entry that is not even. Assumes `Placed`, of a vfont2 font.
use native.Mathlib.Omega.{arith}
use mathlib.Core.Path.{sym, ◌∙◌, ap, subst}
use Prim.Native.Nat.{◌≤◌}
use Rattle.conversion.proofs.Cases as cases
use Rattle.header.specs.declared.Kind.{Kind}
use Rattle.header.specs.Bounds.{KindPlaced}
use Rattle.conversion.specs.Reading.{even_suits}
use Rattle.conversion.proofs.suits_psf2.Goals as goal
use Rattle.std.specs.Prelude.{Err}

pub first_uneven-e-requires : goal.first_uneven-e-requires
first_uneven-e-requires c = let p = c.requires.0 in let d = subst (λ (k : Kind). KindPlaced c.args.f k) c.requires.1 p.8 in (omega (arith, d.0, p.6, p.7), p.3, p.4)

pub overflow_mul-i : goal.overflow_mul-i
overflow_mul-i c = let w = cases.uneven_within c.args.file.now c.args.f.height c.args.f.width c.args.f.entries c.args.f.count 0 c.in-Some.i (sym c.first_uneven-e.ensures ∙ c.in-Some.is) in let n : c.args.f.count ≤ 4096 = c.requires.0.2 in omega (arith, w)

pub overflow_add-f : goal.overflow_add-f
overflow_add-f c = let w = cases.uneven_within c.args.file.now c.args.f.height c.args.f.width c.args.f.entries c.args.f.count 0 c.in-Some.i (sym c.first_uneven-e.ensures ∙ c.in-Some.is) in let n : c.args.f.count ≤ 4096 = c.requires.0.2 in omega (arith, w, c.requires.0.0, c.requires.0.5, c.requires.0.6, c.requires.0.7)

pub returns-in-None : goal.returns-in-None
returns-in-None c = ap (even_suits c.args.f) (sym c.in-None.is ∙ c.first_uneven-e.ensures)

pub returns-in-Some : goal.returns-in-Some
returns-in-Some c = ap Err c.refuse_at.ensures ∙ ap (even_suits c.args.f) (sym c.in-Some.is ∙ c.first_uneven-e.ensures)
