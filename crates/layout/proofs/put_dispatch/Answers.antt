-- `layout::put_dispatch` meets its contract: by the kind. Assumes room.
use native.Mathlib.Omega.{arith}
use mathlib.Core.Path.{sym, ◌∙◌, ap}
use Rattle.base.specs.Reading.{over}
use Rattle.base.proofs.Over.{over_none}
use Rattle.header.specs.declared.Kind.{Kind}
use Rattle.layout.specs.Reading.{dispatch_bytes, evenly}
use Rattle.layout.proofs.put_dispatch.Goals as goal

pub put_entries-requires : goal.put_entries-requires
put_entries-requires c = let l = rw c.in-Vfont2.is at c.requires.4 in omega (arith, l)

pub returns-in-Psf1 : goal.returns-in-Psf1
returns-in-Psf1 c = over_none c.args.out.now ∙ ap (λ (k : Kind). over (dispatch_bytes k c.args.size c.args.height c.args.width (evenly c.args.size 0 c.args.n)) c.args.out.now) (sym c.in-Psf1.is)

pub returns-in-Psf2 : goal.returns-in-Psf2
returns-in-Psf2 c = over_none c.args.out.now ∙ ap (λ (k : Kind). over (dispatch_bytes k c.args.size c.args.height c.args.width (evenly c.args.size 0 c.args.n)) c.args.out.now) (sym c.in-Psf2.is)

pub returns-in-Vfont2 : goal.returns-in-Vfont2
returns-in-Vfont2 c = c.put_entries.ensures ∙ ap (λ (k : Kind). over (dispatch_bytes k c.args.size c.args.height c.args.width (evenly c.args.size 0 c.args.n)) c.args.out.now) (sym c.in-Vfont2.is)
