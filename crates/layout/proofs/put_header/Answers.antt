-- `layout::put_header` meets its contract: by the kind. Assumes numbers that the header holds, and room.
use Prim.Native.Nat.{ℕ}
use mathlib.Core.List.{List}
use Rattle.base.specs.Reading.{over}
use Rattle.header.specs.declared.Kind.{Kind}
use Rattle.header.specs.Reading.{header_bytes}
use Rattle.layout.proofs.Parts.{psf1_header}
use native.Mathlib.Omega.{arith}
use mathlib.Core.Path.{sym, ◌∙◌, ap}
use Rattle.layout.proofs.put_header.Goals as goal

pub put_header-requires : goal.put_header-requires
put_header-requires c = let l = rw c.in-Psf1.is at c.requires.4 in (omega (arith, l))

pub put_header-requires-in-Psf2 : goal.put_header-requires-in-Psf2
put_header-requires-in-Psf2 c = let l = rw c.in-Psf2.is at c.requires.4 in (omega (arith, l))

pub put_header-requires-in-Vfont2 : goal.put_header-requires-in-Vfont2
put_header-requires-in-Vfont2 c = let l = rw c.in-Vfont2.is at c.requires.4 in (omega (arith, l))

pub returns-in-Psf1 : goal.returns-in-Psf1
returns-in-Psf1 c = c.put_header.ensures ∙ ap (λ (p : List ℕ). over p c.args.out.now) (psf1_header c.args.table c.args.n c.args.size c.args.height c.args.width) ∙ ap (λ (k : Kind). over (header_bytes k c.args.table c.args.n c.args.size c.args.height c.args.width) c.args.out.now) (sym c.in-Psf1.is)

pub returns-in-Psf2 : goal.returns-in-Psf2
returns-in-Psf2 c = c.put_header-in-Psf2.ensures ∙ ap (λ (k : Kind). over (header_bytes k c.args.table c.args.n c.args.size c.args.height c.args.width) c.args.out.now) (sym c.in-Psf2.is)

pub returns-in-Vfont2 : goal.returns-in-Vfont2
returns-in-Vfont2 c = c.put_header-in-Vfont2.ensures ∙ ap (λ (k : Kind). over (header_bytes k c.args.table c.args.n c.args.size c.args.height c.args.width) c.args.out.now) (sym c.in-Vfont2.is)
