-- `layout::put_glyphs` meets its contract: by the kind. Assumes room, and that each glyph stands in the file.
use native.Mathlib.Omega.{arith}
use mathlib.Core.Path.{sym, ◌∙◌, ap, subst}
use Prim.Native.Nat.{ℕ, ◌+◌, ◌*◌, ◌≤◌}
use mathlib.Core.List.{List}
use lib.ListN.{length, length-take, length-drop}
use Rattle.base.specs.Reading.{over}
use Rattle.header.specs.declared.Kind.TheVariants.{Psf1, Psf2, Vfont2}
use Rattle.header.specs.Bounds.{Even, Dispatched}
use Rattle.entries.specs.Meaning.{entry_at, address_at}
use Rattle.layout.specs.Reading.{gathered}
use Rattle.layout.proofs.Parts.{even_glyphs, glyphs_of}
use Rattle.layout.proofs.put_glyphs.Goals as goal

pub copy-requires : goal.copy-requires
copy-requires c = let k : Even c.args.f = rw c.in-Psf1.is at c.requires.0.8 in let e = ap (λ (x : ℕ). c.args.f.count * x) k.1 in simp (length-take, length-drop) (omega (arith, e, k.0, c.requires.1, c.requires.0.7))

pub copy-requires-in-Psf2 : goal.copy-requires-in-Psf2
copy-requires-in-Psf2 c = let k : Even c.args.f = rw c.in-Psf2.is at c.requires.0.8 in let e = ap (λ (x : ℕ). c.args.f.count * x) k.1 in simp (length-take, length-drop) (omega (arith, e, k.0, c.requires.1, c.requires.0.7))

pub put_gathered-requires : goal.put_gathered-requires
put_gathered-requires c = let k : Dispatched c.args.f = rw c.in-Vfont2.is at c.requires.0.8 in let e = c.glyph_bytes.ensures.0 in (c.requires.0.0, omega (arith, k.0, c.requires.0.6, c.requires.0.7), subst (λ (x : ℕ). c.args.f.count * x ≤ length c.args.out.now) (sym e) c.requires.1, λ i l. subst (λ (x : ℕ). c.args.f.bitmaps + address_at c.args.file.now (entry_at c.args.f.entries i) + x ≤ length c.args.file.now) (sym e) (c.requires.2 c.in-Vfont2.is i l))

pub returns-in-Psf1 : goal.returns-in-Psf1
returns-in-Psf1 c = let k : Even c.args.f = rw c.in-Psf1.is at c.requires.0.8 in c.copy.ensures ∙ ap (λ (p : List ℕ). over p c.args.out.now) (even_glyphs c.args.file.now c.args.f k.0 ∙ glyphs_of c.args.file.now c.args.f Psf1 c.in-Psf1.is)

pub returns-in-Psf2 : goal.returns-in-Psf2
returns-in-Psf2 c = let k : Even c.args.f = rw c.in-Psf2.is at c.requires.0.8 in c.copy-in-Psf2.ensures ∙ ap (λ (p : List ℕ). over p c.args.out.now) (even_glyphs c.args.file.now c.args.f k.0 ∙ glyphs_of c.args.file.now c.args.f Psf2 c.in-Psf2.is)

pub returns-in-Vfont2 : goal.returns-in-Vfont2
returns-in-Vfont2 c = c.put_gathered.ensures ∙ ap (λ (p : List ℕ). over p c.args.out.now) (ap (λ (x : ℕ). gathered c.args.file.now c.args.f x 0 c.args.f.count) c.glyph_bytes.ensures.0 ∙ glyphs_of c.args.file.now c.args.f Vfont2 c.in-Vfont2.is)
