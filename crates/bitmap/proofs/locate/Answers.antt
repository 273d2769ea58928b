-- `bitmap::locate` meets its contract: the font's kind says where the bitmap stands. Assumes `Placed`.
use native.Mathlib.Omega.{arith}
use mathlib.Core.Path.{sym, ◌∙◌, ap, subst}
use Rattle.header.specs.declared.Kind.TheVariants.{Psf1, Psf2, Vfont2}
use Rattle.bitmap.specs.Bounds.{LocatedInside}
use Rattle.bitmap.proofs.Places.{known, located_inside, even_start, entry_inside, too_high}
use Rattle.bitmap.proofs.locate.Goals as goal
use Rattle.std.specs.Prelude.{Ok, Err}

pub even_bitmap-requires : goal.even_bitmap-requires
even_bitmap-requires c = even_start c.args.file.now c.args.f c.args.g c.requires c.if-g-f.true (rw c.in-Psf1.is at c.requires.8)

pub even_bitmap-requires-in-Psf2 : goal.even_bitmap-requires-in-Psf2
even_bitmap-requires-in-Psf2 c = even_start c.args.file.now c.args.f c.args.g c.requires c.if-g-f.true (rw c.in-Psf2.is at c.requires.8)

pub entry_located-requires : goal.entry_located-requires
entry_located-requires c = (entry_inside c.args.file.now c.args.f c.args.g c.requires c.if-g-f.true (rw c.in-Vfont2.is at c.requires.8), omega (arith, c.requires.0, c.requires.6, c.requires.7))

pub returns-in-Psf1 : goal.returns-in-Psf1
returns-in-Psf1 c = let e = ap Ok c.even_bitmap.ensures ∙ known c.args.file.now c.args.f c.args.g c.requires c.if-g-f.true Psf1 c.in-Psf1.is in record { equal = e; bounded = subst (LocatedInside c.args.file.now) (sym e) (located_inside c.args.file.now c.args.f c.args.g c.requires c.if-g-f.true) }

pub returns-in-Psf2 : goal.returns-in-Psf2
returns-in-Psf2 c = let e = ap Ok c.even_bitmap-in-Psf2.ensures ∙ known c.args.file.now c.args.f c.args.g c.requires c.if-g-f.true Psf2 c.in-Psf2.is in record { equal = e; bounded = subst (LocatedInside c.args.file.now) (sym e) (located_inside c.args.file.now c.args.f c.args.g c.requires c.if-g-f.true) }

pub returns-in-Vfont2 : goal.returns-in-Vfont2
returns-in-Vfont2 c = let e = c.entry_located.ensures ∙ known c.args.file.now c.args.f c.args.g c.requires c.if-g-f.true Vfont2 c.in-Vfont2.is in record { equal = e; bounded = subst (LocatedInside c.args.file.now) (sym e) (located_inside c.args.file.now c.args.f c.args.g c.requires c.if-g-f.true) }

pub returns : goal.returns
returns c = record { equal = ap Err c.refuse.ensures ∙ too_high c.args.file.now c.args.f c.args.g c.if-g-f.false; bounded = tt }
