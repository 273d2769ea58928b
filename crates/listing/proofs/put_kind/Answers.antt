-- `listing::put_kind` meets its contract: each name is one text. Assumes nothing.
use native.Mathlib.Omega.{arith}
use borrow.Author.Rules.{rules}
use Rattle.listing.proofs.put_kind.Goals as goal

pub put_text-requires : goal.put_text-requires
put_text-requires c = let p = rw c.in-Psf1.is at c.requires in omega (arith, p)

pub put_text-requires-in-Psf2 : goal.put_text-requires-in-Psf2
put_text-requires-in-Psf2 c = let p = rw c.in-Psf2.is at c.requires in omega (arith, p)

pub put_text-requires-in-Vfont2 : goal.put_text-requires-in-Vfont2
put_text-requires-in-Vfont2 c = let p = rw c.in-Vfont2.is at c.requires in omega (arith, p)

pub returns-in-Psf1 : goal.returns-in-Psf1
returns-in-Psf1 c = rw c.in-Psf1.is c.put_text.ensures

pub returns-in-Psf2 : goal.returns-in-Psf2
returns-in-Psf2 c = rw c.in-Psf2.is c.put_text-in-Psf2.ensures

pub returns-in-Vfont2 : goal.returns-in-Vfont2
returns-in-Vfont2 c = rw c.in-Vfont2.is c.put_text-in-Vfont2.ensures
