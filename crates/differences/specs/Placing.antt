-- That a font's parts stand in its file can be shown in one way only, so a struct may state it as a ghost field.
use Rattle.std.specs.Prelude.{List, ℕ}
use Rattle.std.proofs.Props.{props}
use Rattle.header.specs.declared.Kind.{Kind}
use Rattle.header.specs.declared.Kind.TheVariants.{Psf1, Psf2, Vfont2}
use Rattle.header.specs.declared.Font.{Font}
use Rattle.header.specs.Bounds.{KindPlaced, Placed}

kind_once : (f : Font) (k : Kind) → IsProp (KindPlaced f k)
kind_once f Psf1 = hlevel props
kind_once f Psf2 = hlevel props
kind_once f Vfont2 = hlevel props

pub placed_once : (s : List ℕ) (f : Font) → IsProp (Placed s f)
placed_once s f = hlevel (props, kind_once)
