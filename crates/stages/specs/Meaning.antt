-- A font's tail, and how it is written.
use Rattle.std.specs.Prelude.{ℕ, List, drop}
use Rattle.coding.specs.declared.Coding.{Coding}
use Rattle.coding.specs.declared.Coding.TheVariants.{Utf8, Ucs2}
use Rattle.header.specs.declared.Kind.{Kind}
use Rattle.header.specs.declared.Kind.TheVariants.{Psf1, Psf2, Vfont2}
use Rattle.header.specs.declared.Font.{Font}

-- "In PSF1 a value is 2 bytes. In PSF2 and vfont2 a value is well-formed UTF-8."
abbrev pub coding_of : Kind → Coding
coding_of Psf1 = Ucs2
coding_of Psf2 = Utf8
coding_of Vfont2 = Utf8

-- "the file's tail, from the table's first byte on"
abbrev pub tail_of : List ℕ → Font → List ℕ
tail_of s f = drop f.end s
