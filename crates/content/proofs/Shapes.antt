-- What is asked of a font's numbers to be written, and what it is for a glyph to fill its height and width.
use mathlib.Core.Path.{◌≡◌}
use mathlib.Core.Logic.{◌⊎◌}
use mathlib.Core.List.{List}
use Prim.Native.Nat.{ℕ, ◌+◌, ◌/◌, ◌≤◌, ◌<◌}
use native.Mathlib.Omega.{arith}
use native.Mathlib.Nat.{mul-le-mul}
use lib.ListN.{length, take, drop}
use Rattle.header.specs.declared.Kind.{Kind}
use Rattle.header.specs.declared.Kind.TheVariants.{Psf1, Psf2, Vfont2}
use Rattle.header.specs.declared.Font.{Font}
use Rattle.header.specs.Meaning.{glyph_bytes}
use Rattle.entries.specs.Meaning.{entry_at}
use Rattle.bitmap.specs.Meaning.{even_metrics, kind_metrics, EvenGlyph}
use Rattle.content.specs.Meaning.{bitmap_in, NoGlyph}

-- what PSF1 asks besides: "256 glyphs, or 512", "Width 8"
abbrev pub KindShape : Kind → ℕ → ℕ → Type 0
KindShape Psf1 n w = ((n ≡ 256) ⊎ (n ≡ 512)) × (w ≡ 8)
KindShape Psf2 n w = Unit {0}
KindShape Vfont2 n w = Unit {0}

-- the bounds of a font's count, height and width
abbrev pub Shape : Kind → ℕ → ℕ → ℕ → Type 0
Shape k n h w = (1 ≤ n) × (n ≤ 4096) × (1 ≤ h) × (h ≤ 255) × (1 ≤ w) × (w ≤ 255) × KindShape k n w

-- glyph g of a font has a bitmap that fills a height and a width
abbrev pub Fills : List ℕ → Font → ℕ → Kind → ℕ → ℕ → Type 0
Fills s f g k h w =
    (NoGlyph s f g k → ⊥) × (kind_metrics s f g k ≡ even_metrics h w)
    × ((bitmap_in s f g k).height ≡ h) × ((bitmap_in s f g k).width ≡ w) × ((bitmap_in s f g k).len ≡ glyph_bytes h w)

-- and stands in the file, with these bytes
abbrev pub GlyphIs : List ℕ → Font → ℕ → Kind → ℕ → ℕ → List ℕ → Type 0
GlyphIs s f g k h w p =
    Fills s f g k h w × ((bitmap_in s f g k).start + glyph_bytes h w ≤ length s) × (take (glyph_bytes h w) (drop (bitmap_in s f g k).start s) ≡ p)

-- every entry of a vfont2 file has a glyph that fills the greatest height and width
abbrev pub AllEven : List ℕ → Font → Kind → Type 0
AllEven s f Psf1 = Unit {0}
AllEven s f Psf2 = Unit {0}
AllEven s f Vfont2 = (i : ℕ) → i < f.count → EvenGlyph s f.height f.width (entry_at f.entries i)

-- a glyph has at least one byte
pub glyph_some : (h w : ℕ) → 1 ≤ h → 1 ≤ w → 1 ≤ glyph_bytes h w
unfolding glyph_bytes
glyph_some h w a b = let z : 1 ≤ (w + 7) / 8 = omega arith in mul-le-mul a z
