-- The glyph of a refusal is told to C as it is. On a font it is at most 4,096 (crates/laws/proofs/Glyphs.antt, `TellsGlyph`).
use mathlib.Core.Path.{◌≡◌, refl}
use mathlib.Core.Bool.{Bool, true, false}
use Prim.Native.Nat.{ℕ, ◌≤◌}
use native.Mathlib.Omega.{arith}
use lib.Dec.{ltb}
use borrow.Author.Tests.{ltb-false}
use Rattle.base.specs.Meaning.{pick}
use Rattle.refusal.specs.Meaning.{no_glyph}
use Rattle.answers.specs.Meaning.{glyph_told}

pub glyph_kept : (g : ℕ) → g ≤ no_glyph → glyph_told g ≡ g
glyph_kept g h = go (ltb g no_glyph) refl
  where
    go : (t : Bool) → ltb g no_glyph ≡ t → pick t g no_glyph ≡ g
    go true e = refl
    go false e = let k = ltb-false g no_glyph e in omega arith
