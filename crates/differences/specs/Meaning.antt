-- "as pairs of kind and glyph in a lent buffer of 32-bit numbers" (document 02, W5).
use Rattle.std.specs.Prelude.{List, [], ◌∷◌, ℕ}

-- pairs as numbers
unfoldable pub numbers : List (ℕ × ℕ) → List ℕ
numbers [] = []
numbers (p ∷ ps) = p.0 ∷ p.1 ∷ numbers ps
