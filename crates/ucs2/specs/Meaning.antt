-- The values of PSF1's coding and their bytes, the low one first.
use Rattle.std.specs.Prelude.{List, [], ◌∷◌, ℕ, ◌/◌, ◌%◌, ◌<◌}
use Rattle.token.specs.Meaning.{Noncharacter}

-- a value is 0000 to FFFD, surrogates included, and no noncharacter
abbrev pub Word : ℕ → Type 0
Word v = (v < 0xFFFE) × (Noncharacter v → ⊥)

-- the bytes of a value
abbrev pub word_bytes : ℕ → List ℕ
word_bytes v = v % 256 ∷ v / 256 ∷ []
