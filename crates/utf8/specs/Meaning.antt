-- The values of UTF-8 and their bytes (Unicode, Table 3-6, "UTF-8 Bit Distribution").
use Rattle.std.specs.Prelude.{List, [], ◌∷◌, ◌⊎◌, ℕ, ◌+◌, ◌/◌, ◌%◌, ◌<◌, ◌≤◌, ltb}
use Rattle.base.specs.Meaning.{pick}
use Rattle.token.specs.Meaning.{Noncharacter}

-- a Unicode scalar value: a code point that is no surrogate
abbrev pub Scalar : ℕ → Type 0
Scalar v = (v < 0xD800) ⊎ ((0xE000 ≤ v) × (v < 0x110000))

-- a value of a table in UTF-8 is no noncharacter either
abbrev pub Utf8Value : ℕ → Type 0
Utf8Value v = Scalar v × (Noncharacter v → ⊥)

-- the bytes of a value: six bits to each byte after the first
unfoldable pub utf8_bytes : ℕ → List ℕ
utf8_bytes v =
    pick (ltb v 0x80) (v ∷ [])
    (pick (ltb v 0x800) ((0xC0 + v / 64) ∷ (0x80 + v % 64) ∷ [])
    (pick (ltb v 0x10000) ((0xE0 + v / 4096) ∷ (0x80 + v / 64 % 64) ∷ (0x80 + v % 64) ∷ [])
    ((0xF0 + v / 262144) ∷ (0x80 + v / 4096 % 64) ∷ (0x80 + v / 64 % 64) ∷ (0x80 + v % 64) ∷ [])))
