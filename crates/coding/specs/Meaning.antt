-- What each coding has: its values, their bytes, and the marks.
use Rattle.std.specs.Prelude.{List, [], ◌∷◌, ℕ}
use Rattle.utf8.specs.Meaning.{Utf8Value, utf8_bytes}
use Rattle.ucs2.specs.Meaning.{Word, word_bytes}
use Rattle.coding.specs.declared.Coding.{Coding}
use Rattle.coding.specs.declared.Coding.TheVariants.{Utf8, Ucs2}

-- which numbers are values
unfoldable pub ValueOf : Coding → ℕ → Type 0
ValueOf Utf8 = Utf8Value
ValueOf Ucs2 = Word

-- the bytes of a value
unfoldable pub value_bytes : Coding → ℕ → List ℕ
value_bytes Utf8 = utf8_bytes
value_bytes Ucs2 = word_bytes

-- the mark that starts a sequence: FE, or FFFE
unfoldable pub start_bytes : Coding → List ℕ
start_bytes Utf8 = 0xFE ∷ []
start_bytes Ucs2 = 0xFE ∷ 0xFF ∷ []

-- the mark that ends a description: FF, or FFFF
unfoldable pub end_bytes : Coding → List ℕ
end_bytes Utf8 = 0xFF ∷ []
end_bytes Ucs2 = 0xFF ∷ 0xFF ∷ []
