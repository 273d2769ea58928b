-- Numbers as text: "Numbers other than values are decimal. Values are upper-case hexadecimal without leading zeros." `numeral radix n`
-- (Reading.antt) are digits that are read as n and don't begin with 0, but for n = 0 (proofs/Numerals.antt).
use Rattle.std.specs.Prelude.{ℕ, ◌+◌, ◌*◌, ◌-◌, ◌≡◌, List, [], ◌∷◌, ◌++◌, ltb}
use Rattle.base.specs.Meaning.{pick}
use Rattle.text.specs.Reading.{numeral}

-- the number that an ASCII digit is, A to F upper case
abbrev pub digit_value : ℕ → ℕ
digit_value b = pick (ltb b 58) (b - 48) (b - 55)

-- the number that digits are in a base, the highest first, behind a number that was read before them
abbrev pub number_in : ℕ → ℕ → List ℕ → ℕ
number_in base n [] = n
number_in base n (b ∷ bs) = number_in base (n * base + digit_value b) bs

-- digits that don't begin with 0
abbrev pub NoLeadingZero : List ℕ → Type 0
NoLeadingZero [] = ⊥
NoLeadingZero (b ∷ bs) = b ≡ 48 → ⊥

-- a number and the byte after it
unfoldable pub number_text : ℕ → ℕ → List ℕ
number_text n b = numeral 10 n ++ (b ∷ [])
