-- Numbers as text, digit by digit.
use Rattle.std.specs.Prelude.{ℕ, zero, suc, ◌+◌, ◌/◌, ◌%◌, List, [], ◌∷◌, ◌++◌, ltb}
use Rattle.base.specs.Meaning.{pick}

-- a digit: 0 to 9, then A to F
unfoldable pub digit_of : ℕ → ℕ
digit_of d = pick (ltb d 10) (48 + d) (55 + d)

-- n in a radix, its highest digit first, where n has at most k digits behind that
unfoldable pub digits : ℕ → ℕ → ℕ → List ℕ
digits radix zero n = digit_of n ∷ []
digits radix (suc k) n = pick (ltb n radix) (digit_of n ∷ []) (digits radix k (n / radix) ++ (digit_of (n % radix) ∷ []))

-- n in a radix
unfoldable pub numeral : ℕ → ℕ → List ℕ
numeral radix n = digits radix n n
