-- Numbers as digits: one digit, or the digits of the number divided and one more; how many there are.
use mathlib.Core.Path.{◌≡◌, refl, ◌∙◌, ap}
use mathlib.Core.Logic.{◌⊎◌, inl, inr}
use mathlib.Core.List.{List, [], ◌∷◌, ◌++◌}
use Prim.Native.Nat.{ℕ, zero, suc, ◌+◌, ◌*◌, ◌/◌, ◌%◌, ◌≤◌, ◌<◌}
use native.Mathlib.Nat.{mul_comm, mul-le-mul_right, div-lt_self, div-lt_iff_lt-mul, mod-lt}
use native.Mathlib.Omega.{arith}
use lib.Dec.{ltb}
use lib.ListN.{length, length-append}
use borrow.Author.Tests.{lt-ltb, le-ltb}
use Rattle.base.specs.Meaning.{pick}
use Rattle.base.proofs.Tests.{below}
use Rattle.text.specs.Meaning.{number_text}
use Rattle.text.specs.Reading.{digit_of, digits, numeral}

abbrev power : ℕ → ℕ → ℕ
power b zero = 1
power b (suc j) = b * power b j

-- a number divided is less, and one digit is left
pub divided : (b n : ℕ) → 2 ≤ b → b ≤ n → n / b < n
divided b n some l = div-lt_self (omega arith) (omega arith)

pub digit_left : (b n : ℕ) → 2 ≤ b → n % b < b
digit_left b n some = mod-lt n (omega arith)

module _ (b : ℕ) (some : 2 ≤ b) where
  -- it does not matter how many digits are allowed, if there are enough
  enough : (k m n : ℕ) → n ≤ k → n ≤ m → digits b k n ≡ digits b m n
  unfolding digits
  enough zero zero n h g = refl
  enough zero (suc m) n h g = rw (lt-ltb n b (omega arith))
  enough (suc k) zero n h g = rw (lt-ltb n b (omega arith))
  enough (suc k) (suc m) n h g =
      go (below n b) (λ (l : b ≤ n). enough k m (n / b) (omega (arith, divided b n some l)) (omega (arith, divided b n some l)))
    where
      go : (n < b) ⊎ (b ≤ n) → (b ≤ n → digits b k (n / b) ≡ digits b m (n / b)) →
          pick (ltb n b) (digit_of n ∷ []) (digits b k (n / b) ++ (digit_of (n % b) ∷ [])) ≡ pick (ltb n b) (digit_of n ∷ []) (digits b m (n / b) ++ (digit_of (n % b) ∷ []))
      go (inl l) ih = rw (lt-ltb n b l)
      go (inr l) ih = rw (le-ltb n b l) (ap (λ (z : List ℕ). z ++ (digit_of (n % b) ∷ [])) (ih l))

  pub numeral_one : (n : ℕ) → n < b → numeral b n ≡ digit_of n ∷ []
  unfolding numeral digits
  numeral_one zero l = refl
  numeral_one (suc n) l = rw (lt-ltb (suc n) b l)

  pub numeral_more : (n : ℕ) → b ≤ n → numeral b n ≡ numeral b (n / b) ++ (digit_of (n % b) ∷ [])
  unfolding numeral digits
  numeral_more zero l = absurd (omega arith)
  numeral_more (suc n) l =
      rw (le-ltb (suc n) b l)
      (ap (λ (z : List ℕ). z ++ (digit_of (suc n % b) ∷ [])) (enough n (suc n / b) (suc n / b) (omega (arith, divided b (suc n) some l)) (omega arith)))

  pub length_one : (n : ℕ) → n < b → length (numeral b n) ≡ 1
  length_one n h = ap length (numeral_one n h)

  pub length_more : (n : ℕ) → b ≤ n → length (numeral b n) ≡ length (numeral b (n / b)) + 1
  length_more n h = ap length (numeral_more n h) ∙ length-append (numeral b (n / b)) (digit_of (n % b) ∷ [])

-- a number below a power has no more digits than the power's exponent, in any radix that is no less
module _ (b p : ℕ) (some : 1 ≤ p) (most : p ≤ b) where
  down : (n m : ℕ) → n < p * m → n / b < m
  down n m h = (div-lt_iff_lt-mul {k = b} {x = n} {y = m} (omega arith)).1 (omega (arith, mul-le-mul_right m most, mul_comm b m))

  short : (j k n : ℕ) → n < power p (suc j) → length (digits b k n) ≤ suc j
  unfolding digits
  short j zero n h = omega arith
  short zero (suc k) n h = let l : n < b = omega arith in rw (lt-ltb n b l) (omega arith)
  short (suc j) (suc k) n h = go (below n b) (short j k (n / b) (down n (power p (suc j)) h))
    where
      go : (n < b) ⊎ (b ≤ n) → length (digits b k (n / b)) ≤ suc j →
          length (pick (ltb n b) (digit_of n ∷ []) (digits b k (n / b) ++ (digit_of (n % b) ∷ []))) ≤ suc (suc j)
      go (inl l) ih = rw (lt-ltb n b l) (omega arith)
      go (inr l) ih = rw (le-ltb n b l) (omega (arith, length-append (digits b k (n / b)) (digit_of (n % b) ∷ [])))

-- a machine number has at most 64 digits in any radix, and 20 decimal ones; one below 100,000 has 5
pub numeral_64 : (b n : ℕ) → 2 ≤ b → n < 18446744073709551616 → length (numeral b n) ≤ 64
unfolding numeral
numeral_64 b n some h = short b 2 (omega arith) some 63 n n (omega arith)

pub decimal_20 : (n : ℕ) → n < 18446744073709551616 → length (numeral 10 n) ≤ 20
unfolding numeral
decimal_20 n h = short 10 10 (omega arith) (omega arith) 19 n n (omega arith)

pub decimal_5 : (n : ℕ) → n < 100000 → length (numeral 10 n) ≤ 5
unfolding numeral
decimal_5 n h = short 10 10 (omega arith) (omega arith) 4 n n (omega arith)

-- a value of 32 bits has at most 8 hexadecimal ones
pub hexadecimal_8 : (v : ℕ) → v < 4294967296 → length (numeral 16 v) ≤ 8
unfolding numeral
hexadecimal_8 v h = short 16 16 (omega arith) (omega arith) 7 v v (omega arith)

pub number_text_lem : (n b : ℕ) → number_text n b ≡ numeral 10 n ++ (b ∷ [])
unfolding number_text
number_text_lem n b = refl

pub number_length : (n b : ℕ) → length (number_text n b) ≡ length (numeral 10 n) + 1
number_length n b = ap length (number_text_lem n b) ∙ length-append (numeral 10 n) (b ∷ [])

-- no machine number is longer than 21 bytes with the byte after it
pub number_21 : (n b : ℕ) → n < 18446744073709551616 → length (number_text n b) ≤ 21
number_21 n b h = omega (arith, number_length n b, decimal_20 n h)
