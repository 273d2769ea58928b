-- The digits of a number are read as that number, and the first is not 0 unless the number is.
use mathlib.Core.Path.{◌≡◌, refl, ◌∙◌, ap}
use mathlib.Core.Logic.{◌⊎◌, inl, inr}
use mathlib.Core.List.{List, [], ◌∷◌, ◌++◌}
use Prim.Native.Nat.{ℕ, zero, suc, ◌+◌, ◌*◌, ◌-◌, ◌/◌, ◌%◌, ◌≤◌, ◌<◌}
use native.Mathlib.Nat.{le-div_iff_mul-le, div-add-mod'}
use native.Mathlib.Omega.{arith}
use lib.Dec.{ltb}
use borrow.Author.Tests.{lt-ltb, le-ltb}
use Rattle.base.specs.Meaning.{pick}
use Rattle.base.proofs.Tests.{below}
use Rattle.text.specs.Meaning.{digit_value, number_in, NoLeadingZero}
use Rattle.text.specs.Reading.{digit_of, digits, numeral}
use Rattle.text.proofs.Digits.{divided, digit_left}

-- a digit is read as its number
digit_read : (d : ℕ) → d < 16 → digit_value (digit_of d) ≡ d
unfolding digit_of
digit_read d h = go (below d 10)
  where
    go : (d < 10) ⊎ (10 ≤ d) → pick (ltb (pick (ltb d 10) (48 + d) (55 + d)) 58) (pick (ltb d 10) (48 + d) (55 + d) - 48) (pick (ltb d 10) (48 + d) (55 + d) - 55) ≡ d
    go (inl l) = rw (lt-ltb d 10 l, lt-ltb (48 + d) 58 (omega arith)) (omega arith)
    go (inr l) = rw (le-ltb d 10 l, le-ltb (55 + d) 58 (omega arith)) (omega arith)

digit_some : (d : ℕ) → 1 ≤ d → digit_of d ≡ 48 → ⊥
unfolding digit_of
digit_some d h = go (below d 10)
  where
    go : (d < 10) ⊎ (10 ≤ d) → pick (ltb d 10) (48 + d) (55 + d) ≡ 48 → ⊥
    go (inl l) = rw (lt-ltb d 10 l) (λ (e : 48 + d ≡ 48). omega arith)
    go (inr l) = rw (le-ltb d 10 l) (λ (e : 55 + d ≡ 48). omega arith)

-- one more digit
number_more : (b n : ℕ) (ds : List ℕ) (d : ℕ) → number_in b n (ds ++ (d ∷ [])) ≡ number_in b n ds * b + digit_value d
number_more b n [] d = refl
number_more b n (x ∷ ds) d = number_more b (n * b + digit_value x) ds d

lead_more : (ds : List ℕ) (d : ℕ) → NoLeadingZero ds → NoLeadingZero (ds ++ (d ∷ []))
lead_more [] d l = absurd l
lead_more (x ∷ ds) d l = l

zero_more : (b x : ℕ) → 0 * b + x ≡ x
zero_more b x = omega arith

one_read : (b d : ℕ) → d < 16 → number_in b 0 (digit_of d ∷ []) ≡ d
one_read b d h = zero_more b (digit_value (digit_of d)) ∙ digit_read d h

-- a radix that has digits
module _ (b : ℕ) (some : 2 ≤ b) (most : b ≤ 16) where
  left : (n : ℕ) → b ≤ n → 1 ≤ n / b
  left n l = (le-div_iff_mul-le {k = b} {x = 1} {y = n} (omega arith)).1 (omega arith)

  read : (k n : ℕ) → n ≤ k → n < b ⊎ (b ≤ n) → number_in b 0 (digits b k n) ≡ n
  unfolding digits
  read zero n h (inl l) = one_read b n (omega arith)
  read zero n h (inr l) = absurd (omega arith)
  read (suc k) n h (inl l) = rw (lt-ltb n b l) (one_read b n (omega arith))
  read (suc k) n h (inr l) =
      rw (le-ltb n b l)
      (number_more b 0 (digits b k (n / b)) (digit_of (n % b))
      ∙ ap (λ (z : ℕ). z * b + digit_value (digit_of (n % b))) (read k (n / b) (omega (arith, divided b n some l)) (below (n / b) b))
      ∙ ap (λ (z : ℕ). n / b * b + z) (digit_read (n % b) (omega (arith, digit_left b n some)))
      ∙ div-add-mod' n b)

  leads : (k n : ℕ) → n ≤ k → 1 ≤ n → n < b ⊎ (b ≤ n) → NoLeadingZero (digits b k n)
  unfolding digits
  leads zero n h g l = absurd (omega arith)
  leads (suc k) n h g (inl l) = rw (lt-ltb n b l) (digit_some n g)
  leads (suc k) n h g (inr l) =
      rw (le-ltb n b l) (lead_more (digits b k (n / b)) (digit_of (n % b)) (leads k (n / b) (omega (arith, divided b n some l)) (left n l) (below (n / b) b)))

pub numeral_back : (b n : ℕ) → 2 ≤ b → b ≤ 16 → number_in b 0 (numeral b n) ≡ n
unfolding numeral
numeral_back b n some most = read b some most n n (omega arith) (below n b)

pub numeral_leads : (b n : ℕ) → 2 ≤ b → b ≤ 16 → 1 ≤ n → NoLeadingZero (numeral b n)
unfolding numeral
numeral_leads b n some most h = leads b some most n n (omega arith) h (below n b)
