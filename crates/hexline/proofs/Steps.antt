-- One turn of reading a line: two digits, no byte, the end; and a line that is too long or has a digit alone.
use mathlib.Core.Path.{◌≡◌, refl, ◌∙◌, ap}
use mathlib.Core.List.{List, [], ◌∷◌, ◌++◌}
use Prim.Native.Nat.{ℕ, ◌+◌, ◌%◌, ◌≤◌, ◌<◌}
use native.Mathlib.Omega.{arith}
use lib.ListN.{length, get_or, set, replicate, length-append}
use borrow.Author.Tests.{lt-ltb, le-ltb}
use Rattle.std.specs.Prelude.{Option, Some, None, option_and_then}
use Rattle.base.specs.Reading.{when}
use Rattle.hexline.specs.Reading.{pair_value, bytes_from, frame_of}

-- what is left of a line behind its next two characters
pub fewer : (r p t : List ℕ) → r ≡ p ++ t → length p ≡ 2 → length r ≡ 2 + length t
fewer r p t e h = ap length e ∙ length-append p t ∙ omega arith

turned : (k : ℕ) (xs r p t : List ℕ) → r ≡ p ++ t → length p ≡ 2 → bytes_from k xs r ≡ option_and_then (λ v. bytes_from (k + 1) (set xs k v) t) (pair_value (get_or p 0 0) (get_or p 1 0))
unfolding bytes_from
turned k xs r [] t e h = absurd (omega arith)
turned k xs r (a ∷ []) t e h = absurd (omega arith)
turned k xs r (a ∷ b ∷ []) t e h = rw e
turned k xs r (a ∷ b ∷ c ∷ p) t e h = absurd (omega arith)

-- two characters are a byte more, or spell none
module _ (k : ℕ) (xs r p t : List ℕ) (e : r ≡ p ++ t) (h : length p ≡ 2) where
  pub goes_on : (at next v : ℕ) → at ≡ k → next ≡ k + 1 → pair_value (get_or p 0 0) (get_or p 1 0) ≡ Some v → bytes_from k xs r ≡ bytes_from next (set xs at v) t
  goes_on at next v a n q = turned k xs r p t e h ∙ ap (option_and_then (λ v. bytes_from (k + 1) (set xs k v) t)) q ∙ rw (a, n)

  pub no_byte : pair_value (get_or p 0 0) (get_or p 1 0) ≡ None → bytes_from k xs r ≡ None
  no_byte q = turned k xs r p t e h ∙ ap (option_and_then (λ v. bytes_from (k + 1) (set xs k v) t)) q

pub ended : (k : ℕ) (xs r : List ℕ) → length r ≡ 0 → bytes_from k xs r ≡ Some (record { len = k; bytes = xs })
unfolding bytes_from
ended k xs [] h = refl
ended k xs (a ∷ r) h = absurd (omega arith)

odd_from : (k : ℕ) (xs r : List ℕ) → length r % 2 ≡ 1 → bytes_from k xs r ≡ None
unfolding bytes_from
odd_from k xs [] h = absurd (omega arith)
odd_from k xs (a ∷ []) h = refl
odd_from k xs (a ∷ b ∷ r) h = go (pair_value a b) (λ v. odd_from (k + 1) (set xs k v) r (omega arith))
  where
    go : (x : Option ℕ) → ((v : ℕ) → bytes_from (k + 1) (set xs k v) r ≡ None) → option_and_then (λ v. bytes_from (k + 1) (set xs k v) r) x ≡ None
    go None ih = refl
    go (Some v) ih = ih v

pub too_long : (s : List ℕ) → 128 < length s → frame_of s ≡ None
unfolding frame_of when
too_long s h = rw (lt-ltb 128 (length s) h)

pub not_long : (s : List ℕ) → length s ≤ 128 → frame_of s ≡ bytes_from 0 (replicate 64 0) s
unfolding frame_of when
not_long s h = rw (le-ltb 128 (length s) h)

pub odd : (s : List ℕ) → length s ≤ 128 → length s % 2 ≡ 1 → frame_of s ≡ None
odd s h o = not_long s h ∙ odd_from 0 (replicate 64 0) s o
