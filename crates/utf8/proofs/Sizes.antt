-- A token is no longer than the list that it is read from.
use mathlib.Core.Path.{◌≡◌}
use mathlib.Core.List.{List, [], ◌∷◌}
use Prim.Native.Nat.{ℕ, zero, suc, ◌+◌, ◌-◌, ◌*◌, ◌%◌, ◌≤◌, ◌<◌}
use native.Mathlib.Omega.{arith}
use lib.ListN.{length}
use lib.Dec.{eqb}
use Rattle.base.specs.Reading.{within}
use Rattle.base.proofs.Tests.{by_test}
use Rattle.token.specs.Reading.{Step, is_noncharacter}
use Rattle.token.proofs.Sized.{Sized}
use Rattle.utf8.specs.Reading.{conts, lead_of, permitted_at, read_value, as_token, read_utf8}
use Rattle.std.specs.Prelude.{Result, Ok, Err}
use Rattle.token.specs.declared.Malformed.{Malformed}
use Rattle.token.specs.declared.Malformed.TheVariants.{Cut, Bad}

-- a value ends at e, and no place is outside the list
abbrev Ends : ℕ → ℕ → Result (ℕ × ℕ) Malformed → Type 0
Ends e m (Ok (v, l)) = (l ≡ e) × (e ≤ m)
Ends e m (Err Cut) = Unit {0}
Ends e m (Err (Bad j)) = j < m

conts_sized : (n lo hi v k : ℕ) (s : List ℕ) (m e : ℕ) → k + n ≡ e → k + length s ≤ m → Ends e m (conts n lo hi v k s)
unfolding conts
conts_sized zero lo hi v k s m e q l = (omega arith, omega arith)
conts_sized (suc n) lo hi v k [] m e q l = tt
conts_sized (suc n) lo hi v k (b ∷ s) m e q l =
    by_test (Ends e m) (within lo hi b) _ _
    (λ _. conts_sized n 0x80 0xBF (v * 64 + (b - 0x80)) (k + 1) s m e (omega arith) (omega arith))
    (λ _. omega arith)

permitted_sized : (k m : ℕ) (r : Result (ℕ × ℕ) Malformed) → Ends (suc k) m r → Sized m (as_token (permitted_at k r))
unfolding permitted_at
permitted_sized k m (Ok (v, l)) h =
    by_test (λ (x : Result (ℕ × ℕ) Malformed). Sized m (as_token x)) (is_noncharacter v) _ _ (λ _. omega (arith, h.1)) (λ _. (omega (arith, h.0), omega (arith, h.0, h.1)))
permitted_sized k m (Err Cut) h = tt
permitted_sized k m (Err (Bad j)) h = h

pub read_sized : (s : List ℕ) → Sized (length s) (read_utf8 s)
unfolding read_utf8 read_value
read_sized [] = tt
read_sized (b ∷ s) =
    let P : Step → Type 0 = Sized (length (b ∷ s)) in
    by_test P (eqb b 0xFE) _ _ (λ _. (omega arith, omega arith)) (λ _.
    by_test P (eqb b 0xFF) _ _ (λ _. (omega arith, omega arith)) (λ _.
    by_test (λ (x : Result (ℕ × ℕ) Malformed). P (as_token x)) (eqb (lead_of b).len 0) _ _ (λ _. omega arith) (λ _.
    permitted_sized ((lead_of b).len - 1) (length (b ∷ s)) _
    (conts_sized ((lead_of b).len - 1) (lead_of b).lo (lead_of b).hi (b % (lead_of b).modulus) 1 s (length (b ∷ s)) (suc ((lead_of b).len - 1)) (omega arith) (omega arith)))))

-- the place of a wrong byte is within the list
abbrev pub Within : ℕ → Result (ℕ × ℕ) Malformed → Type 0
Within m (Ok (v, l)) = Unit {0}
Within m (Err Cut) = Unit {0}
Within m (Err (Bad j)) = j < m

permitted_within : (k m : ℕ) (r : Result (ℕ × ℕ) Malformed) → Ends (suc k) m r → Within m (permitted_at k r)
unfolding permitted_at
permitted_within k m (Ok (v, l)) h = by_test (Within m) (is_noncharacter v) _ _ (λ _. omega (arith, h.0, h.1)) (λ _. tt)
permitted_within k m (Err Cut) h = tt
permitted_within k m (Err (Bad j)) h = h

pub bad_within : (s : List ℕ) → Within (length s) (read_value s)
unfolding read_value
bad_within [] = tt
bad_within (b ∷ s) =
    by_test (Within (length (b ∷ s))) (eqb (lead_of b).len 0) _ _ (λ _. omega arith) (λ _.
    permitted_within ((lead_of b).len - 1) (length (b ∷ s)) _
    (conts_sized ((lead_of b).len - 1) (lead_of b).lo (lead_of b).hi (b % (lead_of b).modulus) 1 s (length (b ∷ s)) (suc ((lead_of b).len - 1)) (omega arith) (omega arith)))
