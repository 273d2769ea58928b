-- What was read, but for noncharacters.
use mathlib.Core.Path.{◌≡◌, refl}
use mathlib.Core.Bool.{Bool, true, false}
use mathlib.Core.Logic.{◌⊎◌, inl, inr}
use Prim.Native.Nat.{ℕ, ◌≤◌}
use native.Mathlib.Omega.{arith}
use Rattle.base.specs.Meaning.{pick}
use Rattle.token.specs.declared.Token.TheVariants.{Value}
use Rattle.token.specs.Meaning.{Noncharacter}
use Rattle.token.specs.Reading.{is_noncharacter}
use Rattle.token.proofs.Noncharacters.{noncharacter_exactly, noncharacter_no, no_noncharacter, low}
use Rattle.utf8.specs.Reading.{permitted_at, as_token}
use Rattle.utf8.specs.Bounds.{Reached}
use Rattle.std.specs.Prelude.{Result, Ok, Err}
use Rattle.base.proofs.Handed.{pair_same}
use Rattle.token.specs.declared.Malformed.{Malformed}
use Rattle.token.specs.declared.Malformed.TheVariants.{Cut, Bad}

module _ (k : ℕ) where
  -- by what was read
  pub permitted_value : (v l : ℕ) → (Noncharacter v → ⊥) → Ok (v, l) ≡ permitted_at k (Ok (v, l))
  unfolding permitted_at
  permitted_value v l n = rw (no_noncharacter v n)

  pub permitted_none : (v l : ℕ) → Noncharacter v → Err (Bad k) ≡ permitted_at k (Ok (v, l))
  unfolding permitted_at
  permitted_none v l n = rw ((noncharacter_exactly v).1 n)

  pub permitted_other : (t : Malformed) → Err t ≡ permitted_at k (Err t)
  unfolding permitted_at
  permitted_other t = refl

  -- below FDD0 there are none
  pub permitted_low : (m l : ℕ) (r : Result (ℕ × ℕ) Malformed) → m ≤ 0xFDD0 → Reached m l r → r ≡ permitted_at k r
  permitted_low m l (Ok (v, j)) h p = permitted_value v j (low v (omega (arith, p.0)))
  permitted_low m l (Err t) h p = permitted_other t

  -- the same as a token
  pub token_permitted : (u v l : ℕ) → v ≡ u → (Noncharacter v → ⊥) → as_token (permitted_at k (Ok (u, l))) ≡ Ok (Value v, l)
  unfolding permitted_at
  token_permitted u v l e n = rw (← e, no_noncharacter v n)

  -- and back
  pub value_permitted : (r : Result (ℕ × ℕ) Malformed) (v l : ℕ) → permitted_at k r ≡ Ok (v, l) → (r ≡ Ok (v, l)) × (Noncharacter v → ⊥)
  unfolding permitted_at
  value_permitted (Ok (w, j)) v l e = go (is_noncharacter w) refl e
    where
      go : (t : Bool) → is_noncharacter w ≡ t → pick {A = Result (ℕ × ℕ) Malformed} t (Err (Bad k)) (Ok (w, j)) ≡ Ok (v, l) → (◌≡◌ {A = Result (ℕ × ℕ) Malformed} (Ok (w, j)) (Ok (v, l))) × (Noncharacter v → ⊥)
      go true p f = let z : ◌≡◌ {A = ℕ} 0 1 = cc in absurd (omega arith)
      go false p f = let q : w ≡ v = (pair_same w v j l f).0 in (f, noncharacter_no v (rw q at p))
  value_permitted (Err Cut) v l e = let z : ◌≡◌ {A = ℕ} 0 1 = cc in absurd (omega arith)
  value_permitted (Err (Bad j)) v l e = let z : ◌≡◌ {A = ℕ} 0 1 = cc in absurd (omega arith)

  pub cut_permitted : (r : Result (ℕ × ℕ) Malformed) → permitted_at k r ≡ Err Cut → r ≡ Err Cut
  unfolding permitted_at
  cut_permitted (Ok (w, j)) e = go (is_noncharacter w) e
    where
      go : (t : Bool) → pick {A = Result (ℕ × ℕ) Malformed} t (Err (Bad k)) (Ok (w, j)) ≡ Err Cut → ◌≡◌ {A = Result (ℕ × ℕ) Malformed} (Ok (w, j)) (Err Cut)
      go true f = let z : ◌≡◌ {A = ℕ} 0 1 = cc in absurd (omega arith)
      go false f = f
  cut_permitted (Err Cut) e = refl
  cut_permitted (Err (Bad j)) e = e

  -- what is bad was so, or is a noncharacter
  pub bad_permitted : (r : Result (ℕ × ℕ) Malformed) (j : ℕ) → permitted_at k r ≡ Err (Bad j) → (r ≡ Err (Bad j)) ⊎ ((v l : ℕ) × (r ≡ Ok (v, l)) × Noncharacter v × (j ≡ k))
  unfolding permitted_at
  bad_permitted (Ok (w, l)) j e = go (is_noncharacter w) refl e
    where
      go : (t : Bool) → is_noncharacter w ≡ t → pick {A = Result (ℕ × ℕ) Malformed} t (Err (Bad k)) (Ok (w, l)) ≡ Err (Bad j) → (◌≡◌ {A = Result (ℕ × ℕ) Malformed} (Ok (w, l)) (Err (Bad j))) ⊎ ((v i : ℕ) × (◌≡◌ {A = Result (ℕ × ℕ) Malformed} (Ok (w, l)) (Ok (v, i))) × Noncharacter v × (j ≡ k))
      go true p f = inr (w, l, refl, (noncharacter_exactly w).0 p, cc)
      go false p f = inl f
  bad_permitted (Err Cut) j e = let z : ◌≡◌ {A = ℕ} 0 1 = cc in absurd (omega arith)
  bad_permitted (Err (Bad i)) j e = inl e
