-- What one more byte does to `conts`: at a place of the whole list, by the test of its bounds; and behind the bytes before it.
use mathlib.Core.Path.{◌≡◌, refl, sym, ◌∙◌}
use mathlib.Core.Bool.{Bool, true, false, ◌&&◌}
use mathlib.Core.List.{List, [], ◌∷◌}
use Prim.Native.Nat.{ℕ, zero, suc, ◌+◌, ◌-◌, ◌*◌, ◌≤◌, ◌<◌}
use native.Mathlib.Omega.{arith}
use lib.ListN.{length, get_or, drop, drop_of_length-le}
use lib.Seq.{drop-cons, drop-drop}
use lib.Dec.{leb}
use borrow.Author.Tests.{le-leb, lt-leb, leb-true}
use Rattle.base.specs.Meaning.{pick}
use Rattle.base.specs.Reading.{within}
use Rattle.utf8.specs.Reading.{conts}
use Rattle.utf8.specs.Bounds.{Reached}
use Rattle.std.specs.Prelude.{Result, Ok, Err}
use Rattle.token.specs.declared.Malformed.{Malformed}
use Rattle.token.specs.declared.Malformed.TheVariants.{Cut, Bad}

-- one byte
module _ (s : List ℕ) (k lo hi v : ℕ) where
  pub cut : length s ≤ k → Err Cut ≡ conts 1 lo hi v k (drop k s)
  unfolding conts
  cut l = rw (drop_of_length-le s l)

  turn : k < length s → conts 1 lo hi v k (drop k s) ≡ pick (within lo hi (get_or s k 0)) (Ok ((v * 64 + (get_or s k 0 - 0x80)), (k + 1))) (Err (Bad k))
  unfolding conts
  turn l = rw (drop-cons s k 0 l)

  pub outside : k < length s → within lo hi (get_or s k 0) ≡ false → Err (Bad k) ≡ conts 1 lo hi v k (drop k s)
  outside l w = sym (turn l ∙ rw w)

  pub inside : k < length s → within lo hi (get_or s k 0) ≡ true → (u : ℕ) → u ≡ v * 64 + (get_or s k 0 - 0x80) → Ok (u, (k + 1)) ≡ conts 1 lo hi v k (drop k s)
  inside l w u e = sym (turn l ∙ rw (w, e))

-- no byte
pub reached : (lo hi v k : ℕ) (s : List ℕ) → conts 0 lo hi v k s ≡ Ok (v, k)
unfolding conts
reached lo hi v k s = refl

-- what follows a value
abbrev next : Result (ℕ × ℕ) Malformed → (ℕ → ℕ → Result (ℕ × ℕ) Malformed) → Result (ℕ × ℕ) Malformed
next (Ok (w, l)) f = f w l
next (Err t) f = Err t

-- m + 2 bytes are m + 1, and one more
split : (m lo hi v k : ℕ) (t : List ℕ) → conts (suc (suc m)) lo hi v k t ≡ next (conts (suc m) lo hi v k t) (λ w l. conts 1 0x80 0xBF w l (drop (suc m) t))
unfolding conts
split m lo hi v k [] = refl
split zero lo hi v k (b ∷ t) = go (within lo hi b)
  where
    go : (x : Bool) →
        pick x (conts 1 0x80 0xBF (v * 64 + (b - 0x80)) (k + 1) t) (Err (Bad k))
        ≡ next (pick x (Ok ((v * 64 + (b - 0x80)), (k + 1))) (Err (Bad k))) (λ w l. conts 1 0x80 0xBF w l t)
    go true = refl
    go false = refl
split (suc m) lo hi v k (b ∷ t) = go (within lo hi b) (split m 0x80 0xBF (v * 64 + (b - 0x80)) (k + 1) t)
  where
    go : (x : Bool) →
        conts (suc (suc m)) 0x80 0xBF (v * 64 + (b - 0x80)) (k + 1) t
        ≡ next (conts (suc m) 0x80 0xBF (v * 64 + (b - 0x80)) (k + 1) t) (λ w l. conts 1 0x80 0xBF w l (drop (suc m) t)) →
        pick x (conts (suc (suc m)) 0x80 0xBF (v * 64 + (b - 0x80)) (k + 1) t) (Err (Bad k))
        ≡ next (pick x (conts (suc m) 0x80 0xBF (v * 64 + (b - 0x80)) (k + 1) t) (Err (Bad k))) (λ w l. conts 1 0x80 0xBF w l (drop (suc m) t))
    go true e = e
    go false e = refl

-- the same by what the bytes before gave, at a place of the whole list
module _ (s : List ℕ) (m k lo hi v : ℕ) where
  pub then_value : (w l : ℕ) → Ok (w, l) ≡ conts (suc m) lo hi v k (drop k s) → l ≡ k + suc m →
      (r : Result (ℕ × ℕ) Malformed) → r ≡ conts 1 0x80 0xBF w (k + suc m) (drop (k + suc m) s) → r ≡ conts (suc (suc m)) lo hi v k (drop k s)
  then_value w l e q r p =
      let d : drop (suc m) (drop k s) ≡ drop (k + suc m) s = drop-drop (suc m) k s in
      p ∙ sym (split m lo hi v k (drop k s) ∙ rw (← e, q, d))

  pub then_none : (t : Malformed) → Err t ≡ conts (suc m) lo hi v k (drop k s) → Err t ≡ conts (suc (suc m)) lo hi v k (drop k s)
  then_none t e = sym (split m lo hi v k (drop k s) ∙ rw (← e))

-- a greater bound
pub reached_low : (a b k : ℕ) (r : Result (ℕ × ℕ) Malformed) → a ≤ b → Reached a k r → Reached b k r
reached_low a b k (Ok (v, l)) h p = (omega (arith, p.0), p.1)
reached_low a b k (Err t) h p = tt

-- what the test of bounds says
pub bounds : (lo hi b : ℕ) → within lo hi b ≡ true → (lo ≤ b) × (b ≤ hi)
bounds lo hi b w = go (leb lo b) refl (leb b hi) refl w
  where
    go : (x : Bool) → leb lo b ≡ x → (y : Bool) → leb b hi ≡ y → (x && y) ≡ true → (lo ≤ b) × (b ≤ hi)
    go true p true q e = (leb-true lo b p, leb-true b hi q)
    go true p false q e = let z : ◌≡◌ {A = ℕ} 0 1 = cc in absurd (omega arith)
    go false p y q e = let z : ◌≡◌ {A = ℕ} 0 1 = cc in absurd (omega arith)

pub below : (lo hi b : ℕ) → b < lo → false ≡ within lo hi b
below lo hi b h = rw (lt-leb lo b h)

pub from : (lo hi b : ℕ) → lo ≤ b → leb b hi ≡ within lo hi b
from lo hi b h = rw (le-leb lo b h)
