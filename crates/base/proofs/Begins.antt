-- What a list begins with: the test turn by turn, and that it means what it says.
use mathlib.Core.Path.{◌≡◌, refl, ap}
use mathlib.Core.Bool.{Bool, true, false}
use mathlib.Core.Logic.{◌↔◌}
use mathlib.Core.List.{List, [], ◌∷◌, ◌++◌}
use Prim.Native.Nat.{ℕ, ◌+◌, ◌≤◌, ◌<◌}
use native.Mathlib.Omega.{arith}
use native.Mathlib.Numerals.{add-one}
use lib.Dec.{eqb}
use lib.ListN.{length, get_or, take, drop, drop_of_length-le}
use lib.Seq.{drop-cons}
use borrow.Author.Tests.{eq-eqb, ne_eqb, eqb-true}
use Rattle.base.specs.Reading.{when, starts_with}
use Rattle.base.specs.Meaning.{Begins}

-- one turn, at place i
module _ (s m : List ℕ) (i : ℕ) where
  pub begins_whole : length m ≤ i → true ≡ starts_with (drop i m) (drop i s)
  unfolding starts_with
  begins_whole h = rw (drop_of_length-le m h)

  module _ (l : i < length m) where
    pub begins_other : i < length s → (get_or s i 0 ≡ get_or m i 0 → ⊥) → false ≡ starts_with (drop i m) (drop i s)
    unfolding starts_with when
    begins_other h n = rw (drop-cons s i 0 h, drop-cons m i 0 l, ne_eqb _ _ n)

    pub begins_next : i < length s → get_or s i 0 ≡ get_or m i 0 → starts_with (drop (i + 1) m) (drop (i + 1) s) ≡ starts_with (drop i m) (drop i s)
    unfolding starts_with when
    begins_next h e = rw (drop-cons s i 0 h, drop-cons m i 0 l, eq-eqb _ _ e, add-one)

-- a shorter list
pub begins_short : (s m : List ℕ) → length s < length m → false ≡ starts_with m s
unfolding starts_with when
begins_short s [] h = absurd (omega arith)
begins_short [] (b ∷ m) h = refl
begins_short (c ∷ s) (b ∷ m) h = go (eqb c b) (begins_short s m (omega arith))
  where
    go : (t : Bool) → false ≡ starts_with m s → false ≡ when t (starts_with m s) false
    go true e = e
    go false e = refl

-- the test says that the list begins so
pub begins_exactly : (m s : List ℕ) → (starts_with m s ≡ true) ↔ Begins m s
unfolding starts_with when
begins_exactly m s = (there m s, back m s)
  where
    there : (m s : List ℕ) → starts_with m s ≡ true → Begins m s
    there [] s e = refl
    there (b ∷ m) [] e = let z : ◌≡◌ {A = ℕ} 0 1 = cc in absurd (omega arith)
    there (b ∷ m) (c ∷ s) e = go (eqb c b) refl e (there m s)
      where
        go : (t : Bool) → eqb c b ≡ t → when t (starts_with m s) false ≡ true → (starts_with m s ≡ true → Begins m s) → Begins (b ∷ m) (c ∷ s)
        go true p q ih = λ i. eqb-true c b p i ∷ ih q i
        go false p q ih = let z : ◌≡◌ {A = ℕ} 0 1 = cc in absurd (omega arith)

    back : (m s : List ℕ) → Begins m s → starts_with m s ≡ true
    back [] s e = refl
    back (b ∷ m) [] e = let z : ◌≡◌ {A = ℕ} 0 1 = cc in absurd (omega arith)
    back (b ∷ m) (c ∷ s) e =
        let h : c ≡ b = cc in
        let t : take (length m) s ≡ m = cc in
        rw (eq-eqb c b h) (back m s t)

-- a list begins with what stands in front of it
pub begins_front : (m s : List ℕ) → starts_with m (m ++ s) ≡ true
unfolding starts_with when
begins_front [] s = refl
begins_front (b ∷ m) s = rw (eq-eqb b b refl) (begins_front m s)

-- with more behind it
pub begins_before : (m p s : List ℕ) → length m ≤ length p → starts_with m (p ++ s) ≡ starts_with m p
unfolding starts_with
begins_before [] p s h = refl
begins_before (b ∷ m) [] s h = absurd (omega arith)
begins_before (b ∷ m) (c ∷ p) s h = ap (λ (t : Bool). when (eqb c b) t false) (begins_before m p s (omega arith))
