-- One step of the walk to a description and of the search among its singles, one law for each way that a turn of their loops can go.
use mathlib.Core.Path.{◌≡◌, refl, ◌∙◌, ap}
use mathlib.Core.List.{List, [], ◌∷◌}
use Prim.Native.Nat.{ℕ, zero, suc, ◌-◌, ◌≤◌}
use native.Mathlib.Omega.{arith}
use lib.ListN.{length, drop_of_length-le}
use borrow.Author.Tests.{eq-eqb, ne_eqb}
use Rattle.coding.specs.declared.Coding.{Coding}
use Rattle.table.specs.Reading.{steps_at, value_of}
use Rattle.mapping.specs.declared.Mapping.{Mapping}
use Rattle.mapping.specs.declared.Mapping.TheVariants.{Listed, Unlisted}
use Rattle.mapping.specs.Reading.{place_after, single_from, description_at, mapping_of}
use Rattle.token.specs.declared.Token.TheVariants.{Value as TokenValue, Start as TokenStart, End as TokenEnd}
use Rattle.token.specs.declared.Token.{Token}
use Rattle.token.specs.declared.Malformed.{Malformed}
use Rattle.token.specs.Reading.{Step}
use Rattle.std.specs.Prelude.{Ok, Err, None}

-- the walk: no description is left to pass, a step that ends none, one that ends one, and where reading stops
pub here : (g at : ℕ) (xs : List Step) → g ≡ 0 → at ≡ place_after g at xs
unfolding place_after
here g at xs e = rw e

module _ (g at : ℕ) (xs ys : List Step) where
  pub past_other : (t : Token) (next : ℕ) → (t ≡ TokenEnd → ⊥) → (g ≡ 0 → ⊥) → xs ≡ Ok (t, next) ∷ ys → place_after g at xs ≡ place_after g next ys
  unfolding place_after
  past_other t next d n e = rw e (go g t d n)
    where
      go : (m : ℕ) (u : Token) → (u ≡ TokenEnd → ⊥) → (m ≡ 0 → ⊥) → place_after m at (Ok (u, next) ∷ ys) ≡ place_after m next ys
      go zero u d f = absurd (f refl)
      go (suc m) (TokenValue v) d f = refl
      go (suc m) TokenStart d f = refl
      go (suc m) TokenEnd d f = absurd (d refl)

  pub past_end : (next : ℕ) → (g ≡ 0 → ⊥) → xs ≡ Ok (TokenEnd, next) ∷ ys → place_after g at xs ≡ place_after (g - 1) next ys
  unfolding place_after
  past_end next n e = rw e (go g n)
    where
      go : (m : ℕ) → (m ≡ 0 → ⊥) → place_after m at (Ok (TokenEnd, next) ∷ ys) ≡ place_after (m - 1) next ys
      go zero f = absurd (f refl)
      go (suc m) f = let z : suc m - 1 ≡ m = omega arith in rw z

  pub stops : (t : Malformed) → xs ≡ Err t ∷ ys → place_after g at xs ≡ at
  unfolding place_after
  stops t e = rw e (go g)
    where
      go : (m : ℕ) → place_after m at (Err t ∷ ys) ≡ at
      go zero = refl
      go (suc m) = refl

  pub place_past : xs ≡ [] → place_after g at xs ≡ at
  unfolding place_after
  place_past e = rw e (go g)
    where
      go : (m : ℕ) → place_after m at [] ≡ at
      go zero = refl
      go (suc m) = refl

-- the search: the value, another, and what ends the singles
module _ (v at : ℕ) (xs ys : List Step) where
  pub found : (w next : ℕ) → w ≡ v → xs ≡ Ok (TokenValue w, next) ∷ ys → single_from v at xs ≡ Listed at next
  unfolding single_from
  found w next q e = rw (e, eq-eqb w v q)

  pub other : (w next : ℕ) → (w ≡ v → ⊥) → xs ≡ Ok (TokenValue w, next) ∷ ys → single_from v at xs ≡ single_from v next ys
  unfolding single_from
  other w next q e = rw (e, ne_eqb w v q)

  pub none_other : (x : Step) → value_of x ≡ None → xs ≡ x ∷ ys → single_from v at xs ≡ Unlisted at
  unfolding single_from
  none_other (Ok (TokenValue w, next)) n e = let z : ◌≡◌ {A = ℕ} 0 1 = cc in absurd (omega arith)
  none_other (Ok (TokenStart, next)) n e = rw e
  none_other (Ok (TokenEnd, next)) n e = rw e
  none_other (Err t) n e = rw e

  pub none_past : xs ≡ [] → single_from v at xs ≡ Unlisted at
  unfolding single_from
  none_past e = rw e

module _ (c : Coding) (s : List ℕ) where
  -- the walk from the front on
  pub from_front : (g : ℕ) → place_after g 0 (steps_at c s 0) ≡ description_at c g s
  unfolding description_at
  from_front g = refl

  -- one after the other
  pub both : (g v d : ℕ) (m : Mapping) → d ≡ description_at c g s → m ≡ single_from v d (steps_at c s d) → m ≡ mapping_of c g v s
  unfolding mapping_of
  both g v d m e q = q ∙ ap (λ (at : ℕ). single_from v at (steps_at c s at)) e
