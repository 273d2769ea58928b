-- What one step does to the length and to the writing, one law for each way that a turn of the loops can go.
use mathlib.Core.Path.{◌≡◌, refl, sym, ◌∙◌, ap}
use mathlib.Core.Bool.{Bool, true, false}
use mathlib.Core.List.{List, [], ◌∷◌, ◌++◌}
use Prim.Native.Nat.{ℕ, ◌+◌, ◌≤◌}
use native.Mathlib.Omega.{arith}
use lib.ListN.{length}
use Rattle.base.specs.Reading.{when}
use Rattle.coding.specs.declared.Coding.{Coding}
use Rattle.coding.specs.Reading.{carries_of, mark_len}
use Rattle.coding.specs.Meaning.{value_bytes, start_bytes, end_bytes}
use Rattle.table.specs.Meaning.{bytes}
use Rattle.table.specs.Reading.{steps_at, value_item, step_items}
use Rattle.transcode.specs.Reading.{measure, table_len, recoded}
use Rattle.std.specs.Prelude.{Ok, Err}
use Rattle.token.specs.declared.Token.TheVariants.{Value as TokenValue, Start as TokenStart, End as TokenEnd}
use Rattle.token.specs.declared.Token.{Token}
use Rattle.token.specs.declared.Malformed.{Malformed}
use Rattle.token.specs.Reading.{Step}

-- the length, by the first step
module _ (to : Coding) (at n : ℕ) (xs ys : List Step) where
  pub value_more : (v next l : ℕ) → xs ≡ Ok (TokenValue v, next) ∷ ys → carries_of to v ≡ true → l ≡ length (value_bytes to v) → measure to at n xs ≡ measure to next (n + l) ys
  unfolding measure when
  value_more v next l e c z = rw (e, c, z)

  pub value_not : (v next : ℕ) → xs ≡ Ok (TokenValue v, next) ∷ ys → carries_of to v ≡ false → measure to at n xs ≡ Err at
  unfolding measure when
  value_not v next e c = rw (e, c)

  pub mark_more : (t : Token) (next l : ℕ) → ((v : ℕ) → t ≡ TokenValue v → ⊥) → xs ≡ Ok (t, next) ∷ ys → l ≡ mark_len to → measure to at n xs ≡ measure to next (n + l) ys
  unfolding measure
  mark_more (TokenValue v) next l m e z = absurd (m v refl)
  mark_more TokenStart next l m e z = rw (e, z)
  mark_more TokenEnd next l m e z = rw (e, z)

  pub start_more : (next l : ℕ) → xs ≡ Ok (TokenStart, next) ∷ ys → l ≡ mark_len to → measure to at n xs ≡ measure to next (n + l) ys
  unfolding measure
  start_more next l e z = rw (e, z)

  pub end_more : (next l : ℕ) → xs ≡ Ok (TokenEnd, next) ∷ ys → l ≡ mark_len to → measure to at n xs ≡ measure to next (n + l) ys
  unfolding measure
  end_more next l e z = rw (e, z)

  pub malformed_no_more : (t : Malformed) → xs ≡ Err t ∷ ys → measure to at n xs ≡ Ok n
  unfolding measure
  malformed_no_more t e = rw e

  pub past_no_more : xs ≡ [] → measure to at n xs ≡ Ok n
  unfolding measure
  past_no_more e = rw e

  -- a value in front, where a length is step_items: the coding carries it
  pub value_carried : (v next m : ℕ) → xs ≡ Ok (TokenValue v, next) ∷ ys → measure to at n xs ≡ Ok m → carries_of to v ≡ true
  value_carried v next m e q = go (carries_of to v) refl
    where
      go : (t : Bool) → carries_of to v ≡ t → carries_of to v ≡ true
      go true c = c
      go false c = let u : Err at ≡ Ok m = sym (value_not v next e c) ∙ q in let z : ◌≡◌ {A = ℕ} 0 1 = cc in absurd (omega arith)

-- the bytes don't tell a single from a value in a sequence
module _ (to : Coding) where
  pub blind : (i j : Bool) (xs : List Step) → bytes to (step_items i xs) ≡ bytes to (step_items j xs)
  unfolding step_items value_item
  blind i j [] = refl
  blind false false (Ok (TokenValue v, next) ∷ xs) = refl
  blind false true (Ok (TokenValue v, next) ∷ xs) = ap (λ (z : List ℕ). value_bytes to v ++ z) (blind false true xs)
  blind true false (Ok (TokenValue v, next) ∷ xs) = ap (λ (z : List ℕ). value_bytes to v ++ z) (blind true false xs)
  blind true true (Ok (TokenValue v, next) ∷ xs) = refl
  blind i j (Ok (TokenStart, next) ∷ xs) = refl
  blind i j (Ok (TokenEnd, next) ∷ xs) = refl
  blind i j (Err t ∷ xs) = refl

  -- the bytes, by the first step
  module _ (xs ys : List Step) where
    pub value_bytes_lem : (v next : ℕ) → xs ≡ Ok (TokenValue v, next) ∷ ys → bytes to (step_items false xs) ≡ value_bytes to v ++ bytes to (step_items false ys)
    unfolding step_items value_item
    value_bytes_lem v next e = rw e

    pub start_bytes_lem : (next : ℕ) → xs ≡ Ok (TokenStart, next) ∷ ys → bytes to (step_items false xs) ≡ start_bytes to ++ bytes to (step_items false ys)
    unfolding step_items
    start_bytes_lem next e = rw e (ap (λ (z : List ℕ). start_bytes to ++ z) (blind true false ys))

    pub end_bytes_lem : (next : ℕ) → xs ≡ Ok (TokenEnd, next) ∷ ys → bytes to (step_items false xs) ≡ end_bytes to ++ bytes to (step_items false ys)
    unfolding step_items
    end_bytes_lem next e = rw e

    pub malformed_bytes : (t : Malformed) → xs ≡ Err t ∷ ys → bytes to (step_items false xs) ≡ []
    unfolding step_items
    malformed_bytes t e = rw e

    pub past_bytes : xs ≡ [] → bytes to (step_items false xs) ≡ []
    unfolding step_items
    past_bytes e = rw e

-- at the front
pub recoded_begins : (from to : Coding) (s : List ℕ) (xs : List Step) → xs ≡ steps_at from s 0 → recoded from to s ≡ bytes to (step_items false xs)
unfolding recoded
recoded_begins from to s xs e = ap (λ (ys : List Step). bytes to (step_items false ys)) (sym e)

pub length_begins : (from to : Coding) (s : List ℕ) (xs : List Step) → xs ≡ steps_at from s 0 → measure to 0 0 xs ≡ table_len from to s
unfolding table_len
length_begins from to s xs e = ap (measure to 0 0) e
