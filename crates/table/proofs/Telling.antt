-- The items of steps, by the first step: what every loop over the items of a tail goes by.
use mathlib.Core.Path.{◌≡◌}
use mathlib.Core.Bool.{Bool, true, false}
use mathlib.Core.List.{List, [], ◌∷◌}
use Prim.Native.Nat.{ℕ, ◌≤◌}
use lib.ListN.{length, drop_of_length-le}
use Rattle.coding.specs.declared.Coding.{Coding}
use Rattle.table.specs.declared.Item.TheVariants.{Start, End}
use Rattle.table.specs.Reading.{steps_from, steps_at, value_item, value_of, step_items}
use Rattle.table.specs.Skipping.{NoValue}
use native.Mathlib.Omega.{arith}
use Rattle.token.specs.declared.Token.TheVariants.{Value as TokenValue, Start as TokenStart, End as TokenEnd}
use Rattle.token.specs.declared.Malformed.{Malformed}
use Rattle.token.specs.Reading.{Step}
use Rattle.std.specs.Prelude.{Ok, Err, Some, None}

module _ (i : Bool) (xs ys : List Step) where
  pub told_value : (v next : ℕ) → xs ≡ Ok (TokenValue v, next) ∷ ys → step_items i xs ≡ value_item i v ∷ step_items i ys
  unfolding step_items
  told_value v next e = rw e

  pub told_start : (next : ℕ) → xs ≡ Ok (TokenStart, next) ∷ ys → step_items i xs ≡ Start ∷ step_items true ys
  unfolding step_items
  told_start next e = rw e

  pub told_end : (next : ℕ) → xs ≡ Ok (TokenEnd, next) ∷ ys → step_items i xs ≡ End ∷ step_items false ys
  unfolding step_items
  told_end next e = rw e

  pub told_malformed : (m : Malformed) → xs ≡ Err m ∷ ys → step_items i xs ≡ []
  unfolding step_items
  told_malformed m e = rw e

  pub told_none : xs ≡ [] → step_items i xs ≡ []
  unfolding step_items
  told_none e = rw e

pub told_past : (c : Coding) (s : List ℕ) (i : Bool) (at : ℕ) → length s ≤ at → step_items i (steps_at c s at) ≡ []
unfolding step_items steps_from
told_past c s i at h = rw (drop_of_length-le s h)

-- a step by its value
pub is_value : (x : Step) (v next : ℕ) → value_of x ≡ Some (v, next) → x ≡ Ok (TokenValue v, next)
is_value (Ok (TokenValue w, m)) v next e = let q : ◌≡◌ {A = ℕ × ℕ} (w, m) (v, next) = cc in λ i. Ok (TokenValue (q i).0, (q i).1)
is_value (Ok (TokenStart, m)) v next e = let z : ◌≡◌ {A = ℕ} 0 1 = cc in absurd (omega arith)
is_value (Ok (TokenEnd, m)) v next e = let z : ◌≡◌ {A = ℕ} 0 1 = cc in absurd (omega arith)
is_value (Err t) v next e = let z : ◌≡◌ {A = ℕ} 0 1 = cc in absurd (omega arith)

pub no_value : (x : Step) → value_of x ≡ None → NoValue x
no_value (Ok (TokenValue w, m)) e = let z : ◌≡◌ {A = ℕ} 0 1 = cc in absurd (omega arith)
no_value (Ok (TokenStart, m)) e = tt
no_value (Ok (TokenEnd, m)) e = tt
no_value (Err t) e = tt
