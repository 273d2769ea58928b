-- What one step does to a run, one law for each way that a turn of the loop can go.
use mathlib.Core.Path.{◌≡◌, refl, ◌∙◌, ap}
use mathlib.Core.Bool.{Bool, true, false}
use mathlib.Core.List.{List, [], ◌∷◌}
use Prim.Native.Nat.{ℕ, suc, ◌+◌, ◌-◌, ◌≤◌, ◌<◌}
use native.Mathlib.Omega.{arith}
use Rattle.base.proofs.Tests.{nonzero}
use lib.ListN.{length}
use lib.Seq.{drop-cons}
use Rattle.table.specs.declared.Steps.{Steps}
use Rattle.table.specs.Reading.{steps_from, steps_at}
use Rattle.table.specs.Walking.{Along, steps_left}
use Rattle.tablefeed.specs.Reading.{going, stopped, unread, run_of}
use Rattle.token.specs.declared.Token.TheVariants.{Value as TokenValue, Start as TokenStart, End as TokenEnd}
use Rattle.token.specs.declared.Malformed.{Malformed}
use Rattle.tablefeed.specs.declared.Halt.TheVariants.{Bad as TableBad, Trailing}
use Rattle.token.specs.Reading.{Step}
use Rattle.std.specs.Prelude.{Ok, Err}

-- with g descriptions complete of more than g, as the code counts them
module _ (g n : ℕ) (o : Bool) (at : ℕ) (h : g < n) where
  left : n - g ≡ 0 → ⊥
  left z = omega arith

  pub value : (xs ys : List Step) (v next : ℕ) → xs ≡ Ok (TokenValue v, next) ∷ ys → run_of g (n - g) o at xs ≡ run_of g (n - g) false next ys
  unfolding run_of
  value xs ys v next e = rw e (nonzero (λ (m : ℕ). run_of g m o at (Ok (TokenValue v, next) ∷ ys) ≡ run_of g m false next ys) (λ m. refl) (n - g) left)

  pub start : (xs ys : List Step) (next : ℕ) → xs ≡ Ok (TokenStart, next) ∷ ys → o ≡ false → run_of g (n - g) o at xs ≡ run_of g (n - g) true next ys
  unfolding run_of
  start xs ys next e q = rw e (nonzero (λ (m : ℕ). run_of g m o at (Ok (TokenStart, next) ∷ ys) ≡ run_of g m true next ys) (λ m. rw q) (n - g) left)

  pub start_bad : (xs ys : List Step) (next : ℕ) → xs ≡ Ok (TokenStart, next) ∷ ys → o ≡ true → run_of g (n - g) o at xs ≡ stopped TableBad g (next - 1)
  unfolding run_of
  start_bad xs ys next e q = rw e (nonzero (λ (m : ℕ). run_of g m o at (Ok (TokenStart, next) ∷ ys) ≡ stopped TableBad g (next - 1)) (λ m. rw q) (n - g) left)

  pub end : (xs ys : List Step) (next : ℕ) → xs ≡ Ok (TokenEnd, next) ∷ ys → o ≡ false → run_of g (n - g) o at xs ≡ run_of (g + 1) (n - (g + 1)) o next ys
  unfolding run_of
  end xs ys next e q =
      let d : n - g - 1 ≡ n - (g + 1) = omega arith in
      let s : suc g ≡ g + 1 = omega arith in
      rw e (nonzero (λ (m : ℕ). run_of g m o at (Ok (TokenEnd, next) ∷ ys) ≡ run_of (suc g) (m - 1) o next ys) (λ m. let p : suc m - 1 ≡ m = omega arith in rw (q, p)) (n - g) left
      ∙ ap (λ (m : ℕ). run_of (suc g) m o next ys) d
      ∙ ap (λ (k : ℕ). run_of k (n - (g + 1)) o next ys) s)

  pub end_bad : (xs ys : List Step) (next : ℕ) → xs ≡ Ok (TokenEnd, next) ∷ ys → o ≡ true → run_of g (n - g) o at xs ≡ stopped TableBad g (next - 1)
  unfolding run_of
  end_bad xs ys next e q = rw e (nonzero (λ (m : ℕ). run_of g m o at (Ok (TokenEnd, next) ∷ ys) ≡ stopped TableBad g (next - 1)) (λ m. rw q) (n - g) left)

  pub malformed : (xs ys : List Step) (t : Malformed) → xs ≡ Err t ∷ ys → run_of g (n - g) o at xs ≡ unread g o at t
  unfolding run_of
  malformed xs ys t e = rw e (nonzero (λ (m : ℕ). run_of g m o at (Err t ∷ ys) ≡ unread g o at t) (λ m. refl) (n - g) left)

-- a step behind the last description, and where none is left
module _ (g n : ℕ) (o : Bool) (at : ℕ) where
  pub trailing : (s : List ℕ) (w : Steps) → Along s at w → n ≤ g → at < length s → run_of g (n - g) o at (steps_left w) ≡ stopped Trailing g at
  unfolding run_of steps_from
  trailing s w (p, a) q h =
      let d : n - g ≡ 0 = omega arith in
      let e : steps_left w ≡ steps_at w.coding s at = λ i. steps_at w.coding (p i) (a i) in
      rw (e, d, drop-cons s at 0 h)

  pub ended : (xs : List Step) → xs ≡ [] → run_of g (n - g) o at xs ≡ going g o at
  unfolding run_of
  ended xs e = rw e
