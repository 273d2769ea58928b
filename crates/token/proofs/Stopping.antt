-- Where a coding stops: what is cut is the beginning of a value, and what is bad is bad from its place on, whatever follows.
use mathlib.Core.Path.{◌≡◌}
use mathlib.Core.List.{List, [], ◌++◌}
use Prim.Native.Nat.{ℕ, suc, ◌-◌, ◌<◌}
use lib.ListN.{length, take}
use Rattle.base.specs.Meaning.{Bytes}
use Rattle.std.specs.Prelude.{Err}
use Rattle.token.specs.declared.Malformed.TheVariants.{Cut, Bad}
use Rattle.token.specs.Reading.{Step}

-- a value whose bytes begin so
pub record Begun (P : ℕ → Type 0) (enc : ℕ → List ℕ) (s : List ℕ) : Type 0 where
  pub value : ℕ
  pub more : List ℕ
  pub of : P value
  pub same : s ++ more ≡ enc value

pub record Stopping (read : List ℕ → Step) (mark : ℕ) (P : ℕ → Type 0) (enc : ℕ → List ℕ) (st en : List ℕ) : Type 0 where
  pub nil_cut : read [] ≡ Err Cut
  pub cut_begun : (s : List ℕ) → Bytes s → read s ≡ Err Cut → Begun P enc s
  pub bad_within : (s : List ℕ) (k : ℕ) → read s ≡ Err (Bad k) → k < length s
  pub bad_cut : (s : List ℕ) (k : ℕ) → read s ≡ Err (Bad k) → read (take k s) ≡ Err Cut
  pub bad_never : (s : List ℕ) (k : ℕ) (x : List ℕ) → read s ≡ Err (Bad k) → read (take (suc k) s ++ x) ≡ Err (Bad k)
  -- a mark without its last byte begins a value
  pub start_begun : Begun P enc (take (mark - 1) st)
  pub end_begun : Begun P enc (take (mark - 1) en)
