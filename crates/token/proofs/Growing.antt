-- A token that is not cut stays as it is, whatever follows; and what is cut is short.
use mathlib.Core.Path.{◌≡◌}
use mathlib.Core.Logic.{◌⊎◌}
use mathlib.Core.List.{List, ◌++◌}
use Prim.Native.Nat.{ℕ, ◌<◌}
use lib.ListN.{length}
use Rattle.std.specs.Prelude.{Err}
use Rattle.token.specs.declared.Malformed.TheVariants.{Cut}
use Rattle.token.specs.Reading.{Step}

pub record Growing (read : List ℕ → Step) : Type 0 where
  pub kept : (p s : List ℕ) → (read p ≡ Err Cut) ⊎ (read (p ++ s) ≡ read p)
  pub cut_short : (p : List ℕ) → read p ≡ Err Cut → length p < 4
