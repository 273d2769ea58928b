-- A token is no longer than the bytes that it is read from.
use Prim.Native.Nat.{ℕ, ◌≤◌, ◌<◌}
use Rattle.std.specs.Prelude.{Ok, Err}
use Rattle.token.specs.declared.Malformed.TheVariants.{Cut, Bad}
use Rattle.token.specs.Reading.{Step}

-- what is read says this of the length n of the bytes
abbrev pub Sized : ℕ → Step → Type 0
Sized n (Ok (t, l)) = (1 ≤ l) × (l ≤ n)
Sized n (Err Cut) = Unit {0}
Sized n (Err (Bad k)) = k < n
