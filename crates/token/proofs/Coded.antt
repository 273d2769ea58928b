-- A coding: what is written is read, what is read was written, and what is written is bytes, at least one.
use mathlib.Core.Path.{◌≡◌}
use mathlib.Core.List.{List, ◌++◌}
use Prim.Native.Nat.{ℕ, ◌≤◌}
use lib.ListN.{length, drop}
use Rattle.base.specs.Meaning.{Bytes}
use Rattle.std.specs.Prelude.{Ok}
use Rattle.token.specs.declared.Token.TheVariants.{Value, Start, End}
use Rattle.token.specs.Reading.{Step}

-- read gives the token in front; marks are mark bytes long; P tells the values, enc v is the bytes of v, st and en are the marks
pub record Coded (read : List ℕ → Step) (mark : ℕ) (P : ℕ → Type 0) (enc : ℕ → List ℕ) (st en : List ℕ) : Type 0 where
  -- what is written is read
  pub value_read : (v : ℕ) (s : List ℕ) → P v → read (enc v ++ s) ≡ Ok (Value v, length (enc v))
  pub start_read : (s : List ℕ) → read (st ++ s) ≡ Ok (Start, length st)
  pub end_read : (s : List ℕ) → read (en ++ s) ≡ Ok (End, length en)
  -- what is read was written
  pub read_value_lem : (s : List ℕ) → Bytes s → (v l : ℕ) → read s ≡ Ok (Value v, l) → P v × (l ≡ length (enc v)) × (s ≡ enc v ++ drop l s)
  pub read_start : (s : List ℕ) → Bytes s → (l : ℕ) → read s ≡ Ok (Start, l) → (l ≡ length st) × (s ≡ st ++ drop l s)
  pub read_end : (s : List ℕ) → Bytes s → (l : ℕ) → read s ≡ Ok (End, l) → (l ≡ length en) × (s ≡ en ++ drop l s)
  -- nothing is empty
  pub value_some : (v : ℕ) → P v → 1 ≤ length (enc v)
  pub start_long : length st ≡ mark
  pub end_long : length en ≡ mark
  pub mark_some : 1 ≤ mark
  -- what is written is bytes
  pub value_bytes_lem : (v : ℕ) → P v → Bytes (enc v)
  pub start_bytes_lem : Bytes st
  pub end_bytes_lem : Bytes en
