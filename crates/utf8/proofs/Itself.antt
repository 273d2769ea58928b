-- A first byte below 80 gives itself, of the bytes that are read and of the number that is answered.
use mathlib.Core.Path.{◌≡◌, sym}
use mathlib.Core.List.{List, [], ◌∷◌}
use Prim.Native.Nat.{ℕ, ◌<◌}
use native.Mathlib.Omega.{arith}
use lib.ListN.{length, get_or}
use Rattle.utf8.specs.Reading.{read_value}
use Rattle.utf8.proofs.Ascii.{ascii_value}
use Rattle.std.specs.Prelude.{Ok}

pub itself : (s : List ℕ) → 0 < length s → get_or s 0 0 < 0x80 → (v : ℕ) → v ≡ get_or s 0 0 → Ok (v, 1) ≡ read_value s
itself [] h k v e = absurd (omega arith)
itself (b ∷ s) h k v e = rw e (sym (ascii_value b s k))
