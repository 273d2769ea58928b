-- The reader of a value (`utf8::read_value`, which answers `read_value`) on a first byte below 80.
use mathlib.Core.Path.{◌≡◌, sym, ◌∙◌}
use mathlib.Core.List.{List, ◌∷◌}
use Prim.Native.Nat.{ℕ, ◌<◌}
use native.Mathlib.Omega.{arith}
use Rattle.utf8.specs.Reading.{read_value}
use Rattle.utf8.proofs.First.{ascii, no_mark, back_value}
use Rattle.std.specs.Prelude.{Ok}

-- "such a byte gives itself, one byte long, whatever follows"
pub ascii_value : (b : ℕ) (s : List ℕ) → b < 0x80 → read_value (b ∷ s) ≡ Ok (b, 1)
ascii_value b s h =
    back_value (read_value (b ∷ s)) b 1
    (no_mark (b ∷ s) (omega arith) (λ z. absurd (omega arith)) (λ z. absurd (omega arith)) ∙ sym (ascii (b ∷ s) (omega arith) (omega arith)))
