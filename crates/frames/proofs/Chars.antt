-- A character of a line, where the line that is held goes by variables.
use mathlib.Core.Path.{◌≡◌, ◌∙◌}
use mathlib.Core.List.{List}
use Prim.Native.Nat.{ℕ, ◌+◌, ◌<◌}
use native.Mathlib.Omega.{arith}
use lib.ListN.{set}
use Rattle.std.specs.Prelude.{IsNone}
use Rattle.frames.specs.declared.Frames.{Frames}
use Rattle.frames.specs.Reading.{byte_of, took_of}
use Rattle.frames.proofs.Feeding.{counted_more, byte_char}
use Rattle.frames.proofs.Held.{with_short}

-- a state with another line held, and so many bytes taken
abbrev pub holding : Frames → List ℕ → ℕ → ℕ → Frames
holding f line len taken = record { loader = f.loader; line = line; len = len; ended = f.ended; bad = f.bad; taken = taken }

pub char_byte : (f : Frames) (line : List ℕ) (len taken b : ℕ) → IsNone f.bad × (taken < 4194304) × (len < 128) × (b ≡ 10 → ⊥) → byte_of (holding f line len taken) b ≡ holding f (set line len b) (len + 1) (taken + 1)
char_byte f line len taken b h =
    let e = counted_more taken (omega (arith, h.1)) in
    byte_char (holding f line len taken) b h.0 h.1 h.3
    ∙ with_short (took_of (holding f line len taken)) b h.2
    ∙ (λ i. record { loader = f.loader; line = set line len b; len = len + 1; ended = f.ended; bad = f.bad; taken = e i })
