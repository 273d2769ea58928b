-- Document 01's "whole font, 45 bytes", for the laws that compute with it.
use mathlib.Core.List.{List, [], ◌∷◌}
use Prim.Native.Nat.{ℕ}

-- the header with header size 32, flags 1, n = 2, c = 2, height 2, width 3; bitmaps A0 40 E0 20; table 41 FF C3 85 FE 41 CC 8A FF
abbrev pub small : List ℕ
small =
    0x72 ∷ 0xB5 ∷ 0x4A ∷ 0x86 ∷ 0 ∷ 0 ∷ 0 ∷ 0 ∷ 32 ∷ 0 ∷ 0 ∷ 0 ∷ 1 ∷ 0 ∷ 0 ∷ 0 ∷ 2 ∷ 0 ∷ 0 ∷ 0 ∷ 2 ∷ 0 ∷ 0 ∷ 0 ∷ 2 ∷ 0 ∷ 0 ∷ 0 ∷ 3 ∷ 0 ∷ 0 ∷ 0
    ∷ 0xA0 ∷ 0x40 ∷ 0xE0 ∷ 0x20 ∷ 0x41 ∷ 0xFF ∷ 0xC3 ∷ 0x85 ∷ 0xFE ∷ 0x41 ∷ 0xCC ∷ 0x8A ∷ 0xFF ∷ []
