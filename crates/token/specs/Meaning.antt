-- Unicode's noncharacters, which are values in neither coding (document 02, W6).
use Rattle.std.specs.Prelude.{◌⊎◌, ℕ, ◌%◌, ◌≤◌}

-- "noncharacters (FDD0 to FDEF, and the last two of each plane)": a plane is 10000 code points
abbrev pub Noncharacter : ℕ → Type 0
Noncharacter v = ((0xFDD0 ≤ v) × (v ≤ 0xFDEF)) ⊎ (0xFFFE ≤ v % 0x10000)
