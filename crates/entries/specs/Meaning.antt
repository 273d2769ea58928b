-- The dispatch table of a vfont2 file (source document 004): n entries of 18 bytes each, address and size (4 bytes each),
-- then up, down, left, right and logical width (signed, 2 bytes each); and its rules in document 01's words.
use Rattle.std.specs.Prelude.{ℕ, ◌+◌, ◌*◌, ◌≤◌, ◌<◌, ◌≡◌, ◌⊎◌, List, ltb, ℤ, pos, negsuc, ◌+ℤ◌, ◌-ℤ◌}
use Rattle.base.specs.Meaning.{pick, le16, le32}
use Rattle.header.specs.declared.Kind.TheVariants.{Vfont2}
use Rattle.header.specs.Meaning.{row_bytes, entry_len}
use Rattle.entries.specs.declared.Metrics.{Metrics}

-- where entry i of a table that begins at an offset stands
abbrev pub entry_at : ℕ → ℕ → ℕ
entry_at start i = start + i * entry_len Vfont2

-- "unsigned int addr; offset of glyph from start of bitmaps"
abbrev pub address_at : List ℕ → ℕ → ℕ
address_at s at = le32 s at

-- "unsigned int size; number of bytes (0 if no glyph)"
abbrev pub size_at : List ℕ → ℕ → ℕ
size_at s at = le32 s (at + 4)

-- "signed short": v, or v - 65536 from 32768 on
unfoldable pub signed16 : ℕ → ℤ
signed16 v = pick (ltb v 32768) (pos v) (pos v -ℤ pos 65536)

-- the five metrics of an entry
unfoldable pub metrics_at : List ℕ → ℕ → Metrics
metrics_at s at = record {
  up = signed16 (le16 s (at + 8));
  down = signed16 (le16 s (at + 10));
  left = signed16 (le16 s (at + 12));
  right = signed16 (le16 s (at + 14));
  logical = signed16 (le16 s (at + 16));
}

-- a whole number as a count: itself, or none below zero
abbrev pub count_of : ℤ → ℕ
count_of (pos n) = n
count_of (negsuc n) = 0

-- "The number of lines present in the bitmap is up+down. Similarly, the number of columns is left+right."
unfoldable pub rows_at : List ℕ → ℕ → ℕ
rows_at s at = count_of (signed16 (le16 s (at + 8)) +ℤ signed16 (le16 s (at + 10)))

unfoldable pub cols_at : List ℕ → ℕ → ℕ
cols_at s at = count_of (signed16 (le16 s (at + 12)) +ℤ signed16 (le16 s (at + 14)))

-- "Size 0 means no glyph"
abbrev pub HasGlyph : List ℕ → ℕ → Type 0
HasGlyph s at = size_at s at ≡ 0 → ⊥

-- "up + down and left + right, as whole numbers, lie in 1 to 255; the size is (up + down) × ((left + right + 7) / 8); address + size is
-- at most the bitmap total"
abbrev pub Rules : List ℕ → ℕ → ℕ → Type 0
Rules s total at =
    ((1 ≤ rows_at s at) × (rows_at s at ≤ 255)) × ((1 ≤ cols_at s at) × (cols_at s at ≤ 255))
    × (size_at s at ≡ rows_at s at * row_bytes (cols_at s at)) × (address_at s at + size_at s at ≤ total)

-- an entry with a glyph that does not keep them
abbrev pub Breaks : List ℕ → ℕ → ℕ → Type 0
Breaks s total at = HasGlyph s at × (Rules s total at → ⊥)

-- entry i is the first of n that breaks a rule
pub record FirstBroken (s : List ℕ) (total n start i : ℕ) : Type 0 where
  pub within : i < n
  pub breaks : Breaks s total (entry_at start i)
  pub first : (j : ℕ) → j < i → Breaks s total (entry_at start j) → ⊥

-- "The greatest height and width equal the largest sums over entries with a glyph; both are 0 if no entry has one."
pub record IsGreatest (s : List ℕ) (n start : ℕ) (m : ℕ → ℕ) (h : ℕ) : Type 0 where
  pub bound : (i : ℕ) → i < n → HasGlyph s (entry_at start i) → m (entry_at start i) ≤ h
  pub met : ((h ≡ 0) × ((i : ℕ) → i < n → HasGlyph s (entry_at start i) → ⊥)) ⊎ ((i : ℕ) × (i < n) × HasGlyph s (entry_at start i) × (m (entry_at start i) ≡ h))
