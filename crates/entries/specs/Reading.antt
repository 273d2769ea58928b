-- What an entry of the dispatch table says, and what all entries say, one after the other.
use Rattle.std.specs.Prelude.{ℕ, zero, suc, ◌+◌, List, not, ltb, eqb, Result, Ok, Err}
use Rattle.base.specs.Meaning.{pick}
use Rattle.base.specs.Reading.{when}
use Rattle.header.specs.Meaning.{glyph_bytes}
use Rattle.entries.specs.declared.Entry.{Entry}
use Rattle.entries.specs.declared.Entry.TheVariants.{Empty, Glyph, Broken}
use Rattle.entries.specs.Meaning.{entry_at, address_at, size_at, rows_at, cols_at}

-- what the entry at an offset says, where the bitmaps have so many bytes
unfoldable pub entry_of : List ℕ → ℕ → ℕ → Entry
entry_of s total at =
    when (eqb (size_at s at) 0) Empty
    (when (ltb (rows_at s at) 1) Broken
    (when (ltb 255 (rows_at s at)) Broken
    (when (ltb (cols_at s at) 1) Broken
    (when (ltb 255 (cols_at s at)) Broken
    (when (not (eqb (size_at s at) (glyph_bytes (rows_at s at) (cols_at s at)))) Broken
    (when (ltb total (address_at s at + size_at s at)) Broken
    (Glyph (rows_at s at) (cols_at s at))))))))

-- the larger of two
abbrev pub larger : ℕ → ℕ → ℕ
larger a b = pick (ltb a b) b a

-- k entries from entry i on, of a table that begins at an offset: the first that breaks a rule, or the greatest numbers of rows and
-- columns, h and w among them
unfoldable pub scan_of : List ℕ → ℕ → ℕ → ℕ → ℕ → ℕ → ℕ → Result (ℕ × ℕ) ℕ
scan_of s total start zero i h w = Ok (h, w)
scan_of s total start (suc k) i h w =
    elim (entry_of s total (entry_at start i)) [
      | Empty ↦ scan_of s total start k (suc i) h w
      | Glyph r c ↦ scan_of s total start k (suc i) (larger h r) (larger w c)
      | Broken ↦ Err i
    ]
