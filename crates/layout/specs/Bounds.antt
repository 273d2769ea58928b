-- What the writers ask of a font with a dispatch table.
use Rattle.std.specs.Prelude.{List, ℕ, ◌+◌, ◌≤◌, ◌<◌, length}
use Rattle.header.specs.declared.Font.{Font}
use Rattle.entries.specs.Meaning.{entry_at, address_at}

-- each glyph's bytes, so many of them, stand in the file
abbrev pub GlyphsStand : List ℕ → Font → ℕ → Type 0
GlyphsStand s f size = (i : ℕ) → i < f.count → f.bitmaps + address_at s (entry_at f.entries i) + size ≤ length s
