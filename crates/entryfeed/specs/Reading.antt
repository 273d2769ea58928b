-- The entries of a vfont2 file, fed part by part: what whole entries say, and the bytes of the one that is left unfinished.
use Rattle.std.specs.Prelude.{ℕ, ◌-◌, ◌*◌, ◌/◌, List, ◌++◌, eqb, length, drop, Result, Ok, Err}
use Rattle.base.specs.Meaning.{pick}
use Rattle.entries.specs.Meaning.{entry_at}
use Rattle.entries.specs.Reading.{scan_of}
use Rattle.unfinished.specs.declared.Held.{Held}
use Rattle.unfinished.specs.Reading.{held_bytes, held_of}
use Rattle.entryfeed.specs.declared.Sums.{Sums}
use Rattle.entryfeed.specs.declared.Fed.{Fed}

-- what entries say that begin at a place of the file
abbrev pub after_scan : ℕ → Result (ℕ × ℕ) ℕ → Sums
after_scan at (Err i) = record { broken = entry_at at i; height = 0; width = 0 }
after_scan at (Ok (h, w)) = record { broken = 0; height = h; width = w }

-- the sums with k entries more, at the front of q, which begins at a place of the file; the first broken entry stays the first
unfoldable pub sums_of : ℕ → ℕ → Sums → List ℕ → ℕ → Sums
sums_of size at x q k = pick (eqb x.broken 0) (after_scan at (scan_of q size 0 k 0 x.height x.width)) x

-- how many whole entries stand at the front of q, and what is left behind them
abbrev pub whole_in : List ℕ → ℕ
whole_in q = length q / 18

abbrev pub behind_whole : List ℕ → List ℕ
behind_whole q = drop (whole_in q * 18) q

-- all whole entries of q read, and the rest held
unfoldable pub entries_read : ℕ → ℕ → Sums → List ℕ → Fed
entries_read size at x q = record { held = held_of (behind_whole q); sums = sums_of size at x q (whole_in q) }

-- a part that begins at a place of the file, behind the bytes held
abbrev pub entries_fed : ℕ → ℕ → Held → Sums → List ℕ → Fed
entries_fed size at h x s = entries_read size (at - h.len) x (held_bytes h ++ s)
