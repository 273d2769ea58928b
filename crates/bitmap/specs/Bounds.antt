-- That a bitmap, or a part, stands in the file.
use Rattle.std.specs.Prelude.{ℕ, ◌+◌, ◌≤◌, List, ◌≡◌, length, Result, Ok, Err}
use Rattle.header.specs.Meaning.{glyph_bytes}
use Rattle.bitmap.specs.declared.Bitmap as B
use Rattle.bitmap.specs.declared.Bitmap.{Bitmap}
use Rattle.bitmap.specs.declared.Part.{Part}
use Rattle.refusal.specs.declared.Refusal.{Refusal}

-- that a bitmap stands in the file, and how large it is
abbrev pub Inside : List ℕ → B.Bitmap → Type 0
Inside s b = (b.start + b.len ≤ length s) × (b.len ≡ glyph_bytes b.height b.width) × (b.height ≤ 255) × (b.width ≤ 255)

abbrev pub LocatedInside : List ℕ → Result Bitmap Refusal → Type 0
LocatedInside s (Ok b) = Inside s b
LocatedInside s (Err r) = Unit {0}

abbrev pub PartInside : List ℕ → Result Part Refusal → Type 0
PartInside s (Ok p) = p.start + p.len ≤ length s
PartInside s (Err r) = Unit {0}
