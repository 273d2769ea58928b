-- Bounds of what a header says, and where the parts of a font stand in its file: what the calls above ask of a font and its file.
use Rattle.std.specs.Prelude.{ℕ, ◌+◌, ◌*◌, ◌≤◌, ◌<◌, List, ◌≡◌, length, Result, Ok, Err}
use Rattle.header.specs.declared.Kind.{Kind}
use Rattle.header.specs.declared.Kind.TheVariants.{Psf1, Psf2, Vfont2}
use Rattle.header.specs.declared.Font.{Font}
use Rattle.header.specs.Meaning.{limit, glyph_bytes, entry_len}
use Rattle.header.specs.declared.Fields.{Fields}
use Rattle.refusal.specs.declared.Refusal.{Refusal}

-- the bounds of the fields read
abbrev pub HeadWithin : Result Fields Refusal → Type 0
HeadWithin (Ok f) = (1 ≤ f.count) × (f.header ≤ 4096) × (f.count ≤ 4096) × (f.size < 4294967296)
HeadWithin (Err r) = Unit {0}

-- bitmaps of one size, end to end
abbrev pub Even : Font → Type 0
Even f = (f.end ≡ f.bitmaps + f.count * f.size) × (f.size ≡ glyph_bytes f.height f.width)

-- a dispatch table, then the bitmaps
abbrev pub Dispatched : Font → Type 0
Dispatched f = (f.bitmaps ≡ f.entries + f.count * entry_len Vfont2) × (f.end ≡ f.bitmaps + f.size)

abbrev pub KindPlaced : Font → Kind → Type 0
KindPlaced f Psf1 = Even f
KindPlaced f Psf2 = Even f
KindPlaced f Vfont2 = Dispatched f

-- what holds of a font that a header describes
abbrev pub Described : Font → Type 0
Described f =
    (1 ≤ f.count) × (f.count ≤ 4096) × (f.height ≤ 255) × (f.width ≤ 255) × (f.entries ≤ f.bitmaps) × (f.bitmaps ≤ f.end)
    × KindPlaced f f.kind

-- a font whose parts stand in the file
abbrev pub Placed : List ℕ → Font → Type 0
Placed s f =
    (length s ≤ limit) × (1 ≤ f.count) × (f.count ≤ 4096) × (f.height ≤ 255) × (f.width ≤ 255) × (f.entries ≤ f.bitmaps) × (f.bitmaps ≤ f.end)
    × (f.end ≤ length s) × KindPlaced f f.kind

-- where the parts stand, whatever the file's length: no entries (PSF1, PSF2), or entries behind the first 32 bytes
abbrev pub PartsOf : Font → Kind → Type 0
PartsOf f Psf1 = f.bitmaps ≡ f.entries
PartsOf f Psf2 = f.bitmaps ≡ f.entries
PartsOf f Vfont2 = (32 ≤ f.entries) × (f.bitmaps ≡ f.entries + f.count * entry_len Vfont2)

abbrev pub Parts : Font → Type 0
Parts f = (1 ≤ f.entries) × (f.bitmaps ≤ f.end) × (32 ≤ f.end) × PartsOf f f.kind
