-- The words of the statements: what a call says back, document 01's rows call by call, what a conversion keeps.
use Rattle.std.specs.Prelude.{ℕ, zero, suc, ◌+◌, ◌-◌, ◌*◌, ◌≤◌, ◌<◌, ◌≡◌, ◌⊎◌, ◌↔◌, Bool, true, false, List, [], ◌∷◌, ◌++◌, length, get_or, take, drop, replicate, Result, Ok, Err}
use Rattle.std.proofs.Math.Option.{Option, none, some}
use Rattle.base.specs.Meaning.{le32, Begins, Bytes}
use Rattle.refusal.specs.Meaning.{number_of, no_glyph}
use Rattle.refusal.specs.declared.Refusal.{Refusal}
use Rattle.coding.specs.declared.Coding.{Coding}
use Rattle.coding.specs.declared.Coding.TheVariants.{Utf8, Ucs2}
use Rattle.table.specs.declared.Item.{Item}
use Rattle.table.specs.declared.Item.TheVariants.{Single, Value}
use Rattle.table.specs.Meaning.{Desc, items_of, items, bytes, encode, Unfinished, BadAt, TrailingAt, InGlyph}
use Rattle.lookup.specs.Meaning.{Nth, Any, ListsValue, ListsSequence, Lowest, Nowhere, ItemIs}
use Rattle.header.specs.declared.Kind as K
use Rattle.header.specs.declared.Kind.TheVariants.{Psf1, Psf2, Vfont2}
use Rattle.header.specs.declared.Font.{Font}
use Rattle.header.specs.Meaning.{limit, row_bytes, psf1_font, fields_of, psf2_font, vfont2_font, char_size, magic_of, header_len, psf1_count, psf1_table}
use Rattle.entries.specs.declared.Metrics.{Metrics}
use Rattle.entries.specs.Meaning.{entry_at, address_at, rows_at, cols_at, FirstBroken, IsGreatest}
use Rattle.bitmap.specs.Meaning.{kind_metrics, row_start, pixel_in, view_of}
use Rattle.stages.specs.Meaning.{coding_of, tail_of}
use Rattle.stages.specs.Reading.{check_of}
use Rattle.content.specs.Meaning.{Drawing, bitmap_in, NoGlyph, Describes, Content, HasContent, Plain}
use Rattle.conversion.specs.declared.Conversion.{Conversion}
use Rattle.conversion.specs.declared.Conversion.TheVariants.{Psf1ToPsf2, Psf2ToPsf1, Psf2ToVfont2, Vfont2ToPsf2}
use Rattle.conversion.specs.Meaning.{source_kind, target_kind, front_len, FirstUneven}
use Rattle.token.specs.Meaning.{Noncharacter}
use Rattle.utf8.specs.Meaning.{Scalar, utf8_bytes}
use Rattle.mapping.specs.Meaning.{Lists}
use Rattle.differences.specs.Meaning.{numbers}
use Rattle.fonts.specs.Reading.{glyph_part_of, row_part_of, pixel_at, glyph_metrics_of, item_of, value_glyph, sequence_glyph}
use Rattle.bitmap.specs.declared.Part.{Part}
use Rattle.differences.specs.declared.Uncompared.{Uncompared}
use Rattle.differences.specs.declared.Uncompared.TheVariants.{First, Second, Neither}

-- What a call says back: an answer, or "a number and a place". "When an answer is an enum, a definition gives this paper's number and
-- values for each of its cases."
pub data Said (A : Type 0) : Type 0 where
  gives : A → Said A
  refuses : ℕ → ℕ → Said A

abbrev pub told : {A : Type 0} → Refusal → Said A
told r = refuses (number_of r.reason) r.place

-- of any call: what it answers, else its refusal
abbrev pub says : {A : Type 0} → Result A Refusal → Said A
says (Ok v) = gives v
says (Err r) = told r

-- of a part: an offset and a length
abbrev pub part_says : Result Part Refusal → Said (ℕ × ℕ)
part_says (Ok p) = gives (p.start, p.len)
part_says (Err r) = told r

-- Rows: "Checks on a font run in this order; the first that applies is given."

-- a row: it applies, and its number and place are given; or it does not, and the rest decides
pub data Row {A : Type 0} (applies : Type 0) (number place : ℕ) (rest : Said A → Type 0) (a : Said A) : Type 0 where
  given : applies → a ≡ refuses number place → Row applies number place rest a
  skipped : (applies → ⊥) → rest a → Row applies number place rest a

-- a row that applies at a number, which tells its place
pub data RowAt {A : Type 0} (applies : ℕ → Type 0) (number : ℕ) (place : ℕ → ℕ) (rest : Said A → Type 0) (a : Said A) : Type 0 where
  given_at : (k : ℕ) → applies k → a ≡ refuses number (place k) → RowAt applies number place rest a
  skipped_at : ((k : ℕ) → applies k → ⊥) → rest a → RowAt applies number place rest a

-- "Every question and conversion gives the font's own refusal (1 to 12) first."
pub data Own {A : Type 0} (s : List ℕ) (rest : Font → Said A → Type 0) (a : Said A) : Type 0 where
  own : (r : Refusal) → check_of s ≡ Err r → a ≡ told r → Own s rest a
  sound : (f : Font) → check_of s ≡ Ok f → rest f a → Own s rest a

-- the rows on a font's reading: its descriptions
pub data Reading {A : Type 0} (s : List ℕ) (f : Font) (rest : List Desc → Said A → Type 0) (a : Said A) : Type 0 where
  reads : (ds : List Desc) → Describes s f f.table ds → rest ds a → Reading s f rest a

-- what is given has P
pub data Gives {A : Type 0} (P : A → Type 0) (a : Said A) : Type 0 where
  gives_it : (v : A) → P v → a ≡ gives v → Gives P a

-- a call says x: of an answer, its rows hold exactly when it is x
abbrev pub Exact : {A : Type 0} → Said A → (Said A → Type 0) → Type 0
Exact {A} x rows = (a : Said A) → (x ≡ a) ↔ rows a

-- what is said of a table, of the tail of a font: in its coding, of as many descriptions as it has glyphs
abbrev pub of_tail : {B : Type 1} → (Coding → ℕ → List ℕ → B) → List ℕ → Font → B
of_tail P s f = P (coding_of f.kind) f.count (tail_of s f)

-- The check, rows 1 to 12.

-- a file that begins 36 04: rows 3, 4, 7 and 8, and then those of the font that it is
abbrev pub Psf1Rows : List ℕ → (Font → Said Font → Type 0) → Said Font → Type 0
Psf1Rows s after =
    Row (length s < 4) 3 (length s)
    (Row (5 < get_or s 2 0) 4 2
    (Row (get_or s 3 0 ≡ 0) 7 3
    (Row (length s < 4 + psf1_count (get_or s 2 0) * get_or s 3 0) 8 (length s)
    (after (psf1_font (psf1_count (get_or s 2 0)) (get_or s 3 0) (psf1_table (get_or s 2 0)))))))

-- a header of 32 bytes: rows 3 to 6
abbrev pub HeadRows : List ℕ → (Said Font → Type 0) → Said Font → Type 0
HeadRows s rest =
    Row (length s < 32) 3 (length s)
    (Row (le32 s 4 ≡ 0 → ⊥) 4 4
    (Row (1 < le32 s 12) 4 12
    (Row ((le32 s 8 < 32) ⊎ (4096 < le32 s 8)) 5 8
    (Row ((le32 s 16 ≡ 0) ⊎ (4096 < le32 s 16)) 6 16 rest))))

-- a file that begins 72 B5 4A 86: rows 3 to 8
abbrev pub Psf2Rows : List ℕ → (Font → Said Font → Type 0) → Said Font → Type 0
Psf2Rows s after =
    HeadRows s
    (Row ((le32 s 24 < 1) ⊎ (255 < le32 s 24)) 7 24
    (Row ((le32 s 28 < 1) ⊎ (255 < le32 s 28)) 7 28
    (Row (le32 s 20 ≡ le32 s 24 * row_bytes (le32 s 28) → ⊥) 7 20
    (Row (length s < le32 s 8 + le32 s 16 * le32 s 20) 8 (length s)
    (after (psf2_font (fields_of s)))))))

-- a file that begins 27 5B A4 68: row 9
abbrev pub EntryRows : List ℕ → (Said Font → Type 0) → Said Font → Type 0
EntryRows s rest =
    RowAt (FirstBroken s (le32 s 20) (le32 s 16) (le32 s 8)) 9 (entry_at (le32 s 8))
    (Row (IsGreatest s (le32 s 16) (le32 s 8) (rows_at s) (le32 s 24) → ⊥) 9 24
    (Row (IsGreatest s (le32 s 16) (le32 s 8) (cols_at s) (le32 s 28) → ⊥) 9 28 rest))

-- its rows 3 to 9
abbrev pub Vfont2Rows : List ℕ → (Font → Said Font → Type 0) → Said Font → Type 0
Vfont2Rows s after =
    HeadRows s
    (Row (255 < le32 s 24) 7 24
    (Row (255 < le32 s 28) 7 28
    (Row (length s < le32 s 8 + le32 s 16 * 18 + le32 s 20) 8 (length s)
    (EntryRows s (after (vfont2_font (fields_of s)))))))

-- the rows of the kind that a file begins with
abbrev pub KindRows : List ℕ → (Font → Said Font → Type 0) → Said Font → Type 0
KindRows s after a =
    (Begins (magic_of Psf1) s × Psf1Rows s after a)
    ⊎ ((Begins (magic_of Psf2) s × Psf2Rows s after a) ⊎ (Begins (magic_of Vfont2) s × Vfont2Rows s after a))

-- rows 1 to 9, and those after them
abbrev pub RowsThen : List ℕ → (Font → Said Font → Type 0) → Said Font → Type 0
RowsThen s after =
    Row (limit < length s) 1 limit
    (Row ((Begins (magic_of Psf1) s → ⊥) × (Begins (magic_of Psf2) s → ⊥) × (Begins (magic_of Vfont2) s → ⊥)) 2 0
    (KindRows s after))

-- rows 10 to 12 of a font with a table, row 12 of one without
abbrev pub TailRows : List ℕ → Font → Bool → Said Font → Type 0
TailRows s f true =
    Row (of_tail Unfinished s f) 10 (length s)
    (RowAt (of_tail BadAt s f) 11 (λ k. f.end + k)
    (RowAt (of_tail TrailingAt s f) 12 (λ k. f.end + k)
    (λ a. a ≡ gives f)))
TailRows s f false = Row (f.end < length s) 12 f.end (λ a. a ≡ gives f)

-- rows 1 to 9 alone: of a font f that none of them applies to, `RowsTo9 s (gives f)`
abbrev pub RowsTo9 : List ℕ → Said Font → Type 0
RowsTo9 s = RowsThen s (λ f a. a ≡ gives f)

-- all rows of the check
abbrev pub CheckRows : List ℕ → Said Font → Type 0
CheckRows s = RowsThen s (λ f. TailRows s f f.table)

-- The glyph of a refusal (document 02, W7): "the entry for ENTRY at an entry and for GLYPHS from vfont2; for TABLE CUT, TABLE BAD and VALUE the number of
-- descriptions complete before the place; 4,096 in all other cases".

-- entry g of a file that begins 27 5B A4 68 starts at a place
abbrev pub EntryStarts : List ℕ → ℕ → ℕ → Type 0
EntryStarts s place g = Begins (magic_of Vfont2) s × (g < le32 s 16) × (place ≡ entry_at (le32 s 8) g)

-- the entry that starts at a place; 4,096 where none does
pub data OfEntry (s : List ℕ) (place g : ℕ) : Type 0 where
  at_entry : EntryStarts s place g → OfEntry s place g
  elsewhere : ((i : ℕ) → EntryStarts s place i → ⊥) → g ≡ no_glyph → OfEntry s place g

-- the bytes from a font's table on, up to a place, begin with g descriptions and not with g + 1; and g is one of the font's glyphs
pub record CompleteBefore (s : List ℕ) (place g : ℕ) : Type 0 where
  pub font : Font
  pub passes : RowsTo9 s (gives font)
  pub offset : ℕ
  pub here : place ≡ font.end + offset
  pub complete : InGlyph (coding_of font.kind) (tail_of s font) offset g
  pub below : g < font.count

-- the numbers of ENTRY and GLYPHS; of TABLE CUT, TABLE BAD and VALUE
abbrev pub ByEntry : ℕ → Type 0
ByEntry number = (number ≡ 9) ⊎ (number ≡ 18)

abbrev pub ByTable : ℕ → Type 0
ByTable number = (number ≡ 10) ⊎ ((number ≡ 11) ⊎ (number ≡ 19))

-- g is the glyph of a refusal with a number, at a place
pub data GlyphOf (s : List ℕ) (number place g : ℕ) : Type 0 where
  of_entry : ByEntry number → OfEntry s place g → GlyphOf s number place g
  of_table : ByTable number → CompleteBefore s place g → GlyphOf s number place g
  of_none : (ByEntry number → ⊥) → (ByTable number → ⊥) → g ≡ no_glyph → GlyphOf s number place g

-- a refusal on a file tells that glyph and no other; a font has at most 4,096, so no glyph has the number that stands for none
abbrev pub TellsGlyph : List ℕ → Refusal → Type 0
TellsGlyph s r = ((g : ℕ) → (r.glyph ≡ g) ↔ GlyphOf s (number_of r.reason) r.place g) × (r.glyph ≤ no_glyph)

-- Unicode's Table 3-7, "Well-Formed UTF-8 Byte Sequences", row by row
abbrev pub In : ℕ → ℕ → ℕ → Type 0
In lo hi b = (lo ≤ b) × (b ≤ hi)

abbrev pub WellFormed : List ℕ → Type 0
WellFormed [] = ⊥
WellFormed (a ∷ []) = In 0x00 0x7F a
WellFormed (a ∷ b ∷ []) = In 0xC2 0xDF a × In 0x80 0xBF b
WellFormed (a ∷ b ∷ c ∷ []) =
    (In 0xE0 0xE0 a × In 0xA0 0xBF b × In 0x80 0xBF c)
    ⊎ ((In 0xE1 0xEC a × In 0x80 0xBF b × In 0x80 0xBF c)
    ⊎ ((In 0xED 0xED a × In 0x80 0x9F b × In 0x80 0xBF c)
    ⊎ (In 0xEE 0xEF a × In 0x80 0xBF b × In 0x80 0xBF c)))
WellFormed (a ∷ b ∷ c ∷ d ∷ []) =
    (In 0xF0 0xF0 a × In 0x90 0xBF b × In 0x80 0xBF c × In 0x80 0xBF d)
    ⊎ ((In 0xF1 0xF3 a × In 0x80 0xBF b × In 0x80 0xBF c × In 0x80 0xBF d)
    ⊎ (In 0xF4 0xF4 a × In 0x80 0x8F b × In 0x80 0xBF c × In 0x80 0xBF d))
WellFormed (a ∷ b ∷ c ∷ d ∷ e ∷ s) = ⊥

-- the numbers that a coding has bytes for: scalar values in UTF-8, what stands below the marks in PSF1's two bytes
abbrev pub HasBytes : Coding → ℕ → Type 0
HasBytes Utf8 v = Scalar v
HasBytes Ucs2 v = v < 0xFFFE

-- Bitmaps: "ASK for the glyph, NO GLYPH, ASK for row and column."

abbrev pub GlyphRows : {A : Type 0} → List ℕ → ℕ → (Font → Said A → Type 0) → Said A → Type 0
GlyphRows s g rest = Own s (λ f. Row (f.count ≤ g) 13 0 (Row (NoGlyph s f g f.kind) 16 0 (rest f)))

-- a glyph's bytes
abbrev pub GlyphPartRows : List ℕ → ℕ → Said (ℕ × ℕ) → Type 0
GlyphPartRows s g = GlyphRows s g (λ f a. a ≡ gives ((bitmap_in s f g f.kind).start, (bitmap_in s f g f.kind).len))

-- a row's bytes
abbrev pub RowPartRows : List ℕ → ℕ → ℕ → Said (ℕ × ℕ) → Type 0
RowPartRows s g y =
    GlyphRows s g (λ f.
    Row ((bitmap_in s f g f.kind).height ≤ y) 13 0
    (λ a. a ≡ gives (row_start (bitmap_in s f g f.kind) y, row_bytes (bitmap_in s f g f.kind).width)))

-- a pixel
abbrev pub PixelRows : List ℕ → ℕ → ℕ → ℕ → Said ℕ → Type 0
PixelRows s g y x =
    GlyphRows s g (λ f.
    Row (((bitmap_in s f g f.kind).height ≤ y) ⊎ ((bitmap_in s f g f.kind).width ≤ x)) 13 0
    (λ a. a ≡ gives (pixel_in s (bitmap_in s f g f.kind) y x)))

-- a glyph's metrics
abbrev pub MetricsRows : List ℕ → ℕ → Said Metrics → Type 0
MetricsRows s g = GlyphRows s g (λ f a. a ≡ gives (kind_metrics s f g f.kind))

-- k parts from the i-th on, end to end
abbrev pub joined : (ℕ → List ℕ) → ℕ → ℕ → List ℕ
joined part i zero = []
joined part i (suc k) = part i ++ joined part (suc i) k

-- "Lookups and walks: NO TABLE, then ASK, then UNMAPPED."

-- item k of glyph g
abbrev pub ItemRows : List ℕ → ℕ → ℕ → Said Item → Type 0
ItemRows s g k =
    Own s (λ f.
    Row (f.table ≡ false) 14 0
    (Reading s f (λ ds.
    Row ((i : Item) → ItemIs ds g k i → ⊥) 13 0
    (Gives (ItemIs ds g k)))))

-- the lowest glyph that lists the value v
abbrev pub ValueRows : List ℕ → ℕ → Said ℕ → Type 0
ValueRows s v =
    Own s (λ f.
    Row (f.table ≡ false) 14 0
    (Row (0x10FFFF < v) 13 0
    (Reading s f (λ ds.
    Row (Nowhere (ListsValue v) 0 ds) 15 0
    (Gives (Lowest (ListsValue v) 0 ds))))))

-- the lowest glyph that lists the sequence vs
abbrev pub SequenceRows : List ℕ → List ℕ → Said ℕ → Type 0
SequenceRows s vs =
    Own s (λ f.
    Row (f.table ≡ false) 14 0
    (Row ((vs ≡ []) ⊎ Any (λ (v : ℕ). 0x10FFFF < v) vs) 13 0
    (Reading s f (λ ds.
    Row (Nowhere (ListsSequence vs) 0 ds) 15 0
    (Gives (Lowest (ListsSequence vs) 0 ds))))))

-- "Conversions: 17 to 21 in order."

-- 18: "GLYPHS if n is not 256 or 512 (place 16), then if the width is not 8 (place 28)"; "GLYPHS, place that entry's start, at the first entry
-- that has no glyph or whose five metrics are not (greatest height, 0, 0, greatest width, greatest width)"
abbrev pub GlyphsAt : Conversion → List ℕ → Font → ℕ → Type 0
GlyphsAt Psf1ToPsf2 s f p = ⊥
GlyphsAt Psf2ToPsf1 s f p =
    ((p ≡ 16) × (f.count ≡ 256 → ⊥) × (f.count ≡ 512 → ⊥)) ⊎ ((p ≡ 28) × ((f.count ≡ 256) ⊎ (f.count ≡ 512)) × (f.width ≡ 8 → ⊥))
GlyphsAt Psf2ToVfont2 s f p = ⊥
GlyphsAt Vfont2ToPsf2 s f p = (i : ℕ) × (p ≡ entry_at f.entries i) × FirstUneven s f.height f.width f.count f.entries i

-- an item that has a value, single or in a sequence
abbrev pub Holds : ℕ → Item → Type 0
Holds v i = (i ≡ Single v) ⊎ (i ≡ Value v)

-- the first value with P among items in a coding has its first byte at k
pub record FirstValue (c : Coding) (P : ℕ → Type 0) (is : List Item) (k : ℕ) : Type 0 where
  pub before : List Item
  pub item : Item
  pub after : List Item
  pub same : is ≡ before ++ (item ∷ after)
  pub value : ℕ
  pub holds : Holds value item
  pub has : P value
  pub earlier : (v : ℕ) → Any (Holds v) before → P v → ⊥
  pub here : k ≡ length (bytes c before)

-- 19: "VALUE at the first surrogate, D800 to DFFF"; and document 02, W6: "VALUE from PSF2 to PSF1 is now only for values above FFFF"; place "value's
-- first byte"
abbrev pub ValueAt : Conversion → List Desc → ℕ → Type 0
ValueAt Psf1ToPsf2 ds = FirstValue Ucs2 (λ v. (0xD800 ≤ v) × (v ≤ 0xDFFF)) (items ds)
ValueAt Psf2ToPsf1 ds = FirstValue Utf8 (λ v. 0xFFFF < v) (items ds)
ValueAt Psf2ToVfont2 ds = λ k. ⊥
ValueAt Vfont2ToPsf2 ds = λ k. ⊥

-- "32 + 18n + nc + t", "32 + nc + t", "4 + nc + t", with "t the bytes of the table in the target's coding"
abbrev pub needed : Conversion → Font → List Desc → ℕ
needed c f ds = front_len c f + length (encode (coding_of (target_kind c)) ds)

-- into a buffer of m bytes
abbrev pub ConversionRows : Conversion → List ℕ → ℕ → Said ℕ → Type 0
ConversionRows c s m =
    Own s (λ f.
    Row (f.kind ≡ source_kind c → ⊥) 17 0
    (Reading s f (λ ds.
    RowAt (GlyphsAt c s f) 18 (λ p. p)
    (RowAt (ValueAt c ds) 19 (λ k. f.end + k)
    (Row (limit < needed c f ds) 20 0
    (Row (m < needed c f ds) 21 (needed c f ds)
    (λ a. a ≡ gives (needed c f ds))))))))

-- o is a sound font of a kind, with all that font f of s has: whatever is asked, the calls answer of o as they do of s
pub record Keeps (s : List ℕ) (f : Font) (o : List ℕ) (k : K.Kind) : Type 0 where
  pub font : Font
  pub sound : check_of o ≡ Ok font
  pub kind : font.kind ≡ k
  pub count : font.count ≡ f.count
  pub height : font.height ≡ f.height
  pub width : font.width ≡ f.width
  pub table : font.table ≡ f.table
  -- every byte of every glyph and row: "Filler bits may be anything; conversions carry them."
  pub glyphs : (g : ℕ) → view_of o (glyph_part_of o g) ≡ view_of s (glyph_part_of s g)
  pub rows : (g y : ℕ) → view_of o (row_part_of o g y) ≡ view_of s (row_part_of s g y)
  pub pixels : (g y x : ℕ) → pixel_at o g y x ≡ pixel_at s g y x
  pub metrics : (g : ℕ) → glyph_metrics_of o g ≡ glyph_metrics_of s g
  pub walks : (g k : ℕ) → item_of o g k ≡ item_of s g k
  pub values : (v : ℕ) → value_glyph o v ≡ value_glyph s v
  pub sequences : (vs : List ℕ) → sequence_glyph o vs ≡ sequence_glyph s vs
  pub content : (m : Content) → HasContent s m → HasContent o m

-- what a conversion that answered n left of a buffer xs: it "writes exactly the output at the front and nothing behind it", and the output
-- keeps what the font has
pub record Wrote (c : Conversion) (s : List ℕ) (n : ℕ) (xs out : List ℕ) : Type 0 where
  pub font : Font
  pub sound : check_of s ≡ Ok font
  pub kind : font.kind ≡ source_kind c
  pub long : length (take n out) ≡ n
  pub behind : drop n out ≡ drop n xs
  pub octets : Bytes (take n out)
  pub keeps : Keeps s font (take n out) (target_kind c)
  -- "Written headers are 32 bytes (4 for PSF1)"; "Mode is 1 for 512 glyphs plus 2 for a table."
  pub plain : Plain (take n out) (target_kind c)
  -- "Entry i has address i × c"
  pub addresses : target_kind c ≡ Vfont2 → (i : ℕ) → i < font.count → address_at (take n out) (entry_at (header_len Vfont2) i) ≡ i * char_size font

-- a PSF1 file s, and o, what came back of it from PSF2: "Conversion still writes modes 0 to 3, so mode 4 or 5 comes back from PSF2 as 2 or 3
-- with the same glyphs and mappings."
pub record RoundTrip (s o : List ℕ) : Type 0 where
  pub font : Font
  pub sound : check_of s ≡ Ok font
  -- glyphs, metrics and mappings are kept
  pub keeps : Keeps s font o Psf1
  -- the bytes are the same exactly for modes 0 to 3
  pub same : (o ≡ s) ↔ (get_or s 2 0 ≤ 3)
  -- and for 4 and 5 the same but for the mode byte, which is 2 less
  pub modes : get_or s 2 0 ≤ 5
  pub mode : 4 ≤ get_or s 2 0 → get_or o 2 0 + 2 ≡ get_or s 2 0
  pub others : (length o ≡ length s) × ((i : ℕ) → (i ≡ 2 → ⊥) → get_or o i 0 ≡ get_or s i 0)

-- Edits (document 02, W4): "Order: the font's, 17, 14, 13, 24 or 25, 20, 21."

-- "ASK also for L beyond the buffer (before all others) and for a surrogate": the rows before 24, of a font in the first len bytes of xs
abbrev pub EditRows : List ℕ → ℕ → ℕ → ℕ → (List Desc → Said ℕ → Type 0) → Said ℕ → Type 0
EditRows xs len g v rest =
    Row (length xs < len) 13 0
    (Own (take len xs) (λ f.
    Row (f.kind ≡ Psf2 → ⊥) 17 0
    (Row (f.table ≡ false) 14 0
    (Row ((f.count ≤ g) ⊎ ((0x10FFFF < v) ⊎ In 0xD800 0xDFFF v)) 13 0
    (Reading (take len xs) f rest)))))

-- of a noncharacter "adding one is ASK" (W6); "HAVE (24) if the glyph already lists it as a single"; the new font is longer by the value's bytes
abbrev pub AddLast : List ℕ → ℕ → ℕ → ℕ → List Desc → Said ℕ → Type 0
AddLast xs len g v ds =
    Row (Noncharacter v) 13 0
    (Row (Lists v g ds) 24 0
    (Row (limit < len + length (utf8_bytes v)) 20 0
    (Row (length xs < len + length (utf8_bytes v)) 21 (len + length (utf8_bytes v))
    (λ a. a ≡ gives (len + length (utf8_bytes v))))))

abbrev pub AddRows : List ℕ → ℕ → ℕ → ℕ → Said ℕ → Type 0
AddRows xs len g v = EditRows xs len g v (AddLast xs len g v)

-- "NOT THERE (25) if a drop finds none"; it is shorter by the value's bytes
abbrev pub DropLast : ℕ → ℕ → ℕ → List Desc → Said ℕ → Type 0
DropLast len g v ds = Row (Lists v g ds → ⊥) 25 0 (λ a. a ≡ gives (len - length (utf8_bytes v)))

abbrev pub DropRows : List ℕ → ℕ → ℕ → ℕ → Said ℕ → Type 0
DropRows xs len g v = EditRows xs len g v (DropLast len g v)

-- what a good edit makes of a font f in the first len bytes of xs: one in the first n bytes of out, with glyph g's description changed
pub record Edits (change : List Desc → List Desc) (g : ℕ) (xs : List ℕ) (len : ℕ) (out : List ℕ) (n : ℕ) : Type 0 where
  pub font : Font
  pub sound : check_of (take len xs) ≡ Ok font
  pub kind : font.kind ≡ Psf2
  pub marked : font.table ≡ true
  -- the font is accepted, its header says the same, and its reading is the old one changed
  pub accepted : check_of (take n out) ≡ Ok font
  pub reading : (ds : List Desc) → Describes (take len xs) font true ds → Describes (take n out) font true (change ds)
  -- "Every other item of every description stays, as do header and bitmaps."
  pub others : (h k : ℕ) → (h ≡ g → ⊥) → item_of (take n out) h k ≡ item_of (take len xs) h k
  pub front : take font.end out ≡ take font.end xs
  pub glyphs : (h : ℕ) → glyph_part_of (take n out) h ≡ glyph_part_of (take len xs) h
  pub rows : (h i : ℕ) → row_part_of (take n out) h i ≡ row_part_of (take len xs) h i
  pub pixels : (h i j : ℕ) → pixel_at (take n out) h i j ≡ pixel_at (take len xs) h i j
  pub metrics : (h : ℕ) → glyph_metrics_of (take n out) h ≡ glyph_metrics_of (take len xs) h
  -- "Bytes past the longer of old and new font stay; bytes freed by a drop become 0."
  pub behind : (m : ℕ) → len ≤ m → n ≤ m → drop m out ≡ drop m xs
  pub freed : take (len - n) (drop n out) ≡ replicate (len - n) 0
  pub whole : length out ≡ length xs
  pub inside : n ≤ length out

-- The differences of two fonts (document 02, W5), of contents m and m', as pairs of kind and glyph.

-- 3: "metrics differ or just one has no glyph"; "two missing glyphs agree"
abbrev pub OtherMetrics : Option Drawing → Option Drawing → Type 0
OtherMetrics none none = ⊥
OtherMetrics none (some e) = Unit {0}
OtherMetrics (some d) none = Unit {0}
OtherMetrics (some d) (some e) = d.metrics ≡ e.metrics → ⊥

-- 4: "pixels differ though metrics agree"
abbrev pub OtherPixels : Option Drawing → Option Drawing → Type 0
OtherPixels none none = ⊥
OtherPixels none (some e) = ⊥
OtherPixels (some d) none = ⊥
OtherPixels (some d) (some e) =
    (d.metrics ≡ e.metrics) × ((y : ℕ) × (x : ℕ) × (y < d.rows) × (x < d.columns) × (d.pixel y x ≡ e.pixel y x → ⊥))

-- 5: "items differ", of glyph g in two readings
pub record OtherItems (ds es : List Desc) (g : ℕ) : Type 0 where
  pub first : Desc
  pub second : Desc
  pub in_first : Nth g ds first
  pub in_second : Nth g es second
  pub differ : items_of first ≡ items_of second → ⊥

-- the difference of kind k at glyph g: "1 only in the first, 2 only in the second, 3 metrics differ or just one has no glyph, 4 pixels differ though
-- metrics agree, 5 items differ; 3 to 5 only for numbers below both counts"; "If just one has a table, pair (6, 0)", and "descriptions aren't
-- compared"
pub data Difference (m m' : Content) (k g : ℕ) : Type 0 where
  only_first : k ≡ 1 → g < m.count → m'.count ≤ g → Difference m m' k g
  only_second : k ≡ 2 → m.count ≤ g → g < m'.count → Difference m m' k g
  metrics_differ : k ≡ 3 → g < m.count → g < m'.count → OtherMetrics (m.glyph g) (m'.glyph g) → Difference m m' k g
  pixels_differ : k ≡ 4 → g < m.count → g < m'.count → OtherPixels (m.glyph g) (m'.glyph g) → Difference m m' k g
  items_differ : k ≡ 5 → g < m.count → g < m'.count → m.table ≡ true → m'.table ≡ true → OtherItems m.descriptions m'.descriptions g → Difference m m' k g
  tables_differ : k ≡ 6 → g ≡ 0 → (m.table ≡ m'.table → ⊥) → Difference m m' k g

-- "pair (6, 0) comes first. Then by glyph, and by kind within it"
abbrev pub Before : ℕ × ℕ → ℕ × ℕ → Type 0
Before p q = ((p.0 ≡ 6) × (q.0 ≡ 6 → ⊥)) ⊎ ((p.0 ≡ 6 → ⊥) × (q.0 ≡ 6 → ⊥) × ((p.1 < q.1) ⊎ ((p.1 ≡ q.1) × (p.0 < q.0))))

-- each element of a list has P
abbrev pub Each : {A : Type 0} → (A → Type 0) → List A → Type 0
Each P [] = Unit {0}
Each P (x ∷ xs) = P x × Each P xs

-- pairs in their order: each comes before all behind it, so none comes twice
abbrev pub Ordered : List (ℕ × ℕ) → Type 0
Ordered [] = Unit {0}
Ordered (p ∷ ps) = Each (Before p) ps × Ordered ps

-- "exact differences": a pair stands in the list exactly when its difference holds, in the stated order
pub record Differences (m m' : Content) (ps : List (ℕ × ℕ)) : Type 0 where
  pub exactly : (k g : ℕ) → Any (λ (p : ℕ × ℕ). p ≡ (k, g)) ps ↔ Difference m m' k g
  pub ordered : Ordered ps

-- the fonts swapped: 1 for 2 and 2 for 1
abbrev pub swap_kind : ℕ → ℕ
swap_kind zero = 0
swap_kind (suc zero) = 2
swap_kind (suc (suc zero)) = 1
swap_kind (suc (suc (suc k))) = suc (suc (suc k))

abbrev pub swapped : List (ℕ × ℕ) → List (ℕ × ℕ)
swapped [] = []
swapped (p ∷ ps) = (swap_kind p.0, p.1) ∷ swapped ps

-- "The count of pairs is answered"
abbrev pub compared_says : Result ℕ Uncompared → Said ℕ
compared_says (Ok n) = gives n
compared_says (Err (First r)) = told r
compared_says (Err (Second r)) = told r
compared_says (Err (Neither r)) = told r

-- "with which one it was": 1 the first font's refusal, 2 the second's, 0 neither's
abbrev pub whose_refusal : Result ℕ Uncompared → ℕ
whose_refusal (Ok n) = 0
whose_refusal (Err (First r)) = 1
whose_refusal (Err (Second r)) = 2
whose_refusal (Err (Neither r)) = 0

-- "Refusals: the first font's, else the second's; ROOM with the count of numbers needed", for a buffer of so many numbers and so many pairs
abbrev pub CompareRows : List ℕ → List ℕ → ℕ → ℕ → Said ℕ → Type 0
CompareRows s o room pairs =
    Own s (λ f.
    Own o (λ h.
    Row (room < 2 * pairs) 21 (2 * pairs)
    (λ a. a ≡ gives pairs)))

-- what a comparison that found the pairs ps left of a buffer xs: "Other numbers in the buffer stay."
pub record Listed (ps : List (ℕ × ℕ)) (xs out : List ℕ) : Type 0 where
  pub front : take (2 * length ps) out ≡ numbers ps
  pub behind : drop (2 * length ps) out ≡ drop (2 * length ps) xs
  pub whole : length out ≡ length xs
