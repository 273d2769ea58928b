-- Document 01's font of 45 bytes and its listing, and that of the font with a byte changed.
use mathlib.Core.Path.{◌≡◌, refl}
use mathlib.Core.List.{List, [], ◌∷◌}
use Prim.Native.Nat.{ℕ}
use lib.ListN.{set}
use Rattle.base.specs.Reading.{when, starts_with}
use Rattle.base.specs.Meaning.{le16, le32}
use Rattle.token.specs.Reading.{is_noncharacter}
use Rattle.utf8.specs.Reading.{lead_of, conts, permitted_at, read_value, read_utf8}
use Rattle.coding.specs.Reading.{mark_len, read_token}
use Rattle.table.specs.Reading.{steps_from, value_item, step_items, check_steps}
use Rattle.header.specs.Meaning.{glyph_bytes}
use Rattle.header.specs.Reading.{kind_of, head_of, psf2_shaped, says_of}
use Rattle.stages.proofs.Small.{small}
use Rattle.stages.specs.Reading.{sized, entries_of, tailed, through_body, through_entries, check_of}
use Rattle.words.specs.Meaning.{refused_text}
use Rattle.listing.specs.Meaning.{first_line}
use Rattle.text.specs.Meaning.{number_text}
use Rattle.text.specs.Reading.{digit_of, digits, numeral}
use Rattle.listing.specs.Reading.{lines_text, font_text, listing_of}
use Rattle.lines.specs.Reading.{piece_of, lines_of, table_text}

-- `psf2 2 2 3 table`, `0 41`, `1 C5 +41+30A`
abbrev pub small_text : List ℕ
small_text =
    112 ∷ 115 ∷ 102 ∷ 50 ∷ 32 ∷ 50 ∷ 32 ∷ 50 ∷ 32 ∷ 51 ∷ 32 ∷ 116 ∷ 97 ∷ 98 ∷ 108 ∷ 101 ∷ 10
    ∷ 48 ∷ 32 ∷ 52 ∷ 49 ∷ 10
    ∷ 49 ∷ 32 ∷ 67 ∷ 53 ∷ 32 ∷ 43 ∷ 52 ∷ 49 ∷ 43 ∷ 51 ∷ 48 ∷ 65 ∷ 10 ∷ []

pub small_listed : listing_of small ≡ small_text
unfolding when le16 le32 lead_of conts is_noncharacter permitted_at read_value read_utf8 mark_len read_token steps_from value_item step_items check_steps glyph_bytes starts_with kind_of head_of psf2_shaped says_of sized entries_of tailed through_body through_entries check_of listing_of font_text lines_text table_text lines_of piece_of first_line number_text numeral digits digit_of
small_listed = refl

-- with 41 for 85 at 39, the second byte of glyph 1's first value: `refused 11 39 1`
abbrev pub spoiled : List ℕ
spoiled = set small 39 0x41

pub spoiled_listed : listing_of spoiled ≡ 114 ∷ 101 ∷ 102 ∷ 117 ∷ 115 ∷ 101 ∷ 100 ∷ 32 ∷ 49 ∷ 49 ∷ 32 ∷ 51 ∷ 57 ∷ 32 ∷ 49 ∷ 10 ∷ []
unfolding when le16 le32 lead_of conts is_noncharacter permitted_at read_value read_utf8 mark_len read_token steps_from check_steps glyph_bytes starts_with kind_of head_of psf2_shaped says_of sized entries_of tailed through_body through_entries check_of listing_of refused_text number_text numeral digits digit_of
spoiled_listed = refl
