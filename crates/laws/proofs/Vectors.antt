-- "Small tables and small fonts": document 01's cases P1 to P14, "one proved table under one statement about the grammar", places counted from the
-- table's start, with document 02's "Case P10 becomes BAD 3"; and what the calls say of its font of 45 bytes.
use mathlib.Core.Path.{◌≡◌, refl}
use mathlib.Core.Bool.{Bool, true, false, ◌&&◌}
use mathlib.Core.List.{List, [], ◌∷◌}
use mathlib.Core.Logic.{inl}
use Prim.Native.Nat.{ℕ, ◌<◌}
use native.Mathlib.Omega.{arith}
use lib.Dec.{ltb}
use lib.ListN.{length}
use borrow.Author.Tests.{ltb-true}
use Rattle.base.specs.Meaning.{Bytes, le16, le32}
use Rattle.base.specs.Reading.{when, starts_with}
use Rattle.token.specs.Reading.{is_noncharacter}
use Rattle.token.proofs.Noncharacters.{low}
use Rattle.utf8.specs.Reading.{read_utf8, read_value, permitted_at, lead_of, conts}
use Rattle.utf8.specs.Meaning.{utf8_bytes}
use Rattle.ucs2.specs.Reading.{read_ucs2, is_word}
use Rattle.coding.specs.declared.Coding.{Coding}
use Rattle.coding.specs.declared.Coding.TheVariants.{Utf8, Ucs2}
use Rattle.coding.specs.Reading.{read_token, mark_len}
use Rattle.coding.specs.Meaning.{ValueOf, value_bytes, start_bytes, end_bytes}
use Rattle.table.specs.Meaning.{Seq, Desc, encode, Readable, Unfinished, BadAt, TrailingAt}
use Rattle.table.specs.Reading.{steps_from, value_item, step_items, check_steps, table_of}
use Rattle.table.proofs.Meaning as meaning
use Rattle.header.specs.Meaning.{glyph_bytes}
use Rattle.header.specs.Reading.{kind_of, head_of, psf2_shaped, says_of}
use Rattle.stages.specs.Reading.{sized, entries_of, tailed, through_body, through_entries, check_of}
use Rattle.stages.proofs.Small.{small}
use Rattle.conversion.specs.declared.Conversion.TheVariants.{Psf2ToVfont2}
use Rattle.conversion.specs.Meaning.{front_len}
use Rattle.conversion.specs.Reading.{of_kind, opened_of, suits_of, measured_of, fitting, prepared_on, prepared_of}
use Rattle.convert.specs.Reading.{converted_of}
use Rattle.lookup.specs.Reading.{find_value, goes_on, is_whole, find_sequence_from}
use Rattle.questions.specs.Reading.{any_high}
use Rattle.fonts.specs.Reading.{value_glyph, sequence_glyph}
use Rattle.laws.specs.Meaning.{gives, refuses, says}
use Rattle.std.specs.Prelude.{Err}
use Rattle.table.specs.declared.Fault.TheVariants.{Cut, Bad, Trailing}

-- the column "Answer": a reading, or CUT, BAD or TRAILING at a place
pub data Answer : Type 0 where
  reads : List Desc → Answer
  cut : ℕ → Answer
  bad : ℕ → Answer
  trailing : ℕ → Answer

-- what it says of n descriptions in a coding and of bytes
abbrev pub Meets : Coding → ℕ → List ℕ → Answer → Type 0
Meets c n s (reads ds) = (length ds ≡ n) × (s ≡ encode c ds) × Readable c ds
Meets c n s (cut k) = (k ≡ length s) × Unfinished c n s
Meets c n s (bad k) = BadAt c n s k
Meets c n s (trailing k) = TrailingAt c n s k

-- a case: its number, coding, n, bytes, answer
pub data Case : Type 0 where
  P : ℕ → Coding → ℕ → List ℕ → Answer → Case

abbrev pub AllMeet : List Case → Type 0
AllMeet [] = Unit {0}
AllMeet (P number c n s a ∷ xs) = Meets c n s a × AllMeet xs

abbrev description : List ℕ → List Seq → Desc
description vs qs = record { singles = vs; sequences = qs }

-- C5, 212B, sequence 41 30A
abbrev angstrom : Desc
angstrom = description (0xC5 ∷ 0x212B ∷ []) (record { first = 0x41; others = 0x30A ∷ [] } ∷ [])

-- no values
abbrev bare : Desc
bare = description [] []

abbrev pub cases : List Case
cases =
    P 1 Utf8 1 (0xC3 ∷ 0x85 ∷ 0xE2 ∷ 0x84 ∷ 0xAB ∷ 0xFE ∷ 0x41 ∷ 0xCC ∷ 0x8A ∷ 0xFF ∷ []) (reads (angstrom ∷ []))
    ∷ P 2 Ucs2 1 (0xC5 ∷ 0x00 ∷ 0x2B ∷ 0x21 ∷ 0xFE ∷ 0xFF ∷ 0x41 ∷ 0x00 ∷ 0x0A ∷ 0x03 ∷ 0xFF ∷ 0xFF ∷ []) (reads (angstrom ∷ []))
    ∷ P 3 Utf8 1 (0xFF ∷ []) (reads (bare ∷ []))
    ∷ P 4 Utf8 1 [] (cut 0)
    ∷ P 5 Utf8 1 (0xFE ∷ 0xFF ∷ []) (bad 1)
    ∷ P 6 Utf8 1 (0x41 ∷ 0xFE ∷ 0x42 ∷ []) (cut 3)
    ∷ P 7 Utf8 1 (0xC0 ∷ 0x80 ∷ 0xFF ∷ []) (bad 0)
    ∷ P 8 Utf8 1 (0xE0 ∷ 0x80 ∷ 0x80 ∷ 0xFF ∷ []) (bad 1)
    ∷ P 9 Utf8 1 (0xED ∷ 0xA0 ∷ 0x80 ∷ 0xFF ∷ []) (bad 1)
    ∷ P 10 Utf8 1 (0xF4 ∷ 0x8F ∷ 0xBF ∷ 0xBF ∷ 0xFF ∷ []) (bad 3)
    ∷ P 11 Utf8 1 (0xF4 ∷ 0x90 ∷ 0x80 ∷ 0x80 ∷ 0xFF ∷ []) (bad 1)
    ∷ P 12 Utf8 1 (0xFF ∷ 0xFF ∷ []) (trailing 1)
    ∷ P 12 Utf8 2 (0xFF ∷ 0xFF ∷ []) (reads (bare ∷ bare ∷ []))
    ∷ P 13 Ucs2 1 (0xFE ∷ 0xFF ∷ 0xFE ∷ 0xFF ∷ 0xFF ∷ 0xFF ∷ []) (bad 3)
    ∷ P 14 Ucs2 1 (0x41 ∷ 0x00 ∷ 0xFF ∷ []) (cut 3)
    ∷ []

-- bytes, by a test
abbrev octets : List ℕ → Bool
octets [] = true
octets (b ∷ s) = ltb b 256 && octets s

are_bytes : (s : List ℕ) → octets s ≡ true → Bytes s
are_bytes [] e = tt
are_bytes (b ∷ s) e = go (ltb b 256) refl (octets s) refl (are_bytes s) e
  where
    go : (x : Bool) → ltb b 256 ≡ x → (y : Bool) → octets s ≡ y → (octets s ≡ true → Bytes s) → x && y ≡ true → Bytes (b ∷ s)
    go true p true q f r = (ltb-true b 256 p, f q)
    go true p false q f r = let z : ◌≡◌ {A = ℕ} 0 1 = cc in absurd (omega arith)
    go false p y q f r = let z : ◌≡◌ {A = ℕ} 0 1 = cc in absurd (omega arith)

-- the check of a table gives each of the refused its place
cuts : (c : Coding) (n : ℕ) (s : List ℕ) (k g : ℕ) → octets s ≡ true → table_of c n s ≡ Err (Cut k g) → Meets c n s (cut k)
cuts c n s k g o e = (meaning.cut_place c n s k (are_bytes s o)).0 (g, e)

bads : (c : Coding) (n : ℕ) (s : List ℕ) (k g : ℕ) → octets s ≡ true → table_of c n s ≡ Err (Bad k g) → Meets c n s (bad k)
bads c n s k g o e = (meaning.bad_place c n s k (are_bytes s o)).0 (g, e)

trails : (c : Coding) (n : ℕ) (s : List ℕ) (k : ℕ) → octets s ≡ true → table_of c n s ≡ Err (Trailing k) → Meets c n s (trailing k)
trails c n s k o e = (meaning.trailing_exactly c n s k (are_bytes s o)).0 e

-- a number below D800 is a value of both codings
small_value : (v : ℕ) → v < 0xD800 → ValueOf Utf8 v
unfolding ValueOf
small_value v h = (inl h, low v (omega arith))

small_word : (v : ℕ) → v < 0xD800 → ValueOf Ucs2 v
unfolding ValueOf
small_word v h = (omega arith, low v (omega arith))

pub small_tables : AllMeet cases
unfolding check_steps steps_from read_token mark_len ValueOf value_bytes start_bytes end_bytes read_utf8 read_value permitted_at lead_of conts utf8_bytes read_ucs2 is_word is_noncharacter when
small_tables = (
  (refl, refl, (small_value 0xC5 (omega arith), (small_value 0x212B (omega arith), (small_value 0x41 (omega arith), (small_value 0x30A (omega arith), tt))))),
  (
    (refl, refl, (small_word 0xC5 (omega arith), (small_word 0x212B (omega arith), (small_word 0x41 (omega arith), (small_word 0x30A (omega arith), tt))))),
    (
      (refl, refl, tt),
      (
        cuts Utf8 1 [] 0 0 refl refl,
        (
          bads Utf8 1 (0xFE ∷ 0xFF ∷ []) 1 0 refl refl,
          (
            cuts Utf8 1 (0x41 ∷ 0xFE ∷ 0x42 ∷ []) 3 0 refl refl,
            (
              bads Utf8 1 (0xC0 ∷ 0x80 ∷ 0xFF ∷ []) 0 0 refl refl,
              (
                bads Utf8 1 (0xE0 ∷ 0x80 ∷ 0x80 ∷ 0xFF ∷ []) 1 0 refl refl,
                (
                  bads Utf8 1 (0xED ∷ 0xA0 ∷ 0x80 ∷ 0xFF ∷ []) 1 0 refl refl,
                  (
                    bads Utf8 1 (0xF4 ∷ 0x8F ∷ 0xBF ∷ 0xBF ∷ 0xFF ∷ []) 3 0 refl refl,
                    (
                      bads Utf8 1 (0xF4 ∷ 0x90 ∷ 0x80 ∷ 0x80 ∷ 0xFF ∷ []) 1 0 refl refl,
                      (
                        trails Utf8 1 (0xFF ∷ 0xFF ∷ []) 1 refl refl,
                        (
                          (refl, refl, tt),
                          (
                            bads Ucs2 1 (0xFE ∷ 0xFF ∷ 0xFE ∷ 0xFF ∷ 0xFF ∷ 0xFF ∷ []) 3 0 refl refl,
                            (cuts Ucs2 1 (0x41 ∷ 0x00 ∷ 0xFF ∷ []) 3 0 refl refl, tt),
                          ),
                        ),
                      ),
                    ),
                  ),
                ),
              ),
            ),
          ),
        ),
      ),
    ),
  ),
)

-- "As vfont2 it takes 81 bytes; a buffer of 80 gives ROOM, place 81."
pub small_as_vfont2 : (says (converted_of Psf2ToVfont2 small 80) ≡ refuses 21 81) × (says (converted_of Psf2ToVfont2 small 81) ≡ gives 81)
unfolding when le16 le32 lead_of conts is_noncharacter permitted_at read_value read_utf8 mark_len read_token steps_from check_steps glyph_bytes starts_with kind_of head_of psf2_shaped says_of sized entries_of tailed through_body through_entries check_of converted_of prepared_of prepared_on opened_of of_kind suits_of measured_of fitting front_len
small_as_vfont2 = (refl, refl)

-- it maps 41 to glyph 0, C5 and the sequence 41 30A to glyph 1
pub small_looked_up : (says (value_glyph small 0x41) ≡ gives 0) × (says (value_glyph small 0xC5) ≡ gives 1) × (says (sequence_glyph small (0x41 ∷ 0x30A ∷ [])) ≡ gives 1)
unfolding when le16 le32 lead_of conts is_noncharacter permitted_at read_value read_utf8 mark_len read_token steps_from check_steps glyph_bytes starts_with kind_of head_of psf2_shaped says_of sized entries_of tailed through_body through_entries check_of value_glyph sequence_glyph any_high value_item step_items find_value goes_on is_whole find_sequence_from
small_looked_up = (refl, refl, refl)
