-- What a listing means: `list` writes `listing_of`, and here is what that is for each file; and that its digits are the numbers.
use mathlib.Core.Path.{◌≡◌, refl, sym, ◌∙◌, ap}
use mathlib.Core.Bool.{true, false}
use mathlib.Core.List.{List, [], ◌∷◌, ◌++◌, append-nil}
use Prim.Native.Nat.{ℕ, ◌≤◌, ◌<◌}
use native.Mathlib.Omega.{arith}
use lib.ListN.{length}
use Rattle.refusal.specs.declared.Refusal.{Refusal}
use Rattle.table.specs.Reading.{items_in}
use Rattle.table.specs.Meaning.{IsTable, items}
use Rattle.table.proofs.Meaning.{items_read}
use Rattle.header.specs.declared.Font.{Font}
use Rattle.stages.specs.Meaning.{coding_of, tail_of}
use Rattle.stages.specs.Reading.{check_of}
use Rattle.base.specs.Reading.{over}
use Rattle.words.specs.Meaning.{refused_text, big_text}
use Rattle.listing.specs.Meaning.{first_line}
use Rattle.lines.specs.Meaning.{glyph_lines}
use Rattle.text.specs.Meaning.{number_in, NoLeadingZero}
use Rattle.text.specs.Reading.{digit_of, digits, numeral}
use Rattle.listing.specs.Reading.{lines_text, listing_of, listed_of, left_of}
use Rattle.lines.specs.Reading.{lines_of, table_text}
use Rattle.text.proofs.Numerals.{numeral_back, numeral_leads}
use Rattle.lines.proofs.Described.{lines_of_lem}
use Rattle.listing.proofs.Answers.{listing_big, listing_answer, font_text_lem, lines_bare, wrote_inside, always_wrote}
use Rattle.std.specs.Prelude.{Ok, Err}

-- a sound font with a table: the first line, and then for each glyph of its reading, in order, the glyph's line
pub table_listed : (s : List ℕ) (f : Font) → length s ≤ 65536 → check_of s ≡ Ok f → f.table ≡ true →
    (t : IsTable (coding_of f.kind) f.count (tail_of s f)) → listing_of s ≡ first_line f ++ glyph_lines 0 t.reading
unfolding lines_text table_text
table_listed s f h ok e t =
    let c = coding_of f.kind in
    let i : items_in c (tail_of s f) ≡ items t.reading = ap (items_in c) t.same ∙ items_read c t.reading t.values in
    let l : lines_text s f ≡ glyph_lines 0 t.reading = rw e (ap (lines_of 0 true) i ∙ lines_of_lem 0 t.reading) in
    sym (listing_answer s (Ok f) h (sym ok)) ∙ font_text_lem s f ∙ ap (λ (z : List ℕ). first_line f ++ z) l

-- a sound bare font: the first line only
pub bare_listed : (s : List ℕ) (f : Font) → length s ≤ 65536 → check_of s ≡ Ok f → f.table ≡ false → listing_of s ≡ first_line f
bare_listed s f h ok e =
    sym (listing_answer s (Ok f) h (sym ok)) ∙ font_text_lem s f ∙ ap (λ (z : List ℕ). first_line f ++ z) (lines_bare s f e) ∙ append-nil (first_line f)

-- a refused font: its number and place
pub refused_listed : (s : List ℕ) (r : Refusal) → length s ≤ 65536 → check_of s ≡ Err r → listing_of s ≡ refused_text r
refused_listed s r h e = sym (listing_answer s (Err r) h (sym e))

-- a longer file, whatever it holds
pub big_listed : (s : List ℕ) → 65536 < length s → listing_of s ≡ big_text
big_listed s h = sym (listing_big s h)

-- a buffer with room for a text is never refused: the text stands in front, and nothing behind it is changed
pub room_suffices : (text xs : List ℕ) → length text ≤ length xs → (listed_of text (length xs) ≡ Ok (length text)) × (left_of text xs ≡ over text xs)
room_suffices = always_wrote

-- what is written stands within the buffer
pub listed_inside : (text : List ℕ) (room n : ℕ) → listed_of text room ≡ Ok n → n ≤ room
listed_inside = wrote_inside

-- digits are read as the number, and don't begin with 0 unless it is 0
pub numeral_read : (radix n : ℕ) → 2 ≤ radix → radix ≤ 16 → number_in radix 0 (numeral radix n) ≡ n
numeral_read = numeral_back

pub numeral_no_zero : (radix n : ℕ) → 2 ≤ radix → radix ≤ 16 → 1 ≤ n → NoLeadingZero (numeral radix n)
numeral_no_zero = numeral_leads

pub numeral_zero : (radix : ℕ) → numeral radix 0 ≡ 48 ∷ []
unfolding numeral digits digit_of
numeral_zero radix = refl

-- so are decimal ones
pub decimal_read : (n : ℕ) → number_in 10 0 (numeral 10 n) ≡ n
decimal_read n = numeral_read 10 n (omega arith) (omega arith)

pub decimal_no_zero : (n : ℕ) → 1 ≤ n → NoLeadingZero (numeral 10 n)
decimal_no_zero n = numeral_no_zero 10 n (omega arith) (omega arith)

pub decimal_zero : numeral 10 0 ≡ 48 ∷ []
decimal_zero = numeral_zero 10

-- and hexadecimal ones
pub hexadecimal_read : (v : ℕ) → number_in 16 0 (numeral 16 v) ≡ v
hexadecimal_read v = numeral_read 16 v (omega arith) (omega arith)

pub hexadecimal_no_zero : (v : ℕ) → 1 ≤ v → NoLeadingZero (numeral 16 v)
hexadecimal_no_zero v = numeral_no_zero 16 v (omega arith) (omega arith)

pub hexadecimal_zero : numeral 16 0 ≡ 48 ∷ []
hexadecimal_zero = numeral_zero 16
