-- The program's words and its first line (document 01). A refusal's line: crates/words; the lines of glyphs: crates/lines; numbers: crates/text.
use Rattle.std.specs.Prelude.{ℕ, List, [], ◌∷◌, ◌++◌, Bool, true, false}
use Rattle.text.specs.Meaning.{number_text}
use Rattle.header.specs.declared.Kind.{Kind}
use Rattle.header.specs.declared.Kind.TheVariants.{Psf1, Psf2, Vfont2}
use Rattle.header.specs.declared.Font.{Font}

-- `psf1`, `psf2` or `vfont2`, and a blank
abbrev pub kind_text : Kind → List ℕ
kind_text Psf1 = 112 ∷ 115 ∷ 102 ∷ 49 ∷ 32 ∷ []
kind_text Psf2 = 112 ∷ 115 ∷ 102 ∷ 50 ∷ 32 ∷ []
kind_text Vfont2 = 118 ∷ 102 ∷ 111 ∷ 110 ∷ 116 ∷ 50 ∷ 32 ∷ []

-- `table` or `bare`, and a newline
abbrev pub table_word : Bool → List ℕ
table_word true = 116 ∷ 97 ∷ 98 ∷ 108 ∷ 101 ∷ 10 ∷ []
table_word false = 98 ∷ 97 ∷ 114 ∷ 101 ∷ 10 ∷ []

-- "First line: psf1, psf2 or vfont2, n, greatest height, greatest width, table or bare."
unfoldable pub first_line : Font → List ℕ
first_line f = kind_text f.kind ++ number_text f.count 32 ++ number_text f.height 32 ++ number_text f.width 32 ++ table_word f.table
