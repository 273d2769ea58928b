-- The lines of glyphs (document 01, the program): a glyph's number, its values, its sequences.
use Rattle.std.specs.Prelude.{ℕ, ◌+◌, List, [], ◌∷◌, ◌++◌}
use Rattle.text.specs.Reading.{numeral}
use Rattle.table.specs.Meaning.{Seq, Desc}

-- ` V` for each single
abbrev pub singles_text : List ℕ → List ℕ
singles_text [] = []
singles_text (v ∷ vs) = 32 ∷ (numeral 16 v ++ singles_text vs)

-- `+V` for each value of a sequence
abbrev pub values_text : List ℕ → List ℕ
values_text [] = []
values_text (v ∷ vs) = 43 ∷ (numeral 16 v ++ values_text vs)

-- ` +V+V` for each sequence
abbrev pub sequences_text : List Seq → List ℕ
sequences_text [] = []
sequences_text (q ∷ qs) = 32 ∷ (values_text (q.first ∷ q.others) ++ sequences_text qs)

-- a glyph's number, its singles, its sequences, a newline
abbrev pub glyph_line : ℕ → Desc → List ℕ
glyph_line g d = numeral 10 g ++ (singles_text d.singles ++ (sequences_text d.sequences ++ (10 ∷ [])))

-- a line for each glyph, counted from g
abbrev pub glyph_lines : ℕ → List Desc → List ℕ
glyph_lines g [] = []
glyph_lines g (d ∷ ds) = glyph_line g d ++ glyph_lines (g + 1) ds
