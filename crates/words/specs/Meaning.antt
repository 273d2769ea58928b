-- The lines that both programs write (documents 01 and 02): a refusal's, and `too big`. Numbers: crates/text.
use Rattle.std.specs.Prelude.{ℕ, List, [], ◌∷◌, ◌++◌}
use Rattle.text.specs.Meaning.{number_text}
use Rattle.refusal.specs.declared.Refusal.{Refusal}
use Rattle.refusal.specs.Meaning.{number_of}

-- "A refusal writes `refused 2 0` (number, place)"; and document 02, W7: "Both programs' refusal lines get it as a third number"
unfoldable pub refused_text : Refusal → List ℕ
refused_text r = (114 ∷ 101 ∷ 102 ∷ 117 ∷ 115 ∷ 101 ∷ 100 ∷ 32 ∷ []) ++ number_text (number_of r.reason) 32 ++ number_text r.place 32 ++ number_text r.glyph 10

-- `too big`
abbrev pub big_text : List ℕ
big_text = 116 ∷ 111 ∷ 111 ∷ 32 ∷ 98 ∷ 105 ∷ 103 ∷ 10 ∷ []
