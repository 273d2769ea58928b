-- Lines that are written, by computing: document 02's form with three numbers.
use mathlib.Core.Path.{◌≡◌, refl}
use mathlib.Core.List.{[], ◌∷◌}
use Rattle.refusal.specs.declared.Reason.TheVariants.{Kind, TableBad, Line}
use Rattle.refusal.specs.Meaning.{refusal, refusal_at}
use Rattle.text.specs.Meaning.{number_text}
use Rattle.text.specs.Reading.{digit_of, digits, numeral}
use Rattle.words.specs.Meaning.{refused_text}

-- `refused 11 39 1`
pub bad_line : refused_text (refusal_at TableBad 39 1) ≡ 114 ∷ 101 ∷ 102 ∷ 117 ∷ 115 ∷ 101 ∷ 100 ∷ 32 ∷ 49 ∷ 49 ∷ 32 ∷ 51 ∷ 57 ∷ 32 ∷ 49 ∷ 10 ∷ []
unfolding refused_text number_text numeral digits digit_of
bad_line = refl

-- `refused 2 0 4096`
pub kind_line : refused_text (refusal Kind 0) ≡ 114 ∷ 101 ∷ 102 ∷ 117 ∷ 115 ∷ 101 ∷ 100 ∷ 32 ∷ 50 ∷ 32 ∷ 48 ∷ 32 ∷ 52 ∷ 48 ∷ 57 ∷ 54 ∷ 10 ∷ []
unfolding refused_text number_text numeral digits digit_of
kind_line = refl

-- `refused 23 5 4096`
pub line_line : refused_text (refusal Line 5) ≡ 114 ∷ 101 ∷ 102 ∷ 117 ∷ 115 ∷ 101 ∷ 100 ∷ 32 ∷ 50 ∷ 51 ∷ 32 ∷ 53 ∷ 32 ∷ 52 ∷ 48 ∷ 57 ∷ 54 ∷ 10 ∷ []
unfolding refused_text number_text numeral digits digit_of
line_line = refl
