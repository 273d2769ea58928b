-- The line of a refusal, from its number, place and glyph.
use mathlib.Core.Path.{◌≡◌}
use mathlib.Core.List.{[], ◌∷◌, ◌++◌}
use Prim.Native.Nat.{ℕ}
use Rattle.refusal.specs.declared.Refusal.{Refusal}
use Rattle.refusal.specs.Meaning.{number_of}
use Rattle.text.specs.Meaning.{number_text}
use Rattle.words.specs.Meaning.{refused_text}

pub refused_text_lem : (r : Refusal) (n p g : ℕ) → n ≡ number_of r.reason → p ≡ r.place → g ≡ r.glyph → (114 ∷ 101 ∷ 102 ∷ 117 ∷ 115 ∷ 101 ∷ 100 ∷ 32 ∷ []) ++ number_text n 32 ++ number_text p 32 ++ number_text g 10 ≡ refused_text r
unfolding refused_text
refused_text_lem r n p g e q z = rw (e, q, z)
