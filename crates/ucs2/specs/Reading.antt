-- One token at the front of a list of bytes: two bytes, little endian; FFFE starts a sequence, FFFF ends a description.
use Rattle.std.specs.Prelude.{List, [], ◌∷◌, ℕ, ◌+◌, ◌*◌, eqb, ltb, Bool, false, Ok, Err}
use Rattle.base.specs.Meaning.{pick}
use Rattle.token.specs.declared.Malformed.TheVariants.{Cut, Bad}
use Rattle.token.specs.declared.Token.TheVariants.{Value, Start, End}
use Rattle.base.specs.Reading.{when}
use Rattle.token.specs.Reading.{Step, is_noncharacter}

-- the same as a test
unfoldable pub is_word : ℕ → Bool
is_word v = when (is_noncharacter v) false (ltb v 0xFFFE)

-- what a number of two bytes is: a value, a noncharacter, bad at its second byte, or one of the two marks
abbrev pub word : ℕ → Step
word v = pick (is_word v) (Ok (Value v, 2)) (pick (ltb v 0xFFFE) (Err (Bad 1)) (pick (eqb v 0xFFFE) (Ok (Start, 2)) (Ok (End, 2))))

-- the token in front
unfoldable pub read_ucs2 : List ℕ → Step
read_ucs2 [] = Err Cut
read_ucs2 (a ∷ []) = Err Cut
read_ucs2 (a ∷ (b ∷ s)) = word (a + 256 * b)
