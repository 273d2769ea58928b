-- Pieces (document 02, W2): "fed any number of pieces of any length and asked once at the end".
use Rattle.std.specs.Prelude.{List, [], ◌∷◌, ◌++◌, ℕ}
use Rattle.loader.specs.declared.Loader.{Loader}
use Rattle.loader.specs.Reading.{fed_of, closed_of}

-- "the pieces joined"
abbrev pub together : List (List ℕ) → List ℕ
together [] = []
together (p ∷ ps) = p ++ together ps

-- a record fed by pieces, in order
abbrev pub fed_all : Loader → List (List ℕ) → Loader
fed_all l [] = l
fed_all l (p ∷ ps) = fed_all (fed_of l p) ps

-- what a caller does with a record: feed a piece, or close it
pub data Call : Type 0 where
  Feed : List ℕ → Call
  Close : Call

-- the record after calls, in order
abbrev pub called : Loader → List Call → Loader
called l [] = l
called l (Feed p ∷ cs) = called (fed_of l p) cs
called l (Close ∷ cs) = called (closed_of l) cs
