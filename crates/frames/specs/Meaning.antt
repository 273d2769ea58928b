-- The program `fontload` (document 02, W2): "A program reads lines of hexadecimal, one frame a line: 0 to 128 upper-case digits, an even
-- number, each line one piece; the last needs no newline. Of more than 4,194,304 bytes of input only the lines ended within them are read,
-- and `too big` is written if none is bad. It writes `sound` or the refusal line." Frames: crates/hexline.
use Rattle.std.specs.Prelude.{ℕ, ◌+◌, ◌≤◌, ◌<◌, ◌≡◌, List, [], ◌∷◌, ◌++◌, length, replicate, take, Result, Ok, Err}
use Rattle.base.specs.Reading.{over}
use Rattle.refusal.specs.declared.Reason.TheVariants.{Line}
use Rattle.refusal.specs.Meaning.{refusal}
use Rattle.words.specs.Meaning.{refused_text, big_text}
use Rattle.hexline.specs.Meaning.{IsFrame, NoFrame}
use Rattle.loader.specs.Meaning.{fed_all}
use Rattle.loader.specs.Reading.{fresh_of, close_answer}
use Rattle.frames.specs.declared.Frames.{Frames}
use Rattle.frames.specs.declared.Output.{Output}
use Rattle.frames.specs.Reading.{answered_of, fed_of as chunkFed}
use Rattle.frames.specs.declared.Failure.{Failure}
use Rattle.frames.specs.declared.Failure.TheVariants.{Refused, TooBig}

abbrev pub limit : ℕ
limit = 4194304

-- a text without a newline
abbrev pub Plain : List ℕ → Type 0
Plain [] = Unit {0}
Plain (b ∷ s) = (b ≡ 10 → ⊥) × Plain s

abbrev pub AllPlain : List (List ℕ) → Type 0
AllPlain [] = Unit {0}
AllPlain (l ∷ ls) = Plain l × AllPlain ls

-- lines, each with its newline
abbrev pub unlines : List (List ℕ) → List ℕ
unlines [] = []
unlines (l ∷ ls) = l ++ (10 ∷ unlines ls)

-- a text is these lines, ended, and a rest
abbrev pub IsLines : List ℕ → List (List ℕ) → List ℕ → Type 0
IsLines s ls rest = (s ≡ unlines ls ++ rest) × AllPlain ls × Plain rest

-- the lines of an input that are read: "the last needs no newline"; "Of more than 4,194,304 bytes of input only the lines ended within them"
pub data Reads (s : List ℕ) (ls : List (List ℕ)) : Type 0 where
  all_lines : (ended : List (List ℕ)) (rest : List ℕ) → length s ≤ limit → IsLines s ended rest → ls ≡ ended ++ (rest ∷ []) → Reads s ls
  ended_lines : (rest : List ℕ) → limit < length s → IsLines (take limit s) ls rest → Reads s ls

-- lines that are frames, and the pieces that they are
abbrev pub AreFrames : List (List ℕ) → List (List ℕ) → Type 0
AreFrames [] [] = Unit {0}
AreFrames [] (p ∷ ps) = ⊥
AreFrames (l ∷ ls) [] = ⊥
AreFrames (l ∷ ls) (p ∷ ps) = IsFrame l p × AreFrames ls ps

-- "the line's number from 1": the first line that is read and is no frame is the i-th
pub data BadLine (s : List ℕ) (i : ℕ) : Type 0 where
  first_bad : (before : List (List ℕ)) (line : List ℕ) (after ps : List (List ℕ)) → Reads s (before ++ (line ∷ after)) → AreFrames before ps → NoFrame line → i ≡ length before + 1 → BadLine s i

-- what the program answers on an input: "LINE (23, place the line's number from 1) for a bad line, where the program stops"; `too big` if
-- none is bad; and else what is said of the pieces
pub data Answers (said : List (List ℕ) → Result (Unit {0}) Failure) (s : List ℕ) (o : Result (Unit {0}) Failure) : Type 0 where
  bad_line : (i : ℕ) → BadLine s i → o ≡ Err (Refused (refusal Line i)) → Answers said s o
  too_big : (ls ps : List (List ℕ)) → Reads s ls → AreFrames ls ps → limit < length s → o ≡ Err TooBig → Answers said s o
  closed : (ls ps : List (List ℕ)) → Reads s ls → AreFrames ls ps → length s ≤ limit → o ≡ said ps → Answers said s o

-- what the loader's close says of pieces
abbrev pub loader_says : List (List ℕ) → Result (Unit {0}) Failure
loader_says ps = answered_of (close_answer (fed_all fresh_of ps))

-- a state fed by chunks, in order
abbrev pub fed_chunks : Frames → List (List ℕ) → Frames
fed_chunks f [] = f
fed_chunks f (c ∷ cs) = fed_chunks (chunkFed f c) cs

-- `sound`
abbrev pub sound_text : List ℕ
sound_text = 115 ∷ 111 ∷ 117 ∷ 110 ∷ 100 ∷ 10 ∷ []

-- an answer as text
abbrev pub outcome_text : Result (Unit {0}) Failure → List ℕ
outcome_text (Ok tt) = sound_text
outcome_text (Err (Refused r)) = refused_text r
outcome_text (Err TooBig) = big_text

-- a text as a line of output
abbrev pub output_of : List ℕ → Output
output_of text = record { len = length text; bytes = over text (replicate 96 0) }
