-- What a conversion answers, and what it leaves in the buffer: "A refused conversion leaves the buffer untouched; a good one writes exactly
-- the output at the front and nothing behind it."
use Rattle.std.specs.Prelude.{ℕ, List, ltb, length, Result, Ok, Err}
use Rattle.base.specs.Reading.{when, over}
use Rattle.refusal.specs.Meaning.{refusal}
use Rattle.refusal.specs.declared.Reason.TheVariants.{Room}
use Rattle.header.specs.declared.Font.{Font}
use Rattle.conversion.specs.declared.Conversion.{Conversion}
use Rattle.conversion.specs.Reading.{output_of, prepared_of}
use Rattle.refusal.specs.declared.Refusal.{Refusal}

-- 21: "the lent buffer is shorter than the output", place "size needed"
abbrev pub converted : Result (Font × ℕ) Refusal → ℕ → Result ℕ Refusal
converted (Ok (f, need)) room = when (ltb room need) (Err (refusal Room need)) (Ok need)
converted (Err r) room = Err r

-- the buffer at the end: the output laid over its front, or as it was
abbrev pub laid : Result (Font × ℕ) Refusal → (Font → List ℕ) → List ℕ → List ℕ
laid (Ok (f, need)) output xs = when (ltb (length xs) need) xs (over (output f) xs)
laid (Err r) output xs = xs

-- the answer, for a buffer of so many bytes
unfoldable pub converted_of : Conversion → List ℕ → ℕ → Result ℕ Refusal
converted_of c s room = converted (prepared_of c s) room

-- what is left in a buffer
unfoldable pub converted_into : Conversion → List ℕ → List ℕ → List ℕ
converted_into c s xs = laid (prepared_of c s) (output_of c s) xs
