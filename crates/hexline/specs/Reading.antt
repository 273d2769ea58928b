-- How a line is read, two digits at a time.
use Rattle.std.specs.Prelude.{ℕ, ◌+◌, ◌-◌, ◌*◌, List, [], ◌∷◌, ltb, length, replicate, set, Option, Some, None, option_and_then}
use Rattle.base.specs.Reading.{when}
use Rattle.hexline.specs.declared.Frame.{Frame}

-- the number that a character is as an upper-case digit, if it is one
unfoldable pub hex_value : ℕ → Option ℕ
hex_value b = when (ltb b 48) None (when (ltb b 58) (Some (b - 48)) (when (ltb b 65) None (when (ltb b 71) (Some (b - 55)) None)))

-- the byte that two digits spell, if both are digits
unfoldable pub pair_value : ℕ → ℕ → Option ℕ
pair_value a b = option_and_then (λ high. option_and_then (λ low. Some (high * 16 + low)) (hex_value b)) (hex_value a)

-- the rest of a line behind k bytes, which stand in xs: no frame where a digit is alone or two characters spell no byte
unfoldable pub bytes_from : ℕ → List ℕ → List ℕ → Option Frame
bytes_from k xs [] = Some (record { len = k; bytes = xs })
bytes_from k xs (a ∷ []) = None
bytes_from k xs (a ∷ b ∷ s) = option_and_then (λ v. bytes_from (k + 1) (set xs k v) s) (pair_value a b)

-- a line; none for a bad one
unfoldable pub frame_of : List ℕ → Option Frame
frame_of line = when (ltb 128 (length line)) None (bytes_from 0 (replicate 64 0) line)
