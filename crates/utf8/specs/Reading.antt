-- One value at the front of a list of bytes: well-formed UTF-8 (Unicode, Table 3-7), and no noncharacter. And one token: FE starts a sequence, FF ends
-- a description, and anything else is a value.
use Rattle.std.specs.Prelude.{List, [], ◌∷◌, ℕ, ◌+◌, ◌%◌, zero, suc, ◌-◌, ◌*◌, Bool, true, false, ltb, eqb, Option, None, Some, Result, Ok, Err}
use Rattle.base.specs.Meaning.{pick}
use Rattle.base.specs.Reading.{when, within}
use Rattle.token.specs.Reading.{Step, is_noncharacter}
use Rattle.token.specs.declared.Token.TheVariants.{Value, Start, End}
use Rattle.utf8.specs.declared.Lead.{Lead}
use Rattle.token.specs.declared.Malformed.{Malformed}
use Rattle.token.specs.declared.Malformed.TheVariants.{Cut, Bad}

-- the same as tests
unfoldable pub is_scalar : ℕ → Bool
is_scalar v = when (ltb v 0xD800) true (when (ltb v 0xE000) false (ltb v 0x110000))

unfoldable pub is_utf8_value : ℕ → Bool
is_utf8_value v = when (is_noncharacter v) false (is_scalar v)

-- a row of Table 3-7: the value's length, the modulus that leaves the first byte's bits, the bounds of the second byte
abbrev pub lead_row : ℕ → ℕ → ℕ → ℕ → Lead
lead_row n m l h = record { len = n; modulus = m; lo = l; hi = h }

-- what the first byte says: Table 3-7 row by row, and last the bytes that begin no value
unfoldable pub lead_of : ℕ → Lead
lead_of b =
    pick (within 0x00 0x7F b) (lead_row 1 128 0x80 0xBF)
    (pick (within 0xC2 0xDF b) (lead_row 2 32 0x80 0xBF)
    (pick (within 0xE0 0xE0 b) (lead_row 3 16 0xA0 0xBF)
    (pick (within 0xE1 0xEC b) (lead_row 3 16 0x80 0xBF)
    (pick (within 0xED 0xED b) (lead_row 3 16 0x80 0x9F)
    (pick (within 0xEE 0xEF b) (lead_row 3 16 0x80 0xBF)
    (pick (within 0xF0 0xF0 b) (lead_row 4 8 0x90 0xBF)
    (pick (within 0xF1 0xF3 b) (lead_row 4 8 0x80 0xBF)
    (pick (within 0xF4 0xF4 b) (lead_row 4 8 0x80 0x8F)
    (lead_row 0 1 0x80 0xBF)))))))))

-- a row where a value begins so
abbrev pub begun : Lead → Option Lead
begun l = pick (eqb l.len 0) None (Some l)

-- the bytes after the first: n more, the next within lo and hi; v so far, k bytes taken
unfoldable pub conts : ℕ → ℕ → ℕ → ℕ → ℕ → List ℕ → Result (ℕ × ℕ) Malformed
conts zero lo hi v k s = Ok (v, k)
conts (suc n) lo hi v k [] = Err Cut
conts (suc n) lo hi v k (b ∷ s) = pick (within lo hi b) (conts n 0x80 0xBF (v * 64 + (b - 0x80)) (k + 1) s) (Err (Bad k))

-- a noncharacter is no value: it is bad at k
unfoldable pub permitted_at : ℕ → Result (ℕ × ℕ) Malformed → Result (ℕ × ℕ) Malformed
permitted_at k (Ok (v, l)) = pick (is_noncharacter v) (Err (Bad k)) (Ok (v, l))
permitted_at k (Err t) = Err t

-- the value in front; a noncharacter is bad at its last byte
unfoldable pub read_value : List ℕ → Result (ℕ × ℕ) Malformed
read_value [] = Err Cut
read_value (b ∷ s) =
    pick (eqb (lead_of b).len 0) (Err (Bad 0))
    (permitted_at ((lead_of b).len - 1) (conts ((lead_of b).len - 1) (lead_of b).lo (lead_of b).hi (b % (lead_of b).modulus) 1 s))

-- a value's key: its last byte
unfoldable pub utf8_key : ℕ → ℕ
utf8_key v = pick (ltb v 0x80) v (0x80 + v % 64)

-- how many bytes a value has that was read; none where there is none, or its key is k
abbrev pub plain_len : ℕ → Result (ℕ × ℕ) Malformed → Option ℕ
plain_len k (Ok (v, l)) = pick (eqb (utf8_key v) k) None (Some l)
plain_len k (Err Cut) = None
plain_len k (Err (Bad j)) = None

-- what was read, as a token
abbrev pub as_token : Result (ℕ × ℕ) Malformed → Step
as_token (Ok (v, l)) = Ok (Value v, l)
as_token (Err t) = Err t

-- the token in front
unfoldable pub read_utf8 : List ℕ → Step
read_utf8 [] = Err Cut
read_utf8 (b ∷ s) = pick (eqb b 0xFE) (Ok (Start, 1)) (pick (eqb b 0xFF) (Ok (End, 1)) (as_token (read_value (b ∷ s))))
