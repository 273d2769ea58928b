-- How a token is read in each coding.
use Rattle.std.specs.Prelude.{List, ℕ, ◌%◌, Bool}
use Rattle.token.specs.Reading.{Step}
use Rattle.utf8.specs.Reading.{read_utf8, is_utf8_value, utf8_key}
use Rattle.ucs2.specs.Reading.{read_ucs2, is_word}
use Rattle.coding.specs.declared.Coding.{Coding}
use Rattle.coding.specs.declared.Coding.TheVariants.{Utf8, Ucs2}

-- the token at the front of a list of bytes
unfoldable pub read_token : Coding → List ℕ → Step
read_token Utf8 s = read_utf8 s
read_token Ucs2 s = read_ucs2 s

-- how many bytes a mark has
unfoldable pub mark_len : Coding → ℕ
mark_len Utf8 = 1
mark_len Ucs2 = 2

-- a value's key: in UTF-8 its last byte, in two bytes the number itself
unfoldable pub key_of : Coding → ℕ → ℕ
key_of Utf8 v = utf8_key v
key_of Ucs2 v = v % 0x10000

-- no value's key
abbrev pub no_key : ℕ
no_key = 0x10000

-- whether a number is one of the coding's values, as a test
unfoldable pub carries_of : Coding → ℕ → Bool
carries_of Utf8 v = is_utf8_value v
carries_of Ucs2 v = is_word v
