-- What is read at the front of some bytes, and the test for a noncharacter.
use Rattle.std.specs.Prelude.{Bool, true, false, ℕ, ◌+◌, ◌<◌, ◌%◌, ltb, leb, eqb, Result}
use Rattle.base.specs.Reading.{when}
use Rattle.token.specs.declared.Token.{Token}
use Rattle.token.specs.declared.Token.TheVariants.{Value, Start, End}
use Rattle.token.specs.declared.Malformed.{Malformed}
use Rattle.token.specs.declared.Malformed.TheVariants.{Cut, Bad}

-- a token with the place after it, or why none stands there
abbrev pub Step : Type 0
Step = Result (Token × ℕ) Malformed

-- the same where the bytes stand behind `at` others: a place is counted from the front of those
abbrev pub behind : ℕ → Malformed → Malformed
behind at Cut = Cut
behind at (Bad k) = Bad (at + k)

-- a place that is a number of the machine
abbrev pub Fits : Malformed → Type 0
Fits Cut = Unit {0}
Fits (Bad k) = k < 18446744073709551616

-- the same as a test
unfoldable pub is_noncharacter : ℕ → Bool
is_noncharacter v = when (ltb v 0xFDD0) false (when (ltb v 0xFDF0) true (leb 0xFFFE (v % 0x10000)))

-- whether two tokens are the same
abbrev pub same_token : Token → Token → Bool
same_token (Value v) (Value w) = eqb v w
same_token (Value v) Start = false
same_token (Value v) End = false
same_token Start (Value w) = false
same_token Start Start = true
same_token Start End = false
same_token End (Value w) = false
same_token End Start = false
same_token End End = true
