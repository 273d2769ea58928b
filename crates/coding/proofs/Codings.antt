-- Both codings keep the laws of a coding; so whatever is proved from those laws holds in both.
use mathlib.Core.Path.{◌≡◌}
use mathlib.Core.List.{List}
use Prim.Native.Nat.{ℕ, ◌≤◌}
use native.Mathlib.Omega.{arith}
use lib.ListN.{length}
use Rattle.token.proofs.Sized.{Sized}
use Rattle.token.proofs.Coded.{Coded}
use Rattle.token.proofs.Stopping.{Stopping}
use Rattle.token.proofs.Growing.{Growing}
use Rattle.utf8.proofs.Sizes as utf8-sizes
use Rattle.utf8.proofs.Coding.{coded_utf8}
use Rattle.utf8.proofs.Stops.{stopping_utf8}
use Rattle.utf8.proofs.Growing.{growing_utf8}
use Rattle.utf8.proofs.Plain.{key_byte}
use Rattle.ucs2.proofs.Sizes as ucs2-sizes
use Rattle.ucs2.proofs.Coding.{coded_ucs2}
use Rattle.ucs2.proofs.Stops.{stopping_ucs2}
use Rattle.ucs2.proofs.Growing.{growing_ucs2}
use Rattle.coding.specs.declared.Coding.{Coding}
use Rattle.coding.specs.declared.Coding.TheVariants.{Utf8, Ucs2}
use Rattle.coding.specs.Reading.{read_token, mark_len, key_of, no_key}
use Rattle.coding.specs.Meaning.{ValueOf, value_bytes, start_bytes, end_bytes}

-- what is written is read, and what is read was written
pub coded : (c : Coding) → Coded (read_token c) (mark_len c) (ValueOf c) (value_bytes c) (start_bytes c) (end_bytes c)
unfolding read_token mark_len ValueOf value_bytes start_bytes end_bytes
coded Utf8 = coded_utf8
coded Ucs2 = coded_ucs2

-- where reading stops
pub stopping : (c : Coding) → Stopping (read_token c) (mark_len c) (ValueOf c) (value_bytes c) (start_bytes c) (end_bytes c)
unfolding read_token mark_len ValueOf value_bytes start_bytes end_bytes
stopping Utf8 = stopping_utf8
stopping Ucs2 = stopping_ucs2

-- a token and the bytes behind it
pub growing : (c : Coding) → Growing (read_token c)
unfolding read_token
growing Utf8 = growing_utf8
growing Ucs2 = growing_ucs2

-- a token is no longer than the bytes that it is read from
pub token_sized : (c : Coding) (s : List ℕ) → Sized (length s) (read_token c s)
unfolding read_token
token_sized Utf8 s = utf8-sizes.read_sized s
token_sized Ucs2 s = ucs2-sizes.read_sized s

pub mark_small : (c : Coding) → (1 ≤ mark_len c) × (mark_len c ≤ 2)
unfolding mark_len
mark_small Utf8 = omega arith
mark_small Ucs2 = omega arith

-- no value has it
pub no_key_lem : (c : Coding) (v : ℕ) → key_of c v ≡ no_key → ⊥
unfolding key_of
no_key_lem Utf8 v e = omega (arith, key_byte v)
no_key_lem Ucs2 v e = omega arith
