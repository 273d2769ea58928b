-- PSF1's two bytes: a token that is not cut stays as it is, and what is cut has at most one byte.
use mathlib.Core.Path.{◌≡◌, refl}
use mathlib.Core.List.{List, [], ◌∷◌, ◌++◌}
use mathlib.Core.Logic.{◌⊎◌, inl, inr}
use Prim.Native.Nat.{ℕ, ◌+◌, ◌*◌, ◌<◌}
use native.Mathlib.Omega.{arith}
use lib.ListN.{length}
use Rattle.std.specs.Prelude.{Err}
use Rattle.token.specs.declared.Malformed.TheVariants.{Cut}
use Rattle.token.proofs.Growing.{Growing}
use Rattle.ucs2.specs.Reading.{read_ucs2}
use Rattle.ucs2.proofs.Stops.{word_whole}

token_kept : (p s : List ℕ) → (read_ucs2 p ≡ Err Cut) ⊎ (read_ucs2 (p ++ s) ≡ read_ucs2 p)
unfolding read_ucs2
token_kept [] s = inl refl
token_kept (a ∷ []) s = inl refl
token_kept (a ∷ (b ∷ p)) s = inr refl

token_short : (p : List ℕ) → read_ucs2 p ≡ Err Cut → length p < 4
unfolding read_ucs2
token_short [] e = omega arith
token_short (a ∷ []) e = omega arith
token_short (a ∷ (b ∷ p)) e = absurd (rw e at (word_whole (a + 256 * b)))

pub growing_ucs2 : Growing read_ucs2
growing_ucs2 = record { kept = token_kept; cut_short = token_short }
