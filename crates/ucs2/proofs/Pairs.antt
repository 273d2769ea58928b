-- `read_ucs2` by the length of the list and its first two elements.
use mathlib.Core.Path.{◌≡◌, refl}
use mathlib.Core.List.{List, [], ◌∷◌}
use mathlib.Core.Bool.{true, false}
use Prim.Native.Nat.{ℕ, ◌≤◌, ◌<◌}
use native.Mathlib.Omega.{arith}
use lib.ListN.{length}
use borrow.Author.Tests.{lt-ltb, le-ltb, eq-eqb, ne_eqb}
use Rattle.base.specs.Meaning.{le16}
use Rattle.std.specs.Prelude.{Ok, Err}
use Rattle.token.specs.declared.Malformed.TheVariants.{Cut, Bad}
use Rattle.token.specs.declared.Token.TheVariants.{Value, Start, End}
use Rattle.ucs2.specs.Reading.{read_ucs2, word, is_word}

pub short : (s : List ℕ) → length s < 2 → Err Cut ≡ read_ucs2 s
unfolding read_ucs2
short [] h = refl
short (a ∷ []) h = refl
short (a ∷ (b ∷ s)) h = absurd (omega arith)

pair : (s : List ℕ) → 2 ≤ length s → read_ucs2 s ≡ word (le16 s 0)
unfolding read_ucs2 le16
pair [] h = absurd (omega arith)
pair (a ∷ []) h = absurd (omega arith)
pair (a ∷ (b ∷ s)) h = refl

-- with the two bytes' number as the code has it
module _ (s : List ℕ) (h : 2 ≤ length s) (v : ℕ) (e : v ≡ le16 s 0) where
  pub as_value : is_word v ≡ true → Ok (Value v, 2) ≡ read_ucs2 s
  as_value w = rw (pair s h, ← e, w)

  pub as_bad : is_word v ≡ false → v < 65534 → Err (Bad 1) ≡ read_ucs2 s
  as_bad w l = rw (pair s h, ← e, w, lt-ltb v 65534 l)

  pub as_start : is_word v ≡ false → 65534 ≤ v → v ≡ 65534 → Ok (Start, 2) ≡ read_ucs2 s
  as_start w l a = rw (pair s h, ← e, w, le-ltb v 65534 l, eq-eqb v 65534 a)

  pub as_end : is_word v ≡ false → 65534 ≤ v → (v ≡ 65534 → ⊥) → Ok (End, 2) ≡ read_ucs2 s
  as_end w l a = rw (pair s h, ← e, w, le-ltb v 65534 l, ne_eqb v 65534 a)
