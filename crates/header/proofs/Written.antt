-- The parts of a written header one by one: flags, mode, lengths.
use mathlib.Core.Path.{◌≡◌, refl}
use mathlib.Core.Bool.{Bool, true, false}
use mathlib.Core.List.{List, [], ◌∷◌, ◌++◌}
use Prim.Native.Nat.{ℕ, ◌≤◌}
use native.Mathlib.Omega.{arith}
use lib.ListN.{length, length-append}
use borrow.Author.Tests.{eq-eqb, ne_eqb}
use Rattle.base.specs.Reading.{bytes32}
use Rattle.header.specs.declared.Kind.{Kind}
use Rattle.header.specs.declared.Kind.TheVariants.{Psf1, Psf2, Vfont2}
use Rattle.header.specs.Meaning.{magic_of, header_len, entry_len}
use Rattle.header.specs.Reading.{fields, flags_of, fixed_fields, mode_of, header_bytes}

pub mode_512 : (n : ℕ) (t : Bool) → n ≡ 512 → (t ≡ true → 3 ≡ mode_of n t) × (t ≡ false → 1 ≡ mode_of n t)
unfolding mode_of
mode_512 n t e = (λ q. rw (eq-eqb n 512 e, q), λ q. rw (eq-eqb n 512 e, q))

pub mode_256 : (n : ℕ) (t : Bool) → (n ≡ 512 → ⊥) → (t ≡ true → 2 ≡ mode_of n t) × (t ≡ false → 0 ≡ mode_of n t)
unfolding mode_of
mode_256 n t e = (λ q. rw (ne_eqb n 512 e, q), λ q. rw (ne_eqb n 512 e, q))

-- the flags and the mode as they were worked out
pub fixed_flags : (t : Bool) (h f : ℕ) → h ≡ 32 → f ≡ flags_of t → bytes32 0 ++ bytes32 h ++ bytes32 f ≡ fixed_fields t
unfolding fixed_fields
fixed_flags t h f l e = rw (l, e)

pub header_mode : (n : ℕ) (t : Bool) (m z h w : ℕ) → m ≡ mode_of n t → 0x36 ∷ 0x04 ∷ m ∷ h ∷ [] ≡ header_bytes Psf1 t n z h w
unfolding header_bytes
header_mode n t m z h w e = rw e

pub entry_small : (k : Kind) → entry_len k ≤ 18
entry_small Psf1 = omega arith
entry_small Psf2 = omega arith
entry_small Vfont2 = omega arith

pub psf2_parts : (t : Bool) (n z h w : ℕ) → magic_of Psf2 ++ fixed_fields t ++ fields n z h w ≡ header_bytes Psf2 t n z h w
unfolding header_bytes
psf2_parts t n z h w = refl

pub vfont2_parts : (t : Bool) (n z h w : ℕ) → magic_of Vfont2 ++ fixed_fields t ++ fields n z h w ≡ header_bytes Vfont2 t n z h w
unfolding header_bytes
vfont2_parts t n z h w = refl

-- a magic of four bytes and the fields behind it
pub front_length : (m : List ℕ) (t : Bool) → length m ≡ 4 → length (m ++ fixed_fields t) ≡ 16
unfolding fixed_fields bytes32
front_length m t e = rw (length-append, e)

-- "Written headers are 32 bytes (4 for PSF1)"
pub header_length : (k : Kind) (t : Bool) (n z h w : ℕ) → length (header_bytes k t n z h w) ≡ header_len k
unfolding header_bytes fixed_fields fields bytes32
header_length Psf1 t n z h w = refl
header_length Psf2 t n z h w = refl
header_length Vfont2 t n z h w = refl
