-- The kind that the check names is the one whose magic the file begins with.
use mathlib.Core.Path.{◌≡◌, refl, subst}
use mathlib.Core.Bool.{Bool, true, false}
use mathlib.Core.List.{List}
use Prim.Native.Nat.{ℕ}
use native.Mathlib.Omega.{arith}
use Rattle.base.specs.Meaning.{Begins}
use Rattle.base.specs.Reading.{starts_with}
use Rattle.base.proofs.Begins.{begins_exactly}
use Rattle.header.specs.declared.Kind.{Kind}
use Rattle.header.specs.declared.Kind.TheVariants.{Psf1, Psf2, Vfont2}
use Rattle.header.specs.Meaning.{magic_of}
use Rattle.header.specs.Reading.{kind_of}
use Rattle.header.proofs.Cases.{is_psf1, is_psf2, is_vfont2, no_kind}
use Rattle.std.specs.Prelude.{Option, Some, None}

-- what each answer says of the file's first bytes
abbrev pub Begun : List ℕ → Option Kind → Type 0
Begun s (Some k) = Begins (magic_of k) s
Begun s None = (Begins (magic_of Psf1) s → ⊥) × (Begins (magic_of Psf2) s → ⊥) × (Begins (magic_of Vfont2) s → ⊥)

begins_not : (m s : List ℕ) → starts_with m s ≡ false → Begins m s → ⊥
begins_not m s e b =
    let t = (begins_exactly m s).1 b in
    let z : ◌≡◌ {A = ℕ} 0 1 = cc in
    omega arith

pub kind_says : (s : List ℕ) → Begun s (kind_of s)
kind_says s = go (starts_with (magic_of Psf1) s) (starts_with (magic_of Psf2) s) (starts_with (magic_of Vfont2) s) refl refl refl
  where
    go : (x y z : Bool) → starts_with (magic_of Psf1) s ≡ x → starts_with (magic_of Psf2) s ≡ y → starts_with (magic_of Vfont2) s ≡ z → Begun s (kind_of s)
    go true y z a b d = subst (Begun s) (is_psf1 s a) ((begins_exactly (magic_of Psf1) s).0 a)
    go false true z a b d = subst (Begun s) (is_psf2 s a b) ((begins_exactly (magic_of Psf2) s).0 b)
    go false false true a b d = subst (Begun s) (is_vfont2 s a b d) ((begins_exactly (magic_of Vfont2) s).0 d)
    go false false false a b d = subst (Begun s) (no_kind s a b d) (begins_not (magic_of Psf1) s a, begins_not (magic_of Psf2) s b, begins_not (magic_of Vfont2) s d)

-- the magic of the kind that is named stands in front
pub magic_begins : (s : List ℕ) (k : Kind) → kind_of s ≡ Some k → Begins (magic_of k) s
magic_begins s k e = subst (Begun s) e (kind_says s)
