-- What a header says, it says in the first 32 bytes, whatever follows; and what they say of where the parts stand.
use mathlib.Core.Path.{◌≡◌, refl, ◌∙◌, ap, subst}
use mathlib.Core.List.{List, ◌++◌}
use mathlib.Core.Bool.{Bool, true, false}
use Prim.Native.Nat.{ℕ, ◌%◌, ◌≤◌}
use native.Mathlib.Omega.{arith}
use native.Mathlib.Nat.{mul-le-mul}
use lib.ListN.{length, get_or, length-append, get_or-append}
use lib.Dec.{ltb, eqb}
use borrow.Author.Tests.{le-ltb}
use Rattle.base.specs.Meaning.{pick}
use Rattle.base.specs.Reading.{when}
use Rattle.base.proofs.Begins.{begins_before}
use Rattle.base.proofs.Numbers.{le32_before}
use Rattle.header.specs.declared.Kind.{Kind}
use Rattle.header.specs.declared.Kind.TheVariants.{Psf1, Psf2, Vfont2}
use Rattle.header.specs.declared.Font.{Font}
use Rattle.header.specs.Meaning.{magic_of, psf1_count}
use Rattle.header.specs.Reading.{kind_of, psf1_says, head_of, psf2_shaped, vfont2_shaped, on_fields, named_says, says_of}
use Rattle.header.specs.Bounds.{Parts}
use Rattle.header.proofs.Known.{Source, source}
use Rattle.std.specs.Prelude.{Ok, Option, Some, None}

module _ (p s : List ℕ) (h : 32 ≤ length p) where
  long : (k : ℕ) → k ≤ 32 → ltb (length (p ++ s)) k ≡ false
  long k g = le-ltb (length (p ++ s)) k (omega (arith, length-append p s))

  short : (k : ℕ) → k ≤ 32 → ltb (length p) k ≡ false
  short k g = le-ltb (length p) k (omega arith)

  kind_front : kind_of (p ++ s) ≡ kind_of p
  unfolding kind_of
  kind_front = rw (begins_before (magic_of Psf1) p s (omega arith), begins_before (magic_of Psf2) p s (omega arith), begins_before (magic_of Vfont2) p s (omega arith))

  psf1_front : psf1_says (p ++ s) ≡ psf1_says p
  unfolding psf1_says when
  psf1_front = rw (long 4 (omega arith), short 4 (omega arith), get_or-append p s 0 2 (omega arith), get_or-append p s 0 3 (omega arith))

  head_front : head_of (p ++ s) ≡ head_of p
  unfolding head_of when
  head_front =
      rw (
        long 32 (omega arith),
        short 32 (omega arith),
        le32_before p s 4 (omega arith),
        le32_before p s 8 (omega arith),
        le32_before p s 12 (omega arith),
        le32_before p s 16 (omega arith),
        le32_before p s 20 (omega arith),
        le32_before p s 24 (omega arith),
        le32_before p s 28 (omega arith),
      )

  named_front : (k : Option Kind) → named_says (p ++ s) k ≡ named_says p k
  named_front (Some Psf1) = psf1_front
  named_front (Some Psf2) = ap (on_fields psf2_shaped) head_front
  named_front (Some Vfont2) = ap (on_fields vfont2_shaped) head_front
  named_front None = refl

  pub says_front : says_of (p ++ s) ≡ says_of p
  unfolding says_of
  says_front = ap (named_says (p ++ s)) kind_front ∙ named_front (kind_of p)

many : (mode : ℕ) → 256 ≤ psf1_count mode
unfolding psf1_count
many mode = go (eqb (mode % 2) 1)
  where
    go : (t : Bool) → 256 ≤ pick t 512 256
    go true = omega arith
    go false = omega arith

by_kind : (s : List ℕ) (f : Font) (k : Kind) → Source s f k → Parts f
by_kind s f Psf1 (q, (e, l, m, z)) =
    let g : 1 ≤ get_or s 3 0 = omega arith in
    let b = mul-le-mul (many (get_or s 2 0)) g in
    subst Parts e (omega arith, omega arith, omega (arith, b), refl)
by_kind s f Psf2 (q, h, (e, a, b, c, d, z)) = subst Parts e (omega (arith, h.3), omega arith, omega (arith, h.3), refl)
by_kind s f Vfont2 (q, h, (e, a, b)) = subst Parts e (omega (arith, h.3), omega arith, omega (arith, h.3), (h.3, refl))

pub parts : (s : List ℕ) (f : Font) → says_of s ≡ Ok f → Parts f
parts s f e = by_kind s f f.kind (source s f f.kind refl e)
