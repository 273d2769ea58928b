-- The written parts one by one: their lengths, and one more entry or glyph of those that are left.
use mathlib.Core.Path.{◌≡◌, refl, subst}
use mathlib.Core.List.{List, [], ◌∷◌, ◌++◌}
use mathlib.Core.Bool.{Bool}
use Prim.Native.Nat.{ℕ, zero, suc, ◌+◌, ◌-◌, ◌*◌, ◌≤◌, ◌<◌}
use native.Mathlib.Omega.{arith}
use native.Mathlib.Numerals.{add-one}
use native.Mathlib.Nat.{add-sub_cancel_left, suc-mul}
use lib.ListN.{length, take, drop, length-append, length-drop}
use lib.Seq.{length-take-le}
use borrow.Rule.Slice.PartMut.{mid_of, put_mid}
use Rattle.base.specs.Reading.{bytes16, bytes32, over}
use Rattle.base.proofs.Written.{Written, goes_on}
use Rattle.header.specs.declared.Kind.{Kind}
use Rattle.header.specs.declared.Kind.TheVariants.{Psf1, Psf2, Vfont2}
use Rattle.header.specs.declared.Font.{Font}
use Rattle.header.specs.Meaning.{entry_len}
use Rattle.header.specs.Reading.{header_bytes}
use Rattle.entries.specs.Meaning.{entry_at, address_at}
use Rattle.layout.specs.Reading.{metrics_bytes, entry_bytes, entries_at, evenly, dispatch_bytes, gathered, kind_glyphs, glyphs_in}

pub entry_length : (a c h w : ℕ) → length (entry_bytes a c h w) ≡ 18
unfolding entry_bytes metrics_bytes bytes32 bytes16
entry_length a c h w = refl

pub entries_length : (c h w : ℕ) (xs : List ℕ) → length (entries_at c h w xs) ≡ length xs * 18
unfolding entries_at
entries_length c h w [] = refl
entries_length c h w (a ∷ xs) = omega (arith, length-append (entry_bytes a c h w) (entries_at c h w xs), entry_length a c h w, entries_length c h w xs)

pub evenly_length : (c i k : ℕ) → length (evenly c i k) ≡ k
unfolding evenly
evenly_length c i zero = refl
evenly_length c i (suc k) = let e = evenly_length c (suc i) k in omega arith

pub dispatch_length : (k : Kind) (c h w : ℕ) (xs : List ℕ) → length (dispatch_bytes k c h w xs) ≡ length xs * entry_len k
dispatch_length Psf1 c h w xs = omega arith
dispatch_length Psf2 c h w xs = omega arith
dispatch_length Vfont2 c h w xs = entries_length c h w xs

-- one more of those that are left
left_one : (n i : ℕ) → i < n → n - i ≡ suc (n - (i + 1))
left_one n i h = omega arith

pub all_left : (n : ℕ) → n ≡ n - 0
all_left n = omega arith

none_left : (n i : ℕ) → n ≤ i → n - i ≡ 0
none_left n i h = omega arith

module _ (c h w n i : ℕ) where
  pub entries_next : (a : ℕ) → a ≡ i * c → i < n → entries_at c h w (evenly c i (n - i)) ≡ entry_bytes a c h w ++ entries_at c h w (evenly c (i + 1) (n - (i + 1)))
  unfolding entries_at evenly
  entries_next a e l = rw (left_one n i l, e, add-one i)

  pub entries_done : n ≤ i → entries_at c h w (evenly c i (n - i)) ≡ []
  unfolding entries_at evenly
  entries_done g = rw (none_left n i g)

-- one more part of l bytes, where the next one is known to begin at m
pub goes_to : (w x y xs v ys z : List ℕ) (n l m : ℕ) → n + l ≡ m → z ≡ x → l ≡ length z → ys ≡ over z (mid_of n (length v - n) v) → Written w xs n v (x ++ y) → Written w xs m (put_mid n (length v - n) v ys) y
goes_to w x y xs v ys z n l m e q k o h = subst (λ (j : ℕ). Written w xs j (put_mid n (length v - n) v ys) y) e (goes_on w x y xs v ys z n l q k o h)

-- one more address
pub next_multiple : (a i c : ℕ) → a ≡ i * c → a + c ≡ (i + 1) * c
next_multiple a i c e = rw (e, add-one i, suc-mul i c)

-- a part that stands in a list has its length
pub part_length : (s : List ℕ) (c a : ℕ) → a + c ≤ length s → length (take c (drop a s)) ≡ c
part_length s c a h = length-take-le c (drop a s) (omega (arith, length-drop a s))

-- a part from a to z, said of the place that a is
pub part_said : (s : List ℕ) (c a d z : ℕ) → a ≡ d → z ≡ a + c → take (z - a) (drop a s) ≡ take c (drop d s)
part_said s c a d z e q = rw (q, add-sub_cancel_left a c, e)

take_short : (m : ℕ) (l : List ℕ) → length (take m l) ≤ m
take_short zero l = omega arith
take_short (suc m) [] = omega arith
take_short (suc m) (z ∷ l) = let q = take_short m l in omega arith

module _ (s : List ℕ) (f : Font) (c : ℕ) where
  pub gathered_short : (i k : ℕ) → length (gathered s f c i k) ≤ k * c
  unfolding gathered
  gathered_short i zero = omega arith
  gathered_short i (suc k) =
      let x = take c (drop (f.bitmaps + address_at s (entry_at f.entries i)) s) in
      omega (arith, length-append x (gathered s f c (suc i) k), take_short c (drop (f.bitmaps + address_at s (entry_at f.entries i)) s), gathered_short (suc i) k, suc-mul k c)

  pub gathered_next : (n i at : ℕ) → at ≡ f.bitmaps + address_at s (entry_at f.entries i) → i < n → gathered s f c i (n - i) ≡ take c (drop at s) ++ gathered s f c (i + 1) (n - (i + 1))
  unfolding gathered
  gathered_next n i at e l = rw (left_one n i l, add-one i, e)

  pub gathered_done : (n i : ℕ) → n ≤ i → gathered s f c i (n - i) ≡ []
  unfolding gathered
  gathered_done n i g = rw (none_left n i g)

-- by the kind
pub glyphs_of : (s : List ℕ) (f : Font) (k : Kind) → f.kind ≡ k → kind_glyphs s f k ≡ glyphs_in s f
unfolding glyphs_in
glyphs_of s f k e = rw e

-- PSF1's header has no number at 20, and no width
pub psf1_header : (t : Bool) (n z h w : ℕ) → header_bytes Psf1 t n h h 8 ≡ header_bytes Psf1 t n z h w
unfolding header_bytes
psf1_header t n z h w = refl

-- the bitmaps of a font that has them end to end
pub even_glyphs : (s : List ℕ) (f : Font) → f.end ≡ f.bitmaps + f.count * f.size → take (f.end - f.bitmaps) (drop f.bitmaps s) ≡ take (f.count * f.size) (drop f.bitmaps s)
even_glyphs s f e = part_said s (f.count * f.size) f.bitmaps f.bitmaps f.end refl e
