-- Feeding: the next byte, the end of a chunk, chunks one after the other; behind a bad line and behind the limit nothing changes the answer.
use mathlib.Core.Path.{◌≡◌, refl, ◌∙◌, ap}
use mathlib.Core.List.{List, [], ◌∷◌, ◌++◌}
use Prim.Native.Nat.{ℕ, ◌+◌, ◌<◌, ◌≤◌}
use native.Mathlib.Numerals.{add-one}
use native.Mathlib.Omega.{arith}
use lib.ListN.{length, drop, get_or, drop_of_length-le}
use lib.Seq.{drop-cons}
use borrow.Author.Tests.{lt-ltb, le-ltb, eq-eqb, ne_eqb}
use Rattle.base.specs.Reading.{when}
use Rattle.refusal.specs.declared.Reason.TheVariants.{Line}
use Rattle.refusal.specs.Meaning.{refusal}
use Rattle.frames.specs.declared.Frames.{Frames}
use Rattle.frames.specs.Reading.{counted_of, ended_of, with_of, took_of, byte_of, fed_of, answered_of, last_by, last_of, closed_of}
use Rattle.loader.specs.Reading.{close_answer}
use Rattle.std.specs.Prelude.{Option, Some, None, is_some, IsSome, IsNone, Err}
use Rattle.frames.specs.declared.Failure.TheVariants.{Refused, TooBig}

pub next : (f : Frames) (s : List ℕ) (i : ℕ) → i < length s → fed_of f (drop i s) ≡ fed_of (byte_of f (get_or s i 0)) (drop (i + 1) s)
unfolding fed_of
next f s i h = rw (add-one, drop-cons s i 0)

pub ended : (f : Frames) (s : List ℕ) (i : ℕ) → length s ≤ i → fed_of f (drop i s) ≡ f
unfolding fed_of
ended f s i h = rw (drop_of_length-le s {i = i} h)

-- chunks one after the other
pub joined : (f : Frames) (s t : List ℕ) → fed_of f (s ++ t) ≡ fed_of (fed_of f s) t
unfolding fed_of
joined f [] t = refl
joined f (b ∷ s) t = joined (byte_of f b) s t

pub counted_more : (n : ℕ) → n ≤ 4194304 → counted_of n ≡ n + 1
unfolding counted_of when
counted_more n h = let l : n < 4194305 = omega arith in rw (lt-ltb n 4194305 l)

pub counted_full : (n : ℕ) → 4194304 < n → counted_of n ≡ n
unfolding counted_of when
counted_full n h = let l : 4194305 ≤ n = omega arith in rw (le-ltb n 4194305 l)

-- one byte
module _ (f : Frames) (b : ℕ) where
  pub byte_bad : IsSome f.bad → byte_of f b ≡ f
  unfolding byte_of when
  byte_bad h = rw h

  pub byte_full : IsNone f.bad → 4194304 ≤ f.taken → byte_of f b ≡ took_of f
  unfolding byte_of when
  byte_full h l = rw (h, le-ltb f.taken 4194304 l)

  pub byte_newline : IsNone f.bad → f.taken < 4194304 → b ≡ 10 → byte_of f b ≡ ended_of (took_of f)
  unfolding byte_of when
  byte_newline h l e = rw (h, lt-ltb f.taken 4194304 l, eq-eqb b 10 e)

  pub byte_char : IsNone f.bad → f.taken < 4194304 → (b ≡ 10 → ⊥) → byte_of f b ≡ with_of (took_of f) b
  unfolding byte_of when
  byte_char h l e = rw (h, lt-ltb f.taken 4194304 l, ne_eqb b 10 e)

-- the answer
module _ (f : Frames) where
  pub last_bad : (n : ℕ) → f.bad ≡ Some n → last_of f ≡ Err (Refused (refusal Line n))
  unfolding last_of
  last_bad n h = ap (last_by f.loader) h

  pub last_good : IsNone f.bad → last_of f ≡ answered_of (close_answer f.loader)
  unfolding last_of
  last_good h = go f.bad h
    where
      go : (o : Option ℕ) → IsNone o → last_by f.loader o ≡ answered_of (close_answer f.loader)
      go None e = refl
      go (Some n) e = absurd (cc)

  pub closed_bad : IsSome f.bad → closed_of f ≡ last_of f
  unfolding closed_of when
  closed_bad h = rw h

  pub closed_full : IsNone f.bad → 4194304 < f.taken → closed_of f ≡ Err TooBig
  unfolding closed_of when
  closed_full h l = rw (h, lt-ltb 4194304 f.taken l)

  pub closed_last : IsNone f.bad → f.taken ≤ 4194304 → closed_of f ≡ last_of (ended_of f)
  unfolding closed_of when
  closed_last h l = rw (h, le-ltb 4194304 f.taken l)

-- behind a bad line nothing is read
pub bad_stays : (s : List ℕ) (f : Frames) → IsSome f.bad → fed_of f s ≡ f
unfolding fed_of
bad_stays [] f h = refl
bad_stays (b ∷ s) f h = ap (λ (g : Frames). fed_of g s) (byte_bad f b h) ∙ bad_stays s f h

pub bad_answered : (s : List ℕ) (f : Frames) (n : ℕ) → f.bad ≡ Some n → closed_of (fed_of f s) ≡ Err (Refused (refusal Line n))
bad_answered s f n h = ap closed_of (bad_stays s f (ap is_some h)) ∙ closed_bad f (ap is_some h) ∙ last_bad f n h

-- behind the limit bytes are only counted
pub full_answered : (s : List ℕ) (f : Frames) → IsNone f.bad → 4194304 < f.taken → closed_of (fed_of f s) ≡ Err TooBig
unfolding fed_of
full_answered [] f h l = closed_full f h l
full_answered (b ∷ s) f h l =
    ap (λ (g : Frames). closed_of (fed_of g s)) (byte_full f b h (omega arith)) ∙ full_answered s (took_of f) h (omega (arith, counted_full f.taken l))
