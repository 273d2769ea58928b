-- The line that is held: its characters, or that there are more than a frame has.
use mathlib.Core.Path.{◌≡◌, refl, sym, ◌∙◌, ap, subst}
use mathlib.Core.Logic.{◌⊎◌, inl, inr}
use mathlib.Core.List.{List, [], ◌∷◌, ◌++◌}
use Prim.Native.Nat.{ℕ, ◌+◌, ◌<◌, ◌≤◌}
use native.Mathlib.Numerals.{add-one}
use native.Mathlib.Omega.{arith}
use lib.ListN.{length, take, set, length-append, length-set}
use lib.Seq.{take-suc-set}
use borrow.Author.Tests.{lt-ltb, le-ltb}
use Rattle.base.specs.Reading.{when}
use Rattle.base.proofs.Tests.{below}
use Rattle.std.specs.Prelude.{None}
use Rattle.hexline.specs.Reading.{frame_of}
use Rattle.hexline.proofs.Steps.{too_long}
use Rattle.frames.specs.declared.Frames.{Frames}
use Rattle.frames.specs.Reading.{held_frame, with_of}

-- p is held
abbrev pub Holds : List ℕ → ℕ → List ℕ → Type 0
Holds line len p = (length line ≡ 128) × (((len ≤ 128) × (length p ≡ len) × (take len line ≡ p)) ⊎ ((len ≡ 129) × (128 < length p)))

pub nothing_held : (line : List ℕ) → length line ≡ 128 → Holds line 0 []
nothing_held line h = (h, inl (omega arith, refl, refl))

-- what is read of it
pub held_long : (line : List ℕ) (len : ℕ) → 128 < len → held_frame line len ≡ None
unfolding held_frame when
held_long line len h = rw (lt-ltb 128 len h)

pub held_short : (line : List ℕ) (len : ℕ) → len ≤ 128 → held_frame line len ≡ frame_of (take len line)
unfolding held_frame when
held_short line len h = rw (le-ltb 128 len h)

-- it is read as the line
pub held_read : (line : List ℕ) (len : ℕ) (p : List ℕ) → Holds line len p → held_frame line len ≡ frame_of p
held_read line len p (l, inl (h, n, e)) = held_short line len h ∙ ap frame_of e
held_read line len p (l, inr (h, n)) = held_long line len (omega arith) ∙ sym (too_long p n)

-- one more character
pub with_short : (f : Frames) (b : ℕ) → f.len < 128 → with_of f b ≡ record { loader = f.loader; line = set f.line f.len b; len = f.len + 1; ended = f.ended; bad = f.bad; taken = f.taken }
unfolding with_of when
with_short f b h = rw (lt-ltb f.len 128 h)

pub with_long : (f : Frames) (b : ℕ) → 128 ≤ f.len → with_of f b ≡ record { loader = f.loader; line = f.line; len = 129; ended = f.ended; bad = f.bad; taken = f.taken }
unfolding with_of when
with_long f b h = rw (le-ltb f.len 128 h)

-- the state behind it
pub record Longer (f g : Frames) (p : List ℕ) : Type 0 where
  pub loader_same : g.loader ≡ f.loader
  pub ended_same : g.ended ≡ f.ended
  pub bad_same : g.bad ≡ f.bad
  pub taken_same : g.taken ≡ f.taken
  pub held : Holds g.line g.len p

longer_short : (f : Frames) (b : ℕ) (p : List ℕ) → f.len < 128 → Holds f.line f.len p → Longer f (record { loader = f.loader; line = set f.line f.len b; len = f.len + 1; ended = f.ended; bad = f.bad; taken = f.taken }) (p ++ (b ∷ []))
longer_short f b p h (l, inl (k, n, e)) =
    let i : f.len < length f.line = omega (arith, l) in
    record {
      loader_same = refl;
      ended_same = refl;
      bad_same = refl;
      taken_same = refl;
      held = (
        length-set f.line f.len b ∙ l,
        inl (omega arith, length-append p (b ∷ []) ∙ omega (arith, n), ap (λ (j : ℕ). take j (set f.line f.len b)) (add-one f.len) ∙ take-suc-set f.line f.len b i ∙ ap (λ (z : List ℕ). z ++ (b ∷ [])) e),
      );
    }
longer_short f b p h (l, inr (k, n)) = absurd (omega arith)

longer_long : (f : Frames) (b : ℕ) (p : List ℕ) → 128 ≤ f.len → Holds f.line f.len p → Longer f (record { loader = f.loader; line = f.line; len = 129; ended = f.ended; bad = f.bad; taken = f.taken }) (p ++ (b ∷ []))
longer_long f b p h (l, x) =
    record {
      loader_same = refl;
      ended_same = refl;
      bad_same = refl;
      taken_same = refl;
      held = (l, inr (refl, more x));
    }
  where
    more : ((f.len ≤ 128) × (length p ≡ f.len) × (take f.len f.line ≡ p)) ⊎ ((f.len ≡ 129) × (128 < length p)) → 128 < length (p ++ (b ∷ []))
    more (inl (k, n, e)) = omega (arith, length-append p (b ∷ []), n)
    more (inr (k, n)) = omega (arith, length-append p (b ∷ []))

pub longer : (f : Frames) (b : ℕ) (p : List ℕ) → Holds f.line f.len p → Longer f (with_of f b) (p ++ (b ∷ []))
longer f b p h = go (below f.len 128)
  where
    go : (f.len < 128) ⊎ (128 ≤ f.len) → Longer f (with_of f b) (p ++ (b ∷ []))
    go (inl l) = subst (λ (g : Frames). Longer f g (p ++ (b ∷ []))) (sym (with_short f b l)) (longer_short f b p l h)
    go (inr l) = subst (λ (g : Frames). Longer f g (p ++ (b ∷ []))) (sym (with_long f b l)) (longer_long f b p l h)
