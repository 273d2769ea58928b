-- Unfinished bytes: one more, all of them, and what is held after that.
use mathlib.Core.Path.{◌≡◌, refl, sym, ◌∙◌, ap}
use mathlib.Core.List.{List, [], ◌∷◌, ◌++◌, append_assoc, append-nil}
use Prim.Native.Nat.{ℕ, ◌+◌, ◌≤◌, ◌<◌}
use native.Mathlib.Numerals.{add-one}
use native.Mathlib.Omega.{arith}
use lib.ListN.{length, take, set, get_or, length-append, replicate, take-append-drop}
use lib.Seq.{take-suc, take-append_seam, length-take-le}
use Rattle.base.specs.Reading.{over}
use Rattle.base.proofs.Over.{over_snoc, length_over}
use Rattle.unfinished.specs.declared.Held.{Held}
use Rattle.unfinished.specs.Reading.{held_bytes, held_of, put_of}

-- no byte of s behind the first a of xs
pub no_more : (xs s : List ℕ) (a : ℕ) → a ≤ length xs → xs ≡ over (take a xs ++ take 0 s) xs
unfolding over
no_more xs s a h = rw (append-nil (take a xs), length-take-le a xs h) (sym (take-append-drop a xs))

-- one more byte of s behind the first a of xs
pub one_more : (xs s : List ℕ) (a i : ℕ) → i < length s → a + length s ≤ length xs →
    set (over (take a xs ++ take i s) xs) (a + i) (get_or s i 0) ≡ over (take a xs ++ take (i + 1) s) xs
one_more xs s a i h k =
    let e : length (take a xs) ≡ a = length-take-le a xs (omega arith) in
    let f : length (take i s) ≡ i = length-take-le i s (omega arith) in
    let l : length (take a xs ++ take i s) ≡ a + i = length-append (take a xs) (take i s) ∙ rw (e, f) in
    rw (add-one i, take-suc s i 0 h)
    (ap (λ (n : ℕ). set (over (take a xs ++ take i s) xs) n (get_or s i 0)) (sym l)
    ∙ over_snoc (take a xs ++ take i s) xs (get_or s i 0) (omega arith)
    ∙ ap (λ (p : List ℕ). over p xs) (append_assoc (take a xs) (take i s) (get_or s i 0 ∷ [])))

-- what stands in front of a list that was laid over another
pub front : (p xs : List ℕ) → take (length p) (over p xs) ≡ p
unfolding over
front p xs = take-append_seam p _

-- what is held
pub held : (s : List ℕ) → held_bytes (held_of s) ≡ s
unfolding held_of
held s = front s (replicate 32 0)

pub held_len : (s : List ℕ) → (held_of s).len ≡ length s
unfolding held_of
held_len s = refl

pub held_whole : (s : List ℕ) → length s ≤ 32 → length (held_of s).bytes ≡ 32
unfolding held_of
held_whole s h = length_over s (replicate 32 0) h

-- and with more behind it
pub put_held : (h : Held) (s bytes : List ℕ) → bytes ≡ over (held_bytes h ++ s) h.bytes → h.len + length s ≤ 32 → length h.bytes ≡ 32 →
    (take (h.len + length s) bytes ≡ held_bytes h ++ s) × (h.len + length s ≡ h.len + length s) × (length bytes ≡ 32)
put_held h s bytes e k w =
    let l : length (held_bytes h ++ s) ≡ h.len + length s =
    length-append (held_bytes h) s ∙ ap (λ (n : ℕ). n + length s) (length-take-le h.len h.bytes (omega arith)) in
    (rw (e, ← l) (front (held_bytes h ++ s) h.bytes), refl, ap (λ (x : List ℕ). length x) e ∙ length_over (held_bytes h ++ s) h.bytes (omega arith) ∙ w)

pub none_len : (h : Held) → h ≡ held_of [] → h.len ≡ 0
unfolding held_of
none_len h e = ap (λ (x : Held). x.len) e

pub put_none : (s : List ℕ) → put_of (held_of []) s ≡ held_of s
unfolding put_of held_of over
put_none s = let e : 0 + length s ≡ length s = omega arith in λ i. record { len = e i; bytes = over s (replicate 32 0) }
