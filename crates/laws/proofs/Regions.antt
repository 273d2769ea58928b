-- A stretch of the file that is fed by pieces: in two goes as in one. Once for the dispatch table and the Unicode table.
use mathlib.Core.Path.{◌≡◌, sym, ◌∙◌, ap, subst}
use mathlib.Core.Bool.{Bool, true, false}
use mathlib.Core.Logic.{◌⊎◌, inl, inr, ⊎_elim}
use mathlib.Core.List.{List, [], ◌++◌, append-nil}
use Prim.Native.Nat.{ℕ, ◌+◌, ◌-◌, ◌≤◌, ◌<◌}
use native.Mathlib.Omega.{arith}
use lib.Dec.{ltb, eqb}
use lib.ListN.{length, length-append}
use borrow.Author.Tests.{eq-eqb, ne_eqb, lt-ltb, le-ltb}
use Rattle.base.specs.Reading.{when}
use Rattle.base.proofs.Tests.{below, same}
use Rattle.unfinished.specs.declared.Held.{Held}
use Rattle.unfinished.specs.Reading.{held_bytes, held_of}
use Rattle.unfinished.proofs.Holding.{held, held_len}
use Rattle.loader.specs.Reading.{part_of}
use Rattle.loader.proofs.Parting.{part_append, part_reaches, part_starts, nothing}

-- as many bytes are held as are said
abbrev pub Kept : Held → Type 0
Kept h = length (held_bytes h) ≡ h.len

pub kept_of : (s : List ℕ) → Kept (held_of s)
kept_of s = ap (λ (x : List ℕ). length x) (held s) ∙ sym (held_len s)

-- a stretch of the file, and what it makes of a part that begins at a place: the bytes held, and the rest of what is kept
pub record Stretch (F X : Type 0) : Type 0 where
  pub held_in : F → Held
  pub rest_in : F → X
  pub both : Held → X → F
  pub held_both : (h : Held) (x : X) → held_in (both h x) ≡ h
  pub rest_both : (h : Held) (x : X) → rest_in (both h x) ≡ x
  pub again : (y : F) → both (held_in y) (rest_in y) ≡ y
  pub fed : ℕ → Held → X → List ℕ → F
  pub twice : (at : ℕ) (h : Held) (x : X) (p s : List ℕ) → Kept h → h.len < at → fed at h x (p ++ s) ≡ fed (at + length p) (held_in (fed at h x p)) (rest_in (fed at h x p)) s
  pub start : ℕ
  pub end : ℕ
  pub there : 1 ≤ start

module _ {F X : Type 0} (A : Stretch F X) where
  abbrev pub in_part : ℕ → Held → X → List ℕ → F
  in_part total h x q = when (eqb (length q) 0) (A.both h x) (when (ltb A.start total) (A.fed total h x q) (A.fed A.start (held_of []) x q))

  abbrev pub region : ℕ → Held → X → List ℕ → F
  region total h x p = in_part total h x (part_of total A.start A.end p)

  none : (total : ℕ) (h : Held) (x : X) (q : List ℕ) → length q ≡ 0 → in_part total h x q ≡ A.both h x
  unfolding when
  none total h x q z = rw (eq-eqb (length q) 0 z)

  later : (total : ℕ) (h : Held) (x : X) (q : List ℕ) → (length q ≡ 0 → ⊥) → A.start < total → in_part total h x q ≡ A.fed total h x q
  unfolding when
  later total h x q z k = rw (ne_eqb (length q) 0 z, lt-ltb A.start total k)

  first : (total : ℕ) (h : Held) (x : X) (q : List ℕ) → (length q ≡ 0 → ⊥) → total ≤ A.start → in_part total h x q ≡ A.fed A.start (held_of []) x q
  unfolding when
  first total h x q z k = rw (ne_eqb (length q) 0 z, le-ltb A.start total k)

  -- nothing of it in the piece
  pub untouched : (total : ℕ) (h : Held) (x : X) (p : List ℕ) → length (part_of total A.start A.end p) ≡ 0 → region total h x p ≡ A.both h x
  untouched total h x p z = none total h x (part_of total A.start A.end p) z

  module _ (total : ℕ) (h : Held) (x : X) (p s : List ℕ) (kept : Kept h) (few : A.start < total → h.len < total) where
    abbrev P : List ℕ
    P = part_of total A.start A.end p

    abbrev S : List ℕ
    S = part_of (total + length p) A.start A.end s

    whole : part_of total A.start A.end (p ++ s) ≡ P ++ S
    whole = part_append total A.start A.end p s

    lengths : length (P ++ S) ≡ length P + length S
    lengths = length-append P S

    from_none : length P ≡ 0 → (length S ≡ 0) ⊎ (length S ≡ 0 → ⊥) → in_part total h x (P ++ S) ≡ in_part (total + length p) h x S
    from_none z (inl y) = none total h x (P ++ S) (omega (arith, lengths)) ∙ sym (none (total + length p) h x S y)
    from_none z (inr y) = go (part_starts total A.start A.end p s z y)
      where
        e : P ++ S ≡ S
        e = ap (λ (q : List ℕ). q ++ S) (nothing P z)

        go : (total + length p ≤ A.start) ⊎ (length p ≡ 0) → in_part total h x (P ++ S) ≡ in_part (total + length p) h x S
        go (inl k) = ap (in_part total h x) e ∙ first total h x S y (omega arith) ∙ sym (first (total + length p) h x S y k)
        go (inr k) = let t : total + length p ≡ total = omega arith in ap (in_part total h x) e ∙ ap (λ (n : ℕ). in_part n h x S) (sym t)

    from_some : (length P ≡ 0 → ⊥) → (length S ≡ 0) ⊎ (length S ≡ 0 → ⊥) →
        in_part total h x (P ++ S) ≡ in_part (total + length p) (A.held_in (in_part total h x P)) (A.rest_in (in_part total h x P)) S
    from_some z (inl y) =
        let e : P ++ S ≡ P = ap (λ (q : List ℕ). P ++ q) (nothing S y) ∙ append-nil P in
        ap (in_part total h x) e ∙ sym (none (total + length p) _ _ S y ∙ A.again (in_part total h x P))
    from_some z (inr y) = go (below A.start total)
      where
        some : length (P ++ S) ≡ 0 → ⊥
        some i = z (omega (arith, lengths))

        reach : length P ≡ length p - (A.start - total)
        reach = part_reaches total A.start A.end p s y z

        go : (A.start < total) ⊎ (total ≤ A.start) →
            in_part total h x (P ++ S) ≡ in_part (total + length p) (A.held_in (in_part total h x P)) (A.rest_in (in_part total h x P)) S
        go (inl k) =
            let a : total + length P ≡ total + length p = omega (arith, reach) in
            later total h x (P ++ S) some k
            ∙ A.twice total h x P S kept (few k)
            ∙ ap (λ (n : ℕ). A.fed n (A.held_in (A.fed total h x P)) (A.rest_in (A.fed total h x P)) S) a
            ∙ ap (λ (f : F). A.fed (total + length p) (A.held_in f) (A.rest_in f) S) (sym (later total h x P z k))
            ∙ sym (later (total + length p) _ _ S y (omega arith))
        go (inr k) =
            let a : A.start + length P ≡ total + length p = omega (arith, reach) in
            first total h x (P ++ S) some k
            ∙ A.twice A.start (held_of []) x P S (kept_of []) (subst (λ (n : ℕ). n < A.start) (sym (held_len [])) A.there)
            ∙ ap (λ (n : ℕ). A.fed n (A.held_in (A.fed A.start (held_of []) x P)) (A.rest_in (A.fed A.start (held_of []) x P)) S) a
            ∙ ap (λ (f : F). A.fed (total + length p) (A.held_in f) (A.rest_in f) S) (sym (first total h x P z k))
            ∙ sym (later (total + length p) _ _ S y (omega (arith, reach)))

    pub region_twice : region total h x (p ++ s) ≡ region (total + length p) (A.held_in (region total h x p)) (A.rest_in (region total h x p)) s
    region_twice = ap (in_part total h x) whole ∙ ⊎_elim by_none by_some (same (length P) 0)
      where
        by_none : length P ≡ 0 → in_part total h x (P ++ S) ≡ in_part (total + length p) (A.held_in (in_part total h x P)) (A.rest_in (in_part total h x P)) S
        by_none z =
            let e : in_part total h x P ≡ A.both h x = none total h x P z in
            from_none z (same (length S) 0)
            ∙ sym (ap (λ (f : F). in_part (total + length p) (A.held_in f) (A.rest_in f) S) e
            ∙ ap (λ (g : Held). in_part (total + length p) g (A.rest_in (A.both h x)) S) (A.held_both h x) ∙ ap (λ (y : X). in_part (total + length p) h y S) (A.rest_both h x))

        by_some : (length P ≡ 0 → ⊥) → in_part total h x (P ++ S) ≡ in_part (total + length p) (A.held_in (in_part total h x P)) (A.rest_in (in_part total h x P)) S
        by_some z = from_some z (same (length S) 0)

  -- what is held then
  pub region_held : (P : Held → Type 0) (total : ℕ) (h : Held) (x : X) (p : List ℕ) → P h → P (held_of []) → ((at : ℕ) (g : Held) (q : List ℕ) → P g → P (A.held_in (A.fed at g x q))) → P (A.held_in (region total h x p))
  unfolding when
  region_held P total h x p k n f = go (eqb (length (part_of total A.start A.end p)) 0) (ltb A.start total)
    where
      q : List ℕ
      q = part_of total A.start A.end p

      go : (a b : Bool) → P (A.held_in (when a (A.both h x) (when b (A.fed total h x q) (A.fed A.start (held_of []) x q))))
      go true b = subst P (sym (A.held_both h x)) k
      go false true = f total h q k
      go false false = f A.start (held_of []) q n
