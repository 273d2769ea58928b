-- The lines of an input that are read, character by character: they are the lines that the text is made of, and each text has them.
use mathlib.Core.Path.{◌≡◌, refl, sym, ◌∙◌, ap}
use mathlib.Core.Logic.{◌⊎◌, inl, inr}
use mathlib.Core.Bool.{Bool, true, false}
use mathlib.Core.List.{List, [], ◌∷◌, ◌++◌, append_assoc, append-nil}
use Prim.Native.Nat.{ℕ, zero, suc, ◌+◌, ◌-◌, ◌≤◌, ◌<◌}
use native.Mathlib.Omega.{arith}
use lib.Dec.{eqb}
use lib.ListN.{length, take, drop, get_or, length-append, take-append-drop}
use lib.Seq.{drop-cons, length-take-le}
use borrow.Author.Tests.{eq-eqb, ne_eqb}
use Rattle.base.specs.Meaning.{pick}
use Rattle.base.proofs.Tests.{below, same}
use Rattle.frames.specs.Meaning.{limit, Plain, AllPlain, unlines, IsLines, Reads, all_lines, ended_lines}

-- the lines that are read of what is left of an input, where p is held and k bytes are left to the limit
abbrev pub lines_in : List ℕ → ℕ → List ℕ → List (List ℕ)
lines_in p k [] = p ∷ []
lines_in p zero (b ∷ s) = []
lines_in p (suc k) (b ∷ s) = pick (eqb b 10) (p ∷ lines_in [] k s) (lines_in (p ++ (b ∷ [])) k s)

-- whether there are more than k bytes
abbrev pub more_than : ℕ → List ℕ → Bool
more_than k [] = false
more_than zero (b ∷ s) = true
more_than (suc k) (b ∷ s) = more_than k s

pub more : (k : ℕ) (s : List ℕ) → k < length s → more_than k s ≡ true
more k [] h = absurd (omega arith)
more zero (b ∷ s) h = refl
more (suc k) (b ∷ s) h = more k s (omega arith)

pub no_more : (k : ℕ) (s : List ℕ) → length s ≤ k → more_than k s ≡ false
no_more k [] h = refl
no_more zero (b ∷ s) h = absurd (omega arith)
no_more (suc k) (b ∷ s) h = no_more k s (omega arith)

module _ (p s : List ℕ) (k b : ℕ) where
  pub newline : b ≡ 10 → lines_in p (suc k) (b ∷ s) ≡ p ∷ lines_in [] k s
  newline e = rw (eq-eqb b 10 e)

  pub char : (b ≡ 10 → ⊥) → lines_in p (suc k) (b ∷ s) ≡ lines_in (p ++ (b ∷ [])) k s
  char e = rw (ne_eqb b 10 e)

-- a rest
rest_alone : (r p : List ℕ) (k : ℕ) → Plain r → length r ≤ k → lines_in p k r ≡ (p ++ r) ∷ []
rest_alone [] p k y h = ap (λ (z : List ℕ). z ∷ []) (sym (append-nil p))
rest_alone (b ∷ r) p zero y h = absurd (omega arith)
rest_alone (b ∷ r) p (suc k) y h =
    char p r k b y.0 ∙ rest_alone r (p ++ (b ∷ [])) k y.1 (omega arith) ∙ ap (λ (z : List ℕ). z ∷ []) (append_assoc p (b ∷ []) r)

-- a rest before the limit is reached
cut_rest : (r p : List ℕ) (c : ℕ) (v : List ℕ) (k : ℕ) → Plain r → k ≡ length r → lines_in p k (r ++ (c ∷ v)) ≡ []
cut_rest [] p c v zero y e = refl
cut_rest [] p c v (suc k) y e = absurd (omega arith)
cut_rest (b ∷ r) p c v zero y e = absurd (omega arith)
cut_rest (b ∷ r) p c v (suc k) y e = char p (r ++ (c ∷ v)) k b y.0 ∙ cut_rest r (p ++ (b ∷ [])) c v k y.1 (omega arith)

-- a line
line_first : (l p t : List ℕ) (j k : ℕ) → Plain l → j ≡ length l + 1 + k → lines_in p j (l ++ (10 ∷ t)) ≡ (p ++ l) ∷ lines_in [] k t
line_first [] p t zero k y e = absurd (omega arith)
line_first [] p t (suc j) k y e =
    let q : j ≡ k = omega arith in
    newline p t j 10 refl ∙ ap (λ (i : ℕ). p ∷ lines_in [] i t) q ∙ ap (λ (z : List ℕ). z ∷ lines_in [] k t) (sym (append-nil p))
line_first (b ∷ l) p t zero k y e = absurd (omega arith)
line_first (b ∷ l) p t (suc j) k y e =
    char p (l ++ (10 ∷ t)) j b y.0 ∙ line_first l (p ++ (b ∷ [])) t j k y.1 (omega arith) ∙ ap (λ (z : List ℕ). z ∷ lines_in [] k t) (append_assoc p (b ∷ []) l)

-- a line before others
unlines_first : (l : List ℕ) (ls : List (List ℕ)) (r : List ℕ) → unlines (l ∷ ls) ++ r ≡ l ++ (10 ∷ (unlines ls ++ r))
unlines_first l ls r = append_assoc l (10 ∷ unlines ls) r

first_length : (l t : List ℕ) → length (l ++ (10 ∷ t)) ≡ length l + 1 + length t
first_length l t = length-append l (10 ∷ t) ∙ omega arith

whole : (ls : List (List ℕ)) (rest : List ℕ) (k : ℕ) → AllPlain ls → Plain rest → length (unlines ls ++ rest) ≤ k → lines_in [] k (unlines ls ++ rest) ≡ ls ++ (rest ∷ [])
whole [] rest k y z h = rest_alone rest [] k z h
whole (l ∷ ls) rest k y z h =
    let e = unlines_first l ls rest in
    let n = ap length e ∙ first_length l (unlines ls ++ rest) in
    ap (λ (t : List ℕ). lines_in [] k t) e
    ∙ line_first l [] (unlines ls ++ rest) k (k - (length l + 1)) y.0 (omega (arith, n))
    ∙ ap (λ (t : List (List ℕ)). l ∷ t) (whole ls rest (k - (length l + 1)) y.1 z (omega (arith, n)))

cut : (ls : List (List ℕ)) (rest : List ℕ) (c : ℕ) (v : List ℕ) (k : ℕ) → AllPlain ls → Plain rest → k ≡ length (unlines ls ++ rest) → lines_in [] k (unlines ls ++ (rest ++ (c ∷ v))) ≡ ls
cut [] rest c v k y z h = cut_rest rest [] c v k z h
cut (l ∷ ls) rest c v k y z h =
    let n = ap length (unlines_first l ls rest) ∙ first_length l (unlines ls ++ rest) in
    ap (λ (t : List ℕ). lines_in [] k t) (unlines_first l ls (rest ++ (c ∷ v)))
    ∙ line_first l [] (unlines ls ++ (rest ++ (c ∷ v))) k (k - (length l + 1)) y.0 (omega (arith, n))
    ∙ ap (λ (t : List (List ℕ)). l ∷ t) (cut ls rest c v (k - (length l + 1)) y.1 z (omega (arith, n)))

-- the lines of a text of at most k bytes, and of a longer one
whole_lines : (k : ℕ) (s : List ℕ) (ls : List (List ℕ)) (rest : List ℕ) → length s ≤ k → IsLines s ls rest → lines_in [] k s ≡ ls ++ (rest ∷ [])
whole_lines k s ls rest h is = ap (λ (t : List ℕ). lines_in [] k t) is.0 ∙ whole ls rest k is.1 is.2 (omega (arith, ap length is.0))

cut_lines : (k : ℕ) (s : List ℕ) (ls : List (List ℕ)) (rest : List ℕ) → k < length s → IsLines (take k s) ls rest → lines_in [] k s ≡ ls
cut_lines k s ls rest h is =
    let d : drop k s ≡ get_or s k 0 ∷ drop (suc k) s = drop-cons s k 0 h in
    let e : s ≡ (unlines ls ++ rest) ++ (get_or s k 0 ∷ drop (suc k) s) =
    sym (take-append-drop k s) ∙ ap (λ (z : List ℕ). z ++ drop k s) is.0 ∙ ap (λ (z : List ℕ). (unlines ls ++ rest) ++ z) d in
    let l : length (take k s) ≡ k = length-take-le k s (omega arith) in
    ap (λ (t : List ℕ). lines_in [] k t) (e ∙ append_assoc (unlines ls) rest (get_or s k 0 ∷ drop (suc k) s))
    ∙ cut ls rest (get_or s k 0) (drop (suc k) s) k is.1 is.2 (omega (arith, l, ap length is.0))

pub reads_lines : (s : List ℕ) (ls : List (List ℕ)) → Reads s ls → lines_in [] limit s ≡ ls
reads_lines s ls (all_lines ended rest h is e) = whole_lines limit s ended rest h is ∙ sym e
reads_lines s ls (ended_lines rest h is) = cut_lines limit s ls rest h is

-- each text is lines and a rest
record Split (s : List ℕ) : Type 0 where
  ended : List (List ℕ)
  rest : List ℕ
  is : IsLines s ended rest

split : (s : List ℕ) → Split s
split [] = record { ended = []; rest = []; is = (refl, tt, tt) }
split (b ∷ s) = go (same b 10) (split s)
  where
    longer : (b ≡ 10 → ⊥) → (ls : List (List ℕ)) (r : List ℕ) → IsLines s ls r → Split (b ∷ s)
    longer n [] r i = record { ended = []; rest = b ∷ r; is = (ap (λ (z : List ℕ). b ∷ z) i.0, tt, (n, i.2)) }
    longer n (l ∷ ls) r i = record { ended = (b ∷ l) ∷ ls; rest = r; is = (ap (λ (z : List ℕ). b ∷ z) i.0, ((n, i.1.0), i.1.1), i.2) }

    go : (b ≡ 10) ⊎ ((b ≡ 10) → ⊥) → Split s → Split (b ∷ s)
    go (inl e) f =
        let q : s ≡ unlines f.ended ++ f.rest = f.is.0 in
        record { ended = [] ∷ f.ended; rest = f.rest; is = (rw e (ap (λ (z : List ℕ). 10 ∷ z) q), (tt, f.is.1), f.is.2) }
    go (inr n) f = longer n f.ended f.rest f.is

-- each input has its lines
pub record Read (s : List ℕ) : Type 0 where
  pub ls : List (List ℕ)
  pub reads : Reads s ls

pub read : (s : List ℕ) → Read s
read s = go (below limit (length s))
  where
    go : (limit < length s) ⊎ (length s ≤ limit) → Read s
    go (inl h) = let f = split (take limit s) in record { ls = f.ended; reads = ended_lines f.rest h f.is }
    go (inr h) = let f = split s in record { ls = f.ended ++ (f.rest ∷ []); reads = all_lines f.ended f.rest h f.is refl }

-- bytes behind one more than the limit are not read
pub behind_limit : (k : ℕ) (p s t : List ℕ) → k < length s → (lines_in p k (s ++ t) ≡ lines_in p k s) × (more_than k (s ++ t) ≡ more_than k s)
behind_limit k p [] t h = absurd (omega arith)
behind_limit zero p (b ∷ s) t h = (refl, refl)
behind_limit (suc k) p (b ∷ s) t h = go (same b 10) (behind_limit k [] s t (omega arith)) (behind_limit k (p ++ (b ∷ [])) s t (omega arith))
  where
    go : (b ≡ 10) ⊎ ((b ≡ 10) → ⊥) → (lines_in [] k (s ++ t) ≡ lines_in [] k s) × (more_than k (s ++ t) ≡ more_than k s) → (lines_in (p ++ (b ∷ [])) k (s ++ t) ≡ lines_in (p ++ (b ∷ [])) k s) × (more_than k (s ++ t) ≡ more_than k s) → (lines_in p (suc k) (b ∷ (s ++ t)) ≡ lines_in p (suc k) (b ∷ s)) × (more_than k (s ++ t) ≡ more_than k s)
    go (inl e) x y = (newline p (s ++ t) k b e ∙ ap (λ (z : List (List ℕ)). p ∷ z) x.0 ∙ sym (newline p s k b e), x.1)
    go (inr e) x y = (char p (s ++ t) k b e ∙ y.0 ∙ sym (char p s k b e), x.1)
