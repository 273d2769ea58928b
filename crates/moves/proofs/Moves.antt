-- A list laid over another from an index on: its parts, an element before or behind, a store below or above, a second list; one turn of each
-- loop that moves or clears; and a piece put in or taken out by moves.
use mathlib.Core.Path.{◌≡◌, refl, sym, ◌∙◌, ap}
use mathlib.Core.List.{List, [], ◌∷◌, ◌++◌, append_assoc, append-nil}
use Prim.Native.Nat.{ℕ, zero, suc, ◌+◌, ◌-◌, ◌≤◌, ◌<◌}
use native.Mathlib.Numerals.{add-one}
use native.Mathlib.Omega.{arith}
use borrow.Rule.Slice.PartMut.{mid_of, put_mid}
use lib.ListN.{length, take, drop, set, get_or, replicate, length-append, length-replicate, replicate-append-replicate, take-append-drop, get_or-append}
use lib.Seq.{take-suc, drop-cons, set_at, take_at, drop_at, drop-drop, take-take, get_or-take, get_or-drop, length-take-le, take-append-le, drop-append-le, slice, slice-cons, slice_empty, length-slice}
use Rattle.base.specs.Reading.{over}
use Rattle.base.proofs.Over.{length_over, behind}
use Rattle.moves.specs.Reading.{laid, inserted, removed}

-- its parts
pub laid_parts : (a : ℕ) (m s : List ℕ) → a ≤ length s → laid a m s ≡ take a s ++ (m ++ drop (a + length m) s)
unfolding laid over
laid_parts a m s h = rw (length-append, length-take-le a s h, append_assoc)

pub length_laid : (a : ℕ) (m s : List ℕ) → a + length m ≤ length s → length (laid a m s) ≡ length s
unfolding laid
length_laid a m s h = length_over (take a s ++ m) s (omega (arith, length-append (take a s) m, length-take-le a s (omega arith)))

-- nothing laid over
pub laid_none : (a : ℕ) (s : List ℕ) → a ≤ length s → s ≡ laid a [] s
laid_none a s h =
    let e : a + 0 ≡ a = omega arith in
    sym (laid_parts a [] s h ∙ ap (λ (n : ℕ). take a s ++ drop n s) e ∙ take-append-drop a s)

-- before it all is as it was
pub laid_before : (a : ℕ) (m s : List ℕ) (i : ℕ) → a ≤ length s → i < a → get_or (laid a m s) i 0 ≡ get_or s i 0
laid_before a m s i h k =
    let t = length-take-le a s h in
    ap (λ (w : List ℕ). get_or w i 0) (laid_parts a m s h) ∙ get_or-append (take a s) (m ++ drop (a + length m) s) 0 i (omega arith) ∙ get_or-take a s i 0 k

pub laid_take : (a : ℕ) (m s : List ℕ) (i : ℕ) → a ≤ length s → i ≤ a → take i (laid a m s) ≡ take i s
laid_take a m s i h k =
    let t = length-take-le a s h in
    ap (take i) (laid_parts a m s h) ∙ take-append-le i (take a s) (m ++ drop (a + length m) s) (omega arith) ∙ take-take i a s k

-- behind it too
pub laid_drop : (a : ℕ) (m s : List ℕ) (n : ℕ) → a ≤ length s → n ≡ a + length m → drop n (laid a m s) ≡ drop n s
laid_drop a m s n h e =
    let t = length-take-le a s h in
    let q : take a s ++ (m ++ drop (a + length m) s) ≡ take a s ++ m ++ drop (a + length m) s = sym (append_assoc (take a s) m (drop (a + length m) s)) in
    let z : length (take a s ++ m) ≡ n = omega (arith, length-append (take a s) m) in
    ap (drop n) (laid_parts a m s h ∙ q) ∙ drop_at (take a s ++ m) (drop (a + length m) s) n z ∙ ap (λ (k : ℕ). drop k s) (sym e)

pub laid_behind : (a : ℕ) (m s : List ℕ) (i : ℕ) → a ≤ length s → a + length m ≤ i → get_or (laid a m s) i 0 ≡ get_or s i 0
laid_behind a m s i h k =
    let e : (a + length m) + (i - (a + length m)) ≡ i = omega arith in
    let d = laid_drop a m s (a + length m) h refl in
    ap (λ (n : ℕ). get_or (laid a m s) n 0) (sym e) ∙ sym (get_or-drop (a + length m) (laid a m s) (i - (a + length m)) 0)
    ∙ ap (λ (w : List ℕ). get_or w (i - (a + length m)) 0) d ∙ get_or-drop (a + length m) s (i - (a + length m)) 0 ∙ ap (λ (n : ℕ). get_or s n 0) e

-- a store just below it
pub laid_down : (a : ℕ) (m s : List ℕ) (v : ℕ) → a < length s → set (laid (suc a) m s) a v ≡ laid a (v ∷ m) s
laid_down a m s v h =
    let t = length-take-le a s (omega arith) in
    let r = drop (suc a + length m) s in
    let p : laid (suc a) m s ≡ take a s ++ get_or s a 0 ∷ (m ++ r) = laid_parts (suc a) m s (omega arith) ∙ ap (λ (w : List ℕ). w ++ (m ++ r)) (take-suc s a 0 h) ∙ append_assoc (take a s) (get_or s a 0 ∷ []) (m ++ r) in
    let e : suc a + length m ≡ a + suc (length m) = omega arith in
    ap (λ (w : List ℕ). set w a v) p ∙ set_at (take a s) (get_or s a 0) (m ++ r) v a t ∙ ap (λ (n : ℕ). take a s ++ v ∷ (m ++ drop n s)) e ∙ sym (laid_parts a (v ∷ m) s (omega arith))

-- a store just above it
pub laid_up : (a : ℕ) (m s : List ℕ) (i v : ℕ) → i ≡ a + length m → i < length s → set (laid a m s) i v ≡ laid a (m ++ (v ∷ [])) s
laid_up a m s i v e h =
    let t = length-take-le a s (omega arith) in
    let z : length (take a s ++ m) ≡ i = omega (arith, length-append (take a s) m) in
    let l : a + length (m ++ (v ∷ [])) ≡ suc i = omega (arith, length-append m (v ∷ [])) in
    let p : laid a m s ≡ take a s ++ m ++ (get_or s i 0 ∷ drop (suc i) s) = laid_parts a m s (omega arith) ∙ sym (append_assoc (take a s) m (drop (a + length m) s)) ∙ ap (λ (n : ℕ). take a s ++ m ++ drop n s) (sym e) ∙ ap (λ (w : List ℕ). take a s ++ m ++ w) (drop-cons s i 0 h) in
    let q : laid a (m ++ (v ∷ [])) s ≡ take a s ++ m ++ (v ∷ drop (suc i) s) = laid_parts a (m ++ (v ∷ [])) s (omega arith) ∙ ap (λ (n : ℕ). take a s ++ (m ++ (v ∷ []) ++ drop n s)) l ∙ ap (λ (w : List ℕ). take a s ++ w) (append_assoc m (v ∷ []) (drop (suc i) s)) ∙ sym (append_assoc (take a s) m (v ∷ drop (suc i) s)) in
    ap (λ (w : List ℕ). set w i v) p ∙ set_at (take a s ++ m) (get_or s i 0) (drop (suc i) s) v i z ∙ sym q

-- a second list behind the first
pub laid_next : (a b : ℕ) (m z s : List ℕ) → a ≤ length s → b ≡ a + length m → b ≤ length s → laid b z (laid a m s) ≡ laid a (m ++ z) s
laid_next a b m z s h e k =
    let t = length-take-le a s h in
    let zl : length (take a s ++ m) ≡ b = omega (arith, length-append (take a s) m) in
    let l = length_laid a m s (omega arith) in
    let w = laid a m s in
    let p : w ≡ take a s ++ m ++ drop (a + length m) s = laid_parts a m s h ∙ sym (append_assoc (take a s) m (drop (a + length m) s)) in
    let f : take b w ≡ take a s ++ m = ap (take b) p ∙ take_at (take a s ++ m) (drop (a + length m) s) b zl in
    let d : drop b w ≡ drop b s = laid_drop a m s b h e in
    let g : drop (b + length z) w ≡ drop (b + length z) s = sym (drop-drop (length z) b w) ∙ ap (drop (length z)) d ∙ drop-drop (length z) b s in
    let n : b + length z ≡ a + length (m ++ z) = omega (arith, length-append m z) in
    laid_parts b z w (omega arith) ∙ ap (λ (x : List ℕ). x ++ (z ++ drop (b + length z) w)) f ∙ append_assoc (take a s) m (z ++ drop (b + length z) w)
    ∙ ap (λ (x : List ℕ). take a s ++ (m ++ (z ++ x))) g ∙ ap (λ (j : ℕ). take a s ++ (m ++ (z ++ drop j s))) n
    ∙ ap (λ (x : List ℕ). take a s ++ x) (sym (append_assoc m z (drop (a + length (m ++ z)) s))) ∙ sym (laid_parts a (m ++ z) s h)

-- a list laid before what was laid already
pub laid_under : (a b : ℕ) (p m s : List ℕ) → b ≡ a + length p → b ≤ length s → laid a p (laid b m s) ≡ laid a (p ++ m) s
laid_under a b p m s e h =
    let w = laid b m s in
    let l : a ≤ length w = omega (arith, ap length (laid_parts b m s h), length-append (take b s) (m ++ drop (b + length m) s), length-take-le b s h) in
    let f : take a w ≡ take a s = laid_take b m s a h (omega arith) in
    let d : drop b w ≡ m ++ drop (b + length m) s = ap (drop b) (laid_parts b m s h) ∙ drop_at (take b s) (m ++ drop (b + length m) s) b (length-take-le b s h) in
    let n : b + length m ≡ a + length (p ++ m) = omega (arith, length-append p m) in
    laid_parts a p w l ∙ ap (λ (x : List ℕ). x ++ (p ++ drop (a + length p) w)) f ∙ ap (λ (j : ℕ). take a s ++ (p ++ drop j w)) (sym e)
    ∙ ap (λ (x : List ℕ). take a s ++ (p ++ x)) d ∙ ap (λ (j : ℕ). take a s ++ (p ++ (m ++ drop j s))) n
    ∙ ap (λ (x : List ℕ). take a s ++ x) (sym (append_assoc p m (drop (a + length (p ++ m)) s))) ∙ sym (laid_parts a (p ++ m) s (omega arith))

-- a writer that was lent the part from a on
pub part_laid : (a : ℕ) (q w ys : List ℕ) → a ≤ length w → ys ≡ over q (mid_of a (length w - a) w) → put_mid a (length w - a) w ys ≡ laid a q w
unfolding laid
part_laid a q w ys h e =
    let t = length-take-le a w h in
    behind (take a w) q w w ys a t (front a w h) e
  where
    front : (a : ℕ) (w : List ℕ) → a ≤ length w → w ≡ over (take a w) w
    front a w h = laid_none a w h ∙ ap (λ (x : List ℕ). over x w) (append-nil (take a w))

-- one turn of a move up, from the end down
pub up_turn : (s w : List ℕ) (i end by : ℕ) → 1 ≤ i → i ≤ end → end + by ≤ length s → w ≡ laid (i + by) (slice i end s) s → set w (i - 1 + by) (get_or w (i - 1) 0) ≡ laid (i - 1 + by) (slice (i - 1) end s) s
up_turn s w zero end by g h k e = absurd (omega arith)
up_turn s w (suc j) end by g h k e = by_suc s w j end by h k e
  where
    by_suc : (s w : List ℕ) (j end by : ℕ) → suc j ≤ end → end + by ≤ length s → w ≡ laid (suc j + by) (slice (suc j) end s) s → set w (suc j - 1 + by) (get_or w (suc j - 1) 0) ≡ laid (suc j - 1 + by) (slice (suc j - 1) end s) s
    by_suc s w j end by h k e =
        let m = slice (suc j) end s in
        let q : suc j + by ≡ suc (j + by) = omega arith in
        let z : suc j - 1 ≡ j = omega arith in
        let u : w ≡ laid (suc (j + by)) m s = e ∙ ap (λ (n : ℕ). laid n m s) q in
        let v : get_or w j 0 ≡ get_or s j 0 = ap (λ (x : List ℕ). get_or x j 0) u ∙ laid_before (suc (j + by)) m s j (omega arith) (omega arith) in
        let r : set w (j + by) (get_or w j 0) ≡ laid (j + by) (slice j end s) s = ap (λ (x : List ℕ). set x (j + by) (get_or w j 0)) u ∙ laid_down (j + by) m s (get_or w j 0) (omega arith)
        ∙ ap (λ (x : ℕ). laid (j + by) (x ∷ m) s) v ∙ ap (λ (x : List ℕ). laid (j + by) x s) (sym (slice-cons j end s 0 (omega arith) (omega arith))) in
        rw z r

-- one turn of a move down, from the front up
pub down_turn : (s w : List ℕ) (from i by : ℕ) → by ≤ from → from ≤ i → i < length s → w ≡ laid (from - by) (slice from i s) s → set w (i - by) (get_or w i 0) ≡ laid (from - by) (slice from (i + 1) s) s
down_turn s w from i by g h k e =
    let m = slice from i s in
    let l : length m ≡ i - from = length-slice from i s (omega arith) in
    let v : get_or w i 0 ≡ get_or s i 0 = ap (λ (x : List ℕ). get_or x i 0) e ∙ laid_behind (from - by) m s i (omega arith) (omega arith) in
    let c : slice from (i + 1) s ≡ m ++ (get_or s i 0 ∷ []) = rw (add-one i, take-suc s i 0 k) (drop-append-le from (take i s) (get_or s i 0 ∷ []) (omega (arith, length-take-le i s (omega arith)))) in
    ap (λ (x : List ℕ). set x (i - by) (get_or w i 0)) e ∙ laid_up (from - by) m s (i - by) (get_or w i 0) (omega arith) (omega arith)
    ∙ ap (λ (x : ℕ). laid (from - by) (m ++ (x ∷ [])) s) v ∙ ap (λ (x : List ℕ). laid (from - by) x s) (sym c)

-- one turn of a clearing
pub clear_turn : (s w : List ℕ) (from i : ℕ) → from ≤ i → i < length s → w ≡ laid from (replicate (i - from) 0) s → set w i 0 ≡ laid from (replicate (i + 1 - from) 0) s
clear_turn s w from i h k e =
    let m : List ℕ = replicate (i - from) 0 in
    let l : length m ≡ i - from = length-replicate (i - from) 0 in
    let n : i - from + 1 ≡ i + 1 - from = omega arith in
    ap (λ (x : List ℕ). set x i 0) e ∙ laid_up from m s i 0 (omega arith) k ∙ ap (λ (x : List ℕ). laid from x s) (replicate-append-replicate (i - from) 1 0 ∙ ap (λ (j : ℕ). replicate j 0) n)

-- the starts of these loops
pub up_start : (s : List ℕ) (end by : ℕ) → end + by ≤ length s → s ≡ laid (end + by) (slice end end s) s
up_start s end by h = laid_none (end + by) s h ∙ ap (λ (x : List ℕ). laid (end + by) x s) (sym (slice_empty end s))

pub down_start : (s : List ℕ) (from by : ℕ) → from ≤ length s → s ≡ laid (from - by) (slice from from s) s
down_start s from by h = laid_none (from - by) s (omega arith) ∙ ap (λ (x : List ℕ). laid (from - by) x s) (sym (slice_empty from s))

pub clear_start : (s : List ℕ) (from : ℕ) → from ≤ length s → s ≡ laid from (replicate (from - from) 0) s
clear_start s from h =
    let z : 0 ≡ from - from = omega arith in
    laid_none from s h ∙ ap (λ (n : ℕ). laid from (replicate n 0) s) z

-- moved down, and cleared behind
pub down_cleared : (s w v : List ℕ) (from end by : ℕ) → by ≤ from → from ≤ end → end ≤ length s → w ≡ laid (from - by) (slice from end s) s → v ≡ laid (end - by) (replicate (end - (end - by)) 0) w → v ≡ laid (from - by) (slice from end s ++ replicate by 0) s
down_cleared s w v from end by g h k e f =
    let m = slice from end s in
    let l : length m ≡ end - from = length-slice from end s k in
    let z : end - (end - by) ≡ by = omega arith in
    f ∙ ap (λ (n : ℕ). laid (end - by) (replicate n 0) w) z ∙ ap (λ (x : List ℕ). laid (end - by) (replicate by 0) x) e
    ∙ laid_next (from - by) (end - by) m (replicate by 0) s (omega arith) (omega arith) (omega arith)

-- what was moved up, with a piece laid into the gap
pub put_in : (s w v p : List ℕ) (n at : ℕ) → at ≤ n → n + length p ≤ length s → w ≡ laid (at + length p) (slice at n s) s → v ≡ laid at p w → v ≡ over (inserted at p (take n s)) s
unfolding laid inserted
put_in s w v p n at h k e f =
    let r : laid at p (laid (at + length p) (slice at n s) s) ≡ laid at (p ++ slice at n s) s = laid_under at (at + length p) p (slice at n s) s refl (omega arith) in
    let t : take at (take n s) ≡ take at s = take-take at n s h in
    f ∙ ap (laid at p) e ∙ r ∙ ap (λ (x : List ℕ). over x s) (sym (append_assoc (take at s) p (slice at n s)) ∙ ap (λ (x : List ℕ). x ++ p ++ slice at n s) (sym t))

-- moved down over what is taken out
pub taken_out : (s v : List ℕ) (n at k : ℕ) → at + k ≤ n → v ≡ laid (at + k - k) (slice (at + k) n s ++ replicate k 0) s → v ≡ over (removed at k (take n s) ++ replicate k 0) s
unfolding laid removed
taken_out s v n at k h e =
    let z : at + k - k ≡ at = omega arith in
    let t : take at (take n s) ≡ take at s = take-take at n s (omega arith) in
    e ∙ ap (λ (a : ℕ). laid a (slice (at + k) n s ++ replicate k 0) s) z
    ∙ ap (λ (x : List ℕ). over x s) (sym (append_assoc (take at s) (slice (at + k) n s) (replicate k 0)) ∙ ap (λ (x : List ℕ). x ++ slice (at + k) n s ++ replicate k 0) (sym t))
