-- The code's cases, and entries fed in two goes.
use mathlib.Core.Path.{◌≡◌, refl, sym, ◌∙◌, ap}
use mathlib.Core.List.{List, ◌++◌, append_assoc}
use mathlib.Core.Logic.{◌⊎◌, inl, inr}
use Prim.Native.Nat.{ℕ, ◌+◌, ◌-◌, ◌*◌, ◌/◌, ◌≤◌, ◌<◌}
use native.Mathlib.Omega.{arith}
use lib.Dec.{eqb}
use lib.ListN.{length, take, drop, length-append, take-append-drop, length-drop}
use lib.Seq.{drop_at, drop-drop, length-take-le}
use borrow.Author.Tests.{eq-eqb, ne_eqb}
use Rattle.base.specs.Meaning.{pick}
use Rattle.base.proofs.Tests.{same}
use Rattle.entries.specs.Meaning.{entry_at}
use Rattle.entries.specs.Reading.{larger, scan_of}
use Rattle.unfinished.specs.declared.Held.{Held}
use Rattle.unfinished.specs.Reading.{held_bytes, held_of}
use Rattle.unfinished.proofs.Holding.{held, held_len}
use Rattle.entryfeed.specs.declared.Sums.{Sums}
use Rattle.entryfeed.specs.declared.Fed.{Fed}
use Rattle.entryfeed.specs.Reading.{after_scan, sums_of, whole_in, behind_whole, entries_read, entries_fed}
use Rattle.entryfeed.proofs.Scanning.{scan_drop, scan_front, scan_split, scan_raised, raised, numbered, goes_on}
use Rattle.std.specs.Prelude.{Result, Ok, Err}

-- entries of s from a start on
module _ (size at : ℕ) (x : Sums) (s : List ℕ) (start k : ℕ) where
  pub already : (x.broken ≡ 0 → ⊥) → x ≡ sums_of size (at + start) x (drop start s) k
  unfolding sums_of
  already h = rw (ne_eqb x.broken 0 h)

  here : scan_of (drop start s) size 0 k 0 x.height x.width ≡ raised x.height x.width (scan_of s size start k 0 0 0)
  here =
      let e : start + 0 ≡ start = omega arith in
      scan_raised (drop start s) size 0 k 0 x.height x.width ∙ ap (raised x.height x.width) (sym (rw e at (scan_drop s size start 0 k 0 0)))

  pub found : x.broken ≡ 0 → (r : Result (ℕ × ℕ) ℕ) (i : ℕ) → r ≡ Err i → r ≡ scan_of s size start k 0 0 0 →
      record { broken = at + start + i * 18; height = 0; width = 0 } ≡ sums_of size (at + start) x (drop start s) k
  unfolding sums_of
  found h r i e q = rw (eq-eqb x.broken 0 h, here, ← q, e)

  pub taller : x.broken ≡ 0 → (r : Result (ℕ × ℕ) ℕ) (h w a b : ℕ) → r ≡ Ok (h, w) → r ≡ scan_of s size start k 0 0 0 → a ≡ larger x.height h → b ≡ larger x.width w →
      record { broken = 0; height = a; width = b } ≡ sums_of size (at + start) x (drop start s) k
  unfolding sums_of
  taller z r h w a b e q f g = rw (eq-eqb x.broken 0 z, here, ← q, e, f, g)

-- all whole entries of a part from a start on
pub from_start : (size at : ℕ) (x : Sums) (s : List ℕ) (start : ℕ) (h : Held) (y : Sums) → start ≤ length s → h ≡ held_of (drop (start + (length s - start) / 18 * 18) s) →
    y ≡ sums_of size (at + start) x (drop start s) ((length s - start) / 18) → record { held = h; sums = y } ≡ entries_read size (at + start) x (drop start s)
unfolding entries_read
from_start size at x s start h y g e q =
    let l : length (drop start s) ≡ length s - start = length-drop start s in
    let d : drop (start + (length s - start) / 18 * 18) s ≡ behind_whole (drop start s) = sym (rw l (drop-drop ((length s - start) / 18 * 18) start s)) in
    let z : sums_of size (at + start) x (drop start s) ((length s - start) / 18) ≡ sums_of size (at + start) x (drop start s) (whole_in (drop start s)) = rw l in
    λ i. record { held = (e ∙ ap held_of d) i; sums = (q ∙ z) i }

-- no entry more
none_more : (size at : ℕ) (x : Sums) (q : List ℕ) → sums_of size at x q 0 ≡ x
unfolding sums_of scan_of
none_more size at x q = go (same x.broken 0)
  where
    go : (x.broken ≡ 0) ⊎ (x.broken ≡ 0 → ⊥) → pick (eqb x.broken 0) (record { broken = 0; height = x.height; width = x.width }) x ≡ x
    go (inl e) = rw (eq-eqb x.broken 0 e) (λ i. record { broken = sym e i; height = x.height; width = x.width })
    go (inr e) = rw (ne_eqb x.broken 0 e)

left : (size at : ℕ) (x : Sums) → x.broken ≡ 0 → (q : List ℕ) (n : ℕ) → sums_of size at x q n ≡ after_scan at (scan_of q size 0 n 0 x.height x.width)
unfolding sums_of
left size at x e q n = rw (eq-eqb x.broken 0 e)

broke : (size at : ℕ) (x : Sums) → (x.broken ≡ 0 → ⊥) → (q : List ℕ) (n : ℕ) → sums_of size at x q n ≡ x
unfolding sums_of
broke size at x e q n = rw (ne_eqb x.broken 0 e)

pub sums_front : (size at : ℕ) (x : Sums) (p s : List ℕ) (k : ℕ) → k * 18 ≤ length p → sums_of size at x (p ++ s) k ≡ sums_of size at x p k
unfolding sums_of
sums_front size at x p s k h = rw (scan_front p s size k x.height x.width h)

-- in two goes: p is j entries
module _ (size at : ℕ) (there : 1 ≤ at) where
  told : (x : Sums) (p s : List ℕ) (j k : ℕ) → length p ≡ j * 18 → x.broken ≡ 0 → (r : Result (ℕ × ℕ) ℕ) → scan_of p size 0 j 0 x.height x.width ≡ r →
      after_scan at (goes_on (λ a b. numbered j (scan_of s size 0 k 0 a b)) r) ≡ sums_of size (at + j * 18) (after_scan at r) s k
  unfolding sums_of
  told x p s j k l z (Err i) e = let n : entry_at at i ≡ 0 → ⊥ = λ m. omega arith in rw (ne_eqb (entry_at at i) 0 n)
  told x p s j k l z (Ok (a, b)) e = go (scan_of s size 0 k 0 a b)
    where
      go : (r : Result (ℕ × ℕ) ℕ) → after_scan at (numbered j r) ≡ after_scan (at + j * 18) r
      go (Err i) = let m : entry_at at (j + i) ≡ entry_at (at + j * 18) i = omega arith in λ n. record { broken = m n; height = 0; width = 0 }
      go (Ok (h, w)) = refl

  sums_split : (x : Sums) (p s : List ℕ) (j k : ℕ) → length p ≡ j * 18 → sums_of size at x (p ++ s) (j + k) ≡ sums_of size (at + j * 18) (sums_of size at x p j) s k
  sums_split x p s j k l = go (same x.broken 0)
    where
      go : (x.broken ≡ 0) ⊎ (x.broken ≡ 0 → ⊥) → sums_of size at x (p ++ s) (j + k) ≡ sums_of size (at + j * 18) (sums_of size at x p j) s k
      go (inl e) =
          let d : drop (j * 18) (p ++ s) ≡ s = drop_at p s (j * 18) l in
          let f : scan_of (p ++ s) size 0 (j + k) 0 x.height x.width ≡ goes_on (λ a b. numbered j (scan_of s size 0 k 0 a b)) (scan_of p size 0 j 0 x.height x.width) =
          rw (d, scan_front p s size j x.height x.width (omega arith)) at (scan_split (p ++ s) size j k x.height x.width) in
          left size at x e (p ++ s) (j + k)
          ∙ ap (after_scan at) f
          ∙ told x p s j k l e (scan_of p size 0 j 0 x.height x.width) refl
          ∙ ap (λ (y : Sums). sums_of size (at + j * 18) y s k) (sym (left size at x e p j))
      go (inr e) = broke size at x e (p ++ s) (j + k) ∙ sym (ap (λ (y : Sums). sums_of size (at + j * 18) y s k) (broke size at x e p j) ∙ broke size (at + j * 18) x e s k)

  pub read_split : (x : Sums) (p s : List ℕ) (j : ℕ) → length p ≡ j * 18 → entries_read size at x (p ++ s) ≡ entries_read size (at + j * 18) (sums_of size at x p j) s
  unfolding entries_read
  read_split x p s j l =
      let a = length-append p s in
      let n : whole_in (p ++ s) ≡ j + whole_in s = omega arith in
      let d : drop (whole_in (p ++ s) * 18) (p ++ s) ≡ drop (whole_in s * 18) s =
      let m : whole_in (p ++ s) * 18 ≡ length p + whole_in s * 18 = omega arith in
      ap (λ (i : ℕ). drop i (p ++ s)) m ∙ sym (drop-drop (whole_in s * 18) (length p) (p ++ s)) ∙ ap (λ (y : List ℕ). drop (whole_in s * 18) y) (drop_at p s (length p) refl) in
      let e : sums_of size at x (p ++ s) (whole_in (p ++ s)) ≡ sums_of size (at + j * 18) (sums_of size at x p j) s (whole_in s) =
      ap (sums_of size at x (p ++ s)) n ∙ sums_split x p s j (whole_in s) l in
      λ i. record { held = held_of (d i); sums = e i }

-- the code's cases of a part s behind k bytes held
module _ (size at : ℕ) (h : Held) (x : Sums) (s : List ℕ) (l : length (held_bytes h) ≡ h.len) where
  pub none_held : h.len ≡ 0 → (r : Fed) → r ≡ entries_read size (at + 0) x (drop 0 s) → r ≡ entries_fed size at h x s
  none_held e r q = let m : at + 0 ≡ at - 0 = omega arith in q ∙ rw (e, m)

  pub still : h.len + length s < 18 → (g : Held) → g ≡ held_of (held_bytes h ++ s) → record { held = g; sums = x } ≡ entries_fed size at h x s
  unfolding entries_read
  still e g q =
      let a = length-append (held_bytes h) s in
      let n : whole_in (held_bytes h ++ s) ≡ 0 = omega arith in
      let d : held_of (held_bytes h ++ s) ≡ held_of (behind_whole (held_bytes h ++ s)) = rw n in
      let y : x ≡ sums_of size (at - h.len) x (held_bytes h ++ s) (whole_in (held_bytes h ++ s)) = sym (ap (sums_of size (at - h.len) x (held_bytes h ++ s)) n ∙ none_more size (at - h.len) x (held_bytes h ++ s)) in
      λ i. record { held = (q ∙ d) i; sums = y i }

  pub joined : h.len < at → h.len < 18 → 18 ≤ h.len + length s → (p : List ℕ) → p ≡ held_bytes h ++ take (18 - h.len) s → (y : Sums) → y ≡ sums_of size (at - h.len + 0) x (drop 0 p) 1 →
      (r : Fed) → r ≡ entries_read size (at + (18 - h.len)) y (drop (18 - h.len) s) → r ≡ entries_fed size at h x s
  joined i k m p e y f r q =
      let a = length-append (held_bytes h) (take (18 - h.len) s) in
      let b = length-take-le (18 - h.len) s (omega arith) in
      let c : length p ≡ 1 * 18 = ap (λ (z : List ℕ). length z) e ∙ omega arith in
      let d : held_bytes h ++ s ≡ p ++ drop (18 - h.len) s =
      ap (λ (z : List ℕ). held_bytes h ++ z) (sym (take-append-drop (18 - h.len) s)) ∙ sym (append_assoc (held_bytes h) (take (18 - h.len) s) (drop (18 - h.len) s)) ∙ ap (λ (z : List ℕ). z ++ drop (18 - h.len) s) (sym e) in
      let g : at - h.len + 1 * 18 ≡ at + (18 - h.len) = omega arith in
      let w : at - h.len + 0 ≡ at - h.len = omega arith in
      let u : y ≡ sums_of size (at - h.len) x p 1 = rw w at f in
      q
      ∙ ap (λ (z : Sums). entries_read size (at + (18 - h.len)) z (drop (18 - h.len) s)) u
      ∙ sym (rw (d, ← g) (read_split size (at - h.len) (omega arith) x p (drop (18 - h.len) s) 1 c))

-- a part in two goes: what the first left is held
pub fed_twice : (size at : ℕ) (x : Sums) (q s : List ℕ) → 1 ≤ at →
    entries_read size at x (q ++ s) ≡ entries_read size (at + whole_in q * 18) (entries_read size at x q).sums (behind_whole q ++ s)
unfolding entries_read
fed_twice size at x q s there =
    let n : whole_in q * 18 ≤ length q = omega arith in
    let l : length (take (whole_in q * 18) q) ≡ whole_in q * 18 = length-take-le (whole_in q * 18) q n in
    let d : q ++ s ≡ take (whole_in q * 18) q ++ (behind_whole q ++ s) =
    ap (λ (z : List ℕ). z ++ s) (sym (take-append-drop (whole_in q * 18) q)) ∙ append_assoc (take (whole_in q * 18) q) (behind_whole q) s in
    let e : sums_of size at x (take (whole_in q * 18) q) (whole_in q) ≡ sums_of size at x q (whole_in q) =
    sym (ap (λ (z : List ℕ). sums_of size at x z (whole_in q)) (sym (take-append-drop (whole_in q * 18) q)) ∙ sums_front size at x (take (whole_in q * 18) q) (behind_whole q) (whole_in q) (omega arith)) in
    ap (entries_read size at x) d
    ∙ read_split size at there x (take (whole_in q * 18) q) (behind_whole q ++ s) (whole_in q) l
    ∙ ap (λ (y : Sums). entries_read size (at + whole_in q * 18) y (behind_whole q ++ s)) e

read_held : (size at : ℕ) (x : Sums) (q : List ℕ) → (entries_read size at x q).held ≡ held_of (behind_whole q)
unfolding entries_read
read_held size at x q = refl

pub rest_short : (q : List ℕ) → length (behind_whole q) < 18
rest_short q = let l = length-drop (whole_in q * 18) q in omega arith

-- a part in two goes, with the bytes held
pub twice : (size at : ℕ) (h : Held) (x : Sums) (p s : List ℕ) → length (held_bytes h) ≡ h.len → h.len < at →
    entries_fed size at h x (p ++ s) ≡ entries_fed size (at + length p) (entries_fed size at h x p).held (entries_fed size at h x p).sums s
twice size at h x p s l b =
    let q : List ℕ = held_bytes h ++ p in
    let a = length-append (held_bytes h) p in
    let m = length-drop (whole_in q * 18) q in
    let e : (entries_fed size at h x p).held ≡ held_of (behind_whole q) = read_held size (at - h.len) x q in
    let g : (entries_fed size at h x p).held.len ≡ length (behind_whole q) = ap (λ (y : Held). y.len) e ∙ held_len (behind_whole q) in
    let d : held_bytes (entries_fed size at h x p).held ≡ behind_whole q = ap held_bytes e ∙ held (behind_whole q) in
    let o : at - h.len + whole_in q * 18 ≡ at + length p - (entries_fed size at h x p).held.len = omega arith in
    ap (entries_read size (at - h.len) x) (sym (append_assoc (held_bytes h) p s))
    ∙ fed_twice size (at - h.len) x q s (omega arith)
    ∙ rw (o, d)

-- few bytes are held then
pub fed_short : (size at : ℕ) (h : Held) (x : Sums) (s : List ℕ) → (entries_fed size at h x s).held.len < 18
fed_short size at h x s =
    let q : List ℕ = held_bytes h ++ s in
    let e : (entries_fed size at h x s).held.len ≡ length (behind_whole q) = ap (λ (y : Held). y.len) (read_held size (at - h.len) x q) ∙ held_len (behind_whole q) in
    let k = rest_short q in
    omega arith

pub fed_kept : (size at : ℕ) (h : Held) (x : Sums) (s : List ℕ) → length (held_bytes (entries_fed size at h x s).held) ≡ (entries_fed size at h x s).held.len
fed_kept size at h x s =
    let q : List ℕ = held_bytes h ++ s in
    let e = read_held size (at - h.len) x q in
    ap (λ (y : Held). length (held_bytes y)) e ∙ ap (λ (y : List ℕ). length y) (held (behind_whole q)) ∙ sym (ap (λ (y : Held). y.len) e ∙ held_len (behind_whole q))
