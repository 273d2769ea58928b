-- Entries scanned in two goes; in a part of a list; with sums brought along.
use mathlib.Core.Path.{◌≡◌, refl, sym, ◌∙◌, ap}
use mathlib.Core.List.{List, ◌++◌}
use mathlib.Core.Logic.{◌⊎◌, inl, inr}
use Prim.Native.Nat.{ℕ, zero, suc, ◌+◌, ◌*◌, ◌≤◌, ◌<◌}
use native.Mathlib.Omega.{arith}
use lib.ListN.{length, drop}
use borrow.Author.Tests.{lt-ltb, le-ltb}
use Rattle.base.proofs.Tests.{below}
use Rattle.base.proofs.Numbers.{le16_drop, le32_drop, le16_before, le32_before}
use Rattle.entries.specs.declared.Entry.{Entry}
use Rattle.entries.specs.declared.Entry.TheVariants.{Empty, Glyph, Broken}
use Rattle.entries.specs.Meaning.{entry_at, rows_at, cols_at}
use Rattle.entries.specs.Reading.{entry_of, larger, scan_of}
use Rattle.std.specs.Prelude.{Result, Ok, Err}

-- an entry in a list and in what is left of it
pub entry_drop : (s : List ℕ) (total d at : ℕ) → entry_of s total (d + at) ≡ entry_of (drop d s) total at
unfolding entry_of rows_at cols_at
entry_drop s total d at =
    let e : (k : ℕ) → d + at + k ≡ d + (at + k) = λ k. omega arith in
    rw (e 4, e 8, e 10, e 12, e 14, le32_drop s d (at + 4), le32_drop s d at, le16_drop s d (at + 8), le16_drop s d (at + 10), le16_drop s d (at + 12), le16_drop s d (at + 14))

-- and with more behind it
pub entry_front : (p s : List ℕ) (total at : ℕ) → at + 18 ≤ length p → entry_of (p ++ s) total at ≡ entry_of p total at
unfolding entry_of rows_at cols_at
entry_front p s total at h =
    rw (le32_before p s (at + 4) (omega arith), le32_before p s at (omega arith), le16_before p s (at + 8) (omega arith), le16_before p s (at + 10) (omega arith), le16_before p s (at + 12) (omega arith), le16_before p s (at + 14) (omega arith))

-- what an entry does to the scan of those behind it
abbrev on_entry : ℕ → ℕ → ℕ → (ℕ → ℕ → Result (ℕ × ℕ) ℕ) → Entry → Result (ℕ × ℕ) ℕ
on_entry i h w f Empty = f h w
on_entry i h w f (Glyph r c) = f (larger h r) (larger w c)
on_entry i h w f Broken = Err i

first : (s : List ℕ) (total start k i h w : ℕ) (e : Entry) → entry_of s total (entry_at start i) ≡ e →
    scan_of s total start (suc k) i h w ≡ on_entry i h w (λ a b. scan_of s total start k (suc i) a b) e
unfolding scan_of
first s total start k i h w Empty e = rw (e, scan_of)
first s total start k i h w (Glyph r c) e = rw (e, scan_of)
first s total start k i h w Broken e = rw (e, scan_of)

-- entries that read alike scan alike; j is added to the number of one that breaks a rule
abbrev pub numbered : ℕ → Result (ℕ × ℕ) ℕ → Result (ℕ × ℕ) ℕ
numbered j (Err i) = Err (j + i)
numbered j (Ok (h, w)) = Ok (h, w)

alike : (s t : List ℕ) (total a b j k i : ℕ) → ((n : ℕ) → n < k → entry_of s total (entry_at a (j + (i + n))) ≡ entry_of t total (entry_at b (i + n))) →
    (h w : ℕ) → scan_of s total a k (j + i) h w ≡ numbered j (scan_of t total b k i h w)
unfolding scan_of
alike s t total a b j zero i f h w = refl
alike s t total a b j (suc k) i f h w =
    let z : i + 0 ≡ i = omega arith in
    let f0 : entry_of s total (entry_at a (j + i)) ≡ entry_of t total (entry_at b i) = rw z at (f 0 (omega arith)) in
    let g : (n : ℕ) → n < k → entry_of s total (entry_at a (j + (suc i + n))) ≡ entry_of t total (entry_at b (suc i + n)) =
    λ n l. let y : i + suc n ≡ suc i + n = omega arith in rw y at (f (suc n) (omega arith)) in
    go (entry_of t total (entry_at b i)) refl f0 (alike s t total a b j k (suc i) g)
  where
    go : (e : Entry) → entry_of t total (entry_at b i) ≡ e → entry_of s total (entry_at a (j + i)) ≡ entry_of t total (entry_at b i) →
        ((h w : ℕ) → scan_of s total a k (j + suc i) h w ≡ numbered j (scan_of t total b k (suc i) h w)) →
        scan_of s total a (suc k) (j + i) h w ≡ numbered j (scan_of t total b (suc k) i h w)
    go Empty e f0 ih =
        let y : j + suc i ≡ suc (j + i) = omega arith in
        first s total a k (j + i) h w Empty (f0 ∙ e) ∙ rw y at (ih h w) ∙ ap (numbered j) (sym (first t total b k i h w Empty e))
    go (Glyph r c) e f0 ih =
        let y : j + suc i ≡ suc (j + i) = omega arith in
        first s total a k (j + i) h w (Glyph r c) (f0 ∙ e) ∙ rw y at (ih (larger h r) (larger w c)) ∙ ap (numbered j) (sym (first t total b k i h w (Glyph r c) e))
    go Broken e f0 ih = first s total a k (j + i) h w Broken (f0 ∙ e) ∙ ap (numbered j) (sym (first t total b k i h w Broken e))

unnumbered : (x : Result (ℕ × ℕ) ℕ) → numbered 0 x ≡ x
unnumbered (Err i) = let e : 0 + i ≡ i = omega arith in ap Err e
unnumbered (Ok (h, w)) = refl

-- a table that begins behind d bytes of a list
pub scan_drop : (s : List ℕ) (total d start k h w : ℕ) → scan_of s total (d + start) k 0 h w ≡ scan_of (drop d s) total start k 0 h w
scan_drop s total d start k h w =
    alike s (drop d s) total (d + start) start 0 k 0
    (λ n l. let e : entry_at (d + start) (0 + (0 + n)) ≡ d + entry_at start (0 + n) = omega arith in rw e (entry_drop s total d (entry_at start (0 + n))))
    h w
    ∙ unnumbered _

-- a table with more behind it
pub scan_front : (p s : List ℕ) (total k h w : ℕ) → k * 18 ≤ length p → scan_of (p ++ s) total 0 k 0 h w ≡ scan_of p total 0 k 0 h w
scan_front p s total k h w l =
    alike (p ++ s) p total 0 0 0 k 0
    (λ n g. let e : entry_at 0 (0 + (0 + n)) ≡ entry_at 0 (0 + n) = omega arith in rw e (entry_front p s total (entry_at 0 (0 + n)) (omega arith)))
    h w
    ∙ unnumbered _

-- in two goes
abbrev pub goes_on : (ℕ → ℕ → Result (ℕ × ℕ) ℕ) → Result (ℕ × ℕ) ℕ → Result (ℕ × ℕ) ℕ
goes_on f (Err i) = Err i
goes_on f (Ok (h, w)) = f h w

two_goes : (s : List ℕ) (total start j k i h w : ℕ) →
    scan_of s total start (j + k) i h w ≡ goes_on (λ a b. scan_of s total start k (j + i) a b) (scan_of s total start j i h w)
unfolding scan_of
two_goes s total start zero k i h w = let e : 0 + k ≡ k = omega arith in let d : 0 + i ≡ i = omega arith in rw (e, d)
two_goes s total start (suc j) k i h w =
    let e : suc j + k ≡ suc (j + k) = omega arith in
    rw e (go (entry_of s total (entry_at start i)) refl (two_goes s total start j k (suc i)))
  where
    go : (e : Entry) → entry_of s total (entry_at start i) ≡ e →
        ((h w : ℕ) → scan_of s total start (j + k) (suc i) h w ≡ goes_on (λ a b. scan_of s total start k (j + suc i) a b) (scan_of s total start j (suc i) h w)) →
        scan_of s total start (suc (j + k)) i h w ≡ goes_on (λ a b. scan_of s total start k (suc j + i) a b) (scan_of s total start (suc j) i h w)
    go Empty e ih =
        let y : j + suc i ≡ suc j + i = omega arith in
        first s total start (j + k) i h w Empty e ∙ rw y at (ih h w) ∙ ap (goes_on _) (sym (first s total start j i h w Empty e))
    go (Glyph r c) e ih =
        let y : j + suc i ≡ suc j + i = omega arith in
        first s total start (j + k) i h w (Glyph r c) e ∙ rw y at (ih (larger h r) (larger w c)) ∙ ap (goes_on _) (sym (first s total start j i h w (Glyph r c) e))
    go Broken e ih = first s total start (j + k) i h w Broken e ∙ ap (goes_on _) (sym (first s total start j i h w Broken e))

pub scan_split : (s : List ℕ) (total j k h w : ℕ) →
    scan_of s total 0 (j + k) 0 h w ≡ goes_on (λ a b. numbered j (scan_of (drop (j * 18) s) total 0 k 0 a b)) (scan_of s total 0 j 0 h w)
scan_split s total j k h w =
    two_goes s total 0 j k 0 h w
    ∙ go (scan_of s total 0 j 0 h w)
  where
    next : (a b : ℕ) → scan_of s total 0 k (j + 0) a b ≡ numbered j (scan_of (drop (j * 18) s) total 0 k 0 a b)
    next a b =
        alike s (drop (j * 18) s) total 0 0 j k 0
        (λ n g. let e : entry_at 0 (j + (0 + n)) ≡ j * 18 + entry_at 0 (0 + n) = omega arith in rw e (entry_drop s total (j * 18) (entry_at 0 (0 + n))))
        a b

    go : (x : Result (ℕ × ℕ) ℕ) → goes_on (λ a b. scan_of s total 0 k (j + 0) a b) x ≡ goes_on (λ a b. numbered j (scan_of (drop (j * 18) s) total 0 k 0 a b)) x
    go (Err i) = refl
    go (Ok (a, b)) = next a b

-- the sums brought along
larger_larger : (a b c : ℕ) → larger (larger a b) c ≡ larger a (larger b c)
larger_larger a b c = go (below a b) (below b c)
  where
    go : (a < b) ⊎ (b ≤ a) → (b < c) ⊎ (c ≤ b) → larger (larger a b) c ≡ larger a (larger b c)
    go (inl h) (inl g) = let k : a < c = omega arith in rw (lt-ltb a b h, lt-ltb b c g, lt-ltb a c k)
    go (inl h) (inr g) = rw (lt-ltb a b h, le-ltb b c g, lt-ltb a b h)
    go (inr h) (inl g) = rw (le-ltb a b h, lt-ltb b c g)
    go (inr h) (inr g) = let k : c ≤ a = omega arith in rw (le-ltb a b h, le-ltb b c g, le-ltb a b h, le-ltb a c k)

larger_none : (a : ℕ) → larger a 0 ≡ a
larger_none a = let k : 0 ≤ a = omega arith in rw (le-ltb a 0 k)

abbrev pub raised : ℕ → ℕ → Result (ℕ × ℕ) ℕ → Result (ℕ × ℕ) ℕ
raised a b (Err i) = Err i
raised a b (Ok (h, w)) = Ok ((larger a h), (larger b w))

scan_along : (s : List ℕ) (total start k i a b h w : ℕ) → scan_of s total start k i (larger a h) (larger b w) ≡ raised a b (scan_of s total start k i h w)
unfolding scan_of
scan_along s total start zero i a b h w = refl
scan_along s total start (suc k) i a b h w = go (entry_of s total (entry_at start i)) refl (scan_along s total start k (suc i) a b)
  where
    go : (e : Entry) → entry_of s total (entry_at start i) ≡ e → ((h w : ℕ) → scan_of s total start k (suc i) (larger a h) (larger b w) ≡ raised a b (scan_of s total start k (suc i) h w)) →
        scan_of s total start (suc k) i (larger a h) (larger b w) ≡ raised a b (scan_of s total start (suc k) i h w)
    go Empty e ih = first s total start k i (larger a h) (larger b w) Empty e ∙ ih h w ∙ ap (raised a b) (sym (first s total start k i h w Empty e))
    go (Glyph r c) e ih =
        first s total start k i (larger a h) (larger b w) (Glyph r c) e
        ∙ rw (larger_larger a h r, larger_larger b w c) (ih (larger h r) (larger w c))
        ∙ ap (raised a b) (sym (first s total start k i h w (Glyph r c) e))
    go Broken e ih = first s total start k i (larger a h) (larger b w) Broken e ∙ ap (raised a b) (sym (first s total start k i h w Broken e))

pub scan_raised : (s : List ℕ) (total start k i a b : ℕ) → scan_of s total start k i a b ≡ raised a b (scan_of s total start k i 0 0)
scan_raised s total start k i a b = rw (larger_none a, larger_none b) at (scan_along s total start k i a b 0 0)
