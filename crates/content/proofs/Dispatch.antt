-- A written dispatch table is read again: every entry has a glyph of the height and width, at its own address.
use mathlib.Core.Path.{◌≡◌, refl, sym, ◌∙◌, ap}
use mathlib.Core.List.{List, [], ◌∷◌, ◌++◌, append_assoc}
use Prim.Native.Nat.{ℕ, zero, suc, ◌+◌, ◌-◌, ◌*◌, ◌≤◌, ◌<◌}
use native.Mathlib.Omega.{arith}
use lib.ListN.{length, get_or, drop}
use lib.Seq.{drop-append-add}
use borrow.Author.Tests.{lt-ltb, le-ltb}
use Rattle.base.specs.Meaning.{le16, le32}
use Rattle.base.specs.Reading.{bytes16, bytes32}
use Rattle.base.proofs.Numbers.{le16_bytes, le32_bytes, le16_drop, le32_drop}
use Rattle.header.specs.Meaning.{glyph_bytes}
use Rattle.entries.specs.declared.Entry.TheVariants.{Glyph}
use Rattle.entries.specs.Meaning.{entry_at, address_at, size_at, rows_at, cols_at}
use Rattle.entries.specs.Reading.{entry_of, larger, scan_of}
use Rattle.entries.proofs.Cases as cases
use Rattle.layout.specs.Reading.{metrics_bytes, entry_bytes, entries_at}
use Rattle.layout.proofs.Parts.{entry_length}
use Rattle.content.proofs.Evens.{EvenFields, even_rows, even_cols}
use Rattle.std.specs.Prelude.{Ok}

-- the i-th entry of those written
nth_entry : (c h w : ℕ) (xs : List ℕ) (i : ℕ) (r : List ℕ) → i < length xs → (x : List ℕ) × (drop (i * 18) (entries_at c h w xs ++ r) ≡ entry_bytes (get_or xs i 0) c h w ++ x)
unfolding entries_at
nth_entry c h w [] i r l = absurd (omega arith)
nth_entry c h w (a ∷ xs) zero r l = (entries_at c h w xs ++ r, append_assoc (entry_bytes a c h w) (entries_at c h w xs) r)
nth_entry c h w (a ∷ xs) (suc i) r l =
    let t = nth_entry c h w xs i r (omega arith) in
    let p = entry_bytes a c h w in
    let q = entries_at c h w xs ++ r in
    let z : suc i * 18 ≡ length p + i * 18 = omega (arith, entry_length a c h w) in
    (t.0, ap (drop (suc i * 18)) (append_assoc p (entries_at c h w xs) r) ∙ ap (λ (m : ℕ). drop m (p ++ q)) z ∙ drop-append-add p q (i * 18) ∙ t.1)

-- an entry in front
module _ (a c h w : ℕ) (x s : List ℕ) (e : s ≡ entry_bytes a c h w ++ x) where
  numbers_read : a < 4294967296 → c < 4294967296 → (le32 s 0 ≡ a) × (le32 s 4 ≡ c)
  unfolding le32 entry_bytes bytes32
  numbers_read la lc = rw e (le32_bytes a la, le32_bytes c lc)

  metrics_read : h < 65536 → w < 65536 → (le16 s 8 ≡ h) × (le16 s 10 ≡ 0) × (le16 s 12 ≡ 0) × (le16 s 14 ≡ w) × (le16 s 16 ≡ w)
  unfolding le16 entry_bytes metrics_bytes bytes32 bytes16
  metrics_read lh lw = rw e (le16_bytes h lh, refl, refl, le16_bytes w lw, le16_bytes w lw)

-- the i-th entry of a file with entries behind its front
module _ (p xs r o : List ℕ) (start c h w : ℕ) (e : o ≡ p ++ (entries_at c h w xs ++ r)) (lp : length p ≡ start)
    (bc : c < 4294967296) (bh : h ≤ 255) (bw : w ≤ 255) (i : ℕ) (l : i < length xs) (ba : get_or xs i 0 < 4294967296) where
  at_entry : (x : List ℕ) × (drop (entry_at start i) o ≡ entry_bytes (get_or xs i 0) c h w ++ x)
  at_entry =
      let q = nth_entry c h w xs i r l in
      let z : entry_at start i ≡ length p + i * 18 = omega (arith, lp) in
      (q.0, ap (drop (entry_at start i)) e ∙ ap (λ (k : ℕ). drop k (p ++ (entries_at c h w xs ++ r))) z ∙ drop-append-add p (entries_at c h w xs ++ r) (i * 18) ∙ q.1)

  -- its address and size
  pub entry_numbers : (address_at o (entry_at start i) ≡ get_or xs i 0) × (size_at o (entry_at start i) ≡ c)
  entry_numbers =
      let q = at_entry in
      let at = entry_at start i in
      let g = numbers_read (get_or xs i 0) c h w q.0 (drop at o) q.1 ba bc in
      let v : at ≡ at + 0 = omega arith in
      (ap (le32 o) v ∙ le32_drop o at 0 ∙ g.0, le32_drop o at 4 ∙ g.1)

  -- its metrics
  pub entry_fields : 1 ≤ c → EvenFields o h w (entry_at start i)
  entry_fields ac =
      let q = at_entry in
      let a = entry_numbers.1 in
      let at = entry_at start i in
      let g = metrics_read (get_or xs i 0) c h w q.0 (drop at o) q.1 (omega arith) (omega arith) in
      ((λ b. omega (arith, a)), le16_drop o at 8 ∙ g.0, le16_drop o at 10 ∙ g.1, le16_drop o at 12 ∙ g.2, le16_drop o at 14 ∙ g.3, le16_drop o at 16 ∙ g.4)

  -- what it says, among so many bytes of bitmaps
  pub entry_says : (total : ℕ) → c ≡ glyph_bytes h w → 1 ≤ h → 1 ≤ w → 1 ≤ c → get_or xs i 0 + c ≤ total → entry_of o total (entry_at start i) ≡ Glyph h w
  entry_says total ec ah aw ac lt =
      let at = entry_at start i in
      let f = entry_fields ac in
      let a = entry_numbers in
      let er = even_rows o h w at (omega arith) f in
      let ek = even_cols o h w at (omega arith) f in
      let ez : size_at o at ≡ glyph_bytes (rows_at o at) (cols_at o at) = a.1 ∙ ec ∙ λ j. glyph_bytes (sym er j) (sym ek j) in
      sym (cases.glyph o total at ((((f.0, omega (arith, er), omega (arith, er)), omega (arith, ek), omega (arith, ek)), ez), omega (arith, a.0, a.1, lt)))
      ∙ λ j. Glyph (er j) (ek j)

-- the scan of entries that all say the same
larger_same : (a : ℕ) → larger a a ≡ a
larger_same a = rw (le-ltb a a (omega arith))

larger_zero : (a : ℕ) → 1 ≤ a → larger 0 a ≡ a
larger_zero a h = rw (lt-ltb 0 a h)

module _ (s : List ℕ) (total start h w : ℕ) where
  scan_same : (k i : ℕ) → ((j : ℕ) → i ≤ j → j < i + k → entry_of s total (entry_at start j) ≡ Glyph h w) → scan_of s total start k i h w ≡ Ok (h, w)
  scan_same zero i f = cases.scanned s total start 0 i h w refl
  scan_same (suc k) i f =
      let v : suc k - 1 ≡ k = omega arith in
      cases.past_glyph s total start i (entry_at start i) h w refl (suc k) h w (omega arith) (f i (omega arith) (omega arith))
      ∙ (λ j. scan_of s total start (v j) (i + 1) (larger_same h j) (larger_same w j))
      ∙ scan_same k (i + 1) (λ j a l. f j (omega arith) (omega arith))

  -- entries that all have a glyph of one height and width give that height and width
  pub scan_even : (k : ℕ) → 1 ≤ k → 1 ≤ h → 1 ≤ w → ((j : ℕ) → j < k → entry_of s total (entry_at start j) ≡ Glyph h w) → scan_of s total start k 0 0 0 ≡ Ok (h, w)
  scan_even k ak ah aw f =
      cases.past_glyph s total start 0 (entry_at start 0) 0 0 refl k h w ak (f 0 ak)
      ∙ (λ j. scan_of s total start (k - 1) 1 (larger_zero h ah j) (larger_zero w aw j))
      ∙ scan_same (k - 1) 1 (λ j a l. f j (omega arith))
