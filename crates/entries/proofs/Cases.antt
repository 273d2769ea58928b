-- The cases of `entry_of`, and one step of `scan_of`, with k entries left.
use mathlib.Core.Path.{◌≡◌, sym, ◌∙◌, ap}
use mathlib.Core.List.{List}
use Prim.Native.Nat.{ℕ, zero, suc, ◌+◌, ◌-◌, ◌≤◌, ◌<◌}
use native.Mathlib.Omega.{arith}
use native.Mathlib.Numerals.{add-one}
use Rattle.base.proofs.Chain.{chain}
use Rattle.entries.specs.Meaning.{entry_at, address_at, size_at, rows_at, cols_at}
use Rattle.entries.specs.Reading.{entry_of, larger, scan_of}
use Rattle.header.specs.Meaning.{glyph_bytes}
use Rattle.entries.specs.declared.Entry.TheVariants.{Empty, Glyph, Broken}
use Rattle.std.specs.Prelude.{Ok, Err}

module _ (s : List ℕ) (total at : ℕ) where
  -- what holds of an entry with a glyph up to its rows, its columns, its size
  abbrev pub Some : Type 0
  Some = size_at s at ≡ 0 → ⊥

  abbrev pub RowsWithin : Type 0
  RowsWithin = Some × (1 ≤ rows_at s at) × (rows_at s at ≤ 255)

  abbrev pub ColsWithin : Type 0
  ColsWithin = RowsWithin × (1 ≤ cols_at s at) × (cols_at s at ≤ 255)

  abbrev pub Sized : Type 0
  Sized = ColsWithin × (size_at s at ≡ glyph_bytes (rows_at s at) (cols_at s at))

  -- the same, of numbers that were read
  pub bytes_read : (r c : ℕ) → r ≡ rows_at s at → c ≡ cols_at s at → glyph_bytes r c ≡ glyph_bytes (rows_at s at) (cols_at s at)
  bytes_read r c e f = rw (e, f)

  pub glyph_read : (r c : ℕ) → r ≡ rows_at s at → c ≡ cols_at s at → Glyph r c ≡ Glyph (rows_at s at) (cols_at s at)
  glyph_read r c e f = rw (e, f)

  pub empty : size_at s at ≡ 0 → Empty ≡ entry_of s total at
  unfolding entry_of
  empty h = search chain depth 30

  pub rows_low : Some × (rows_at s at < 1) → Broken ≡ entry_of s total at
  unfolding entry_of
  rows_low h = search chain depth 30

  pub rows_high : Some × (1 ≤ rows_at s at) × (255 < rows_at s at) → Broken ≡ entry_of s total at
  unfolding entry_of
  rows_high h = search chain depth 30

  pub cols_low : RowsWithin × (cols_at s at < 1) → Broken ≡ entry_of s total at
  unfolding entry_of
  cols_low h = search chain depth 30

  pub cols_high : RowsWithin × (1 ≤ cols_at s at) × (255 < cols_at s at) → Broken ≡ entry_of s total at
  unfolding entry_of
  cols_high h = search chain depth 30

  pub size_wrong : ColsWithin × (size_at s at ≡ glyph_bytes (rows_at s at) (cols_at s at) → ⊥) → Broken ≡ entry_of s total at
  unfolding entry_of
  size_wrong h = search chain depth 30

  pub outside : Sized × (total < address_at s at + size_at s at) → Broken ≡ entry_of s total at
  unfolding entry_of
  outside h = search chain depth 30

  pub glyph : Sized × (address_at s at + size_at s at ≤ total) → Glyph (rows_at s at) (cols_at s at) ≡ entry_of s total at
  unfolding entry_of
  glyph h = search chain depth 30

-- one entry of those that are left, the i-th, which stands at an offset
module _ (s : List ℕ) (total start i at h w : ℕ) (here : at ≡ entry_at start i) where
  pub past_empty : (k : ℕ) → 0 < k → entry_of s total at ≡ Empty → scan_of s total start k i h w ≡ scan_of s total start (k - 1) (i + 1) h w
  unfolding scan_of
  past_empty zero p e = absurd (omega arith)
  past_empty (suc k) p e =
      let z : suc k - 1 ≡ k = omega arith in
      let f : entry_of s total (entry_at start i) ≡ Empty = ap (entry_of s total) (sym here) ∙ e in
      rw (f, scan_of, z, add-one i)

  pub past_glyph : (k r c : ℕ) → 0 < k → entry_of s total at ≡ Glyph r c → scan_of s total start k i h w ≡ scan_of s total start (k - 1) (i + 1) (larger h r) (larger w c)
  unfolding scan_of
  past_glyph zero r c p e = absurd (omega arith)
  past_glyph (suc k) r c p e =
      let z : suc k - 1 ≡ k = omega arith in
      let f : entry_of s total (entry_at start i) ≡ Glyph r c = ap (entry_of s total) (sym here) ∙ e in
      rw (f, scan_of, z, add-one i)

  pub at_broken : (k : ℕ) → 0 < k → entry_of s total at ≡ Broken → scan_of s total start k i h w ≡ Err i
  unfolding scan_of
  at_broken zero p e = absurd (omega arith)
  at_broken (suc k) p e =
      let f : entry_of s total (entry_at start i) ≡ Broken = ap (entry_of s total) (sym here) ∙ e in
      rw (f, scan_of)

pub scanned : (s : List ℕ) (total start k i h w : ℕ) → k ≡ 0 → scan_of s total start k i h w ≡ Ok (h, w)
unfolding scan_of
scanned s total start k i h w e = rw e
