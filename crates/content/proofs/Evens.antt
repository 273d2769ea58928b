-- An entry of the dispatch table with the metrics (height, 0, 0, width, width): its fields, its rows and columns, its size.
use mathlib.Core.Path.{◌≡◌, sym, ◌∙◌, ap}
use mathlib.Core.Logic.{◌⊎◌, inl, inr}
use mathlib.Core.List.{List}
use Prim.Native.Nat.{ℕ, ◌+◌, ◌-◌, ◌*◌, ◌≤◌, ◌<◌}
use native.Mathlib.Omega.{arith}
use lib.IntN.{pos, negsuc}
use Rattle.base.specs.Meaning.{le16, Bytes}
use Rattle.base.proofs.Parts.{byte_at}
use Rattle.base.proofs.Tests.{below}
use Rattle.bitmap.specs.Meaning.{EvenGlyph, even_metrics}
use Rattle.header.specs.Meaning.{row_bytes, glyph_bytes}
use Rattle.entries.specs.declared.Metrics.{Metrics}
use Rattle.entries.specs.Meaning.{address_at, size_at, signed16, metrics_at, rows_at, cols_at, Breaks}
use Rattle.entries.proofs.Sums.{low, high}
use Rattle.entries.proofs.Meaning.{keeps_rules}

-- two bytes are below 65536
pub le16_small : (s : List ℕ) → Bytes s → (i : ℕ) → le16 s i < 65536
unfolding le16
le16_small s y i = omega (arith, byte_at s y i, byte_at s y (i + 1))

-- a signed number that is v above zero is v
signed_is : (x v : ℕ) → x < 65536 → signed16 x ≡ pos v → x ≡ v
signed_is x v b e = go (below x 32768)
  where
    go : (x < 32768) ⊎ (32768 ≤ x) → x ≡ v
    go (inl l) = let q : pos x ≡ pos v = sym (low x l) ∙ e in cc
    go (inr g) = let q : negsuc (65535 - x) ≡ pos v = sym (high x g b) ∙ e in let z : ◌≡◌ {A = ℕ} 0 1 = cc in absurd (omega arith)

module _ (s : List ℕ) (h w at : ℕ) where
  -- the fields of such an entry
  abbrev pub EvenFields : Type 0
  EvenFields =
      (size_at s at ≡ 0 → ⊥) × (le16 s (at + 8) ≡ h) × (le16 s (at + 10) ≡ 0) × (le16 s (at + 12) ≡ 0) × (le16 s (at + 14) ≡ w) × (le16 s (at + 16) ≡ w)

  -- an entry with those fields has those metrics
  pub even_metrics_lem : h < 32768 → w < 32768 → EvenFields → metrics_at s at ≡ even_metrics h w
  unfolding metrics_at
  even_metrics_lem lh lw p = λ i. record {
    up = (ap signed16 p.1 ∙ low h lh) i;
    down = (ap signed16 p.2 ∙ low 0 (omega arith)) i;
    left = (ap signed16 p.3 ∙ low 0 (omega arith)) i;
    right = (ap signed16 p.4 ∙ low w lw) i;
    logical = (ap signed16 p.5 ∙ low w lw) i;
  }

  -- and an entry with those metrics has those fields
  pub metrics_even : Bytes s → EvenGlyph s h w at → EvenFields
  unfolding metrics_at
  metrics_even y (g, e) = (
    g,
    signed_is _ h (le16_small s y (at + 8)) (ap (λ (m : Metrics). m.up) e),
    signed_is _ 0 (le16_small s y (at + 10)) (ap (λ (m : Metrics). m.down) e),
    signed_is _ 0 (le16_small s y (at + 12)) (ap (λ (m : Metrics). m.left) e),
    signed_is _ w (le16_small s y (at + 14)) (ap (λ (m : Metrics). m.right) e),
    signed_is _ w (le16_small s y (at + 16)) (ap (λ (m : Metrics). m.logical) e),
  )

  -- its rows and columns
  pub even_rows : h < 32768 → EvenFields → rows_at s at ≡ h
  unfolding rows_at
  even_rows lh p =
      let z : h + 0 ≡ h = omega arith in
      rw (p.1, p.2, low h lh, low 0 (omega arith)) z

  -- and its columns
  pub even_cols : w < 32768 → EvenFields → cols_at s at ≡ w
  unfolding cols_at
  even_cols lw p = rw (p.3, p.4, low w lw, low 0 (omega arith)) (zero_left w)
    where
      zero_left : (x : ℕ) → 0 + x ≡ x
      zero_left x = omega arith

  -- its size and its place, where it breaks no rule
  pub even_size : (total : ℕ) → h < 32768 → w < 32768 → EvenFields → (Breaks s total at → ⊥) → (size_at s at ≡ glyph_bytes h w) × (address_at s at + glyph_bytes h w ≤ total)
  unfolding glyph_bytes
  even_size total lh lw p b =
      let r = keeps_rules s total at b p.0 in
      let z : size_at s at ≡ h * row_bytes w = r.2 ∙ (λ i. even_rows lh p i * row_bytes (even_cols lw p i)) in
      (z, omega (arith, r.3, z))

  -- it has at least one row and one column
  pub even_some : (total : ℕ) → h < 32768 → w < 32768 → EvenFields → (Breaks s total at → ⊥) → (1 ≤ h) × (1 ≤ w)
  even_some total lh lw p b =
      let r = keeps_rules s total at b p.0 in
      (omega (arith, r.0.0, even_rows lh p), omega (arith, r.1.0, even_cols lw p))
