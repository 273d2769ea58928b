-- What is known of an entry that has a glyph.
use mathlib.Core.Path.{◌≡◌, refl, sym}
use mathlib.Core.List.{List}
use mathlib.Core.Bool.{Bool, true, false}
use Prim.Native.Nat.{ℕ, ◌+◌, ◌≤◌}
use native.Mathlib.Omega.{arith}
use borrow.Author.Tests.{ltb-false, eqb-true, eqb-false, not-false}
use Rattle.base.specs.Reading.{when}
use Rattle.entries.specs.Meaning.{address_at, size_at, rows_at, cols_at}
use Rattle.entries.specs.Reading.{entry_of}
use Rattle.header.specs.Meaning.{glyph_bytes}
use Rattle.entries.specs.declared.Entry.{Entry}
use Rattle.entries.specs.declared.Entry.TheVariants.{Empty, Glyph, Broken}

-- the rules of an entry with a glyph: document 01's second item on vfont2
pub record KeepsRules (s : List ℕ) (total at : ℕ) : Type 0 where
  pub some : size_at s at ≡ 0 → ⊥
  pub rows_low : 1 ≤ rows_at s at
  pub rows_high : rows_at s at ≤ 255
  pub cols_low : 1 ≤ cols_at s at
  pub cols_high : cols_at s at ≤ 255
  pub size : size_at s at ≡ glyph_bytes (rows_at s at) (cols_at s at)
  pub inside : address_at s at + size_at s at ≤ total

no_empty : {A : Type 0} (r c : ℕ) → Empty ≡ Glyph r c → A
no_empty r c e = let z : ◌≡◌ {A = ℕ} 0 1 = cc in absurd (omega arith)

no_broken : {A : Type 0} (r c : ℕ) → Broken ≡ Glyph r c → A
no_broken r c e = let z : ◌≡◌ {A = ℕ} 0 1 = cc in absurd (omega arith)

unbroken : (t : Bool) (y : Entry) (r c : ℕ) → when t Broken y ≡ Glyph r c → (t ≡ false) × (y ≡ Glyph r c)
unfolding when
unbroken true y r c e = no_broken r c e
unbroken false y r c e = (refl, e)

filled : (t : Bool) (y : Entry) (r c : ℕ) → when t Empty y ≡ Glyph r c → (t ≡ false) × (y ≡ Glyph r c)
unfolding when
filled true y r c e = no_empty r c e
filled false y r c e = (refl, e)

pub keeps : (s : List ℕ) (total at r c : ℕ) → entry_of s total at ≡ Glyph r c → KeepsRules s total at × (r ≡ rows_at s at) × (c ≡ cols_at s at)
unfolding entry_of
keeps s total at r c e =
    let a = filled _ _ r c e in
    let b = unbroken _ _ r c a.1 in
    let d = unbroken _ _ r c b.1 in
    let f = unbroken _ _ r c d.1 in
    let g = unbroken _ _ r c f.1 in
    let h = unbroken _ _ r c g.1 in
    let i = unbroken _ _ r c h.1 in
    let er : rows_at s at ≡ r = cc i.1 in
    let ec : cols_at s at ≡ c = cc i.1 in (
      record {
        some = eqb-false _ _ a.0;
        rows_low = ltb-false _ _ b.0;
        rows_high = ltb-false _ _ d.0;
        cols_low = ltb-false _ _ f.0;
        cols_high = ltb-false _ _ g.0;
        size = eqb-true _ _ (not-false _ h.0);
        inside = ltb-false _ _ i.0;
      },
      sym er,
      sym ec,
    )
