-- What one item does to a walk, one law for each way that a turn of its loop can go.
use mathlib.Core.Path.{◌≡◌, refl}
use mathlib.Core.Bool.{Bool, true, false}
use mathlib.Core.List.{List, [], ◌∷◌}
use Prim.Native.Nat.{ℕ, zero, suc, ◌-◌}
use native.Mathlib.Omega.{arith}
use Rattle.table.specs.declared.Item.{Item}
use Rattle.table.specs.declared.Item.TheVariants.{Single, Start, Value, End}
use Rattle.table.specs.Reading.{is_end}
use Rattle.lookup.specs.Reading.{item_at}
use Rattle.std.specs.Prelude.{Some, None}

-- an item that does not end its description
abbrev pub Inner : Item → Type 0
Inner (Single v) = Unit {0}
Inner Start = Unit {0}
Inner (Value v) = Unit {0}
Inner End = ⊥

pub inner_item : (i : Item) → is_end i ≡ false → Inner i
inner_item (Single v) e = tt
inner_item Start e = tt
inner_item (Value v) e = tt
inner_item End e = let z : ◌≡◌ {A = ℕ} 0 1 = cc in absurd (omega arith)

end_item : (P : Item → Type 0) (i : Item) → is_end i ≡ true → P End → P i
end_item P (Single v) e p = let z : ◌≡◌ {A = ℕ} 0 1 = cc in absurd (omega arith)
end_item P Start e p = let z : ◌≡◌ {A = ℕ} 0 1 = cc in absurd (omega arith)
end_item P (Value v) e p = let z : ◌≡◌ {A = ℕ} 0 1 = cc in absurd (omega arith)
end_item P End e p = p

module _ (g k : ℕ) (is : List Item) where
  pub item_here : (i : Item) → g ≡ 0 → k ≡ 0 → item_at g k (i ∷ is) ≡ Some i
  unfolding item_at
  item_here i p q = rw (p, q)

  pub item_next : (i : Item) → g ≡ 0 → (k ≡ 0 → ⊥) → Inner i → item_at g k (i ∷ is) ≡ item_at g (k - 1) is
  unfolding item_at
  item_next i p q n = rw p (go k q i n)
    where
      go : (m : ℕ) → (m ≡ 0 → ⊥) → (i : Item) → Inner i → item_at 0 m (i ∷ is) ≡ item_at 0 (m - 1) is
      go zero f i n = absurd (f refl)
      go (suc m) f (Single v) n = let e : suc m - 1 ≡ m = omega arith in rw e
      go (suc m) f Start n = let e : suc m - 1 ≡ m = omega arith in rw e
      go (suc m) f (Value v) n = let e : suc m - 1 ≡ m = omega arith in rw e
      go (suc m) f End n = absurd n

  pub item_past : (i : Item) → (g ≡ 0 → ⊥) → Inner i → item_at g k (i ∷ is) ≡ item_at g k is
  unfolding item_at
  item_past i p n = go g p i n
    where
      go : (m : ℕ) → (m ≡ 0 → ⊥) → (i : Item) → Inner i → item_at m k (i ∷ is) ≡ item_at m k is
      go zero f i n = absurd (f refl)
      go (suc m) f (Single v) n = refl
      go (suc m) f Start n = refl
      go (suc m) f (Value v) n = refl
      go (suc m) f End n = absurd n

  pub no_item : (i : Item) → g ≡ 0 → (k ≡ 0 → ⊥) → is_end i ≡ true → item_at g k (i ∷ is) ≡ None
  unfolding item_at
  no_item i p q e = rw p (end_item (λ (j : Item). item_at 0 k (j ∷ is) ≡ None) i e (go k q))
    where
      go : (m : ℕ) → (m ≡ 0 → ⊥) → item_at 0 m (End ∷ is) ≡ None
      go zero f = absurd (f refl)
      go (suc m) f = refl

  pub glyph_past : (i : Item) → (g ≡ 0 → ⊥) → is_end i ≡ true → item_at g k (i ∷ is) ≡ item_at (g - 1) k is
  unfolding item_at
  glyph_past i p e = end_item (λ (j : Item). item_at g k (j ∷ is) ≡ item_at (g - 1) k is) i e (go g p)
    where
      go : (m : ℕ) → (m ≡ 0 → ⊥) → item_at m k (End ∷ is) ≡ item_at (m - 1) k is
      go zero f = absurd (f refl)
      go (suc m) f = let e : suc m - 1 ≡ m = omega arith in rw e

pub item_none : (g k : ℕ) → item_at g k [] ≡ None
unfolding item_at
item_none g k = refl
