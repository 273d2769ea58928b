-- The pieces of the lines: an item with or without its glyph's number, and the lines by the first item.
use mathlib.Core.Path.{◌≡◌, refl, sym, ◌∙◌, ap}
use mathlib.Core.Bool.{Bool, true, false}
use mathlib.Core.List.{List, [], ◌∷◌, ◌++◌}
use Prim.Native.Nat.{ℕ, ◌+◌}
use native.Mathlib.Omega.{arith}
use lib.ListN.{length, length-append}
use Rattle.table.specs.declared.Item.{Item}
use Rattle.table.specs.declared.Item.TheVariants.{Single, Start, Value, End}
use Rattle.table.specs.Reading.{is_end, items_in}
use Rattle.coding.specs.declared.Coding.{Coding}
use Rattle.text.specs.Reading.{numeral}
use Rattle.lines.specs.Reading.{item_text, piece_of, next_glyph, lines_of, table_text}

module _ (fresh : Bool) (g : ℕ) (i : Item) where
  pub piece_fresh : fresh ≡ true → piece_of fresh g i ≡ numeral 10 g ++ item_text i
  unfolding piece_of
  piece_fresh e = rw e

  pub piece_fresh_length : fresh ≡ true → length (piece_of fresh g i) ≡ length (numeral 10 g) + length (item_text i)
  piece_fresh_length e = ap length (piece_fresh e) ∙ length-append (numeral 10 g) (item_text i)

  pub piece_plain : fresh ≡ false → piece_of fresh g i ≡ item_text i
  unfolding piece_of
  piece_plain e = rw e

-- the lines, by the first item
module _ (g : ℕ) (fresh : Bool) (i : Item) (xs is : List Item) (e : xs ≡ i ∷ is) where
  pub lines_ended : (f : Bool) → f ≡ is_end i → f ≡ true → lines_of g fresh xs ≡ piece_of fresh g i ++ lines_of (g + 1) f is
  unfolding lines_of
  lines_ended f p q = rw (e, p) (go i (sym p ∙ q))
    where
      go : (j : Item) → is_end j ≡ true → lines_of g fresh (j ∷ is) ≡ piece_of fresh g j ++ lines_of (g + 1) (is_end j) is
      go (Single v) z = let y : ◌≡◌ {A = ℕ} 0 1 = cc in absurd (omega arith)
      go Start z = let y : ◌≡◌ {A = ℕ} 0 1 = cc in absurd (omega arith)
      go (Value v) z = let y : ◌≡◌ {A = ℕ} 0 1 = cc in absurd (omega arith)
      go End z = refl

  pub lines_on : (f : Bool) → f ≡ is_end i → f ≡ false → lines_of g fresh xs ≡ piece_of fresh g i ++ lines_of g f is
  unfolding lines_of
  lines_on f p q = rw (e, p) (go i (sym p ∙ q))
    where
      go : (j : Item) → is_end j ≡ false → lines_of g fresh (j ∷ is) ≡ piece_of fresh g j ++ lines_of g (is_end j) is
      go (Single v) z = refl
      go Start z = refl
      go (Value v) z = refl
      go End z = let y : ◌≡◌ {A = ℕ} 0 1 = cc in absurd (omega arith)

-- whichever it is
pub lines_either : (g : ℕ) (fresh : Bool) (i : Item) (xs is : List Item) → xs ≡ i ∷ is → (z : List ℕ) × (lines_of g fresh xs ≡ piece_of fresh g i ++ z)
unfolding lines_of
lines_either g fresh i xs is e = (lines_of (next_glyph g i) (is_end i) is, rw e)

pub lines_none : (g : ℕ) (fresh : Bool) (xs : List Item) → xs ≡ [] → lines_of g fresh xs ≡ []
unfolding lines_of
lines_none g fresh xs e = rw e

pub on_all : (c : Coding) (s : List ℕ) → table_text c s ≡ lines_of 0 true (items_in c s)
unfolding table_text
on_all c s = refl

pub length_turn : (z x y : List ℕ) (n l m : ℕ) → z ≡ x ++ y → l ≡ length x → n + length z ≡ m → n + l + length y ≡ m
length_turn z x y n l m e q h = omega (arith, ap length e, length-append x y)

pub length_none : (z : List ℕ) (n m : ℕ) → z ≡ [] → n + length z ≡ m → n ≡ m
length_none z n m e h = omega (arith, ap length e)
