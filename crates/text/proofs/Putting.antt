-- Texts laid over the front of a buffer: one byte, one byte more, a second text behind a first, and a text written part by part.
use mathlib.Core.Path.{◌≡◌, refl, sym, ◌∙◌, ap}
use mathlib.Core.List.{List, [], ◌∷◌, ◌++◌}
use Prim.Native.Nat.{ℕ, ◌+◌, ◌-◌, ◌≤◌}
use native.Mathlib.Omega.{arith}
use borrow.Rule.Slice.PartMut.{mid_of, put_mid}
use lib.ListN.{length, take, drop, set, length-append, length-drop}
use Rattle.base.specs.Reading.{over}
use Rattle.base.proofs.Parts.{rest_all}
use Rattle.base.proofs.Over.{stores, over_snoc, length_over, over_none, behind, turn_room, turn_within, turn_left, turn_over, turn_length, all_over}

-- one byte stored
pub put_one : (x xs : List ℕ) (d : ℕ) → x ≡ d ∷ [] → length x ≤ length xs → set xs 0 d ≡ over x xs
put_one x xs d e h = let k = ap length e in stores (d ∷ []) xs (omega arith) ∙ ap (λ (z : List ℕ). over z xs) (sym e)

-- one byte stored behind a text
pub put_more : (x y xs w : List ℕ) (l d : ℕ) → w ≡ over y xs → x ≡ y ++ (d ∷ []) → l ≡ length y → length x ≤ length xs → set w l d ≡ over x xs
put_more x y xs w l d ew ex el h =
    let k = ap length ex ∙ length-append y (d ∷ []) in
    let s : set (over y xs) (length y) d ≡ over (y ++ (d ∷ [])) xs = over_snoc y xs d (omega arith) in
    rw (ew, el) (s ∙ ap (λ (z : List ℕ). over z xs) (sym ex))

-- p stands in front, laid over xs, and a is its length
abbrev pub Stands : List ℕ → List ℕ → List ℕ → ℕ → Type 0
Stands p xs w a = (a ≡ length p) × (length w ≡ length xs) × (w ≡ over p xs)

pub first_stands : (p xs w : List ℕ) (a : ℕ) → length p ≤ length xs → (a ≡ length p) × (w ≡ over p xs) → Stands p xs w a
first_stands p xs w a h e = (e.0, ap length e.1 ∙ length_over p xs h, e.1)

-- what is left of a buffer
length_rest : (w : List ℕ) (a : ℕ) → length (mid_of a (length w - a) w) ≡ length w - a
length_rest w a = ap length (rest_all w a) ∙ length-drop a w

-- a second text behind it: there is room, and then both stand in front
module _ (p q xs w : List ℕ) (a : ℕ) (s : Stands p xs w a) (h : a + length q ≤ length xs) where
  pub behind_room : length q ≤ length (mid_of a (length w - a) w)
  behind_room = omega (arith, s.0, s.1, length_rest w a)

  pub behind_stands : (ys : List ℕ) (l : ℕ) → (l ≡ length q) × (ys ≡ over q (mid_of a (length w - a) w)) → Stands (p ++ q) xs (put_mid a (length w - a) w ys) (a + l)
  behind_stands ys l e =
      let o = behind p q xs w ys a (sym s.0) s.2 e.1 in
      (omega (arith, s.0, e.0, length-append p q), ap length o ∙ length_over (p ++ q) xs (omega (arith, s.0, length-append p q)), o)

-- a text w, written part by part over xs: its first n bytes stand in v, and y is left
pub record Written (w xs v : List ℕ) (n : ℕ) (y : List ℕ) : Type 0 where
  pub within : n ≤ length w
  pub room : length w ≤ length xs
  pub same : length v ≡ length xs
  pub stands : v ≡ over (take n w) xs
  pub left : drop n w ≡ y

pub written_none : (w xs y : List ℕ) → length w ≤ length xs → w ≡ y → Written w xs xs 0 y
written_none w xs y h e = record { within = omega arith; room = h; same = refl; stands = over_none xs; left = e }

module _ (w xs v : List ℕ) (n : ℕ) (z : List ℕ) (s : Written w xs v n z) (x y : List ℕ) (e : z ≡ x ++ y) where
  pub written_within : n + length x ≤ length w
  written_within = turn_room w x y n s.within (s.left ∙ e)

  pub written_room : length x ≤ length (mid_of n (length v - n) v)
  written_room = omega (arith, written_within, s.room, s.same, length_rest v n)

  pub written_next : (ys : List ℕ) (l : ℕ) → (l ≡ length x) × (ys ≡ over x (mid_of n (length v - n) v)) → Written w xs (put_mid n (length v - n) v ys) (n + l) y
  written_next ys l o =
      let d = s.left ∙ e in
      record {
        within = turn_within w x y xs v ys n l s.within d o.0;
        room = s.room;
        same = turn_length w x y xs v ys n l s.within d o.0 s.room s.stands o.1;
        stands = turn_over w x y xs v ys n l s.within d o.0 s.stands o.1;
        left = turn_left w x y xs v ys n l s.within d o.0;
      }

pub written_all : (w xs v : List ℕ) (n : ℕ) (z : List ℕ) → Written w xs v n z → z ≡ [] → v ≡ over w xs
written_all w xs v n z s e = all_over w xs v n (s.left ∙ e) s.stands
