-- A list w that is written part by part over the front of xs: so far its first n elements, v is the buffer, and y is left.
use mathlib.Core.Path.{◌≡◌, refl, ◌∙◌, ap}
use mathlib.Core.List.{List, [], ◌++◌}
use Prim.Native.Nat.{ℕ, ◌+◌, ◌-◌, ◌≤◌}
use native.Mathlib.Omega.{arith}
use borrow.Rule.Slice.PartMut.{mid_of, put_mid}
use lib.ListN.{length, take, drop, length-drop}
use Rattle.base.specs.Reading.{over}
use Rattle.base.proofs.Parts.{rest_all}
use Rattle.base.proofs.Over.{over_none, turn_within, turn_left, turn_over, turn_length, turn_room, all_over}

abbrev pub Written : List ℕ → List ℕ → ℕ → List ℕ → List ℕ → Type 0
Written w xs n v y = (n ≤ length w) × (length w ≤ length xs) × (length v ≡ length xs) × (v ≡ over (take n w) xs) × (drop n w ≡ y)

-- nothing so far
pub begins : (w xs : List ℕ) → length w ≤ length xs → Written w xs 0 xs w
begins w xs h = (omega arith, h, refl, over_none xs, refl)

-- the part lent has room for the next part
pub room : (w x y xs v : List ℕ) (n : ℕ) → Written w xs n v (x ++ y) → length x ≤ length (mid_of n (length v - n) v)
room w x y xs v n h =
    let k = turn_room w x y n h.0 h.4 in
    let e : mid_of n (length v - n) v ≡ drop n v = rest_all v n in
    omega (arith, k, ap length e, length-drop n v, h.1, h.2)

-- one part more: a call that was lent the part from n on wrote z there, and z is the next part
pub goes_on : (w x y xs v ys z : List ℕ) (n l : ℕ) → z ≡ x → l ≡ length z → ys ≡ over z (mid_of n (length v - n) v) → Written w xs n v (x ++ y) → Written w xs (n + l) (put_mid n (length v - n) v ys) y
goes_on w x y xs v ys z n l q k e h =
    let kx : l ≡ length x = k ∙ ap length q in
    let ex : ys ≡ over x (mid_of n (length v - n) v) = e ∙ ap (λ (t : List ℕ). over t (mid_of n (length v - n) v)) q in
    (turn_within w x y xs v ys n l h.0 h.4 kx, h.1, turn_length w x y xs v ys n l h.0 h.4 kx h.1 h.3 ex, turn_over w x y xs v ys n l h.0 h.4 kx h.3 ex, turn_left w x y xs v ys n l h.0 h.4 kx)

-- all of it
pub ends : (w xs v : List ℕ) (n : ℕ) → Written w xs n v [] → v ≡ over w xs
ends w xs v n h = all_over w xs v n h.4 h.3

-- nothing so far, where the list is known by another name
pub begins_as : (w xs y : List ℕ) → length w ≤ length xs → w ≡ y → Written w xs 0 xs y
begins_as w xs y h e = (omega arith, h, refl, over_none xs, e)

-- all of it: as long as the list
pub ends_at : (w xs v : List ℕ) (n : ℕ) → Written w xs n v [] → n ≡ length w
ends_at w xs v n h = omega (arith, h.0, ap length h.4, length-drop n w)
