-- The rows of Table 3-7: what `lead_of` is at each byte of a row's range, and what holds of every lead_row.
use mathlib.Core.Path.{◌≡◌, refl, sym, ◌∙◌, ap, subst}
use mathlib.Core.Bool.{Bool, true, false, not, ◌&&◌}
use mathlib.Core.Logic.{◌⊎◌, inl, inr}
use Prim.Native.Nat.{ℕ, ◌+◌, ◌≤◌, ◌<◌}
use native.Mathlib.Omega.{arith}
use lib.Dec.{T, eqb, leb, ltb, eqb→eq, leb→le, ltb→lt}
use borrow.Author.Tests.{eq-eqb, ne_eqb, eqb-true}
use Rattle.base.specs.Meaning.{pick}
use Rattle.base.proofs.Tests.{and_left, and_right, below}
use Rattle.base.proofs.Ranged.{every, ranged}
use Rattle.utf8.specs.declared.Lead.{Lead}
use Rattle.utf8.specs.Reading.{lead_row, lead_of, begun}
use Rattle.std.specs.Prelude.{Option, None, Some}

abbrev same_lead : Lead → Lead → Bool
same_lead a b = eqb a.len b.len && (eqb a.modulus b.modulus && (eqb a.lo b.lo && eqb a.hi b.hi))

same_lead_lem : (a b : Lead) → T (same_lead a b) → a ≡ b
same_lead_lem a b t =
    let x = eqb a.len b.len in
    let m = eqb a.modulus b.modulus in
    let y = eqb a.lo b.lo in
    let z = eqb a.hi b.hi in
    let p = eqb→eq a.len b.len (and_left x (m && (y && z)) t) in
    let u = and_right x (m && (y && z)) t in
    let o = eqb→eq a.modulus b.modulus (and_left m (y && z) u) in
    let v = and_right m (y && z) u in
    let q = eqb→eq a.lo b.lo (and_left y z v) in
    let r = eqb→eq a.hi b.hi (and_right y z v) in
    λ i. record { len = p i; modulus = o i; lo = q i; hi = r i }

-- a lead_row of the table holds at each byte from lo on, n of them
leads : (lo n : ℕ) (r : Lead) → T (every (λ b. same_lead (lead_of b) r) lo n) → (b : ℕ) → lo ≤ b → b < lo + n → r ≡ lead_of b
leads lo n r t b h k = sym (same_lead_lem (lead_of b) r (ranged (λ x. same_lead (lead_of x) r) n lo t b h k))

-- the rows, each over its range
pub row_1 : (b : ℕ) → 0 ≤ b → b < 128 → lead_row 1 128 128 191 ≡ lead_of b
unfolding lead_of
row_1 b g h = leads 0 128 (lead_row 1 128 128 191) tt b g h

pub row_2 : (b : ℕ) → 194 ≤ b → b < 224 → lead_row 2 32 128 191 ≡ lead_of b
unfolding lead_of
row_2 b g h = leads 194 30 (lead_row 2 32 128 191) tt b g h

pub row_3a : (b : ℕ) → 224 ≤ b → b < 225 → lead_row 3 16 160 191 ≡ lead_of b
unfolding lead_of
row_3a b g h = leads 224 1 (lead_row 3 16 160 191) tt b g h

pub row_3b : (b : ℕ) → 225 ≤ b → b < 237 → lead_row 3 16 128 191 ≡ lead_of b
unfolding lead_of
row_3b b g h = leads 225 12 (lead_row 3 16 128 191) tt b g h

pub row_3c : (b : ℕ) → 237 ≤ b → b < 238 → lead_row 3 16 128 159 ≡ lead_of b
unfolding lead_of
row_3c b g h = leads 237 1 (lead_row 3 16 128 159) tt b g h

pub row_3d : (b : ℕ) → 238 ≤ b → b < 240 → lead_row 3 16 128 191 ≡ lead_of b
unfolding lead_of
row_3d b g h = leads 238 2 (lead_row 3 16 128 191) tt b g h

-- the two wide rows of three bytes as one
pub row_3 : (b : ℕ) → (225 ≤ b) × (b < 240) × (b ≡ 237 → ⊥) → lead_row 3 16 128 191 ≡ lead_of b
row_3 b (g, h, n) = by (below b 237)
  where
    by : (b < 237) ⊎ (237 ≤ b) → lead_row 3 16 128 191 ≡ lead_of b
    by (inl k) = row_3b b g k
    by (inr k) = row_3d b (omega arith) h

pub row_4a : (b : ℕ) → 240 ≤ b → b < 241 → lead_row 4 8 144 191 ≡ lead_of b
unfolding lead_of
row_4a b g h = leads 240 1 (lead_row 4 8 144 191) tt b g h

pub row_4b : (b : ℕ) → 241 ≤ b → b < 244 → lead_row 4 8 128 191 ≡ lead_of b
unfolding lead_of
row_4b b g h = leads 241 3 (lead_row 4 8 128 191) tt b g h

pub row_4c : (b : ℕ) → 244 ≤ b → b < 245 → lead_row 4 8 128 143 ≡ lead_of b
unfolding lead_of
row_4c b g h = leads 244 1 (lead_row 4 8 128 143) tt b g h

pub row_x : (b : ℕ) → 128 ≤ b → b < 194 → lead_row 0 1 128 191 ≡ lead_of b
unfolding lead_of
row_x b g h = leads 128 66 (lead_row 0 1 128 191) tt b g h

pub row_y : (b : ℕ) → 245 ≤ b → b < 256 → lead_row 0 1 128 191 ≡ lead_of b
unfolding lead_of
row_y b g h = leads 245 11 (lead_row 0 1 128 191) tt b g h

-- what the first byte says: a row of one byte or two, none, or the row of three or four that is found for it
pub begun_1 : (b : ℕ) → b < 128 → Some (lead_row 1 128 128 191) ≡ begun (lead_of b)
begun_1 b h = ap begun (row_1 b (omega arith) h)

pub begun_2 : (b : ℕ) → 194 ≤ b → b < 224 → Some (lead_row 2 32 128 191) ≡ begun (lead_of b)
begun_2 b g h = ap begun (row_2 b g h)

pub begun_x : (b : ℕ) → 128 ≤ b → b < 194 → None ≡ begun (lead_of b)
begun_x b g h = ap begun (row_x b g h)

pub begun_y : (b : ℕ) → 245 ≤ b → b < 256 → None ≡ begun (lead_of b)
begun_y b g h = ap begun (row_y b g h)

some_row : (b : ℕ) → 194 ≤ b → b < 245 → (lead_of b).len ≡ 0 → ⊥
unfolding lead_of
some_row b g h e = rw (eq-eqb (lead_of b).len 0 e) at (ranged (λ x. not (eqb (lead_of x).len 0)) 51 194 tt b g h)

pub begun_row : (b : ℕ) → 224 ≤ b → b < 245 → (l : Lead) → l ≡ lead_of b → Some l ≡ begun (lead_of b)
begun_row b g h l e = rw (ne_eqb (lead_of b).len 0 (some_row b (omega arith) h)) (ap Some e)

-- and what it says of the row
pub record Found (m l : Lead) : Type 0 where
  pub same : l ≡ m
  pub long : l.len ≡ 0 → ⊥

pub found : (r : Option Lead) (m l : Lead) → r ≡ begun m → r ≡ Some l → Found m l
found r m l e f = go (eqb m.len 0) (λ z. eq-eqb m.len 0 z) (sym f ∙ e)
  where
    go : (t : Bool) → (m.len ≡ 0 → t ≡ true) → Some l ≡ pick t None (Some m) → Found m l
    go true z q = let y : ◌≡◌ {A = ℕ} 0 1 = cc in absurd (omega arith)
    go false z q =
        let p : l ≡ m = cc in
        record { same = p; long = λ k. (let w : false ≡ true = z (sym (ap (λ (x : Lead). x.len) p) ∙ k) in let y : ◌≡◌ {A = ℕ} 0 1 = cc in absurd (omega arith)) }

pub not_found : (r : Option Lead) (m : Lead) → r ≡ begun m → r ≡ None → m.len ≡ 0
not_found r m e f = go (eqb m.len 0) refl (sym f ∙ e)
  where
    go : (t : Bool) → eqb m.len 0 ≡ t → None ≡ pick t None (Some m) → m.len ≡ 0
    go true z q = eqb-true m.len 0 z
    go false z q = let y : ◌≡◌ {A = ℕ} 0 1 = cc in absurd (omega arith)

-- what holds of every byte's lead_row
pub record Fine (l : Lead) : Type 0 where
  pub few : l.len ≤ 4
  pub some : 0 < l.modulus
  pub small : l.modulus ≤ 128
  pub low : 128 ≤ l.lo
  pub high : l.hi ≤ 191

abbrev fine : Lead → Bool
fine l = leb l.len 4 && (ltb 0 l.modulus && (leb l.modulus 128 && (leb 128 l.lo && leb l.hi 191)))

is_fine : (l : Lead) → T (fine l) → Fine l
is_fine l t =
    let a = leb l.len 4 in
    let b = ltb 0 l.modulus in
    let d = leb l.modulus 128 in
    let e = leb 128 l.lo in
    let f = leb l.hi 191 in
    let u = and_right a (b && (d && (e && f))) t in
    let v = and_right b (d && (e && f)) u in
    let w = and_right d (e && f) v in
    record {
      few = leb→le _ _ (and_left a (b && (d && (e && f))) t);
      some = ltb→lt _ _ (and_left b (d && (e && f)) u);
      small = leb→le _ _ (and_left d (e && f) v);
      low = leb→le _ _ (and_left e f w);
      high = leb→le _ _ (and_right e f w);
    }

pub all_fine : (b : ℕ) → b < 256 → Fine (lead_of b)
unfolding lead_of
all_fine b h = is_fine (lead_of b) (ranged (λ x. fine (lead_of x)) 256 0 tt b (omega arith) (omega arith))

-- from 80 on no byte is a value by itself
pub longer : (b : ℕ) → 0x80 ≤ b → b < 256 → (lead_of b).len ≡ 1 → ⊥
unfolding lead_of
longer b g h e = rw (eq-eqb (lead_of b).len 1 e) at (ranged (λ x. not (eqb (lead_of x).len 1)) 128 128 tt b g h)

-- of a row that was found
module _ (b : ℕ) (h : b < 256) (l : Lead) (f : Found (lead_of b) l) where
  pub found_fine : Fine l
  found_fine = subst Fine (sym f.same) (all_fine b h)

  -- from 80 on it has four bytes where it has neither two nor three
  pub found_four : 0x80 ≤ b → (l.len ≡ 2 → ⊥) → (l.len ≡ 3 → ⊥) → l.len ≡ 4
  found_four g n2 n3 =
      let n0 = f.long in
      let n1 : l.len ≡ 1 → ⊥ = λ z. longer b g h (sym (ap (λ (x : Lead). x.len) f.same) ∙ z) in
      omega (arith, found_fine.few)
