-- `read_value` and `read_utf8` by the length of the list and its first element.
use mathlib.Core.Path.{◌≡◌, refl, ◌∙◌, ap}
use mathlib.Core.List.{List, [], ◌∷◌}
use Prim.Native.Nat.{ℕ, suc, ◌-◌, ◌%◌, ◌<◌}
use native.Mathlib.Omega.{arith}
use lib.ListN.{length, get_or, drop}
use lib.Dec.{eqb}
use borrow.Author.Tests.{eq-eqb, ne_eqb}
use Rattle.base.specs.Meaning.{pick}
use Rattle.base.proofs.Handed.{pair_same}
use Rattle.token.proofs.Noncharacters.{low}
use Rattle.token.specs.declared.Token.TheVariants.{Value, Start, End}
use Rattle.utf8.specs.declared.Lead.{Lead}
use Rattle.utf8.proofs.Rows.{row_1}
use Rattle.utf8.proofs.Permitted.{permitted_value}
use Rattle.utf8.specs.Reading.{conts, lead_of, permitted_at, read_value, as_token, read_utf8}
use Rattle.std.specs.Prelude.{Result, Ok, Err}
use Rattle.token.specs.declared.Malformed.{Malformed}
use Rattle.token.specs.declared.Malformed.TheVariants.{Cut, Bad}

pub no_bytes : (s : List ℕ) → length s ≡ 0 → Err Cut ≡ read_value s
unfolding read_value
no_bytes [] h = refl
no_bytes (b ∷ s) h = absurd (omega arith)

first_value : (s : List ℕ) → 0 < length s →
    read_value s ≡
    pick (eqb (lead_of (get_or s 0 0)).len 0) (Err (Bad 0))
    (permitted_at ((lead_of (get_or s 0 0)).len - 1) (conts ((lead_of (get_or s 0 0)).len - 1) (lead_of (get_or s 0 0)).lo (lead_of (get_or s 0 0)).hi (get_or s 0 0 % (lead_of (get_or s 0 0)).modulus) 1 (drop 1 s)))
unfolding read_value
first_value [] h = absurd (omega arith)
first_value (b ∷ s) h = refl

-- by the first byte's row
module _ (s : List ℕ) (h : 0 < length s) (l : Lead) (e : l ≡ lead_of (get_or s 0 0)) where
  pub no_value : l.len ≡ 0 → Err (Bad 0) ≡ read_value s
  no_value z = rw (first_value s h, ← e, eq-eqb l.len 0 z)

  pub some_value : (l.len ≡ 0 → ⊥) → permitted_at (l.len - 1) (conts (l.len - 1) l.lo l.hi (get_or s 0 0 % l.modulus) 1 (drop 1 s)) ≡ read_value s
  some_value z = rw (first_value s h, ← e, ne_eqb l.len 0 z)

  -- the same by the length
  pub long_value : (n : ℕ) → l.len ≡ suc n → (v : ℕ) → v ≡ get_or s 0 0 % l.modulus → permitted_at n (conts n l.lo l.hi v 1 (drop 1 s)) ≡ read_value s
  long_value n z v u =
      let k : l.len - 1 ≡ n = omega arith in
      rw (k, ← u) at (some_value (λ y. absurd (omega arith)))

pub empty : (s : List ℕ) → length s ≡ 0 → Err Cut ≡ read_utf8 s
unfolding read_utf8
empty [] h = refl
empty (b ∷ s) h = absurd (omega arith)

first : (s : List ℕ) → 0 < length s → read_utf8 s ≡ pick (eqb (get_or s 0 0) 0xFE) (Ok (Start, 1)) (pick (eqb (get_or s 0 0) 0xFF) (Ok (End, 1)) (as_token (read_value s)))
unfolding read_utf8
first [] h = absurd (omega arith)
first (b ∷ s) h = refl

module _ (s : List ℕ) (h : 0 < length s) where
  pub as_start : get_or s 0 0 ≡ 254 → Ok (Start, 1) ≡ read_utf8 s
  as_start a = rw (first s h, eq-eqb (get_or s 0 0) 254 a)

  module _ (a : get_or s 0 0 ≡ 254 → ⊥) where
    pub as_end : get_or s 0 0 ≡ 255 → Ok (End, 1) ≡ read_utf8 s
    as_end b = rw (first s h, ne_eqb (get_or s 0 0) 254 a, eq-eqb (get_or s 0 0) 255 b)

    module _ (b : get_or s 0 0 ≡ 255 → ⊥) where
      -- no mark: what is read as a value
      pub no_mark : as_token (read_value s) ≡ read_utf8 s
      no_mark = rw (first s h, ne_eqb (get_or s 0 0) 254 a, ne_eqb (get_or s 0 0) 255 b)

      module _ (l : Lead) (e : l ≡ lead_of (get_or s 0 0)) where
        pub as_bad : l.len ≡ 0 → Err (Bad 0) ≡ read_utf8 s
        as_bad z = ap as_token (no_value s h l e z) ∙ no_mark

        pub as_value : (l.len ≡ 0 → ⊥) → as_token (permitted_at (l.len - 1) (conts (l.len - 1) l.lo l.hi (get_or s 0 0 % l.modulus) 1 (drop 1 s))) ≡ read_utf8 s
        as_value z = ap as_token (some_value s h l e z) ∙ no_mark

-- a first byte below 80 gives itself, one byte long, whatever follows
pub ascii : (s : List ℕ) → 0 < length s → get_or s 0 0 < 128 → Ok (Value (get_or s 0 0), 1) ≡ read_utf8 s
unfolding conts
ascii s h k =
    let m : get_or s 0 0 ≡ get_or s 0 0 % 128 = omega arith in
    let r : Ok ((get_or s 0 0), 1) ≡ read_value s = permitted_value 0 (get_or s 0 0) 1 (low (get_or s 0 0) (omega arith)) ∙ long_value s h _ (row_1 (get_or s 0 0) (omega arith) k) 0 refl (get_or s 0 0) m in
    ap as_token r ∙ no_mark s h (λ z. absurd (omega arith)) (λ z. absurd (omega arith))

-- a token that is no mark was read as a value
pub back_value : (x : Result (ℕ × ℕ) Malformed) (v l : ℕ) → as_token x ≡ Ok (Value v, l) → x ≡ Ok (v, l)
back_value (Ok (w, k)) v l e = let q = pair_same _ _ _ _ e in let p : w ≡ v = value_same w v q.0 in rw (p, q.1)
  where
    value_same : (a b : ℕ) → Value a ≡ Value b → a ≡ b
    value_same a b f = cc
back_value (Err t) v l e = let z : ◌≡◌ {A = ℕ} 0 1 = cc in absurd (omega arith)

pub back_cut : (x : Result (ℕ × ℕ) Malformed) → as_token x ≡ Err Cut → x ≡ Err Cut
back_cut (Ok (w, k)) e = let z : ◌≡◌ {A = ℕ} 0 1 = cc in absurd (omega arith)
back_cut (Err t) e = cc

pub back_bad : (x : Result (ℕ × ℕ) Malformed) (k : ℕ) → as_token x ≡ Err (Bad k) → x ≡ Err (Bad k)
back_bad (Ok (w, j)) k e = let z : ◌≡◌ {A = ℕ} 0 1 = cc in absurd (omega arith)
back_bad (Err t) k e = cc
