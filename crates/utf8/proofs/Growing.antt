-- UTF-8 with FE and FF as marks: a token that is not cut stays as it is, and what is cut has at most three bytes.
use mathlib.Core.Path.{◌≡◌, refl, ap}
use mathlib.Core.List.{List, [], ◌∷◌, ◌++◌}
use mathlib.Core.Bool.{Bool, true, false}
use mathlib.Core.Logic.{◌⊎◌, inl, inr}
use Prim.Native.Nat.{ℕ, zero, suc, ◌+◌, ◌-◌, ◌*◌, ◌%◌, ◌≤◌, ◌<◌}
use native.Mathlib.Omega.{arith}
use lib.ListN.{length}
use lib.Dec.{eqb}
use Rattle.base.specs.Meaning.{pick}
use Rattle.base.specs.Reading.{within}
use Rattle.token.specs.declared.Token.TheVariants.{Start, End}
use Rattle.token.specs.Reading.{Step}
use Rattle.token.proofs.Growing.{Growing}
use Rattle.utf8.specs.declared.Lead.{Lead}
use Rattle.utf8.specs.Reading.{lead_row, lead_of, conts, permitted_at, read_value, as_token, read_utf8}
use Rattle.utf8.proofs.First.{back_cut}
use Rattle.utf8.proofs.Permitted.{cut_permitted}
use Rattle.std.specs.Prelude.{Result, Ok, Err}
use Rattle.token.specs.declared.Malformed.{Malformed}
use Rattle.token.specs.declared.Malformed.TheVariants.{Cut, Bad}

-- the bytes after the first
conts_kept : (n lo hi v k : ℕ) (p s : List ℕ) → (conts n lo hi v k p ≡ Err Cut) ⊎ (conts n lo hi v k (p ++ s) ≡ conts n lo hi v k p)
unfolding conts
conts_kept zero lo hi v k p s = inr refl
conts_kept (suc n) lo hi v k [] s = inl refl
conts_kept (suc n) lo hi v k (b ∷ p) s = go (within lo hi b) (conts_kept n 0x80 0xBF (v * 64 + (b - 0x80)) (k + 1) p s)
  where
    go : (x : Bool) →
        (conts n 0x80 0xBF (v * 64 + (b - 0x80)) (k + 1) p ≡ Err Cut) ⊎ (conts n 0x80 0xBF (v * 64 + (b - 0x80)) (k + 1) (p ++ s) ≡ conts n 0x80 0xBF (v * 64 + (b - 0x80)) (k + 1) p) →
        (pick x (conts n 0x80 0xBF (v * 64 + (b - 0x80)) (k + 1) p) (Err (Bad k)) ≡ Err Cut)
        ⊎ (pick x (conts n 0x80 0xBF (v * 64 + (b - 0x80)) (k + 1) (p ++ s)) (Err (Bad k)) ≡ pick x (conts n 0x80 0xBF (v * 64 + (b - 0x80)) (k + 1) p) (Err (Bad k)))
    go true ih = ih
    go false ih = inr refl

pub conts_short : (n lo hi v k : ℕ) (p : List ℕ) → conts n lo hi v k p ≡ Err Cut → length p < n
unfolding conts
conts_short zero lo hi v k p e = let z : ◌≡◌ {A = ℕ} 0 1 = cc in absurd (omega arith)
conts_short (suc n) lo hi v k [] e = omega arith
conts_short (suc n) lo hi v k (b ∷ p) e = go (within lo hi b) e (conts_short n 0x80 0xBF (v * 64 + (b - 0x80)) (k + 1) p)
  where
    go : (x : Bool) → pick x (conts n 0x80 0xBF (v * 64 + (b - 0x80)) (k + 1) p) (Err (Bad k)) ≡ Err Cut → (conts n 0x80 0xBF (v * 64 + (b - 0x80)) (k + 1) p ≡ Err Cut → length p < n) → length (b ∷ p) < suc n
    go true f ih = let h = ih f in omega arith
    go false f ih = let z : ◌≡◌ {A = ℕ} 0 1 = cc in absurd (omega arith)

-- no value is longer than four bytes
row_short : (x : Bool) (n m l h : ℕ) (q : Lead) → n ≤ 4 → q.len ≤ 4 → (pick x (lead_row n m l h) q).len ≤ 4
row_short true n m l h q i k = i
row_short false n m l h q i k = k

short_rows : (b : ℕ) → (lead_of b).len ≤ 4
unfolding lead_of
short_rows b =
    row_short (within 0x00 0x7F b) 1 128 0x80 0xBF _ (omega arith)
    (row_short (within 0xC2 0xDF b) 2 32 0x80 0xBF _ (omega arith)
    (row_short (within 0xE0 0xE0 b) 3 16 0xA0 0xBF _ (omega arith)
    (row_short (within 0xE1 0xEC b) 3 16 0x80 0xBF _ (omega arith)
    (row_short (within 0xED 0xED b) 3 16 0x80 0x9F _ (omega arith)
    (row_short (within 0xEE 0xEF b) 3 16 0x80 0xBF _ (omega arith)
    (row_short (within 0xF0 0xF0 b) 4 8 0x90 0xBF _ (omega arith)
    (row_short (within 0xF1 0xF3 b) 4 8 0x80 0xBF _ (omega arith)
    (row_short (within 0xF4 0xF4 b) 4 8 0x80 0x8F (lead_row 0 1 0x80 0xBF) (omega arith) (omega arith)))))))))

-- a token
abbrev inner : ℕ → List ℕ → Result (ℕ × ℕ) Malformed
inner b t = conts ((lead_of b).len - 1) (lead_of b).lo (lead_of b).hi (b % (lead_of b).modulus) 1 t

abbrev token : ℕ → Result (ℕ × ℕ) Malformed → Step
token b r = as_token (permitted_at ((lead_of b).len - 1) r)

token_kept : (p s : List ℕ) → (read_utf8 p ≡ Err Cut) ⊎ (read_utf8 (p ++ s) ≡ read_utf8 p)
unfolding read_utf8 read_value permitted_at
token_kept [] s = inl refl
token_kept (b ∷ p) s = go (eqb b 0xFE) (eqb b 0xFF) (eqb (lead_of b).len 0) (conts_kept ((lead_of b).len - 1) (lead_of b).lo (lead_of b).hi (b % (lead_of b).modulus) 1 p s)
  where
    go : (x y z : Bool) → (inner b p ≡ Err Cut) ⊎ (inner b (p ++ s) ≡ inner b p) →
        (pick x (Ok (Start, 1)) (pick y (Ok (End, 1)) (as_token (pick z (Err (Bad 0)) (permitted_at ((lead_of b).len - 1) (inner b p))))) ≡ Err Cut)
        ⊎ (pick x (Ok (Start, 1)) (pick y (Ok (End, 1)) (as_token (pick z (Err (Bad 0)) (permitted_at ((lead_of b).len - 1) (inner b (p ++ s)))))) ≡ pick x (Ok (Start, 1)) (pick y (Ok (End, 1)) (as_token (pick z (Err (Bad 0)) (permitted_at ((lead_of b).len - 1) (inner b p))))))
    go true y z h = inr refl
    go false true z h = inr refl
    go false false true h = inr refl
    go false false false (inl e) = inl (ap (token b) e)
    go false false false (inr e) = inr (ap (token b) e)

token_short : (p : List ℕ) → read_utf8 p ≡ Err Cut → length p < 4
unfolding read_utf8 read_value
token_short [] e = omega arith
token_short (b ∷ p) e = go (eqb b 0xFE) (eqb b 0xFF) (eqb (lead_of b).len 0) e (conts_short ((lead_of b).len - 1) (lead_of b).lo (lead_of b).hi (b % (lead_of b).modulus) 1 p)
  where
    go : (x y z : Bool) → pick x (Ok (Start, 1)) (pick y (Ok (End, 1)) (as_token (pick z (Err (Bad 0)) (permitted_at ((lead_of b).len - 1) (inner b p))))) ≡ Err Cut → (inner b p ≡ Err Cut → length p < (lead_of b).len - 1) → length (b ∷ p) < 4
    go true y z f ih = let z : ◌≡◌ {A = ℕ} 0 1 = cc in absurd (omega arith)
    go false true z f ih = let z : ◌≡◌ {A = ℕ} 0 1 = cc in absurd (omega arith)
    go false false true f ih = let z : ◌≡◌ {A = ℕ} 0 1 = cc in absurd (omega arith)
    go false false false f ih = let h = ih (cut_permitted ((lead_of b).len - 1) (inner b p) (back_cut _ f)) in omega (arith, short_rows b)

pub growing_utf8 : Growing read_utf8
growing_utf8 = record { kept = token_kept; cut_short = token_short }
