-- UTF-8 with FE and FF as marks keeps the laws of a coding.
use mathlib.Core.Path.{◌≡◌, refl, sym, ◌∙◌, ap}
use mathlib.Core.List.{List, [], ◌∷◌}
use mathlib.Core.Logic.{inl, inr}
use Prim.Native.Nat.{ℕ, ◌≤◌, ◌<◌}
use native.Mathlib.Omega.{arith}
use lib.ListN.{length, drop}
use lib.Dec.{ltb, eqb}
use borrow.Author.Tests.{eqb-true, eqb-false, ltb-true}
use Rattle.base.specs.Meaning.{Bytes}
use Rattle.base.proofs.Tests.{by_test}
use Rattle.token.specs.declared.Token.TheVariants.{Value, Start, End}
use Rattle.token.specs.Reading.{Step}
use Rattle.token.proofs.Coded.{Coded}
use Rattle.utf8.specs.Reading.{read_value, as_token, read_utf8}
use Rattle.utf8.specs.Meaning.{utf8_bytes, Scalar, Utf8Value}
use Rattle.utf8.proofs.Writing.{value_read}
use Rattle.utf8.proofs.Reading.{Written, value_of}
use Rattle.std.specs.Prelude.{Result, Ok, Err}
use Rattle.token.specs.declared.Malformed.{Malformed}
use Rattle.token.specs.declared.Malformed.TheVariants.{Cut}

-- what a token says of its first byte: marks are one byte
abbrev pub First : ℕ → Step → Type 0
First b (Ok (Value v, l)) = b < 254
First b (Ok (Start, l)) = (b ≡ 254) × (l ≡ 1)
First b (Ok (End, l)) = (b ≡ 255) × (l ≡ 1)
First b (Err t) = Unit {0}

of_value : (b : ℕ) (x : Result (ℕ × ℕ) Malformed) → b < 254 → First b (as_token x)
of_value b (Ok (v, l)) h = h
of_value b (Err t) h = tt

pub first_byte : (b : ℕ) (s : List ℕ) → b < 256 → First b (read_utf8 (b ∷ s))
unfolding read_utf8
first_byte b s h =
    by_test (First b) (eqb b 0xFE) _ _ (λ p. (eqb-true b 0xFE p, refl)) (λ p.
    by_test (First b) (eqb b 0xFF) _ _ (λ q. (eqb-true b 0xFF q, refl)) (λ q.
    let x = eqb-false b 0xFE p in
    let y = eqb-false b 0xFF q in
    of_value b (read_value (b ∷ s)) (omega arith)))

pub read_nil : read_utf8 [] ≡ Err Cut
unfolding read_utf8
read_nil = refl

read_value_lem : (s : List ℕ) → Bytes s → (v l : ℕ) → read_utf8 s ≡ Ok (Value v, l) → Written s v l
read_value_lem [] y v l e = let f = sym read_nil ∙ e in let z : ◌≡◌ {A = ℕ} 0 1 = cc in absurd (omega arith)
read_value_lem (b ∷ t) y v l e = value_of b t v l e (rw e at (first_byte b t y.0))

read_start : (s : List ℕ) → Bytes s → (l : ℕ) → read_utf8 s ≡ Ok (Start, l) → (l ≡ 1) × (s ≡ 0xFE ∷ drop l s)
read_start [] y l e = let f = sym read_nil ∙ e in let z : ◌≡◌ {A = ℕ} 0 1 = cc in absurd (omega arith)
read_start (b ∷ t) y l e = let f : First b (Ok (Start, l)) = rw e at (first_byte b t y.0) in (f.1, rw f.1 (ap (λ (x : ℕ). x ∷ t) f.0))

read_end : (s : List ℕ) → Bytes s → (l : ℕ) → read_utf8 s ≡ Ok (End, l) → (l ≡ 1) × (s ≡ 0xFF ∷ drop l s)
read_end [] y l e = let f = sym read_nil ∙ e in let z : ◌≡◌ {A = ℕ} 0 1 = cc in absurd (omega arith)
read_end (b ∷ t) y l e = let f : First b (Ok (End, l)) = rw e at (first_byte b t y.0) in (f.1, rw f.1 (ap (λ (x : ℕ). x ∷ t) f.0))

start_read : (s : List ℕ) → read_utf8 (0xFE ∷ s) ≡ Ok (Start, 1)
unfolding read_utf8
start_read s = refl

end_read : (s : List ℕ) → read_utf8 (0xFF ∷ s) ≡ Ok (End, 1)
unfolding read_utf8
end_read s = refl

value_some : (v : ℕ) → Utf8Value v → 1 ≤ length (utf8_bytes v)
unfolding utf8_bytes
value_some v u =
    let P : List ℕ → Type 0 = λ x. 1 ≤ length x in
    by_test P (ltb v 0x80) _ _ (λ _. omega arith) (λ _.
    by_test P (ltb v 0x800) _ _ (λ _. omega arith) (λ _.
    by_test P (ltb v 0x10000) _ _ (λ _. omega arith) (λ _. omega arith)))

top : (v : ℕ) → Scalar v → v < 0x110000
top v (inl a) = omega arith
top v (inr a) = a.1

value_bytes_lem : (v : ℕ) → Utf8Value v → Bytes (utf8_bytes v)
unfolding utf8_bytes
value_bytes_lem v u =
    let m = top v u.0 in
    by_test Bytes (ltb v 0x80) _ _ (λ p. let a = ltb-true v 0x80 p in (omega arith, tt)) (λ p.
    by_test Bytes (ltb v 0x800) _ _ (λ q. let a = ltb-true v 0x800 q in (omega arith, (omega arith, tt))) (λ q.
    by_test Bytes (ltb v 0x10000) _ _ (λ r. let a = ltb-true v 0x10000 r in (omega arith, (omega arith, (omega arith, tt)))) (λ r.
    (omega arith, (omega arith, (omega arith, (omega arith, tt)))))))

pub coded_utf8 : Coded read_utf8 1 Utf8Value utf8_bytes (0xFE ∷ []) (0xFF ∷ [])
coded_utf8 = record {
  value_read = value_read;
  start_read = start_read;
  end_read = end_read;
  read_value_lem = read_value_lem;
  read_start = read_start;
  read_end = read_end;
  value_some = value_some;
  start_long = refl;
  end_long = refl;
  mark_some = omega arith;
  value_bytes_lem = value_bytes_lem;
  start_bytes_lem = (omega arith, tt);
  end_bytes_lem = (omega arith, tt);
}
