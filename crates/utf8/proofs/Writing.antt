-- What is written in UTF-8 is read: the bytes of each length of value, and the reader on them.
use mathlib.Core.Path.{◌≡◌, sym, ◌∙◌, ap}
use mathlib.Core.List.{List, [], ◌∷◌, ◌++◌}
use mathlib.Core.Logic.{◌⊎◌, inl, inr}
use Prim.Native.Nat.{ℕ, suc, ◌+◌, ◌-◌, ◌*◌, ◌/◌, ◌%◌, ◌≤◌, ◌<◌}
use native.Mathlib.Omega.{arith}
use lib.ListN.{length}
use borrow.Author.Tests.{le-leb, lt-ltb, le-ltb}
use Rattle.base.proofs.Tests.{below}
use Rattle.token.specs.declared.Token.TheVariants.{Value}
use Rattle.token.specs.Meaning.{Noncharacter}
use Rattle.utf8.specs.Reading.{lead_row, lead_of, conts, permitted_at, as_token, read_utf8}
use Rattle.utf8.specs.Meaning.{utf8_bytes, Scalar, Utf8Value}
use Rattle.utf8.proofs.Rows.{row_1, row_2, row_3a, row_3b, row_3c, row_3d, row_4a, row_4b, row_4c}
use Rattle.utf8.proofs.Permitted.{permitted_value, permitted_none}
use Rattle.utf8.proofs.Conts.{reached}
use Rattle.utf8.proofs.First.{as_value}
use Rattle.std.specs.Prelude.{Result, Ok, Err}
use Rattle.token.specs.declared.Malformed.{Malformed}
use Rattle.token.specs.declared.Malformed.TheVariants.{Bad}

-- how many bytes a value has
pub bytes1 : (v : ℕ) → v < 0x80 → utf8_bytes v ≡ v ∷ []
unfolding utf8_bytes
bytes1 v h = rw (lt-ltb v 0x80 h)

pub bytes2 : (v : ℕ) → 0x80 ≤ v → v < 0x800 → utf8_bytes v ≡ (0xC0 + v / 64) ∷ (0x80 + v % 64) ∷ []
unfolding utf8_bytes
bytes2 v g h = rw (le-ltb v 0x80 g, lt-ltb v 0x800 h)

pub bytes3 : (v : ℕ) → 0x800 ≤ v → v < 0x10000 → utf8_bytes v ≡ (0xE0 + v / 4096) ∷ (0x80 + v / 64 % 64) ∷ (0x80 + v % 64) ∷ []
unfolding utf8_bytes
bytes3 v g h = let a : 0x80 ≤ v = omega arith in rw (le-ltb v 0x80 a, le-ltb v 0x800 g, lt-ltb v 0x10000 h)

pub bytes4 : (v : ℕ) → 0x10000 ≤ v →
    utf8_bytes v ≡ (0xF0 + v / 262144) ∷ (0x80 + v / 4096 % 64) ∷ (0x80 + v / 64 % 64) ∷ (0x80 + v % 64) ∷ []
unfolding utf8_bytes
bytes4 v g =
    let a : 0x80 ≤ v = omega arith in
    let b : 0x800 ≤ v = omega arith in
    rw (le-ltb v 0x80 a, le-ltb v 0x800 b, le-ltb v 0x10000 g)

-- one more continuation byte
pub further : (n lo hi v k b : ℕ) (s : List ℕ) → lo ≤ b → b ≤ hi → conts (suc n) lo hi v k (b ∷ s) ≡ conts n 0x80 0xBF (v * 64 + (b - 0x80)) (k + 1) s
unfolding conts
further n lo hi v k b s g h = rw (le-leb lo b g, le-leb b hi h)

-- a value of n bytes, read
module _ (b : ℕ) (h : b < 254) (m lo hi : ℕ) where
  read1 : (s : List ℕ) (v : ℕ) → v ≡ b % m → lead_row 1 m lo hi ≡ lead_of b → read_utf8 (b ∷ s) ≡ as_token (permitted_at 0 (Ok (v, 1)))
  read1 s v w e = sym (as_value (b ∷ s) (omega arith) (λ p. omega arith) (λ p. omega arith) (lead_row 1 m lo hi) e (λ p. omega arith)) ∙ ap (λ (x : Result (ℕ × ℕ) Malformed). as_token (permitted_at 0 x)) (reached lo hi (b % m) 1 s) ∙ rw w

  read2 : (c : ℕ) (s : List ℕ) (v : ℕ) → v ≡ b % m * 64 + (c - 0x80) → lead_row 2 m lo hi ≡ lead_of b → lo ≤ c → c ≤ hi → read_utf8 (b ∷ c ∷ s) ≡ as_token (permitted_at 1 (Ok (v, 2)))
  read2 c s v w e p q =
      sym (as_value (b ∷ c ∷ s) (omega arith) (λ p. omega arith) (λ p. omega arith) (lead_row 2 m lo hi) e (λ p. omega arith))
      ∙ ap (λ (x : Result (ℕ × ℕ) Malformed). as_token (permitted_at 1 x)) (further 0 lo hi (b % m) 1 c s p q
      ∙ reached 0x80 0xBF (b % m * 64 + (c - 0x80)) 2 s) ∙ rw w

  read3 : (c d : ℕ) (s : List ℕ) (v : ℕ) → v ≡ (b % m * 64 + (c - 0x80)) * 64 + (d - 0x80) → lead_row 3 m lo hi ≡ lead_of b → lo ≤ c → c ≤ hi → 0x80 ≤ d → d ≤ 0xBF →
      read_utf8 (b ∷ c ∷ d ∷ s) ≡ as_token (permitted_at 2 (Ok (v, 3)))
  read3 c d s v w e p q p' q' =
      sym (as_value (b ∷ c ∷ d ∷ s) (omega arith) (λ p. omega arith) (λ p. omega arith) (lead_row 3 m lo hi) e (λ p. omega arith))
      ∙ ap (λ (x : Result (ℕ × ℕ) Malformed). as_token (permitted_at 2 x)) (further 1 lo hi (b % m) 1 c (d ∷ s) p q
      ∙ further 0 0x80 0xBF (b % m * 64 + (c - 0x80)) 2 d s p' q'
      ∙ reached 0x80 0xBF ((b % m * 64 + (c - 0x80)) * 64 + (d - 0x80)) 3 s) ∙ rw w

  read4 : (c d f : ℕ) (s : List ℕ) (v : ℕ) → v ≡ ((b % m * 64 + (c - 0x80)) * 64 + (d - 0x80)) * 64 + (f - 0x80) → lead_row 4 m lo hi ≡ lead_of b → lo ≤ c → c ≤ hi → 0x80 ≤ d → d ≤ 0xBF → 0x80 ≤ f → f ≤ 0xBF →
      read_utf8 (b ∷ c ∷ d ∷ f ∷ s) ≡ as_token (permitted_at 3 (Ok (v, 4)))
  read4 c d f s v w e p q p' q' p'' q'' =
      sym (as_value (b ∷ c ∷ d ∷ f ∷ s) (omega arith) (λ p. omega arith) (λ p. omega arith) (lead_row 4 m lo hi) e (λ p. omega arith))
      ∙ ap (λ (x : Result (ℕ × ℕ) Malformed). as_token (permitted_at 3 x)) (further 2 lo hi (b % m) 1 c (d ∷ f ∷ s) p q
      ∙ further 1 0x80 0xBF (b % m * 64 + (c - 0x80)) 2 d (f ∷ s) p' q'
      ∙ further 0 0x80 0xBF ((b % m * 64 + (c - 0x80)) * 64 + (d - 0x80)) 3 f s p'' q''
      ∙ reached 0x80 0xBF (((b % m * 64 + (c - 0x80)) * 64 + (d - 0x80)) * 64 + (f - 0x80)) 4 s) ∙ rw w

-- the bytes of v are read as v, but for noncharacters
abbrev Reads : ℕ → List ℕ → Type 0
Reads v s = read_utf8 (utf8_bytes v ++ s) ≡ as_token (permitted_at (length (utf8_bytes v) - 1) (Ok (v, (length (utf8_bytes v)))))

-- a scalar value of each length, written and read
two : (v : ℕ) (s : List ℕ) → 0x80 ≤ v → v < 0x800 → Reads v s
two v s g h =
    rw (bytes2 v g h)
    (read2 (0xC0 + v / 64) (omega arith) 32 0x80 0xBF (0x80 + v % 64) s v (omega arith) (row_2 _ (omega arith) (omega arith)) (omega arith) (omega arith))

three : (v : ℕ) (s : List ℕ) → 0x800 ≤ v → v < 0x10000 → (v < 0xD800) ⊎ (0xE000 ≤ v) → Reads v s
three v s g h u = rw (bytes3 v g h) (by (below v 0x1000) (below v 0xD000) (below v 0xE000) u)
  where
    b : ℕ
    b = 0xE0 + v / 4096

    at : (lo hi : ℕ) → lead_row 3 16 lo hi ≡ lead_of (0xE0 + v / 4096) → lo ≤ 0x80 + v / 64 % 64 → 0x80 + v / 64 % 64 ≤ hi →
        read_utf8 ((0xE0 + v / 4096) ∷ (0x80 + v / 64 % 64) ∷ (0x80 + v % 64) ∷ s) ≡ as_token (permitted_at 2 (Ok (v, 3)))
    at lo hi e p q = read3 (0xE0 + v / 4096) (omega arith) 16 lo hi (0x80 + v / 64 % 64) (0x80 + v % 64) s v (omega arith) e p q (omega arith) (omega arith)

    by : (v < 0x1000) ⊎ (0x1000 ≤ v) → (v < 0xD000) ⊎ (0xD000 ≤ v) → (v < 0xE000) ⊎ (0xE000 ≤ v) → (v < 0xD800) ⊎ (0xE000 ≤ v) →
        read_utf8 ((0xE0 + v / 4096) ∷ (0x80 + v / 64 % 64) ∷ (0x80 + v % 64) ∷ s) ≡ as_token (permitted_at 2 (Ok (v, 3)))
    by (inl x) y z w = at 0xA0 0xBF (row_3a _ (omega arith) (omega arith)) (omega arith) (omega arith)
    by (inr x) (inl y) z w = at 0x80 0xBF (row_3b _ (omega arith) (omega arith)) (omega arith) (omega arith)
    by (inr x) (inr y) (inl z) (inl w) = at 0x80 0x9F (row_3c _ (omega arith) (omega arith)) (omega arith) (omega arith)
    by (inr x) (inr y) (inl z) (inr w) = absurd (omega arith)
    by (inr x) (inr y) (inr z) w = at 0x80 0xBF (row_3d _ (omega arith) (omega arith)) (omega arith) (omega arith)

four : (v : ℕ) (s : List ℕ) → 0x10000 ≤ v → v < 0x110000 → Reads v s
four v s g h = rw (bytes4 v g) (by (below v 0x40000) (below v 0x100000))
  where
    at : (lo hi : ℕ) → lead_row 4 8 lo hi ≡ lead_of (0xF0 + v / 262144) → lo ≤ 0x80 + v / 4096 % 64 → 0x80 + v / 4096 % 64 ≤ hi →
        read_utf8 ((0xF0 + v / 262144) ∷ (0x80 + v / 4096 % 64) ∷ (0x80 + v / 64 % 64) ∷ (0x80 + v % 64) ∷ s) ≡ as_token (permitted_at 3 (Ok (v, 4)))
    at lo hi e p q =
        let x : v / 4096 ≡ v / 64 / 64 = omega arith in
        let y : v / 262144 ≡ v / 4096 / 64 = omega arith in
        let z : (0xF0 + v / 262144) % 8 ≡ v / 262144 = omega arith in
        read4 (0xF0 + v / 262144) (omega arith) 8 lo hi (0x80 + v / 4096 % 64) (0x80 + v / 64 % 64) (0x80 + v % 64) s v (omega arith) e p q (omega arith) (omega arith) (omega arith) (omega arith)

    by : (v < 0x40000) ⊎ (0x40000 ≤ v) → (v < 0x100000) ⊎ (0x100000 ≤ v) →
        read_utf8 ((0xF0 + v / 262144) ∷ (0x80 + v / 4096 % 64) ∷ (0x80 + v / 64 % 64) ∷ (0x80 + v % 64) ∷ s) ≡ as_token (permitted_at 3 (Ok (v, 4)))
    by (inl x) y = at 0x90 0xBF (row_4a _ (omega arith) (omega arith)) (omega arith) (omega arith)
    by (inr x) (inl y) = at 0x80 0xBF (row_4b _ (omega arith) (omega arith)) (omega arith) (omega arith)
    by (inr x) (inr y) = at 0x80 0x8F (row_4c _ (omega arith) (omega arith)) (omega arith) (omega arith)

scalar_read : (v : ℕ) (s : List ℕ) → Scalar v → Reads v s
scalar_read v s u = by (below v 0x80) (below v 0x800) (below v 0x10000) u
  where
    by : (v < 0x80) ⊎ (0x80 ≤ v) → (v < 0x800) ⊎ (0x800 ≤ v) → (v < 0x10000) ⊎ (0x10000 ≤ v) → Scalar v →
        Reads v s
    by (inl x) y z u = rw (bytes1 v x) (read1 v (omega arith) 128 0x80 0xBF s v (omega arith) (row_1 v (omega arith) (omega arith)))
    by (inr x) (inl y) z u = two v s x y
    by (inr x) (inr y) (inl z) (inl w) = three v s y z (inl w)
    by (inr x) (inr y) (inl z) (inr w) = three v s y z (inr w.0)
    by (inr x) (inr y) (inr z) (inl w) = absurd (omega arith)
    by (inr x) (inr y) (inr z) (inr w) = four v s z w.1

pub value_read : (v : ℕ) (s : List ℕ) → Utf8Value v → read_utf8 (utf8_bytes v ++ s) ≡ Ok (Value v, length (utf8_bytes v))
value_read v s (p, n) = scalar_read v s p ∙ ap as_token (sym (permitted_value (length (utf8_bytes v) - 1) v (length (utf8_bytes v)) n))

-- a noncharacter is bad at its last byte, whatever follows
pub noncharacter_read : (v : ℕ) (s : List ℕ) → Scalar v → Noncharacter v → read_utf8 (utf8_bytes v ++ s) ≡ Err (Bad (length (utf8_bytes v) - 1))
noncharacter_read v s p n = scalar_read v s p ∙ ap as_token (sym (permitted_none (length (utf8_bytes v) - 1) v (length (utf8_bytes v)) n))
