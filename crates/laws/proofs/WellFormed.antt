-- The scalar values and Table 3-7: the bytes of one are well formed, and well-formed bytes are those of one; and the reader of a value (Tables says
-- what is shown).
use mathlib.Core.Path.{◌≡◌, refl, sym, ◌∙◌, ap, subst}
use mathlib.Core.Logic.{◌↔◌, ◌⊎◌, inl, inr}
use mathlib.Core.List.{List, [], ◌∷◌, ◌++◌}
use Prim.Native.Nat.{ℕ, ◌+◌, ◌*◌, ◌-◌, ◌/◌, ◌%◌, ◌≤◌, ◌<◌}
use native.Mathlib.Omega.{arith}
use lib.ListN.{length, take, drop, take-append-drop}
use lib.Seq.{take-append_seam}
use Rattle.base.specs.Meaning.{Begins, Bytes}
use Rattle.base.proofs.Tests.{below}
use Rattle.utf8.specs.Meaning.{Scalar, Utf8Value, utf8_bytes}
use Rattle.laws.specs.Meaning.{In, WellFormed}
use Rattle.utf8.specs.Reading.{read_value, read_utf8, as_token}
use Rattle.utf8.proofs.Rows.{row_y}
use Rattle.utf8.proofs.First.{no_value, no_bytes, empty, no_mark, back_value}
use Rattle.utf8.proofs.Writing.{bytes1, bytes2, bytes3, bytes4}
use Rattle.utf8.proofs.Coding.{First, first_byte, coded_utf8}
use Rattle.std.specs.Prelude.{Ok, Err}
use Rattle.token.specs.declared.Malformed.TheVariants.{Bad}
use Rattle.token.specs.declared.Token.TheVariants.{Value}

list2 : (a b x y : ℕ) → a ≡ x → b ≡ y → a ∷ b ∷ [] ≡ x ∷ y ∷ []
list2 a b x y p q = cc

list3 : (a b c x y z : ℕ) → a ≡ x → b ≡ y → c ≡ z → a ∷ b ∷ c ∷ [] ≡ x ∷ y ∷ z ∷ []
list3 a b c x y z p q r = cc

list4 : (a b c d x y z w : ℕ) → a ≡ x → b ≡ y → c ≡ z → d ≡ w → a ∷ b ∷ c ∷ d ∷ [] ≡ x ∷ y ∷ z ∷ w ∷ []
list4 a b c d x y z w p q r s = cc

-- a scalar value whose bytes these are
abbrev Is : List ℕ → Type 0
Is s = (v : ℕ) × Scalar v × (s ≡ utf8_bytes v)

-- well-formed bytes are those of a scalar value
one : (a : ℕ) → In 0x00 0x7F a → Is (a ∷ [])
one a (l, h) = (a, inl (omega arith), sym (bytes1 a (omega arith)))

two : (a b : ℕ) → In 0xC2 0xDF a → In 0x80 0xBF b → Is (a ∷ b ∷ [])
two a b (la, ha) (lb, hb) =
    let v = (a - 0xC0) * 64 + (b - 0x80) in
    (v, inl (omega arith), list2 a b _ _ (omega arith) (omega arith) ∙ sym (bytes2 v (omega arith) (omega arith)))

three : (a b c : ℕ) → In 0xE0 0xEF a → In 0x80 0xBF b → In 0x80 0xBF c → 0x800 ≤ (a - 0xE0) * 4096 + (b - 0x80) * 64 →
    (b < 0xA0) ⊎ ((a < 0xED) ⊎ (0xED < a)) → Is (a ∷ b ∷ c ∷ [])
three a b c (la, ha) (lb, hb) (lc, hc) low well =
    let v = (a - 0xE0) * 4096 + (b - 0x80) * 64 + (c - 0x80) in
    (v, scalar well (below a 0xED) (below 0xED a), list3 a b c _ _ _ (omega arith) (omega arith) (omega arith) ∙ sym (bytes3 v (omega arith) (omega arith)))
  where
    scalar : (b < 0xA0) ⊎ ((a < 0xED) ⊎ (0xED < a)) → (a < 0xED) ⊎ (0xED ≤ a) → (0xED < a) ⊎ (a ≤ 0xED) → Scalar ((a - 0xE0) * 4096 + (b - 0x80) * 64 + (c - 0x80))
    scalar w (inl l) m = inl (omega arith)
    scalar w (inr l) (inl m) = inr (omega arith, omega arith)
    scalar (inl w) (inr l) (inr m) = inl (omega arith)
    scalar (inr (inl w)) (inr l) (inr m) = absurd (omega arith)
    scalar (inr (inr w)) (inr l) (inr m) = absurd (omega arith)

low_six : (x y : ℕ) → y < 64 → (x * 64 + y) % 64 ≡ y
low_six x y h = omega arith

high_six : (x y : ℕ) → y < 64 → (x * 64 + y) / 64 ≡ x
high_six x y h = omega arith

four : (a b c d : ℕ) → In 0xF0 0xF4 a → In 0x80 0xBF b → In 0x80 0xBF c → In 0x80 0xBF d → 0x10000 ≤ (a - 0xF0) * 262144 + (b - 0x80) * 4096 →
    (a - 0xF0) * 262144 + (b - 0x80) * 4096 ≤ 0x10F000 → Is (a ∷ b ∷ c ∷ d ∷ [])
four a b c d (la, ha) (lb, hb) (lc, hc) (ld, hd) low high =
    let v = (a - 0xF0) * 262144 + (b - 0x80) * 4096 + (c - 0x80) * 64 + (d - 0x80) in
    let p : v / 64 ≡ ((a - 0xF0) * 64 + (b - 0x80)) * 64 + (c - 0x80) = omega arith in
    let q : v / 4096 ≡ (a - 0xF0) * 64 + (b - 0x80) = omega arith in
    let r : v / 262144 ≡ v / 4096 / 64 = omega arith in
    let t : v / 4096 / 64 ≡ a - 0xF0 = ap (λ (x : ℕ). x / 64) q ∙ high_six (a - 0xF0) (b - 0x80) (omega arith) in
    let x : a ≡ 0xF0 + v / 262144 = omega (arith, la, r, t) in
    let m : v / 4096 % 64 ≡ b - 0x80 = ap (λ (x : ℕ). x % 64) q ∙ low_six (a - 0xF0) (b - 0x80) (omega arith) in
    let k : v / 64 % 64 ≡ c - 0x80 = ap (λ (x : ℕ). x % 64) p ∙ low_six ((a - 0xF0) * 64 + (b - 0x80)) (c - 0x80) (omega arith) in
    let y : b ≡ 0x80 + v / 4096 % 64 = omega (arith, lb, m) in
    let z : c ≡ 0x80 + v / 64 % 64 = omega (arith, lc, k) in
    let w : d ≡ 0x80 + v % 64 = omega arith in
    (v, inr (omega arith, omega arith), list4 a b c d _ _ _ _ x y z w ∙ sym (bytes4 v (omega arith)))

pub formed_is : (s : List ℕ) → WellFormed s → Is s
formed_is [] w = absurd w
formed_is (a ∷ []) w = one a w
formed_is (a ∷ b ∷ []) (p, q) = two a b p q
formed_is (a ∷ b ∷ c ∷ []) (inl (p, q, r)) = three a b c (omega arith, omega arith) (omega arith, omega arith) r (omega arith) (inr (inl (omega arith)))
formed_is (a ∷ b ∷ c ∷ []) (inr (inl (p, q, r))) = three a b c (omega arith, omega arith) q r (omega arith) (inr (inl (omega arith)))
formed_is (a ∷ b ∷ c ∷ []) (inr (inr (inl (p, q, r)))) = three a b c (omega arith, omega arith) (omega arith, omega arith) r (omega arith) (inl (omega arith))
formed_is (a ∷ b ∷ c ∷ []) (inr (inr (inr (p, q, r)))) = three a b c (omega arith, omega arith) q r (omega arith) (inr (inr (omega arith)))
formed_is (a ∷ b ∷ c ∷ d ∷ []) (inl (p, q, r, t)) = four a b c d (omega arith, omega arith) (omega arith, omega arith) r t (omega arith) (omega arith)
formed_is (a ∷ b ∷ c ∷ d ∷ []) (inr (inl (p, q, r, t))) = four a b c d (omega arith, omega arith) q r t (omega arith) (omega arith)
formed_is (a ∷ b ∷ c ∷ d ∷ []) (inr (inr (p, q, r, t))) = four a b c d (omega arith, omega arith) (omega arith, omega arith) r t (omega arith) (omega arith)
formed_is (a ∷ b ∷ c ∷ d ∷ e ∷ s) w = absurd w

-- the bytes of a scalar value are well formed
module _ (v : ℕ) where
  is_three : 0x800 ≤ v → v < 0x10000 → (v < 0xD800) ⊎ (0xE000 ≤ v) → (v < 0x1000) ⊎ (0x1000 ≤ v) → (v < 0xD000) ⊎ (0xD000 ≤ v) →
      WellFormed ((0xE0 + v / 4096) ∷ (0x80 + v / 64 % 64) ∷ (0x80 + v % 64) ∷ [])
  is_three l h s (inl a) b = inl ((omega arith, omega arith), (omega arith, omega arith), (omega arith, omega arith))
  is_three l h s (inr a) (inl b) = inr (inl ((omega arith, omega arith), (omega arith, omega arith), (omega arith, omega arith)))
  is_three l h (inl s) (inr a) (inr b) = inr (inr (inl ((omega arith, omega arith), (omega arith, omega arith), (omega arith, omega arith))))
  is_three l h (inr s) (inr a) (inr b) = inr (inr (inr ((omega arith, omega arith), (omega arith, omega arith), (omega arith, omega arith))))

  is_four : 0x10000 ≤ v → v < 0x110000 → (v < 0x40000) ⊎ (0x40000 ≤ v) → (v < 0x100000) ⊎ (0x100000 ≤ v) →
      WellFormed ((0xF0 + v / 262144) ∷ (0x80 + v / 4096 % 64) ∷ (0x80 + v / 64 % 64) ∷ (0x80 + v % 64) ∷ [])
  is_four l h (inl a) b = inl ((omega arith, omega arith), (omega arith, omega arith), (omega arith, omega arith), (omega arith, omega arith))
  is_four l h (inr a) (inl b) = inr (inl ((omega arith, omega arith), (omega arith, omega arith), (omega arith, omega arith), (omega arith, omega arith)))
  is_four l h (inr a) (inr b) = inr (inr ((omega arith, omega arith), (omega arith, omega arith), (omega arith, omega arith), (omega arith, omega arith)))

  split : Scalar v → (v < 0xD800) ⊎ (0xE000 ≤ v)
  split (inl h) = inl h
  split (inr h) = inr h.0

  top : Scalar v → v < 0x110000
  top (inl h) = omega arith
  top (inr h) = h.1

  pub is_formed : Scalar v → WellFormed (utf8_bytes v)
  is_formed s = go (below v 0x80) (below v 0x800) (below v 0x10000)
    where
      go : (v < 0x80) ⊎ (0x80 ≤ v) → (v < 0x800) ⊎ (0x800 ≤ v) → (v < 0x10000) ⊎ (0x10000 ≤ v) → WellFormed (utf8_bytes v)
      go (inl a) b c = subst WellFormed (sym (bytes1 v a)) (omega arith, omega arith)
      go (inr a) (inl b) c = subst WellFormed (sym (bytes2 v a b)) ((omega arith, omega arith), (omega arith, omega arith))
      go (inr a) (inr b) (inl c) = subst WellFormed (sym (bytes3 v b c)) (is_three b c (split s) (below v 0x1000) (below v 0xD000))
      go (inr a) (inr b) (inr c) = subst WellFormed (sym (bytes4 v c)) (is_four c (top s) (below v 0x40000) (below v 0x100000))

-- what is read as a value is no mark
not_mark : (b : ℕ) (t : List ℕ) (v l : ℕ) → b < 256 → read_value (b ∷ t) ≡ Ok (v, l) → b < 245
not_mark b t v l h e = go (below b 245)
  where
    go : (b < 245) ⊎ (245 ≤ b) → b < 245
    go (inl k) = k
    go (inr k) = let r = no_value (b ∷ t) (omega arith) _ (row_y b k h) refl in let z : Err (Bad 0) ≡ Ok (v, l) = r ∙ e in let y : ◌≡◌ {A = ℕ} 0 1 = cc in absurd (omega arith)

-- the reader of one value and that of one token agree on a value
value_token : (s : List ℕ) → Bytes s → (v l : ℕ) → read_value s ≡ Ok (v, l) → read_utf8 s ≡ Ok (Value v, l)
value_token [] y v l e = let z = no_bytes [] refl ∙ e in let x : ◌≡◌ {A = ℕ} 0 1 = cc in absurd (omega arith)
value_token (b ∷ t) y v l e =
    let h = not_mark b t v l y.0 e in
    sym (no_mark (b ∷ t) (omega arith) (λ z. absurd (omega arith)) (λ z. absurd (omega arith))) ∙ ap as_token e

token_value : (s : List ℕ) → Bytes s → (v l : ℕ) → read_utf8 s ≡ Ok (Value v, l) → read_value s ≡ Ok (v, l)
token_value [] y v l e = let z = empty [] refl ∙ e in let x : ◌≡◌ {A = ℕ} 0 1 = cc in absurd (omega arith)
token_value (b ∷ t) y v l e =
    let h : First b (Ok (Value v, l)) = rw e at (first_byte b t y.0) in
    back_value _ v l (no_mark (b ∷ t) (omega arith) (λ z. absurd (omega arith)) (λ z. absurd (omega arith)) ∙ e)

begins_rest : (p s : List ℕ) → Begins p s → s ≡ p ++ drop (length p) s
begins_rest p s b = sym (take-append-drop (length p) s) ∙ ap (λ (x : List ℕ). x ++ drop (length p) s) b

pub value_exactly : (s : List ℕ) → Bytes s → (v l : ℕ) → (read_value s ≡ Ok (v, l)) ↔ (Utf8Value v × (l ≡ length (utf8_bytes v)) × Begins (utf8_bytes v) s)
value_exactly s y v l = (there, back)
  where
    there : read_value s ≡ Ok (v, l) → Utf8Value v × (l ≡ length (utf8_bytes v)) × Begins (utf8_bytes v) s
    there e =
        let w = coded_utf8.read_value_lem s y v l (value_token s y v l e) in
        (w.0, w.1, ap (take (length (utf8_bytes v))) w.2 ∙ take-append_seam (utf8_bytes v) (drop l s))

    back : Utf8Value v × (l ≡ length (utf8_bytes v)) × Begins (utf8_bytes v) s → read_value s ≡ Ok (v, l)
    back (p, e, b) =
        token_value s y v l (ap read_utf8 (begins_rest (utf8_bytes v) s b) ∙ coded_utf8.value_read v (drop (length (utf8_bytes v)) s) p ∙ ap (λ (m : ℕ). Ok (Value v, m)) (sym e))
