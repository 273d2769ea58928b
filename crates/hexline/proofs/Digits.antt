-- Digits: a character that is one is the digit of its number, and a digit's number is the number.
use mathlib.Core.Path.{◌≡◌, refl, sym, ◌∙◌, ap}
use mathlib.Core.Logic.{◌⊎◌, inl, inr}
use Prim.Native.Nat.{ℕ, ◌+◌, ◌-◌, ◌*◌, ◌/◌, ◌%◌, ◌≤◌, ◌<◌}
use native.Mathlib.Omega.{arith}
use borrow.Author.Tests.{lt-ltb, le-ltb}
use Rattle.std.specs.Prelude.{Option, Some, None}
use Rattle.base.specs.Reading.{when}
use Rattle.base.proofs.Tests.{below}
use Rattle.text.specs.Reading.{digit_of}
use Rattle.hexline.specs.Reading.{hex_value, pair_value}

digit_low : (d : ℕ) → d < 10 → digit_of d ≡ 48 + d
unfolding digit_of
digit_low d h = rw (lt-ltb d 10 h)

digit_high : (d : ℕ) → 10 ≤ d → digit_of d ≡ 55 + d
unfolding digit_of
digit_high d h = rw (le-ltb d 10 h)

pub value_below : (b : ℕ) → b < 48 → hex_value b ≡ None
unfolding hex_value when
value_below b h = rw (lt-ltb b 48 h)

pub value_low : (b : ℕ) → 48 ≤ b → b < 58 → hex_value b ≡ Some (b - 48)
unfolding hex_value when
value_low b h l = rw (le-ltb b 48 h, lt-ltb b 58 l)

pub value_between : (b : ℕ) → 58 ≤ b → b < 65 → hex_value b ≡ None
unfolding hex_value when
value_between b h l = let g : 48 ≤ b = omega arith in rw (le-ltb b 48 g, le-ltb b 58 h, lt-ltb b 65 l)

pub value_high : (b : ℕ) → 65 ≤ b → b < 71 → hex_value b ≡ Some (b - 55)
unfolding hex_value when
value_high b h l =
    let g : 48 ≤ b = omega arith in
    let k : 58 ≤ b = omega arith in
    rw (le-ltb b 48 g, le-ltb b 58 k, le-ltb b 65 h, lt-ltb b 71 l)

pub value_above : (b : ℕ) → 71 ≤ b → hex_value b ≡ None
unfolding hex_value when
value_above b h =
    let g : 48 ≤ b = omega arith in
    let k : 58 ≤ b = omega arith in
    let j : 65 ≤ b = omega arith in
    rw (le-ltb b 48 g, le-ltb b 58 k, le-ltb b 65 j, le-ltb b 71 h)

-- a character that is a digit is the digit of its number
digit_value : (b d : ℕ) → hex_value b ≡ Some d → (d < 16) × (digit_of d ≡ b)
digit_value b d h = go (below b 48) (below b 58) (below b 65) (below b 71)
  where
    none : hex_value b ≡ None → (d < 16) × (digit_of d ≡ b)
    none e = let z : ◌≡◌ {A = Option ℕ} (Some d) None = sym h ∙ e in cc

    go : (b < 48) ⊎ (48 ≤ b) → (b < 58) ⊎ (58 ≤ b) → (b < 65) ⊎ (65 ≤ b) → (b < 71) ⊎ (71 ≤ b) → (d < 16) × (digit_of d ≡ b)
    go (inl l) x y z = none (value_below b l)
    go (inr l) (inl m) y z =
        let e : ◌≡◌ {A = Option ℕ} (Some d) (Some (b - 48)) = sym h ∙ value_low b l m in
        let n : d ≡ b - 48 = cc in
        (omega arith, digit_low d (omega arith) ∙ omega arith)
    go (inr l) (inr m) (inl k) z = none (value_between b m k)
    go (inr l) (inr m) (inr k) (inl j) =
        let e : ◌≡◌ {A = Option ℕ} (Some d) (Some (b - 55)) = sym h ∙ value_high b k j in
        let n : d ≡ b - 55 = cc in
        (omega arith, digit_high d (omega arith) ∙ omega arith)
    go (inr l) (inr m) (inr k) (inr j) = none (value_above b j)

-- a digit's number
value_digit : (d : ℕ) → d < 16 → hex_value (digit_of d) ≡ Some d
value_digit d h = go (below d 10)
  where
    go : (d < 10) ⊎ (10 ≤ d) → hex_value (digit_of d) ≡ Some d
    go (inl l) =
        let e = digit_low d l in
        let n : digit_of d - 48 ≡ d = omega (arith, e) in
        value_low (digit_of d) (omega (arith, e)) (omega (arith, e)) ∙ ap Some n
    go (inr l) =
        let e = digit_high d l in
        let n : digit_of d - 55 ≡ d = omega (arith, e) in
        value_high (digit_of d) (omega (arith, e)) (omega (arith, e)) ∙ ap Some n

-- the byte of two digits
pub pair_both : (a b h l : ℕ) → hex_value a ≡ Some h → hex_value b ≡ Some l → pair_value a b ≡ Some (h * 16 + l)
unfolding pair_value
pair_both a b h l p q = rw (p, q)

pub pair_first : (a b : ℕ) → hex_value a ≡ None → pair_value a b ≡ None
unfolding pair_value
pair_first a b p = rw p

pub pair_second : (a b h : ℕ) → hex_value a ≡ Some h → hex_value b ≡ None → pair_value a b ≡ None
unfolding pair_value
pair_second a b h p q = rw (p, q)

-- two characters that spell a byte are its digits
pub digits_pair : (a b v : ℕ) → pair_value a b ≡ Some v → (v < 256) × (digit_of (v / 16) ≡ a) × (digit_of (v % 16) ≡ b)
digits_pair a b v e = go (hex_value a) (hex_value b) refl refl
  where
    none : pair_value a b ≡ None → (v < 256) × (digit_of (v / 16) ≡ a) × (digit_of (v % 16) ≡ b)
    none n = let z : ◌≡◌ {A = Option ℕ} (Some v) None = sym e ∙ n in cc

    go : (x y : Option ℕ) → hex_value a ≡ x → hex_value b ≡ y → (v < 256) × (digit_of (v / 16) ≡ a) × (digit_of (v % 16) ≡ b)
    go None y p q = none (pair_first a b p)
    go (Some h) None p q = none (pair_second a b h p q)
    go (Some h) (Some l) p q =
        let z : ◌≡◌ {A = Option ℕ} (Some v) (Some (h * 16 + l)) = sym e ∙ pair_both a b h l p q in
        let n : v ≡ h * 16 + l = cc in
        let x = digit_value a h p in
        let y = digit_value b l q in
        let f : v / 16 ≡ h = omega arith in
        let g : v % 16 ≡ l = omega arith in
        (omega arith, ap digit_of f ∙ x.1, ap digit_of g ∙ y.1)

-- the digits of a byte spell it
pub pair_digits : (v : ℕ) → v < 256 → pair_value (digit_of (v / 16)) (digit_of (v % 16)) ≡ Some v
pair_digits v h =
    let n : v / 16 * 16 + v % 16 ≡ v = omega arith in
    pair_both (digit_of (v / 16)) (digit_of (v % 16)) (v / 16) (v % 16) (value_digit (v / 16) (omega arith)) (value_digit (v % 16) (omega arith)) ∙ ap Some n
