-- The key of a value and the length that is told by it: what each says of the other; and which bytes make a noncharacter.
use mathlib.Core.Path.{◌≡◌, refl, sym, ◌∙◌, ap}
use mathlib.Core.Bool.{Bool, true, false}
use mathlib.Core.List.{List}
use mathlib.Core.Logic.{◌⊎◌, inl, inr}
use Prim.Native.Nat.{ℕ, ◌+◌, ◌-◌, ◌*◌, ◌%◌, ◌≤◌, ◌<◌}
use native.Mathlib.Omega.{arith}
use lib.ListN.{length, get_or}
use borrow.Author.Tests.{lt-ltb, le-ltb, le-leb, lt-leb, eq-eqb, ne_eqb}
use Rattle.base.specs.Meaning.{pick}
use Rattle.base.proofs.Tests.{below}
use Rattle.token.specs.Reading.{is_noncharacter}
use Rattle.token.proofs.Noncharacters.{under, among, in_plane}
use Rattle.utf8.specs.Reading.{lead_row, permitted_at, read_value, utf8_key, plain_len}
use Rattle.utf8.proofs.Rows.{row_y}
use Rattle.utf8.proofs.First.{no_value}
use Rattle.std.specs.Prelude.{Option, None, Some, Ok, Err}
use Rattle.token.specs.declared.Malformed.TheVariants.{Bad}

-- the key by the value
pub key_itself : (v : ℕ) → v < 0x80 → v ≡ utf8_key v
unfolding utf8_key
key_itself v h = rw (lt-ltb v 0x80 h)

pub key_above : (v : ℕ) → 0x80 ≤ v → 0x80 + v % 64 ≡ utf8_key v
unfolding utf8_key
key_above v h = rw (le-ltb v 0x80 h)

-- it is a byte
pub key_byte : (v : ℕ) → utf8_key v < 256
key_byte v = by (below v 0x80)
  where
    by : (v < 0x80) ⊎ (0x80 ≤ v) → utf8_key v < 256
    by (inl h) = omega (arith, key_itself v h)
    by (inr h) = omega (arith, key_above v h)

-- and the last one of the value's
pub key_last : (u z : ℕ) → 2 ≤ u → 0x80 ≤ z → z < 0xC0 → utf8_key (u * 64 + (z - 0x80)) ≡ z
key_last u z g h k = sym (key_above (u * 64 + (z - 0x80)) (omega arith)) ∙ omega arith

-- FE and FF begin no value
pub mark_bad : (s : List ℕ) → 0 < length s → (b : ℕ) → get_or s 0 0 ≡ b → 254 ≤ b → b < 256 → read_value s ≡ Err (Bad 0)
mark_bad s h b e g k = sym (no_value s h (lead_row 0 1 128 191) (row_y (get_or s 0 0) (omega arith) (omega arith)) refl)

-- the length of what was read, by its last byte z
module _ (key j v l z : ℕ) (e : utf8_key v ≡ z) where
  pub key_met : z ≡ key → None ≡ plain_len key (permitted_at j (Ok (v, l)))
  unfolding permitted_at
  key_met q = go (is_noncharacter v)
    where
      go : (t : Bool) → None ≡ plain_len key (pick t (Err (Bad j)) (Ok (v, l)))
      go true = refl
      go false = rw (eq-eqb (utf8_key v) key (e ∙ q))

  pub key_other : (z ≡ key → ⊥) → pick (is_noncharacter v) None (Some l) ≡ plain_len key (permitted_at j (Ok (v, l)))
  unfolding permitted_at
  key_other n = go (is_noncharacter v)
    where
      go : (t : Bool) → pick t None (Some l) ≡ plain_len key (pick t (Err (Bad j)) (Ok (v, l)))
      go true = refl
      go false = rw (ne_eqb (utf8_key v) key (λ q. n (sym e ∙ q)))

-- l, but none of a noncharacter
abbrev pub allowed : ℕ → ℕ → Option ℕ
allowed v l = pick (is_noncharacter v) None (Some l)

-- by the number
module _ (v l : ℕ) where
  pub free_under : v < 0xFDD0 → Some l ≡ allowed v l
  free_under h = rw (sym (under v h))

  pub free_above : 0xFDF0 ≤ v → v % 0x10000 < 0xFFFE → Some l ≡ allowed v l
  free_above g h = rw (sym (in_plane v (omega arith, g)) ∙ lt-leb 0xFFFE (v % 0x10000) h)

  pub barred_among : 0xFDD0 ≤ v → v < 0xFDF0 → None ≡ allowed v l
  barred_among g h = rw (sym (among v (g, h)))

  pub barred_above : 0xFDF0 ≤ v → 0xFFFE ≤ v % 0x10000 → None ≡ allowed v l
  barred_above g h = rw (sym (in_plane v (omega arith, g)) ∙ le-leb 0xFFFE (v % 0x10000) h)

-- by three bytes: before EF, and behind it
module _ (b x y : ℕ) where
  pub three_low : (b < 239) × (224 ≤ b) × (128 ≤ x) × (x < 192) × (y < 192) → Some 3 ≡ allowed ((b % 16 * 64 + (x - 128)) * 64 + (y - 128)) 3
  three_low (h, g, i, j, k) = free_under _ 3 (omega arith)

  pub three_under : (b ≡ 239) × (x ≡ 183) × (128 ≤ y) × (y < 144) → Some 3 ≡ allowed ((b % 16 * 64 + (x - 128)) * 64 + (y - 128)) 3
  three_under (h, g, j, k) = free_under _ 3 (omega arith)

  pub three_among : (b ≡ 239) × (x ≡ 183) × (144 ≤ y) × (y < 176) → None ≡ allowed ((b % 16 * 64 + (x - 128)) * 64 + (y - 128)) 3
  three_among (h, g, j, k) = barred_among _ 3 (omega arith) (omega arith)

  pub three_above : (b ≡ 239) × (x ≡ 183) × (176 ≤ y) × (y < 192) → Some 3 ≡ allowed ((b % 16 * 64 + (x - 128)) * 64 + (y - 128)) 3
  three_above (h, g, j, k) = free_above _ 3 (omega arith) (omega arith)

  pub three_before : (b ≡ 239) × (x ≡ 191) × (128 ≤ y) × (y < 190) → Some 3 ≡ allowed ((b % 16 * 64 + (x - 128)) * 64 + (y - 128)) 3
  three_before (h, g, j, k) = free_above _ 3 (omega arith) (omega arith)

  pub three_other : (b ≡ 239) × (128 ≤ x) × (x < 192) × ((x ≡ 183) → ⊥) × ((x ≡ 191) → ⊥) × (128 ≤ y) × (y < 192) → Some 3 ≡ allowed ((b % 16 * 64 + (x - 128)) * 64 + (y - 128)) 3
  three_other (h, g, i, f, e, j, k) = by (below x 183)
    where
      by : (x < 183) ⊎ (183 ≤ x) → Some 3 ≡ allowed ((b % 16 * 64 + (x - 128)) * 64 + (y - 128)) 3
      by (inl q) = free_under _ 3 (omega arith)
      by (inr q) = free_above _ 3 (omega arith) (omega arith)

  pub three_last : (b ≡ 239) × (x ≡ 191) × (190 ≤ y) × (y < 192) → None ≡ allowed ((b % 16 * 64 + (x - 128)) * 64 + (y - 128)) 3
  three_last (h, g, j, k) = barred_above _ 3 (omega arith) (omega arith)

-- by four bytes: the number's place in its plane
plane : (u y z : ℕ) → y < 64 → z < 64 → ((u * 64 + y) * 64 + z) % 65536 ≡ u % 16 * 4096 + y * 64 + z
plane u y z g h = omega arith

module _ (b x y z : ℕ) where
  four_plane : (128 ≤ x) × (128 ≤ y) × (y < 192) × (128 ≤ z) × (z < 192) →
      (((b % 8 * 64 + (x - 128)) * 64 + (y - 128)) * 64 + (z - 128)) % 65536 ≡ x % 16 * 4096 + (y - 128) * 64 + (z - 128)
  four_plane (f, g, h, i, j) =
      let e : (b % 8 * 64 + (x - 128)) % 16 ≡ x % 16 = omega arith in
      plane (b % 8 * 64 + (x - 128)) (y - 128) (z - 128) (omega arith) (omega arith) ∙ ap (λ (w : ℕ). w * 4096 + (y - 128) * 64 + (z - 128)) e

  pub four_free : (128 ≤ x) × (128 ≤ y) × (y < 192) × (128 ≤ z) × (z < 192) × (16 ≤ b % 8 * 64 + (x - 128)) → (z < 190) ⊎ ((y < 191) ⊎ (x % 16 < 15)) →
      Some 4 ≡ allowed (((b % 8 * 64 + (x - 128)) * 64 + (y - 128)) * 64 + (z - 128)) 4
  four_free (f, g, h, i, j, k) w = free_above _ 4 (omega arith) (let e = four_plane (f, g, h, i, j) in go w e)
    where
      go : (z < 190) ⊎ ((y < 191) ⊎ (x % 16 < 15)) → (((b % 8 * 64 + (x - 128)) * 64 + (y - 128)) * 64 + (z - 128)) % 65536 ≡ x % 16 * 4096 + (y - 128) * 64 + (z - 128) →
          (((b % 8 * 64 + (x - 128)) * 64 + (y - 128)) * 64 + (z - 128)) % 65536 < 0xFFFE
      go (inl q) e = omega arith
      go (inr (inl q)) e = omega arith
      go (inr (inr q)) e = omega arith

  pub four_last : (128 ≤ x) × (191 ≤ y) × (y < 192) × (190 ≤ z) × (z < 192) × (16 ≤ b % 8 * 64 + (x - 128)) × (15 ≤ x % 16) →
      None ≡ allowed (((b % 8 * 64 + (x - 128)) * 64 + (y - 128)) * 64 + (z - 128)) 4
  four_last (f, g, h, i, j, k, l) =
      let m : (128 ≤ x) × (128 ≤ y) × (y < 192) × (128 ≤ z) × (z < 192) = omega arith in
      let e = four_plane m in barred_above _ 4 (omega arith) (omega arith)
