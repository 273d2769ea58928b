-- PSF1's two bytes keep the laws of a coding.
use mathlib.Core.Path.{◌≡◌, refl, sym, ◌∙◌, subst}
use mathlib.Core.List.{List, [], ◌∷◌, ◌++◌}
use mathlib.Core.Bool.{true, false}
use Prim.Native.Nat.{ℕ, ◌+◌, ◌*◌, ◌/◌, ◌%◌, ◌<◌}
use native.Mathlib.Omega.{arith}
use lib.ListN.{drop}
use lib.Dec.{eqb, ltb}
use borrow.Author.Tests.{eqb-true, eqb-false, ltb-false, lt-ltb}
use Rattle.base.specs.Meaning.{Bytes}
use Rattle.base.specs.Reading.{when}
use Rattle.base.proofs.Tests.{by_test}
use Rattle.token.specs.Meaning.{Noncharacter}
use Rattle.token.specs.Reading.{is_noncharacter}
use Rattle.token.proofs.Noncharacters.{noncharacter_exactly}
use Rattle.std.specs.Prelude.{Ok, Err}
use Rattle.token.specs.declared.Malformed.TheVariants.{Cut, Bad}
use Rattle.token.specs.declared.Token.TheVariants.{Value, Start, End}
use Rattle.token.specs.Reading.{Step}
use Rattle.token.proofs.Coded.{Coded}
use Rattle.ucs2.specs.Reading.{read_ucs2, word, is_word}
use Rattle.ucs2.specs.Meaning.{word_bytes, Word}
use Rattle.ucs2.proofs.Words.{noncharacter_no_word, word_exactly}

-- what a word is read as, taken back: a value, a mark that is no value, or none of these
abbrev WordIs : ℕ → Step → Type 0
WordIs w (Ok (Value v, l)) = Word w × (v ≡ w) × (l ≡ 2)
WordIs w (Ok (Start, l)) = (w ≡ 65534) × (l ≡ 2)
WordIs w (Ok (End, l)) = (65534 < w) × (l ≡ 2)
WordIs w (Err Cut) = ⊥
WordIs w (Err (Bad k)) = (Word w → ⊥) × (k ≡ 1)

word_is : (w : ℕ) → WordIs w (word w)
word_is w =
    by_test (WordIs w) (is_word w) _ _ (λ x. ((word_exactly w).0 x, refl, refl)) (λ x.
    by_test (WordIs w) (ltb w 65534) _ _ (λ y. (no_word w x, refl)) (λ y.
    by_test (WordIs w) (eqb w 65534) _ _ (λ z. (eqb-true w 65534 z, refl)) (λ z.
    let m = ltb-false w 65534 y in
    let n = eqb-false w 65534 z in
    (omega arith, refl))))
  where
    no_word : (v : ℕ) → is_word v ≡ false → Word v → ⊥
    no_word v e h = let q : true ≡ false = sym ((word_exactly v).1 h) ∙ e in let z : ◌≡◌ {A = ℕ} 0 1 = cc in absurd (omega arith)

value_read : (v : ℕ) (s : List ℕ) → Word v → read_ucs2 (word_bytes v ++ s) ≡ Ok (Value v, 2)
unfolding read_ucs2
value_read v s h =
    let e : v % 256 + 256 * (v / 256) ≡ v = omega arith in
    rw (e, (word_exactly v).1 h)

-- a noncharacter is bad at its second byte, whatever follows
pub noncharacter_read : (v : ℕ) (s : List ℕ) → v < 0xFFFE → Noncharacter v → read_ucs2 (word_bytes v ++ s) ≡ Err (Bad 1)
unfolding read_ucs2
noncharacter_read v s h n =
    let e : v % 256 + 256 * (v / 256) ≡ v = omega arith in
    rw (e, sym (noncharacter_no_word v ((noncharacter_exactly v).1 n)), lt-ltb v 65534 h)

-- two bytes in front
pair_same : (a b : ℕ) (t : List ℕ) (c d : ℕ) → c ≡ a → d ≡ b → a ∷ b ∷ t ≡ c ∷ d ∷ t
pair_same a b t c d p q = cc

read_value_lem : (s : List ℕ) → Bytes s → (v l : ℕ) → read_ucs2 s ≡ Ok (Value v, l) → Word v × (l ≡ 2) × (s ≡ word_bytes v ++ drop l s)
unfolding read_ucs2
read_value_lem [] y v l e = let z : ◌≡◌ {A = ℕ} 0 1 = cc in absurd (omega arith)
read_value_lem (a ∷ []) y v l e = let z : ◌≡◌ {A = ℕ} 0 1 = cc in absurd (omega arith)
read_value_lem (a ∷ (b ∷ t)) y v l e =
    let w : WordIs (a + 256 * b) (Ok (Value v, l)) = rw e at (word_is (a + 256 * b)) in
    let lo = w.0.0 in
    let f = w.1 in
    let ya = y.0 in
    let yb = y.1.0 in
    (subst Word (sym f) w.0, w.2, rw w.2 (pair_same a b t _ _ (omega arith) (omega arith)))

read_start : (s : List ℕ) → Bytes s → (l : ℕ) → read_ucs2 s ≡ Ok (Start, l) → (l ≡ 2) × (s ≡ 0xFE ∷ 0xFF ∷ drop l s)
unfolding read_ucs2
read_start [] y l e = let z : ◌≡◌ {A = ℕ} 0 1 = cc in absurd (omega arith)
read_start (a ∷ []) y l e = let z : ◌≡◌ {A = ℕ} 0 1 = cc in absurd (omega arith)
read_start (a ∷ (b ∷ t)) y l e =
    let w : WordIs (a + 256 * b) (Ok (Start, l)) = rw e at (word_is (a + 256 * b)) in
    let ya = y.0 in
    let yb = y.1.0 in
    (w.1, rw w.1 (pair_same a b t _ _ (omega (arith, w.0)) (omega (arith, w.0))))

read_end : (s : List ℕ) → Bytes s → (l : ℕ) → read_ucs2 s ≡ Ok (End, l) → (l ≡ 2) × (s ≡ 0xFF ∷ 0xFF ∷ drop l s)
unfolding read_ucs2
read_end [] y l e = let z : ◌≡◌ {A = ℕ} 0 1 = cc in absurd (omega arith)
read_end (a ∷ []) y l e = let z : ◌≡◌ {A = ℕ} 0 1 = cc in absurd (omega arith)
read_end (a ∷ (b ∷ t)) y l e =
    let w : WordIs (a + 256 * b) (Ok (End, l)) = rw e at (word_is (a + 256 * b)) in
    let ya = y.0 in
    let yb = y.1.0 in
    (w.1, rw w.1 (pair_same a b t _ _ (omega (arith, w.0)) (omega (arith, w.0))))

start_read : (s : List ℕ) → read_ucs2 (0xFE ∷ 0xFF ∷ s) ≡ Ok (Start, 2)
unfolding read_ucs2 is_word when is_noncharacter
start_read s = refl

end_read : (s : List ℕ) → read_ucs2 (0xFF ∷ 0xFF ∷ s) ≡ Ok (End, 2)
unfolding read_ucs2 is_word when is_noncharacter
end_read s = refl

pub coded_ucs2 : Coded read_ucs2 2 Word word_bytes (0xFE ∷ 0xFF ∷ []) (0xFF ∷ 0xFF ∷ [])
coded_ucs2 = record {
  value_read = value_read;
  start_read = start_read;
  end_read = end_read;
  read_value_lem = read_value_lem;
  read_start = read_start;
  read_end = read_end;
  value_some = λ v p. omega arith;
  start_long = refl;
  end_long = refl;
  mark_some = omega arith;
  value_bytes_lem = λ v p. let h = p.0 in (omega arith, (omega arith, tt));
  start_bytes_lem = (omega arith, (omega arith, tt));
  end_bytes_lem = (omega arith, (omega arith, tt));
}
