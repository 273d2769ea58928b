-- PSF1's two bytes keep the laws on refusals.
use mathlib.Core.Path.{◌≡◌, refl, sym}
use mathlib.Core.List.{List, [], ◌∷◌, ◌++◌}
use Prim.Native.Nat.{ℕ, suc, ◌+◌, ◌*◌, ◌<◌}
use native.Mathlib.Omega.{arith}
use lib.ListN.{length, take}
use lib.Dec.{eqb, ltb}
use Rattle.base.proofs.Lists.{same2}
use Rattle.base.specs.Meaning.{Bytes}
use Rattle.base.proofs.Tests.{by_test}
use Rattle.std.specs.Prelude.{Ok, Err}
use Rattle.token.specs.declared.Malformed.TheVariants.{Cut, Bad}
use Rattle.token.specs.Reading.{Step}
use Rattle.token.proofs.Noncharacters.{low}
use Rattle.token.proofs.Stopping.{Begun, Stopping}
use Rattle.ucs2.specs.Reading.{read_ucs2, word, is_word}
use Rattle.ucs2.specs.Meaning.{word_bytes, Word}

-- two bytes are never cut, and bad at the second only
abbrev pub Whole : Step → Type 0
Whole (Ok (t, l)) = Unit {0}
Whole (Err Cut) = ⊥
Whole (Err (Bad k)) = k ≡ 1

pub word_whole : (w : ℕ) → Whole (word w)
word_whole w =
    by_test Whole (is_word w) _ _ (λ _. tt) (λ _.
    by_test Whole (ltb w 0xFFFE) _ _ (λ _. refl) (λ _.
    by_test Whole (eqb w 0xFFFE) _ _ (λ _. tt) (λ _. tt)))

begun_one : (a : ℕ) → a < 256 → Begun Word word_bytes (a ∷ [])
begun_one a h = record { value = a; more = 0 ∷ []; of = (omega arith, low a (omega arith)); same = same2 _ _ _ _ (omega arith) (omega arith) }

cut_begun : (s : List ℕ) → Bytes s → read_ucs2 s ≡ Err Cut → Begun Word word_bytes s
unfolding read_ucs2
cut_begun [] y e = record { value = 0; more = 0 ∷ 0 ∷ []; of = (omega arith, low 0 (omega arith)); same = refl }
cut_begun (a ∷ []) y e = begun_one a y.0
cut_begun (a ∷ (b ∷ t)) y e = absurd (rw e at (word_whole (a + 256 * b)))

no_bad : {A : Type 0} (x : Step) (k : ℕ) → x ≡ Err Cut → x ≡ Err (Bad k) → A
no_bad x k p q = let z : ◌≡◌ {A = ℕ} 0 1 = cc in absurd (omega arith)

bad_within : (s : List ℕ) (k : ℕ) → read_ucs2 s ≡ Err (Bad k) → k < length s
unfolding read_ucs2
bad_within [] k e = no_bad (Err Cut) k refl e
bad_within (a ∷ []) k e = no_bad (Err Cut) k refl e
bad_within (a ∷ (b ∷ t)) k e = let h : k ≡ 1 = rw e at (word_whole (a + 256 * b)) in omega arith

bad_cut : (s : List ℕ) (k : ℕ) → read_ucs2 s ≡ Err (Bad k) → read_ucs2 (take k s) ≡ Err Cut
unfolding read_ucs2
bad_cut [] k e = no_bad (Err Cut) k refl e
bad_cut (a ∷ []) k e = no_bad (Err Cut) k refl e
bad_cut (a ∷ (b ∷ t)) k e = let h : k ≡ 1 = rw e at (word_whole (a + 256 * b)) in rw h

bad_never : (s : List ℕ) (k : ℕ) (x : List ℕ) → read_ucs2 s ≡ Err (Bad k) → read_ucs2 (take (suc k) s ++ x) ≡ Err (Bad k)
unfolding read_ucs2
bad_never [] k x e = no_bad (Err Cut) k refl e
bad_never (a ∷ []) k x e = no_bad (Err Cut) k refl e
bad_never (a ∷ (b ∷ t)) k x e = let h : k ≡ 1 = rw e at (word_whole (a + 256 * b)) in mathlib.Core.Path.subst (λ (j : ℕ). read_ucs2 (take (suc j) (a ∷ (b ∷ t)) ++ x) ≡ Err (Bad k)) (sym h) e

nil_cut : read_ucs2 [] ≡ Err Cut
unfolding read_ucs2
nil_cut = refl

pub stopping_ucs2 : Stopping read_ucs2 2 Word word_bytes (0xFE ∷ 0xFF ∷ []) (0xFF ∷ 0xFF ∷ [])
stopping_ucs2 = record {
  nil_cut = nil_cut;
  cut_begun = cut_begun;
  bad_within = bad_within;
  bad_cut = bad_cut;
  bad_never = bad_never;
  start_begun = begun_one 0xFE (omega arith);
  end_begun = begun_one 0xFF (omega arith);
}
