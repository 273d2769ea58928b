-- What is read in UTF-8 was written: from the first byte's lead_row to the value and its bytes.
use Rattle.base.proofs.Handed.{pair_same}
use mathlib.Core.Path.{◌≡◌, refl, sym, ◌∙◌, ap}
use mathlib.Core.List.{List, [], ◌∷◌, ◌++◌}
use mathlib.Core.Bool.{Bool, true, false, ◌&&◌}
use mathlib.Core.Logic.{◌⊎◌, inl, inr}
use Prim.Native.Nat.{ℕ, suc, ◌+◌, ◌-◌, ◌*◌, ◌/◌, ◌%◌, ◌≤◌, ◌<◌}
use native.Mathlib.Omega.{arith}
use lib.ListN.{length, drop}
use lib.Seq.{drop_at}
use lib.Dec.{leb, eqb}
use borrow.Author.Tests.{leb-true}
use Rattle.base.proofs.Lists.{same2, same3, same4}
use Rattle.base.specs.Meaning.{pick}
use Rattle.base.proofs.Tests.{below}
use Rattle.token.specs.Meaning.{Noncharacter}
use Rattle.token.specs.declared.Token.TheVariants.{Value}
use Rattle.token.specs.Reading.{Step}
use Rattle.utf8.specs.declared.Lead.{Lead}
use Rattle.utf8.specs.Reading.{lead_row, lead_of, conts, permitted_at, read_value, read_utf8}
use Rattle.utf8.specs.Meaning.{utf8_bytes, Scalar, Utf8Value}
use Rattle.utf8.proofs.Rows.{row_1, row_2, row_3a, row_3b, row_3c, row_3d, row_4a, row_4b, row_4c, row_x, row_y}
use Rattle.utf8.proofs.First.{no_mark, as_bad, as_value, back_value}
use Rattle.utf8.proofs.Permitted.{value_permitted}
use Rattle.utf8.proofs.Writing.{bytes1, bytes2, bytes3, bytes4}
use Rattle.std.specs.Prelude.{Ok, Err}
use Rattle.token.specs.declared.Malformed.TheVariants.{Bad}

-- a continuation byte that was taken
record Took (n lo hi v k : ℕ) (s : List ℕ) (w l : ℕ) : Type 0 where
  byte : ℕ
  rest : List ℕ
  same : s ≡ byte ∷ rest
  low : lo ≤ byte
  high : byte ≤ hi
  then : conts n 0x80 0xBF (v * 64 + (byte - 0x80)) (k + 1) rest ≡ Ok (w, l)

took : (n lo hi v k : ℕ) (s : List ℕ) (w l : ℕ) → conts (suc n) lo hi v k s ≡ Ok (w, l) → Took n lo hi v k s w l
unfolding conts
took n lo hi v k [] w l e = let z : ◌≡◌ {A = ℕ} 0 1 = cc in absurd (omega arith)
took n lo hi v k (b ∷ s) w l e = go (leb lo b) refl (leb b hi) refl e
  where
    go : (x : Bool) → leb lo b ≡ x → (y : Bool) → leb b hi ≡ y →
        pick (x && y) (conts n 0x80 0xBF (v * 64 + (b - 0x80)) (k + 1) s) (Err (Bad k)) ≡ Ok (w, l) → Took n lo hi v k (b ∷ s) w l
    go true p true q f = record { byte = b; rest = s; same = refl; low = leb-true lo b p; high = leb-true b hi q; then = f }
    go true p false q f = let z : ◌≡◌ {A = ℕ} 0 1 = cc in absurd (omega arith)
    go false p y q f = let z : ◌≡◌ {A = ℕ} 0 1 = cc in absurd (omega arith)

last : (lo hi v k : ℕ) (s : List ℕ) (w l : ℕ) → conts 0 lo hi v k s ≡ Ok (w, l) → (w ≡ v) × (l ≡ k)
unfolding conts
last lo hi v k s w l e = let p = pair_same v w k l e in (sym p.0, sym p.1)

abbrev Formed : List ℕ → ℕ → ℕ → Type 0
Formed s v l = Scalar v × (l ≡ length (utf8_bytes v)) × (s ≡ utf8_bytes v ++ drop l s)

abbrev pub Written : List ℕ → ℕ → ℕ → Type 0
Written s v l = Utf8Value v × (l ≡ length (utf8_bytes v)) × (s ≡ utf8_bytes v ++ drop l s)

written : (x s : List ℕ) (v l : ℕ) → utf8_bytes v ≡ x → l ≡ length x → Scalar v → Formed (x ++ s) v l
written x s v l e n u = (u, rw e n, rw (e, drop_at x s l (sym n)))

back1 : (b : ℕ) (t : List ℕ) (v l lo hi : ℕ) → b < 0x80 → conts 0 lo hi (b % 128) 1 t ≡ Ok (v, l) → Formed (b ∷ t) v l
back1 b t v l lo hi h e =
    let f = last lo hi (b % 128) 1 t v l e in
    let q : v ≡ b = omega (arith, f.0) in
    written (b ∷ []) t v l (bytes1 v (omega arith) ∙ ap (λ (x : ℕ). x ∷ []) q) f.1 (inl (omega arith))

back2 : (b : ℕ) (t : List ℕ) (v l : ℕ) → 0xC2 ≤ b → b < 0xE0 → conts 1 0x80 0xBF (b % 32) 1 t ≡ Ok (v, l) → Formed (b ∷ t) v l
back2 b t v l g h e =
    let k = took 0 0x80 0xBF (b % 32) 1 t v l e in
    let f = last 0x80 0xBF (b % 32 * 64 + (k.byte - 0x80)) 2 k.rest v l k.then in
    let q = f.0 in
    rw k.same
    (written (b ∷ k.byte ∷ []) k.rest v l (bytes2 v (omega arith) (omega arith) ∙ same2 _ _ _ _ (omega arith) (omega arith)) f.1 (inl (omega arith)))

-- three bytes and four, with what their lead_row says of the second
record Took3 (lo hi x : ℕ) (t : List ℕ) (v l : ℕ) : Type 0 where
  c : ℕ
  d : ℕ
  rest : List ℕ
  same : t ≡ c ∷ d ∷ rest
  low : lo ≤ c
  high : c ≤ hi
  low' : 0x80 ≤ d
  high' : d ≤ 0xBF
  value : v ≡ (x * 64 + (c - 0x80)) * 64 + (d - 0x80)
  long : l ≡ 3

took3 : (lo hi x : ℕ) (t : List ℕ) (v l : ℕ) → conts 2 lo hi x 1 t ≡ Ok (v, l) → Took3 lo hi x t v l
took3 lo hi x t v l e =
    let j = took 1 lo hi x 1 t v l e in
    let k = took 0 0x80 0xBF (x * 64 + (j.byte - 0x80)) 2 j.rest v l j.then in
    let f = last 0x80 0xBF ((x * 64 + (j.byte - 0x80)) * 64 + (k.byte - 0x80)) 3 k.rest v l k.then in
    record {
      c = j.byte;
      d = k.byte;
      rest = k.rest;
      same = j.same ∙ ap (λ (y : List ℕ). j.byte ∷ y) k.same;
      low = j.low;
      high = j.high;
      low' = k.low;
      high' = k.high;
      value = f.0;
      long = f.1;
    }

back3 : (b : ℕ) (t : List ℕ) (v l lo hi : ℕ) (k : Took3 lo hi (b % 16) t v l) → 0xE0 ≤ b → b < 0xF0 → 0x80 ≤ lo → hi ≤ 0xBF → 0x800 ≤ v → Scalar v → Formed (b ∷ t) v l
back3 b t v l lo hi k g h i j m u =
    let x : v / 4096 ≡ v / 64 / 64 = omega arith in
    rw k.same
    (written (b ∷ k.c ∷ k.d ∷ []) k.rest v l (bytes3 v m (omega arith) ∙ same3 _ _ _ _ _ _ (omega arith) (omega arith) (omega arith)) k.long u)

record Took4 (lo hi x : ℕ) (t : List ℕ) (v l : ℕ) : Type 0 where
  c : ℕ
  d : ℕ
  f : ℕ
  rest : List ℕ
  same : t ≡ c ∷ d ∷ f ∷ rest
  low : lo ≤ c
  high : c ≤ hi
  low' : 0x80 ≤ d
  high' : d ≤ 0xBF
  low'' : 0x80 ≤ f
  high'' : f ≤ 0xBF
  value : v ≡ ((x * 64 + (c - 0x80)) * 64 + (d - 0x80)) * 64 + (f - 0x80)
  long : l ≡ 4

took4 : (lo hi x : ℕ) (t : List ℕ) (v l : ℕ) → conts 3 lo hi x 1 t ≡ Ok (v, l) → Took4 lo hi x t v l
took4 lo hi x t v l e =
    let i = took 2 lo hi x 1 t v l e in
    let j = took 1 0x80 0xBF (x * 64 + (i.byte - 0x80)) 2 i.rest v l i.then in
    let k = took 0 0x80 0xBF ((x * 64 + (i.byte - 0x80)) * 64 + (j.byte - 0x80)) 3 j.rest v l j.then in
    let f = last 0x80 0xBF (((x * 64 + (i.byte - 0x80)) * 64 + (j.byte - 0x80)) * 64 + (k.byte - 0x80)) 4 k.rest v l k.then in
    record {
      c = i.byte;
      d = j.byte;
      f = k.byte;
      rest = k.rest;
      same = i.same ∙ ap (λ (y : List ℕ). i.byte ∷ y) (j.same ∙ ap (λ (y : List ℕ). j.byte ∷ y) k.same);
      low = i.low;
      high = i.high;
      low' = j.low;
      high' = j.high;
      low'' = k.low;
      high'' = k.high;
      value = f.0;
      long = f.1;
    }

back4 : (b : ℕ) (t : List ℕ) (v l lo hi : ℕ) (k : Took4 lo hi (b % 8) t v l) → 0xF0 ≤ b → b < 0xF5 → 0x80 ≤ lo → hi ≤ 0xBF → 0x10000 ≤ v → v < 0x110000 → Formed (b ∷ t) v l
back4 b t v l lo hi k g h i j m u =
    let a : v / 64 ≡ (b % 8 * 64 + (k.c - 0x80)) * 64 + (k.d - 0x80) = omega arith in
    let x : v / 4096 ≡ v / 64 / 64 = omega arith in
    let w : v / 4096 ≡ b % 8 * 64 + (k.c - 0x80) = omega arith in
    let y : v / 262144 ≡ v / 4096 / 64 = omega arith in
    let z : v / 262144 ≡ b % 8 = omega arith in
    rw k.same
    (written (b ∷ k.c ∷ k.d ∷ k.f ∷ []) k.rest v l (bytes4 v m ∙ same4 _ _ _ _ _ _ _ _ (omega arith) (omega arith) (omega arith) (omega arith)) k.long (inr (omega arith, u)))

-- from the first byte's lead_row
module _ (b : ℕ) (t : List ℕ) (v l : ℕ) (e : read_utf8 (b ∷ t) ≡ Ok (Value v, l)) (h : b < 254) where
  by_row : (r : Lead) → r ≡ lead_of b → (r.len ≡ 0 → ⊥) → conts (r.len - 1) r.lo r.hi (b % r.modulus) 1 t ≡ Ok (v, l)
  by_row r q z = (value_permitted (r.len - 1) _ v l (back_value _ v l (as_value (b ∷ t) (omega arith) (λ p. omega arith) (λ p. omega arith) r q z ∙ e))).0

  no_row : (r : Lead) → r ≡ lead_of b → r.len ≡ 0 → Formed (b ∷ t) v l
  no_row r q z =
      let f : ◌≡◌ {A = Step} (Err (Bad 0)) (Ok (Value v, l)) = as_bad (b ∷ t) (omega arith) (λ p. omega arith) (λ p. omega arith) r q z ∙ e in
      let z : ◌≡◌ {A = ℕ} 0 1 = cc in absurd (omega arith)

  w3a : Took3 0xA0 0xBF (b % 16) t v l → b ≡ 0xE0 → Formed (b ∷ t) v l
  w3a k q = back3 b t v l 0xA0 0xBF k (omega arith) (omega arith) (omega arith) (omega arith) (omega arith) (inl (omega arith))

  w3b : Took3 0x80 0xBF (b % 16) t v l → 0xE1 ≤ b → b < 0xED → Formed (b ∷ t) v l
  w3b k p q = back3 b t v l 0x80 0xBF k (omega arith) (omega arith) (omega arith) (omega arith) (omega arith) (inl (omega arith))

  w3c : Took3 0x80 0x9F (b % 16) t v l → b ≡ 0xED → Formed (b ∷ t) v l
  w3c k q = back3 b t v l 0x80 0x9F k (omega arith) (omega arith) (omega arith) (omega arith) (omega arith) (inl (omega arith))

  w3d : Took3 0x80 0xBF (b % 16) t v l → 0xEE ≤ b → b < 0xF0 → Formed (b ∷ t) v l
  w3d k p q = back3 b t v l 0x80 0xBF k (omega arith) (omega arith) (omega arith) (omega arith) (omega arith) (inr (omega arith, omega arith))

  w4a : Took4 0x90 0xBF (b % 8) t v l → b ≡ 0xF0 → Formed (b ∷ t) v l
  w4a k q = back4 b t v l 0x90 0xBF k (omega arith) (omega arith) (omega arith) (omega arith) (omega arith) (omega arith)

  w4b : Took4 0x80 0xBF (b % 8) t v l → 0xF1 ≤ b → b < 0xF4 → Formed (b ∷ t) v l
  w4b k p q = back4 b t v l 0x80 0xBF k (omega arith) (omega arith) (omega arith) (omega arith) (omega arith) (omega arith)

  w4c : Took4 0x80 0x8F (b % 8) t v l → b ≡ 0xF4 → Formed (b ∷ t) v l
  w4c k q = back4 b t v l 0x80 0x8F k (omega arith) (omega arith) (omega arith) (omega arith) (omega arith) (omega arith)

  -- the ranges of the first byte, one after the other
  formed : Formed (b ∷ t) v l
  formed = by (below b 0x80) (below b 0xC2) (below b 0xE0) (below b 0xE1) (below b 0xED) (below b 0xEE) (below b 0xF0) (below b 0xF1) (below b 0xF4) (below b 0xF5)
    where
      by : (b < 0x80) ⊎ (0x80 ≤ b) → (b < 0xC2) ⊎ (0xC2 ≤ b) → (b < 0xE0) ⊎ (0xE0 ≤ b) → (b < 0xE1) ⊎ (0xE1 ≤ b) → (b < 0xED) ⊎ (0xED ≤ b) →
          (b < 0xEE) ⊎ (0xEE ≤ b) → (b < 0xF0) ⊎ (0xF0 ≤ b) → (b < 0xF1) ⊎ (0xF1 ≤ b) → (b < 0xF4) ⊎ (0xF4 ≤ b) → (b < 0xF5) ⊎ (0xF5 ≤ b) → Formed (b ∷ t) v l
      by (inl x) _ _ _ _ _ _ _ _ _ = back1 b t v l 0x80 0xBF x (by_row (lead_row 1 128 0x80 0xBF) (row_1 b (omega arith) x) (λ p. omega arith))
      by (inr y) (inl x) _ _ _ _ _ _ _ _ = no_row (lead_row 0 1 0x80 0xBF) (row_x b y x) refl
      by (inr _) (inr y) (inl x) _ _ _ _ _ _ _ = back2 b t v l y x (by_row (lead_row 2 32 0x80 0xBF) (row_2 b y x) (λ p. omega arith))
      by (inr _) (inr _) (inr y) (inl x) _ _ _ _ _ _ = w3a (took3 _ _ _ _ _ _ (by_row (lead_row 3 16 0xA0 0xBF) (row_3a b y x) (λ p. omega arith))) (omega arith)
      by (inr _) (inr _) (inr _) (inr y) (inl x) _ _ _ _ _ = w3b (took3 _ _ _ _ _ _ (by_row (lead_row 3 16 0x80 0xBF) (row_3b b y x) (λ p. omega arith))) y x
      by (inr _) (inr _) (inr _) (inr _) (inr y) (inl x) _ _ _ _ = w3c (took3 _ _ _ _ _ _ (by_row (lead_row 3 16 0x80 0x9F) (row_3c b y x) (λ p. omega arith))) (omega arith)
      by (inr _) (inr _) (inr _) (inr _) (inr _) (inr y) (inl x) _ _ _ = w3d (took3 _ _ _ _ _ _ (by_row (lead_row 3 16 0x80 0xBF) (row_3d b y x) (λ p. omega arith))) y x
      by (inr _) (inr _) (inr _) (inr _) (inr _) (inr _) (inr y) (inl x) _ _ = w4a (took4 _ _ _ _ _ _ (by_row (lead_row 4 8 0x90 0xBF) (row_4a b y x) (λ p. omega arith))) (omega arith)
      by (inr _) (inr _) (inr _) (inr _) (inr _) (inr _) (inr _) (inr y) (inl x) _ = w4b (took4 _ _ _ _ _ _ (by_row (lead_row 4 8 0x80 0xBF) (row_4b b y x) (λ p. omega arith))) y x
      by (inr _) (inr _) (inr _) (inr _) (inr _) (inr _) (inr _) (inr _) (inr y) (inl x) = w4c (took4 _ _ _ _ _ _ (by_row (lead_row 4 8 0x80 0x8F) (row_4c b y x) (λ p. omega arith))) (omega arith)
      by (inr _) (inr _) (inr _) (inr _) (inr _) (inr _) (inr _) (inr _) (inr _) (inr y) = no_row (lead_row 0 1 0x80 0xBF) (row_y b y (omega arith)) refl

  -- it is no noncharacter
  none : Noncharacter v → ⊥
  unfolding read_value
  none = go (eqb (lead_of b).len 0) (back_value (read_value (b ∷ t)) v l (no_mark (b ∷ t) (omega arith) (λ p. omega arith) (λ p. omega arith) ∙ e))
    where
      go : (x : Bool) → pick x (Err (Bad 0)) (permitted_at ((lead_of b).len - 1) (conts ((lead_of b).len - 1) (lead_of b).lo (lead_of b).hi (b % (lead_of b).modulus) 1 t)) ≡ Ok (v, l) → Noncharacter v → ⊥
      go true f = let z : ◌≡◌ {A = ℕ} 0 1 = cc in absurd (omega arith)
      go false f = (value_permitted ((lead_of b).len - 1) _ v l f).1

  pub value_of : Written (b ∷ t) v l
  value_of = let w = formed in ((w.0, none), w.1, w.2)
