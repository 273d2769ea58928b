-- UTF-8 with FE and FF as marks keeps the laws on refusals.
use mathlib.Core.Path.{◌≡◌, refl, sym, ◌∙◌, ap}
use mathlib.Core.List.{List, [], ◌∷◌, ◌++◌, append-nil}
use mathlib.Core.Bool.{Bool, true, false, ◌&&◌}
use mathlib.Core.Logic.{◌⊎◌, inl, inr}
use Prim.Native.Nat.{ℕ, zero, suc, ◌+◌, ◌-◌, ◌*◌, ◌%◌, ◌≤◌, ◌<◌}
use native.Mathlib.Omega.{arith}
use lib.ListN.{length, take}
use lib.Seq.{drop-length}
use lib.Dec.{leb, eqb, leb→le, eqb→eq}
use borrow.Author.Tests.{eqb-false, leb-true, eq-eqb}
use Rattle.base.specs.Meaning.{pick, Bytes}
use Rattle.base.specs.Reading.{within}
use Rattle.base.proofs.Ranged.{ranged}
use Rattle.token.specs.declared.Token.TheVariants.{Value, Start, End}
use Rattle.token.specs.Reading.{Step}
use Rattle.token.specs.Meaning.{Noncharacter}
use Rattle.token.proofs.Noncharacters.{low, round}
use Rattle.token.proofs.Stopping.{Begun, Stopping}
use Rattle.utf8.specs.Reading.{lead_of, conts, permitted_at, read_value, as_token, read_utf8}
use Rattle.utf8.specs.Meaning.{utf8_bytes, Utf8Value}
use Rattle.utf8.proofs.First.{as_value, back_cut, back_bad}
use Rattle.utf8.proofs.Permitted.{permitted_none, token_permitted, cut_permitted, bad_permitted}
use Rattle.utf8.proofs.Conts.{reached}
use Rattle.utf8.proofs.Growing.{conts_short}
use Rattle.utf8.proofs.Writing.{further}
use Rattle.utf8.proofs.Reading.{value_of}
use Rattle.utf8.proofs.Coding.{read_nil}
use Rattle.std.specs.Prelude.{Result, Ok, Err}
use Rattle.token.specs.declared.Malformed.{Malformed}
use Rattle.token.specs.declared.Malformed.TheVariants.{Cut, Bad}

-- the bounds of every row are some
some_bounds : (b : ℕ) → b < 256 → (lead_of b).lo ≤ (lead_of b).hi
unfolding lead_of
some_bounds b h = leb→le (lead_of b).lo (lead_of b).hi (ranged (λ x. leb (lead_of x).lo (lead_of x).hi) 256 0 tt b (omega arith) (omega arith))

-- the second byte of two begins at 80
two_low : (b : ℕ) → b < 256 → (lead_of b).len ≡ 2 → (lead_of b).lo ≡ 0x80
unfolding lead_of
two_low b h e = rw (eq-eqb (lead_of b).len 2 e) at (eqb→eq (pick (eqb (lead_of b).len 2) (lead_of b).lo 0x80) 0x80 (ranged (λ x. eqb (pick (eqb (lead_of x).len 2) (lead_of x).lo 0x80) 0x80) 256 0 tt b (omega arith) (omega arith)))

-- what is begun can be brought to a value
record Grown (n lo hi v k : ℕ) (s : List ℕ) : Type 0 where
  more : List ℕ
  value : ℕ
  reads : conts n lo hi v k (s ++ more) ≡ Ok (value, (k + length (s ++ more)))
  -- the last byte's bits are 0, so the value is no noncharacter
  round : 1 ≤ n → (n ≡ 1 → lo ≡ 0x80) → value % 64 ≡ 0

fill : (n lo hi v k : ℕ) → lo ≤ hi → Grown n lo hi v k []
fill zero lo hi v k h = let e : k + 0 ≡ k = omega arith in record { more = []; value = v; reads = rw e (reached lo hi v k []); round = λ p q. absurd (omega arith) }
fill (suc zero) lo hi v k h =
    record {
      more = lo ∷ [];
      value = v * 64 + (lo - 0x80);
      reads = further 0 lo hi v k lo [] (omega arith) h ∙ reached 0x80 0xBF (v * 64 + (lo - 0x80)) (k + 1) [];
      round = λ p q. omega (arith, q refl);
    }
fill (suc (suc n)) lo hi v k h =
    let r = fill (suc n) 0x80 0xBF (v * 64 + (lo - 0x80)) (k + 1) (omega arith) in
    let e : k + suc (length r.more) ≡ k + 1 + length r.more = omega arith in
    record {
      more = lo ∷ r.more;
      value = r.value;
      reads = further (suc n) lo hi v k lo r.more (omega arith) h ∙ r.reads ∙ ap (λ (m : ℕ). Ok (r.value, m)) (sym e);
      round = λ p q. r.round (omega arith) (λ _. refl);
    }

grow : (n lo hi v k : ℕ) (s : List ℕ) → lo ≤ hi → conts n lo hi v k s ≡ Err Cut → Grown n lo hi v k s
unfolding conts
grow zero lo hi v k s h e = let z : ◌≡◌ {A = ℕ} 0 1 = cc in absurd (omega arith)
grow (suc n) lo hi v k [] h e = fill (suc n) lo hi v k h
grow (suc n) lo hi v k (b ∷ s) h e = go (leb lo b) refl (leb b hi) refl e (grow n 0x80 0xBF (v * 64 + (b - 0x80)) (k + 1) s (omega arith))
  where
    go : (x : Bool) → leb lo b ≡ x → (y : Bool) → leb b hi ≡ y → pick (x && y) (conts n 0x80 0xBF (v * 64 + (b - 0x80)) (k + 1) s) (Err (Bad k)) ≡ Err Cut →
        (conts n 0x80 0xBF (v * 64 + (b - 0x80)) (k + 1) s ≡ Err Cut → Grown n 0x80 0xBF (v * 64 + (b - 0x80)) (k + 1) s) → Grown (suc n) lo hi v k (b ∷ s)
    go true p true q f ih =
        let r = ih f in
        let e : k + suc (length (s ++ r.more)) ≡ k + 1 + length (s ++ r.more) = omega arith in
        let m = conts_short n 0x80 0xBF (v * 64 + (b - 0x80)) (k + 1) s f in
        record {
          more = r.more;
          value = r.value;
          reads = further n lo hi v k b (s ++ r.more) (leb-true lo b p) (leb-true b hi q) ∙ r.reads ∙ ap (λ (m : ℕ). Ok (r.value, m)) (sym e);
          round = λ _ _. r.round (omega arith) (λ _. refl);
        }
    go true p false q f ih = let z : ◌≡◌ {A = ℕ} 0 1 = cc in absurd (omega arith)
    go false p y q f ih = let z : ◌≡◌ {A = ℕ} 0 1 = cc in absurd (omega arith)

-- a byte out of its bounds
record Stopped (n lo hi v k : ℕ) (s : List ℕ) (j : ℕ) : Type 0 where
  good : ℕ
  place : j ≡ k + good
  within_list : good < length s
  cut : conts n lo hi v k (take good s) ≡ Err Cut
  never : (x : List ℕ) → conts n lo hi v k (take (suc good) s ++ x) ≡ Err (Bad j)

no_bad : {A : Type 0} (x : Step) (j : ℕ) → x ≡ Err (Bad j) → x ≡ Err Cut → A
no_bad x j e f = let z : ◌≡◌ {A = ℕ} 0 1 = cc in absurd (omega arith)

stopped : (n lo hi v k : ℕ) (s : List ℕ) (j : ℕ) → conts n lo hi v k s ≡ Err (Bad j) → Stopped n lo hi v k s j
unfolding conts
stopped zero lo hi v k s j e = let z : ◌≡◌ {A = ℕ} 0 1 = cc in absurd (omega arith)
stopped (suc n) lo hi v k [] j e = let z : ◌≡◌ {A = ℕ} 0 1 = cc in absurd (omega arith)
stopped (suc n) lo hi v k (b ∷ s) j e = go (within lo hi b) refl e (stopped n 0x80 0xBF (v * 64 + (b - 0x80)) (k + 1) s j)
  where
    go : (x : Bool) → within lo hi b ≡ x → pick x (conts n 0x80 0xBF (v * 64 + (b - 0x80)) (k + 1) s) (Err (Bad k)) ≡ Err (Bad j) →
        (conts n 0x80 0xBF (v * 64 + (b - 0x80)) (k + 1) s ≡ Err (Bad j) → Stopped n 0x80 0xBF (v * 64 + (b - 0x80)) (k + 1) s j) → Stopped (suc n) lo hi v k (b ∷ s) j
    go true p f ih =
        let r = ih f in
        record { good = suc r.good; place = omega (arith, r.place); within_list = omega (arith, r.within_list); cut = rw p r.cut; never = λ x. rw p (r.never x) }
    go false p f ih =
        let q : k ≡ j = cc in
        record { good = 0; place = omega arith; within_list = omega arith; cut = refl; never = λ x. rw (p, q) }

-- a value that is all there: it stays whatever follows, and without its last byte it is cut
record Whole (n lo hi v k : ℕ) (s : List ℕ) (w l : ℕ) : Type 0 where
  within_list : n ≤ length s
  kept : (x : List ℕ) → conts n lo hi v k (take n s ++ x) ≡ Ok (w, l)
  cut : (m : ℕ) → n ≡ suc m → conts n lo hi v k (take m s) ≡ Err Cut

whole : (n lo hi v k : ℕ) (s : List ℕ) (w l : ℕ) → conts n lo hi v k s ≡ Ok (w, l) → Whole n lo hi v k s w l
unfolding conts
whole zero lo hi v k s w l e = record { within_list = omega arith; kept = λ x. e; cut = λ m q. absurd (omega arith) }
whole (suc n) lo hi v k [] w l e = let z : ◌≡◌ {A = ℕ} 0 1 = cc in absurd (omega arith)
whole (suc n) lo hi v k (b ∷ s) w l e = go (within lo hi b) refl e (whole n 0x80 0xBF (v * 64 + (b - 0x80)) (k + 1) s w l)
  where
    go : (x : Bool) → within lo hi b ≡ x → pick x (conts n 0x80 0xBF (v * 64 + (b - 0x80)) (k + 1) s) (Err (Bad k)) ≡ Ok (w, l) →
        (conts n 0x80 0xBF (v * 64 + (b - 0x80)) (k + 1) s ≡ Ok (w, l) → Whole n 0x80 0xBF (v * 64 + (b - 0x80)) (k + 1) s w l) → Whole (suc n) lo hi v k (b ∷ s) w l
    go true p f ih = let r = ih f in record { within_list = omega (arith, r.within_list); kept = λ x. rw p (r.kept x); cut = cut_at r }
      where
        cut_at : Whole n 0x80 0xBF (v * 64 + (b - 0x80)) (k + 1) s w l → (m : ℕ) → suc n ≡ suc m → conts (suc n) lo hi v k (take m (b ∷ s)) ≡ Err Cut
        cut_at r zero q = refl
        cut_at r (suc m) q = rw p (r.cut m (omega arith))
    go false p f ih = let z : ◌≡◌ {A = ℕ} 0 1 = cc in absurd (omega arith)

-- a first byte with a row, and the rest
abbrev inner : ℕ → List ℕ → Result (ℕ × ℕ) Malformed
inner b t = conts ((lead_of b).len - 1) (lead_of b).lo (lead_of b).hi (b % (lead_of b).modulus) 1 t

abbrev token : ℕ → Result (ℕ × ℕ) Malformed → Step
token b r = as_token (permitted_at ((lead_of b).len - 1) r)

record Inner (b : ℕ) : Type 0 where
  no_start : b ≡ 0xFE → ⊥
  no_end : b ≡ 0xFF → ⊥
  some_row : (lead_of b).len ≡ 0 → ⊥

read_inner : (b : ℕ) (t : List ℕ) → Inner b → read_utf8 (b ∷ t) ≡ token b (inner b t)
read_inner b t i = sym (as_value (b ∷ t) (omega arith) i.no_start i.no_end (lead_of b) refl i.some_row)

-- where a value is begun, or is bad after its first byte
cut_inner : (b : ℕ) (t : List ℕ) → read_utf8 (b ∷ t) ≡ Err Cut → Inner b
unfolding read_utf8 read_value
cut_inner b t e = go (eqb b 0xFE) refl (eqb b 0xFF) refl (eqb (lead_of b).len 0) refl e
  where
    go : (x : Bool) → eqb b 0xFE ≡ x → (y : Bool) → eqb b 0xFF ≡ y → (z : Bool) → eqb (lead_of b).len 0 ≡ z →
        pick x (Ok (Start, 1)) (pick y (Ok (End, 1)) (as_token (pick z (Err (Bad 0)) (permitted_at ((lead_of b).len - 1) (inner b t))))) ≡ Err Cut → Inner b
    go true p y q z r f = let z : ◌≡◌ {A = ℕ} 0 1 = cc in absurd (omega arith)
    go false p true q z r f = let z : ◌≡◌ {A = ℕ} 0 1 = cc in absurd (omega arith)
    go false p false q true r f = let z : ◌≡◌ {A = ℕ} 0 1 = cc in absurd (omega arith)
    go false p false q false r f = record { no_start = eqb-false b 0xFE p; no_end = eqb-false b 0xFF q; some_row = eqb-false (lead_of b).len 0 r }

abbrev BadAt : ℕ → List ℕ → ℕ → Type 0
BadAt b t k = (good : ℕ) × (k ≡ good) × (good < suc (length t)) × (read_utf8 (take good (b ∷ t)) ≡ Err Cut) × ((x : List ℕ) → read_utf8 (take (suc good) (b ∷ t) ++ x) ≡ Err (Bad k))

bad_at : (b : ℕ) (t : List ℕ) (k : ℕ) → read_utf8 (b ∷ t) ≡ Err (Bad k) → BadAt b t k
unfolding read_utf8 read_value permitted_at
bad_at b t k e = go (eqb b 0xFE) refl (eqb b 0xFF) refl (eqb (lead_of b).len 0) refl e
  where
    go : (x : Bool) → eqb b 0xFE ≡ x → (y : Bool) → eqb b 0xFF ≡ y → (z : Bool) → eqb (lead_of b).len 0 ≡ z →
        pick x (Ok (Start, 1)) (pick y (Ok (End, 1)) (as_token (pick z (Err (Bad 0)) (permitted_at ((lead_of b).len - 1) (inner b t))))) ≡ Err (Bad k) → BadAt b t k
    go true p y q z r f = let z : ◌≡◌ {A = ℕ} 0 1 = cc in absurd (omega arith)
    go false p true q z r f = let z : ◌≡◌ {A = ℕ} 0 1 = cc in absurd (omega arith)
    go false p false q true r f =
        let w : 0 ≡ k = cc in
        (0, sym w, omega arith, refl, λ x. rw (p, q, r, w))
    go false p false q false r f = by (bad_permitted ((lead_of b).len - 1) (inner b t) k (back_bad _ k f))
      where
        by : (inner b t ≡ Err (Bad k)) ⊎ ((v l : ℕ) × (inner b t ≡ Ok (v, l)) × Noncharacter v × (k ≡ (lead_of b).len - 1)) → BadAt b t k
        by (inl g) =
            let u = stopped ((lead_of b).len - 1) (lead_of b).lo (lead_of b).hi (b % (lead_of b).modulus) 1 t k g in
            (suc u.good, omega (arith, u.place), omega (arith, u.within_list), rw (p, q, r) (ap (token b) u.cut), λ x. rw (p, q, r) (ap (token b) (u.never x)))
        by (inr (v, l, g, o, w)) =
            let u = whole ((lead_of b).len - 1) (lead_of b).lo (lead_of b).hi (b % (lead_of b).modulus) 1 t v l g in
            ((lead_of b).len - 1, w, omega (arith, u.within_list), cut_at u ((lead_of b).len - 1) refl, λ x. rw (p, q, r) (ap (token b) (u.kept x) ∙ ap as_token (sym (permitted_none ((lead_of b).len - 1) v l o)) ∙ ap (λ (j : ℕ). Err (Bad j)) (sym w)))
          where
            cut_at : Whole ((lead_of b).len - 1) (lead_of b).lo (lead_of b).hi (b % (lead_of b).modulus) 1 t v l → (n : ℕ) → (lead_of b).len - 1 ≡ n → read_utf8 (take n (b ∷ t)) ≡ Err Cut
            cut_at u zero j = refl
            cut_at u (suc m) j = rw (p, q, r) (ap (token b) (u.cut m j))

begun_value : (b : ℕ) (t more : List ℕ) (w : ℕ) → b < 254 → read_utf8 (b ∷ (t ++ more)) ≡ Ok (Value w, (length (b ∷ (t ++ more)))) → Begun Utf8Value utf8_bytes (b ∷ t)
begun_value b t more w h e =
    let r = value_of b (t ++ more) w (length (b ∷ (t ++ more))) e h in
    record { value = w; more = more; of = r.0; same = rw (drop-length (b ∷ (t ++ more)), append-nil) at r.2 }

cut_begun : (s : List ℕ) → Bytes s → read_utf8 s ≡ Err Cut → Begun Utf8Value utf8_bytes s
unfolding utf8_bytes
cut_begun [] y e = record { value = 0x41; more = 0x41 ∷ []; of = (inl (omega arith), low 0x41 (omega arith)); same = refl }
cut_begun (b ∷ t) y e =
    let i = cut_inner b t e in
    let u : inner b t ≡ Err Cut = cut_permitted ((lead_of b).len - 1) (inner b t) (back_cut _ (sym (read_inner b t i) ∙ e)) in
    let g = grow ((lead_of b).len - 1) (lead_of b).lo (lead_of b).hi (b % (lead_of b).modulus) 1 t (some_bounds b y.0) u in
    let c = conts_short ((lead_of b).len - 1) (lead_of b).lo (lead_of b).hi (b % (lead_of b).modulus) 1 t u in
    let o = round g.value (g.round (omega arith) (λ q. two_low b y.0 (omega arith))) in
    let l : 1 + length (t ++ g.more) ≡ length (b ∷ (t ++ g.more)) = omega arith in
    let n = i.no_start in
    let m = i.no_end in
    let a = y.0 in
    begun_value b t g.more g.value (omega arith) (read_inner b (t ++ g.more) i ∙ ap (token b) g.reads ∙ token_permitted ((lead_of b).len - 1) g.value g.value _ refl o ∙ ap (λ (j : ℕ). Ok (Value g.value, j)) l)

bad_within : (s : List ℕ) (k : ℕ) → read_utf8 s ≡ Err (Bad k) → k < length s
bad_within [] k e = no_bad _ k e read_nil
bad_within (b ∷ t) k e = let r = bad_at b t k e in omega (arith, r.1, r.2)

bad_cut : (s : List ℕ) (k : ℕ) → read_utf8 s ≡ Err (Bad k) → read_utf8 (take k s) ≡ Err Cut
bad_cut [] k e = no_bad _ k e read_nil
bad_cut (b ∷ t) k e = let r = bad_at b t k e in rw r.1 r.3

bad_never : (s : List ℕ) (k : ℕ) (x : List ℕ) → read_utf8 s ≡ Err (Bad k) → read_utf8 (take (suc k) s ++ x) ≡ Err (Bad k)
bad_never [] k x e = no_bad _ k e read_nil
bad_never (b ∷ t) k x e = let r = bad_at b t k e in mathlib.Core.Path.subst (λ (j : ℕ). read_utf8 (take (suc j) (b ∷ t) ++ x) ≡ Err (Bad k)) (sym r.1) (r.4 x)

pub stopping_utf8 : Stopping read_utf8 1 Utf8Value utf8_bytes (0xFE ∷ []) (0xFF ∷ [])
stopping_utf8 = record {
  nil_cut = read_nil;
  cut_begun = cut_begun;
  bad_within = bad_within;
  bad_cut = bad_cut;
  bad_never = bad_never;
  start_begun = cut_begun [] tt read_nil;
  end_begun = cut_begun [] tt read_nil;
}
