-- The length of a value at a place of a list, byte by byte, as a reader that does not work the value out has it.
use mathlib.Core.Path.{◌≡◌, refl, sym, ◌∙◌, ap, subst}
use mathlib.Core.Bool.{Bool, true, false, ◌&&◌}
use mathlib.Core.List.{List, [], ◌∷◌}
use mathlib.Core.Logic.{◌⊎◌, inl, inr}
use Prim.Native.Nat.{ℕ, zero, suc, ◌+◌, ◌-◌, ◌*◌, ◌%◌, ◌≤◌, ◌<◌}
use native.Mathlib.Omega.{arith}
use lib.Dec.{T, eqb, leb, ltb, eqb→eq, leb→le, ltb→lt}
use lib.ListN.{length, get_or, drop, length-drop}
use lib.Seq.{drop-cons}
use borrow.Author.Tests.{eq-eqb, lt-leb}
use Rattle.base.specs.Meaning.{pick}
use Rattle.base.specs.Reading.{within}
use Rattle.base.proofs.Tests.{and_left, and_right, by_test}
use Rattle.base.proofs.Ranged.{every, ranged}
use Rattle.token.specs.Reading.{is_noncharacter}
use Rattle.utf8.specs.Reading.{lead_of, begun, conts, permitted_at, read_value, utf8_key, plain_len}
use Rattle.utf8.specs.Bounds.{RowOf}
use Rattle.utf8.specs.declared.Lead.{Lead}
use Rattle.utf8.proofs.Rows.{not_found}
use Rattle.utf8.proofs.First.{no_value, long_value}
use Rattle.utf8.proofs.Conts.{reached}
use Rattle.utf8.proofs.Writing.{further}
use Rattle.utf8.proofs.Plain.{allowed, key_last, key_met, key_other, free_under}
use Rattle.std.specs.Prelude.{Option, None, Some, IfSome, Result, Ok, Err}
use Rattle.token.specs.declared.Malformed.{Malformed}
use Rattle.token.specs.declared.Malformed.TheVariants.{Bad}

-- what a row of n bytes has: its first bytes, their modulus, bounds, and the least that the first two bytes give
pub record Row (b first last m least : ℕ) : Type 0 where
  pub from : first ≤ b
  pub to : b < last
  pub by : (lead_of b).modulus ≡ m
  pub low : 128 ≤ (lead_of b).lo
  pub high : (lead_of b).hi ≤ 191
  pub some : least ≤ b % m * 64 + ((lead_of b).lo - 128)

abbrev imp : Bool → Bool → Bool
imp true t = t
imp false t = true

abbrev fits : ℕ → ℕ → ℕ → ℕ → ℕ → Bool
fits first last m least b =
    leb first b && (ltb b last && (eqb (lead_of b).modulus m && (leb 128 (lead_of b).lo && (leb (lead_of b).hi 191 && leb least (b % m * 64 + ((lead_of b).lo - 128))))))

fit : (first last m least b : ℕ) → T (fits first last m least b) → Row b first last m least
fit first last m least b t =
    let p = leb first b in
    let q = ltb b last in
    let r = eqb (lead_of b).modulus m in
    let u = leb 128 (lead_of b).lo in
    let v = leb (lead_of b).hi 191 in
    let w = leb least (b % m * 64 + ((lead_of b).lo - 128)) in
    let t1 = and_right p (q && (r && (u && (v && w)))) t in
    let t2 = and_right q (r && (u && (v && w))) t1 in
    let t3 = and_right r (u && (v && w)) t2 in
    let t4 = and_right u (v && w) t3 in
    record {
      from = leb→le _ _ (and_left p (q && (r && (u && (v && w)))) t);
      to = ltb→lt _ _ (and_left q (r && (u && (v && w))) t1);
      by = eqb→eq _ _ (and_left r (u && (v && w)) t2);
      low = leb→le _ _ (and_left u (v && w) t3);
      high = leb→le _ _ (and_left v w t4);
      some = leb→le _ _ (and_right v w t4);
    }

rows : (n first last m least : ℕ) → T (every (λ x. imp (eqb (lead_of x).len n) (fits first last m least x)) 0 256) → (b : ℕ) → b < 256 → (lead_of b).len ≡ n → Row b first last m least
rows n first last m least t b h e =
    fit first last m least b (rw (eq-eqb (lead_of b).len n e) at (ranged (λ x. imp (eqb (lead_of x).len n) (fits first last m least x)) 256 0 t b (omega arith) (omega arith)))

pub row_two : (b : ℕ) → b < 256 → (lead_of b).len ≡ 2 → Row b 194 224 32 128
unfolding lead_of
row_two b h e = rows 2 194 224 32 128 tt b h e

pub row_three : (b : ℕ) → b < 256 → (lead_of b).len ≡ 3 → Row b 224 240 16 32
unfolding lead_of
row_three b h e = rows 3 224 240 16 32 tt b h e

pub row_four : (b : ℕ) → b < 256 → (lead_of b).len ≡ 4 → Row b 240 245 8 16
unfolding lead_of
row_four b h e = rows 4 240 245 8 16 tt b h e

-- bytes that end too soon give no value, nor does one outside its bounds
too_short : (key j n lo hi v k : ℕ) (t : List ℕ) → length t < n → None ≡ plain_len key (permitted_at j (conts n lo hi v k t))
unfolding conts permitted_at
too_short key j zero lo hi v k t h = absurd (omega arith)
too_short key j (suc n) lo hi v k [] h = refl
too_short key j (suc n) lo hi v k (b ∷ t) h =
    by_test (λ (r : Result (ℕ × ℕ) Malformed). None ≡ plain_len key (permitted_at j r)) (within lo hi b) _ _
    (λ _. too_short key j n 0x80 0xBF (v * 64 + (b - 0x80)) (k + 1) t (omega arith))
    (λ _. refl)

-- at a place of the whole list
module _ (s : List ℕ) (at : ℕ) (h : at < length s) (m lo hi v k : ℕ) where
  goes : lo ≤ get_or s at 0 → get_or s at 0 ≤ hi → (n : ℕ) → n ≡ suc at → conts (suc m) lo hi v k (drop at s) ≡ conts m 0x80 0xBF (v * 64 + (get_or s at 0 - 0x80)) (k + 1) (drop n s)
  goes p q n e = rw (e, drop-cons s at 0 h) (further m lo hi v k (get_or s at 0) (drop (suc at) s) p q)

  out : (get_or s at 0 < lo) ⊎ (hi < get_or s at 0) → conts (suc m) lo hi v k (drop at s) ≡ Err (Bad k)
  unfolding conts
  out w = rw (drop-cons s at 0 h) (go (leb lo (get_or s at 0)) (leb (get_or s at 0) hi) (λ q. lt-leb lo (get_or s at 0) q) (λ q. lt-leb (get_or s at 0) hi q) w)
    where
      go : (x y : Bool) → (get_or s at 0 < lo → x ≡ false) → (hi < get_or s at 0 → y ≡ false) → (get_or s at 0 < lo) ⊎ (hi < get_or s at 0) →
          pick (x && y) (conts m 0x80 0xBF (v * 64 + (get_or s at 0 - 0x80)) (k + 1) (drop (suc at) s)) (Err (Bad k)) ≡ Err (Bad k)
      go false y f g w = refl
      go true false f g w = refl
      go true true f g (inl p) = let e = f p in let z : ◌≡◌ {A = ℕ} 0 1 = cc in absurd (omega arith)
      go true true f g (inr p) = let e = g p in let z : ◌≡◌ {A = ℕ} 0 1 = cc in absurd (omega arith)

-- b stands there and begins a value of n bytes, the second from lo to hi
abbrev pub Begun : ℕ → List ℕ → ℕ → ℕ → ℕ → ℕ → Type 0
Begun n s at b lo hi = (at < length s) × (b ≡ get_or s at 0) × ((lead_of b).len ≡ n) × (lo ≡ (lead_of b).lo) × (hi ≡ (lead_of b).hi)

pub row_begun : (n m : ℕ) (s : List ℕ) (at b : ℕ) (l : Lead) → (at < length s) × (b ≡ get_or s at 0) × RowOf n b l → m ≡ n → Begun m s at b l.lo l.hi
row_begun n m s at b l (h, e, r) q =
    (h, e, sym (ap (λ (x : Lead). x.len) r.0) ∙ r.1 ∙ sym q, ap (λ (x : Lead). x.lo) r.0, ap (λ (x : Lead). x.hi) r.0)

-- r is the length of the value at a place, told by the key
abbrev pub Told : ℕ → List ℕ → ℕ → Option ℕ → Type 0
Told key s at r = (r ≡ plain_len key (read_value (drop at s))) × IfSome r (λ l. at + l ≤ length s)

module _ (key : ℕ) (s : List ℕ) (at b lo hi : ℕ) where
  -- its first byte
  first : (n : ℕ) → Begun (suc n) s at b lo hi → permitted_at n (conts n lo hi (b % (lead_of b).modulus) 1 (drop (at + 1) s)) ≡ read_value (drop at s)
  first n (h, e, q, f, g) =
      let o : at + 1 ≡ suc at = omega arith in
      rw (o, f, g, drop-cons s at 0 h, ← e) (long_value (b ∷ drop (suc at) s) (omega arith) (lead_of b) refl n q (b % (lead_of b).modulus) refl)

  pub ends_before : (n : ℕ) → Begun (suc n) s at b lo hi → length s ≤ at + n → Told key s at None
  ends_before n p h = (too_short key n n lo hi (b % (lead_of b).modulus) 1 (drop (at + 1) s) (omega (arith, length-drop (at + 1) s, p.0)) ∙ ap (plain_len key) (first n p), tt)

  -- its second, within the bounds or not
  module _ (m : ℕ) (p : Begun (suc (suc m)) s at b lo hi) (i : at + 1 < length s) where
    pub second_out : (get_or s (at + 1) 0 < lo) ⊎ (hi < get_or s (at + 1) 0) → Told key s at None
    unfolding permitted_at
    second_out w =
        (sym (ap (λ (r : Result (ℕ × ℕ) Malformed). plain_len key (permitted_at (suc m) r)) (out s (at + 1) i m lo hi (b % (lead_of b).modulus) 1 w)) ∙ ap (plain_len key) (first (suc m) p), tt)

    second : lo ≤ get_or s (at + 1) 0 → get_or s (at + 1) 0 ≤ hi →
        permitted_at (suc m) (conts m 0x80 0xBF (b % (lead_of b).modulus * 64 + (get_or s (at + 1) 0 - 0x80)) 2 (drop (at + 2) s)) ≡ read_value (drop at s)
    second g h = ap (permitted_at (suc m)) (sym (goes s (at + 1) i m lo hi (b % (lead_of b).modulus) 1 g h (at + 2) (omega arith))) ∙ first (suc m) p

  -- its third
  module _ (m : ℕ) (p : Begun (suc (suc (suc m))) s at b lo hi) (i : at + 2 < length s) (w : (lo ≤ get_or s (at + 1) 0) × (get_or s (at + 1) 0 ≤ hi)) where
    pub third_out : (get_or s (at + 2) 0 < 128) ⊎ (191 < get_or s (at + 2) 0) → Told key s at None
    unfolding permitted_at
    third_out o =
        (sym (ap (λ (r : Result (ℕ × ℕ) Malformed). plain_len key (permitted_at (suc (suc m)) r)) (out s (at + 2) i m 128 191 (b % (lead_of b).modulus * 64 + (get_or s (at + 1) 0 - 0x80)) 2 o)) ∙ ap (plain_len key) (second (suc m) p (omega arith) w.0 w.1), tt)

    third : 128 ≤ get_or s (at + 2) 0 → get_or s (at + 2) 0 ≤ 191 →
        permitted_at (suc (suc m)) (conts m 0x80 0xBF ((b % (lead_of b).modulus * 64 + (get_or s (at + 1) 0 - 0x80)) * 64 + (get_or s (at + 2) 0 - 0x80)) 3 (drop (at + 3) s)) ≡ read_value (drop at s)
    third g h = ap (permitted_at (suc (suc m))) (sym (goes s (at + 2) i m 128 191 (b % (lead_of b).modulus * 64 + (get_or s (at + 1) 0 - 0x80)) 2 g h (at + 3) (omega arith))) ∙ second (suc m) p (omega arith) w.0 w.1

  -- its fourth
  module _ (p : Begun 4 s at b lo hi) (i : at + 3 < length s) (w : (lo ≤ get_or s (at + 1) 0) × (get_or s (at + 1) 0 ≤ hi) × (128 ≤ get_or s (at + 2) 0) × (get_or s (at + 2) 0 ≤ 191)) where
    pub fourth_out : (get_or s (at + 3) 0 < 128) ⊎ (191 < get_or s (at + 3) 0) → Told key s at None
    unfolding permitted_at
    fourth_out o =
        (sym (ap (λ (r : Result (ℕ × ℕ) Malformed). plain_len key (permitted_at 3 r)) (out s (at + 3) i 0 128 191 ((b % (lead_of b).modulus * 64 + (get_or s (at + 1) 0 - 0x80)) * 64 + (get_or s (at + 2) 0 - 0x80)) 3 o)) ∙ ap (plain_len key) (third 1 p (omega arith) (w.0, w.1) w.2 w.3), tt)

    fourth : 128 ≤ get_or s (at + 3) 0 → get_or s (at + 3) 0 ≤ 191 →
        permitted_at 3 (conts 0 0x80 0xBF (((b % (lead_of b).modulus * 64 + (get_or s (at + 1) 0 - 0x80)) * 64 + (get_or s (at + 2) 0 - 0x80)) * 64 + (get_or s (at + 3) 0 - 0x80)) 4 (drop (at + 4) s)) ≡ read_value (drop at s)
    fourth g h = ap (permitted_at 3) (sym (goes s (at + 3) i 0 128 191 ((b % (lead_of b).modulus * 64 + (get_or s (at + 1) 0 - 0x80)) * 64 + (get_or s (at + 2) 0 - 0x80)) 3 g h (at + 4) (omega arith))) ∙ third 1 p (omega arith) (w.0, w.1) w.2 w.3

  -- the whole value, with z its last byte, of l bytes
  module _ (j v l u z : ℕ) (q : v ≡ u * 64 + (z - 128)) (g : 2 ≤ u) (w : (128 ≤ z) × (z ≤ 191)) (e : permitted_at j (Ok (v, l)) ≡ read_value (drop at s)) (h : at + l ≤ length s) where
    whole_met : z ≡ key → Told key s at None
    whole_met k = (key_met key j v l z (ap utf8_key q ∙ key_last u z g w.0 (omega (arith, w.1))) k ∙ ap (plain_len key) e, tt)

    whole_other : (z ≡ key → ⊥) → (r : Option ℕ) → r ≡ allowed v l → Told key s at r
    whole_other k r f = (f ∙ key_other key j v l z (ap utf8_key q ∙ key_last u z g w.0 (omega (arith, w.1))) k ∙ ap (plain_len key) e, subst (λ (x : Option ℕ). IfSome x (λ n. at + n ≤ length s)) (sym f) (size (is_noncharacter v)))
      where
        size : (t : Bool) → IfSome (pick t None (Some l)) (λ n. at + n ≤ length s)
        size true = tt
        size false = h

  -- two bytes
  module _ (p : Begun 2 s at b lo hi) (h : b < 256) (i : at + 1 < length s) (w : (lo ≤ get_or s (at + 1) 0) × (get_or s (at + 1) 0 ≤ hi)) where
    two_asks : (194 ≤ b) × (b < 224) × (128 ≤ get_or s (at + 1) 0) × (get_or s (at + 1) 0 ≤ 191)
    two_asks = let k = row_two b h p.2 in omega (arith, k.from, k.to, k.low, k.high, p.3, p.4, w.0, w.1)

    two_read : permitted_at 1 (Ok ((b % 32 * 64 + (get_or s (at + 1) 0 - 128)), 2)) ≡ read_value (drop at s)
    two_read =
        subst (λ (m : ℕ). permitted_at 1 (Ok ((b % m * 64 + (get_or s (at + 1) 0 - 128)), 2)) ≡ read_value (drop at s)) (row_two b h p.2).by
        (ap (permitted_at 1) (sym (reached 128 191 (b % (lead_of b).modulus * 64 + (get_or s (at + 1) 0 - 128)) 2 (drop (at + 2) s))) ∙ second 0 p i w.0 w.1)

    pub two_met : get_or s (at + 1) 0 ≡ key → Told key s at None
    two_met = let k = two_asks in whole_met 1 _ 2 (b % 32) (get_or s (at + 1) 0) refl (omega (arith, k.0, k.1)) (k.2, k.3) two_read (omega arith)

    pub two_other : (get_or s (at + 1) 0 ≡ key → ⊥) → Told key s at (Some 2)
    two_other n =
        let k = two_asks in
        whole_other 1 _ 2 (b % 32) (get_or s (at + 1) 0) refl (omega (arith, k.0, k.1)) (k.2, k.3) two_read (omega arith) n (Some 2)
        (free_under (b % 32 * 64 + (get_or s (at + 1) 0 - 128)) 2 (omega (arith, k.3)))

  -- three bytes
  module _ (p : Begun 3 s at b lo hi) (h : b < 256) (i : at + 2 < length s) (w : (lo ≤ get_or s (at + 1) 0) × (get_or s (at + 1) 0 ≤ hi) × (128 ≤ get_or s (at + 2) 0) × (get_or s (at + 2) 0 ≤ 191)) where
    pub three_asks : (224 ≤ b) × (b < 240) × (128 ≤ get_or s (at + 1) 0) × (get_or s (at + 1) 0 < 192) × (128 ≤ get_or s (at + 2) 0) × (get_or s (at + 2) 0 < 192)
    three_asks = let k = row_three b h p.2 in omega (arith, k.from, k.to, k.low, k.high, p.3, p.4, w.0, w.1, w.2, w.3)

    three_some : 2 ≤ b % 16 * 64 + (get_or s (at + 1) 0 - 128)
    three_some = let k = row_three b h p.2 in omega (arith, k.some, p.3, w.0)

    three_read : permitted_at 2 (Ok (((b % 16 * 64 + (get_or s (at + 1) 0 - 128)) * 64 + (get_or s (at + 2) 0 - 128)), 3)) ≡ read_value (drop at s)
    three_read =
        subst (λ (m : ℕ). permitted_at 2 (Ok (((b % m * 64 + (get_or s (at + 1) 0 - 128)) * 64 + (get_or s (at + 2) 0 - 128)), 3)) ≡ read_value (drop at s)) (row_three b h p.2).by
        (ap (permitted_at 2) (sym (reached 128 191 ((b % (lead_of b).modulus * 64 + (get_or s (at + 1) 0 - 128)) * 64 + (get_or s (at + 2) 0 - 128)) 3 (drop (at + 3) s))) ∙ third 0 p i (w.0, w.1) w.2 w.3)

    pub three_met : get_or s (at + 2) 0 ≡ key → Told key s at None
    three_met = whole_met 2 _ 3 (b % 16 * 64 + (get_or s (at + 1) 0 - 128)) (get_or s (at + 2) 0) refl three_some (w.2, w.3) three_read (omega arith)

    pub three_other : (get_or s (at + 2) 0 ≡ key → ⊥) → (r : Option ℕ) → r ≡ allowed ((b % 16 * 64 + (get_or s (at + 1) 0 - 128)) * 64 + (get_or s (at + 2) 0 - 128)) 3 → Told key s at r
    three_other = whole_other 2 _ 3 (b % 16 * 64 + (get_or s (at + 1) 0 - 128)) (get_or s (at + 2) 0) refl three_some (w.2, w.3) three_read (omega arith)

  -- four bytes
  module _ (p : Begun 4 s at b lo hi) (h : b < 256) (i : at + 3 < length s)
      (w : (lo ≤ get_or s (at + 1) 0) × (get_or s (at + 1) 0 ≤ hi) × (128 ≤ get_or s (at + 2) 0) × (get_or s (at + 2) 0 ≤ 191) × (128 ≤ get_or s (at + 3) 0) × (get_or s (at + 3) 0 ≤ 191)) where
    pub four_asks : (240 ≤ b) × (b < 245) × (128 ≤ get_or s (at + 1) 0) × (get_or s (at + 1) 0 < 192) × (128 ≤ get_or s (at + 2) 0) × (get_or s (at + 2) 0 < 192) × (128 ≤ get_or s (at + 3) 0) × (get_or s (at + 3) 0 < 192)
        × (16 ≤ b % 8 * 64 + (get_or s (at + 1) 0 - 128))
    four_asks = let k = row_four b h p.2 in omega (arith, k.from, k.to, k.low, k.high, k.some, p.3, p.4, w.0, w.1, w.2, w.3, w.4, w.5)

    four_read : permitted_at 3 (Ok ((((b % 8 * 64 + (get_or s (at + 1) 0 - 128)) * 64 + (get_or s (at + 2) 0 - 128)) * 64 + (get_or s (at + 3) 0 - 128)), 4)) ≡ read_value (drop at s)
    four_read =
        subst (λ (m : ℕ). permitted_at 3 (Ok ((((b % m * 64 + (get_or s (at + 1) 0 - 128)) * 64 + (get_or s (at + 2) 0 - 128)) * 64 + (get_or s (at + 3) 0 - 128)), 4)) ≡ read_value (drop at s)) (row_four b h p.2).by
        (ap (permitted_at 3) (sym (reached 128 191 (((b % (lead_of b).modulus * 64 + (get_or s (at + 1) 0 - 128)) * 64 + (get_or s (at + 2) 0 - 128)) * 64 + (get_or s (at + 3) 0 - 128)) 4 (drop (at + 4) s))) ∙ fourth p i (w.0, w.1, w.2, w.3) w.4 w.5)

    pub four_met : get_or s (at + 3) 0 ≡ key → Told key s at None
    four_met = let k = four_asks.8 in whole_met 3 _ 4 ((b % 8 * 64 + (get_or s (at + 1) 0 - 128)) * 64 + (get_or s (at + 2) 0 - 128)) (get_or s (at + 3) 0) refl (omega arith) (w.4, w.5) four_read (omega arith)

    pub four_other : (get_or s (at + 3) 0 ≡ key → ⊥) → (r : Option ℕ) → r ≡ allowed (((b % 8 * 64 + (get_or s (at + 1) 0 - 128)) * 64 + (get_or s (at + 2) 0 - 128)) * 64 + (get_or s (at + 3) 0 - 128)) 4 → Told key s at r
    four_other = let k = four_asks.8 in whole_other 3 _ 4 ((b % 8 * 64 + (get_or s (at + 1) 0 - 128)) * 64 + (get_or s (at + 2) 0 - 128)) (get_or s (at + 3) 0) refl (omega arith) (w.4, w.5) four_read (omega arith)

-- a byte for which no row is found begins none
pub none_begun : (key : ℕ) (s : List ℕ) (at b : ℕ) → (at < length s) × (b ≡ get_or s at 0) × (128 ≤ b) → (r : Option Lead) → r ≡ begun (lead_of b) → r ≡ None → Told key s at None
none_begun key s at b (h, e, g) r p n =
    let q : Err (Bad 0) ≡ read_value (drop at s) = rw (drop-cons s at 0 h, ← e) (no_value (b ∷ drop (suc at) s) (omega arith) (lead_of b) refl (not_found r (lead_of b) p n)) in
    (ap (plain_len key) q, tt)
