-- The steps to the laws of noncharacters: no call gives one, and where one stands (Noncharacters says what is shown).
use mathlib.Core.Path.{◌≡◌, refl, ◌∙◌, ap, subst}
use mathlib.Core.Logic.{◌⊎◌, inl, inr}
use mathlib.Core.Bool.{Bool, true, false}
use mathlib.Core.List.{List, [], ◌∷◌, ◌++◌}
use Prim.Native.Nat.{ℕ, ◌+◌, ◌-◌, ◌≤◌, ◌<◌}
use native.Mathlib.Omega.{arith}
use lib.ListN.{length, take}
use Rattle.base.specs.Meaning.{Bytes}
use Rattle.base.proofs.Parts.{bytes_take}
use Rattle.base.proofs.Tests.{below}
use Rattle.token.specs.Meaning.{Noncharacter}
use Rattle.utf8.proofs.Writing as utf8-read
use Rattle.ucs2.proofs.Coding as ucs2-read
use Rattle.coding.specs.declared.Coding.{Coding}
use Rattle.coding.specs.declared.Coding.TheVariants.{Utf8, Ucs2}
use Rattle.coding.specs.Meaning.{ValueOf, value_bytes}
use Rattle.coding.specs.Reading.{read_token}
use Rattle.coding.proofs.Codings.{stopping}
use Rattle.table.specs.declared.Item.{Item}
use Rattle.table.specs.Meaning.{Desc, items, bytes, Readable, BadAt}
use Rattle.table.specs.Reading.{ends_in, table_of}
use Rattle.table.proofs.Places.{bad_token, bad_broken}
use Rattle.lookup.specs.Meaning.{Any, ListsValue, ListsSequence, Nowhere}
use Rattle.header.specs.declared.Kind.TheVariants.{Psf2}
use Rattle.header.specs.declared.Font.{Font}
use Rattle.stages.specs.Meaning.{coding_of}
use Rattle.stages.specs.Reading.{check_of}
use Rattle.content.specs.Meaning.{Describes}
use Rattle.edit.specs.Reading.{add_answer, drop_answer}
use Rattle.fonts.specs.Reading.{item_of, value_glyph, sequence_glyph}
use Rattle.laws.specs.Meaning.{Said, gives, refuses, says, In, HasBytes, Holds, Row, Reading, ItemRows, AddLast, given, skipped, own, sound, reads, gives_it}
use Rattle.laws.proofs.Questions.{item_exactly, value_exactly, sequence_exactly}
use Rattle.laws.proofs.Asking.{described, not_bare}
use Rattle.laws.proofs.Listed.{no_value, listed_value, listed_sequence, item_value}
use Rattle.laws.proofs.Editing.{add_rows, drop_rows}
use Rattle.std.specs.Prelude.{Ok, Err}
use Rattle.table.specs.declared.Fault.TheVariants.{Bad}
use Rattle.token.specs.declared.Malformed.TheVariants.{Bad}

not-false : {b : Bool} → b ≡ true → b ≡ false → ⊥
not-false p q = let z : ◌≡◌ {A = ℕ} 0 1 = cc in absurd (omega arith)

-- a noncharacter of three or four bytes, or of two in PSF1, read: bad at its last byte
pub bad_read : (c : Coding) (v : ℕ) → HasBytes c v → Noncharacter v → (x : List ℕ) → read_token c (value_bytes c v ++ x) ≡ Err (Bad (length (value_bytes c v) - 1))
unfolding read_token value_bytes
bad_read Utf8 v p n x = utf8-read.noncharacter_read v x p n
bad_read Ucs2 v p n x = ucs2-read.noncharacter_read v x p n

-- of a font that a call found sound
module _ (s : List ℕ) (f : Font) (ds : List Desc) (marked : f.table ≡ true) (d : Describes s f f.table ds) where
  pub readable : Readable (coding_of f.kind) ds
  readable = (subst (λ (b : Bool). Describes s f b ds) marked d).1

  pub no_single : (v : ℕ) → Noncharacter v → Nowhere (ListsValue v) 0 ds
  no_single v n g e h i l = no_value (coding_of f.kind) v (listed_value (coding_of f.kind) ds readable g e i v l) n

  pub no_sequence : (vs : List ℕ) → Any Noncharacter vs → Nowhere (ListsSequence vs) 0 ds
  no_sequence vs a g e h i l = go vs a (λ v q. listed_sequence (coding_of f.kind) ds readable g e i vs l v q)
    where
      go : (us : List ℕ) → Any Noncharacter us → ((v : ℕ) → Any (λ (w : ℕ). w ≡ v) us → ValueOf (coding_of f.kind) v) → ⊥
      go [] b k = b
      go (u ∷ us) (inl n) k = no_value (coding_of f.kind) u (k u (inl refl)) n
      go (u ∷ us) (inr b) k = go us b (λ v q. k v (inr q))

module _ (s : List ℕ) (y : Bytes s) where
  -- a walk gives none
  pub walk_none : (g k : ℕ) (i : Item) (v : ℕ) → says (item_of s g k) ≡ gives i → Holds v i → Noncharacter v → ⊥
  walk_none g k i v e h n = go ((item_exactly s y g k (gives i)).0 e)
    where
      no : {A : Type 0} {p q : ℕ} → ◌≡◌ {A = Said Item} (gives i) (refuses p q) → A
      no r = let z : ◌≡◌ {A = ℕ} 0 1 = cc in absurd (omega arith)

      same : {j : Item} → ◌≡◌ {A = Said Item} (gives i) (gives j) → i ≡ j
      same r = cc

      go : ItemRows s g k (gives i) → ⊥
      go (own r q t) = no t
      go (sound f q (given t u)) = no u
      go (sound f q (skipped t (reads ds d (given u w)))) = no w
      go (sound f q (skipped t (reads ds d (skipped u (gives_it j m w))))) =
          no_value (coding_of f.kind) v (item_value (coding_of f.kind) ds (readable s f ds (not_bare f.table t) d) g k j v m (subst (Holds v) (same w) h)) n

  module _ (f : Font) (e : check_of s ≡ Ok f) (marked : f.table ≡ true) where
    -- looked up
    pub value_none : (v : ℕ) → v ≤ 0x10FFFF → Noncharacter v → says (value_glyph s v) ≡ refuses 15 0
    value_none v l n =
        let r = described s f y e in
        (value_exactly s y v (refuses 15 0)).1
        (sound f e (skipped (not-false marked) (skipped (λ h. omega arith) (reads r.0 r.1 (given (no_single s f r.0 marked r.1 v n) refl)))))

    pub sequence_none : (vs : List ℕ) → Any Noncharacter vs → (Any (λ (v : ℕ). 0x10FFFF < v) vs → ⊥) → says (sequence_glyph s vs) ≡ refuses 15 0
    sequence_none vs a l =
        let r = described s f y e in
        (sequence_exactly s y vs (refuses 15 0)).1
        (sound f e (skipped (not-false marked) (skipped (some vs a l) (reads r.0 r.1 (given (no_sequence s f r.0 marked r.1 vs a) refl)))))
      where
        some : (us : List ℕ) → Any Noncharacter us → (Any (λ (v : ℕ). 0x10FFFF < v) us → ⊥) → (us ≡ []) ⊎ Any (λ (v : ℕ). 0x10FFFF < v) us → ⊥
        some [] b k q = b
        some (u ∷ us) b k (inl q) = let z : length (u ∷ us) ≡ 0 = ap length q in omega arith
        some (u ∷ us) b k (inr q) = k q

-- the place of one in a table: behind the items in front of one of n descriptions'
pub bad_in_table : (c : Coding) (n : ℕ) (ds : List Desc) (is : List Item) (i : Item) (js : List Item) → length ds ≡ n → Readable c ds → items ds ≡ is ++ (i ∷ js) →
    (v : ℕ) → HasBytes c v → Noncharacter v → (s x : List ℕ) → Bytes s → s ≡ bytes c is ++ (value_bytes c v ++ x) → BadAt c n s (length (bytes c is) + (length (value_bytes c v) - 1))
bad_in_table c n ds is i js q o e v p m s x y t =
    let k = length (value_bytes c v) - 1 in
    let b = bad_read c v p m x in
    let h = (stopping c).bad_within (value_bytes c v ++ x) k b in
    let a = bad_token c n ds is i js (value_bytes c v ++ x) k q o e (omega arith) b in
    let z : 0 + length (bytes c is) + k ≡ length (bytes c is) + k = omega arith in
    bad_broken c n s (length (bytes c is) + k) (0 + ends_in is) y
    (ap (table_of c n) t ∙ a ∙ ap (λ (j : ℕ). Err (Bad j (0 + ends_in is))) z)

-- edits of a PSF2 font with a table in the first len bytes of a buffer
module _ (xs : List ℕ) (y : Bytes xs) (len g v : ℕ) (within : len ≤ length xs) (f : Font) (e : check_of (take len xs) ≡ Ok f) (kind : f.kind ≡ Psf2)
    (marked : f.table ≡ true) (n : Noncharacter v) where
  -- it is no surrogate
  no_surrogate : In 0xD800 0xDFFF v → ⊥
  no_surrogate q = go n
    where
      go : Noncharacter v → ⊥
      go (inl a) = omega (arith, a.0, q.1)
      go (inr a) = omega (arith, a, q.1)

  pub add_none : says (add_answer xs len g v) ≡ refuses 13 0
  add_none =
      (add_rows xs y len g v (refuses 13 0)).1
      (skipped (λ h. omega arith) (sound f e (skipped (λ k. k kind) (skipped (not-false marked) (go (below g f.count) (below 0x10FFFF v))))))
    where
      go : (g < f.count) ⊎ (f.count ≤ g) → (0x10FFFF < v) ⊎ (v ≤ 0x10FFFF) →
          Row ((f.count ≤ g) ⊎ ((0x10FFFF < v) ⊎ In 0xD800 0xDFFF v)) 13 0 (Reading (take len xs) f (AddLast xs len g v)) (refuses 13 0)
      go (inr h) b = given (inl h) refl
      go (inl h) (inl b) = given (inr (inl b)) refl
      go (inl h) (inr b) = let r = described (take len xs) f (bytes_take len xs y) e in skipped (fine h b) (reads r.0 r.1 (given n refl))
        where
          fine : g < f.count → v ≤ 0x10FFFF → (f.count ≤ g) ⊎ ((0x10FFFF < v) ⊎ In 0xD800 0xDFFF v) → ⊥
          fine a c (inl q) = omega arith
          fine a c (inr (inl q)) = omega arith
          fine a c (inr (inr q)) = no_surrogate q

  pub drop_none : g < f.count → v ≤ 0x10FFFF → says (drop_answer xs len g v) ≡ refuses 25 0
  drop_none h b =
      let r = described (take len xs) f (bytes_take len xs y) e in
      (drop_rows xs y len g v (refuses 25 0)).1
      (skipped (λ q. omega arith) (sound f e (skipped (λ k. k kind) (skipped (not-false marked) (skipped fine (reads r.0 r.1 (given (λ l. no_single (take len xs) f r.0 marked r.1 v n g l.description (omega arith) l.here l.lists) refl)))))))
    where
      fine : (f.count ≤ g) ⊎ ((0x10FFFF < v) ⊎ In 0xD800 0xDFFF v) → ⊥
      fine (inl q) = omega arith
      fine (inr (inl q)) = omega arith
      fine (inr (inr q)) = no_surrogate q
