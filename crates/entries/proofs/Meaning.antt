-- What the scan of the dispatch table means: the first entry that breaks a rule, or the largest sums over the entries with a glyph.
use mathlib.Core.Path.{◌≡◌, refl, sym, ◌∙◌, ap, subst}
use mathlib.Core.Logic.{◌⊎◌, inl, inr, ⊎_elim}
use mathlib.Core.List.{List}
use mathlib.Core.Bool.{Bool, true, false}
use Prim.Native.Nat.{ℕ, zero, suc, ◌+◌, ◌≤◌, ◌<◌, max}
use native.Mathlib.Omega.{arith}
use lib.Dec.{ltb}
use borrow.Author.Tests.{ltb-true, ltb-false, eqb-true}
use Rattle.std.proofs.lemmas.Bool.Decides.{nat_tests}
use Rattle.base.specs.Meaning.{pick}
use Rattle.base.specs.Reading.{when}
use Rattle.base.proofs.Tests.{below}
use Rattle.entries.specs.Meaning.{size_at, rows_at, cols_at, entry_at, HasGlyph, Rules, Breaks, FirstBroken, IsGreatest}
use Rattle.entries.specs.Reading.{entry_of, larger, scan_of}
use Rattle.header.specs.Meaning.{glyph_bytes}
use Rattle.entries.specs.declared.Entry.{Entry}
use Rattle.entries.specs.declared.Entry.TheVariants.{Empty, Glyph, Broken}
use Rattle.entries.proofs.Cases as cases
use Rattle.entries.proofs.Inverse.{KeepsRules, keeps}
use Rattle.std.specs.Prelude.{Result, Ok, Err}

-- what each answer on an entry says
abbrev pub EntrySays : List ℕ → ℕ → ℕ → Entry → Type 0
EntrySays s total at Empty = HasGlyph s at → ⊥
EntrySays s total at (Glyph r c) = HasGlyph s at × Rules s total at × (r ≡ rows_at s at) × (c ≡ cols_at s at)
EntrySays s total at Broken = Breaks s total at

kept : (s : List ℕ) (total at : ℕ) → KeepsRules s total at → Rules s total at
unfolding glyph_bytes
kept s total at k = ((k.rows_low, k.rows_high), (k.cols_low, k.cols_high), k.size, k.inside)

no_answer : {A : Type 0} (x : Entry) → x ≡ Empty → x ≡ Broken → A
no_answer x e f = let z : ◌≡◌ {A = ℕ} 0 1 = cc in absurd (omega arith)

no_glyph : {A : Type 0} (x : Entry) (r c : ℕ) → x ≡ Glyph r c → x ≡ Broken → A
no_glyph x r c e f = let z : ◌≡◌ {A = ℕ} 0 1 = cc in absurd (omega arith)

glyph_empty : {A : Type 0} (x : Entry) (r c : ℕ) → x ≡ Glyph r c → x ≡ Empty → A
glyph_empty x r c e f = let z : ◌≡◌ {A = ℕ} 0 1 = cc in absurd (omega arith)

ruled : (s : List ℕ) (total at : ℕ) → HasGlyph s at → Rules s total at → Glyph (rows_at s at) (cols_at s at) ≡ entry_of s total at
unfolding glyph_bytes
ruled s total at h r = cases.glyph s total at ((((h, r.0.0, r.0.1), r.1.0, r.1.1), r.2), r.3)

-- a size that is no glyph's is no broken entry's
size_of : (s : List ℕ) (total at : ℕ) → entry_of s total at ≡ Broken → size_at s at ≡ 0 → ⊥
size_of s total at e z = no_answer (entry_of s total at) (sym (cases.empty s total at z)) e

-- only a size of 0 says that there is no glyph
unbroken : (t : Bool) (y : Entry) → when t Broken y ≡ Empty → y ≡ Empty
unfolding when
unbroken true y e = no_answer Broken e refl
unbroken false y e = e

emptied : (t : Bool) (y : Entry) → when t Empty y ≡ Empty → (t ≡ true) ⊎ (y ≡ Empty)
unfolding when
emptied true y e = inl refl
emptied false y e = inr e

empty_of : (s : List ℕ) (total at : ℕ) → entry_of s total at ≡ Empty → size_at s at ≡ 0
unfolding entry_of
empty_of s total at e =
    ⊎_elim (λ t. eqb-true (size_at s at) 0 t)
    (λ r. glyph_empty _ _ _ refl (unbroken _ _ (unbroken _ _ (unbroken _ _ (unbroken _ _ (unbroken _ _ (unbroken _ _ r)))))))
    (emptied _ _ e)

entry_says : (s : List ℕ) (total at : ℕ) (x : Entry) → entry_of s total at ≡ x → EntrySays s total at x
entry_says s total at Empty e = λ h. h (empty_of s total at e)
entry_says s total at (Glyph r c) e = let k = keeps s total at r c e in (k.0.some, kept s total at k.0, k.1, k.2)
entry_says s total at Broken e = (size_of s total at e, λ r. no_glyph (entry_of s total at) _ _ (sym (ruled s total at (size_of s total at e) r)) e)

-- what holds of each entry, whatever it says
pub entry_meaning : (s : List ℕ) (total at : ℕ) → EntrySays s total at (entry_of s total at)
entry_meaning s total at = entry_says s total at (entry_of s total at) refl

-- the larger of two is the library's `max`
pub larger_max : (a b : ℕ) → max a b ≡ larger a b
larger_max a b = grind (arith, nat_tests)

-- the larger of two is one of them, and none is larger
larger_left : (a b : ℕ) → a ≤ larger a b
larger_left a b = go (ltb a b) refl
  where
    go : (t : Bool) → ltb a b ≡ t → a ≤ pick t b a
    go true e = let h = ltb-true a b e in omega arith
    go false e = omega arith

larger_right : (a b : ℕ) → b ≤ larger a b
larger_right a b = go (ltb a b) refl
  where
    go : (t : Bool) → ltb a b ≡ t → b ≤ pick t b a
    go true e = omega arith
    go false e = ltb-false a b e

larger_either : (a b : ℕ) → (larger a b ≡ a) ⊎ (larger a b ≡ b)
larger_either a b = go (ltb a b)
  where
    go : (t : Bool) → (pick t b a ≡ a) ⊎ (pick t b a ≡ b)
    go true = inr refl
    go false = inl refl

-- k entries from entry i on, with h the greatest before them and z with them
module _ (s : List ℕ) (start : ℕ) (m : ℕ → ℕ) where
  record Grown (i k h z : ℕ) : Type 0 where
    above : h ≤ z
    bound : (j : ℕ) → i ≤ j → j < i + k → HasGlyph s (entry_at start j) → m (entry_at start j) ≤ z
    met : (z ≡ h) ⊎ ((j : ℕ) × (i ≤ j) × (j < i + k) × HasGlyph s (entry_at start j) × (m (entry_at start j) ≡ z))

  none_left : (i h : ℕ) → Grown i 0 h h
  none_left i h = record { above = omega arith; bound = λ j g l p. absurd (omega arith); met = inl refl }

  -- one more entry in front, which has no glyph
  skip : (i k h z : ℕ) → (HasGlyph s (entry_at start i) → ⊥) → Grown (suc i) k h z → Grown i (suc k) h z
  skip i k h z none g = record { above = g.above; bound = λ j a l p. bound j a l p (below i j); met = met g.met }
    where
      bound : (j : ℕ) → i ≤ j → j < i + suc k → HasGlyph s (entry_at start j) → (i < j) ⊎ (j ≤ i) → m (entry_at start j) ≤ z
      bound j a l p (inl b) = g.bound j b (omega arith) p
      bound j a l p (inr b) = let e : j ≡ i = omega arith in absurd (none (subst (λ (x : ℕ). HasGlyph s (entry_at start x)) e p))

      met : (z ≡ h) ⊎ ((j : ℕ) × (suc i ≤ j) × (j < suc i + k) × HasGlyph s (entry_at start j) × (m (entry_at start j) ≡ z)) →
          (z ≡ h) ⊎ ((j : ℕ) × (i ≤ j) × (j < i + suc k) × HasGlyph s (entry_at start j) × (m (entry_at start j) ≡ z))
      met (inl e) = inl e
      met (inr (j, a, l, p, e)) = inr (j, omega arith, omega arith, p, e)

  -- one more entry in front, which has one
  grow : (i k h r z : ℕ) → HasGlyph s (entry_at start i) → r ≡ m (entry_at start i) → Grown (suc i) k (larger h r) z → Grown i (suc k) h z
  grow i k h r z some er g = record { above = omega (arith, larger_left h r, g.above); bound = λ j a l p. bound j a l p (below i j); met = met g.met (larger_either h r) }
    where
      bound : (j : ℕ) → i ≤ j → j < i + suc k → HasGlyph s (entry_at start j) → (i < j) ⊎ (j ≤ i) → m (entry_at start j) ≤ z
      bound j a l p (inl b) = g.bound j b (omega arith) p
      bound j a l p (inr b) =
          let e : i ≡ j = omega arith in
          let u : r ≤ z = omega (arith, larger_right h r, g.above) in
          subst (λ (x : ℕ). x ≤ z) (er ∙ ap (λ (x : ℕ). m (entry_at start x)) e) u

      met : (z ≡ larger h r) ⊎ ((j : ℕ) × (suc i ≤ j) × (j < suc i + k) × HasGlyph s (entry_at start j) × (m (entry_at start j) ≡ z)) → (larger h r ≡ h) ⊎ (larger h r ≡ r) →
          (z ≡ h) ⊎ ((j : ℕ) × (i ≤ j) × (j < i + suc k) × HasGlyph s (entry_at start j) × (m (entry_at start j) ≡ z))
      met (inl e) (inl f) = inl (e ∙ f)
      met (inl e) (inr f) = inr (i, omega arith, omega arith, some, sym (e ∙ f ∙ er))
      met (inr (j, a, l, p, e)) y = inr (j, omega arith, omega arith, p, e)

-- what each answer of the scan says
module _ (s : List ℕ) (total start : ℕ) where
  -- no entry from i on breaks a rule, up to entry j
  abbrev Fine : ℕ → ℕ → Type 0
  Fine i j = (x : ℕ) → i ≤ x → x < j → Breaks s total (entry_at start x) → ⊥

  abbrev ScanSays : ℕ → ℕ → ℕ → ℕ → Result (ℕ × ℕ) ℕ → Type 0
  ScanSays i k h w (Err x) = (i ≤ x) × (x < i + k) × Breaks s total (entry_at start x) × Fine i x
  ScanSays i k h w (Ok (y, z)) = Fine i (i + k) × Grown s start (rows_at s) i k h y × Grown s start (cols_at s) i k w z

  -- one entry more that breaks no rule
  fine_more : (i j n : ℕ) → j ≡ n → (Breaks s total (entry_at start i) → ⊥) → Fine (suc i) j → Fine i n
  fine_more i j n e f g x a l p = go (below i x)
    where
      go : (i < x) ⊎ (x ≤ i) → ⊥
      go (inl b) = g x b (omega arith) p
      go (inr b) = let q : x ≡ i = omega arith in f (subst (λ (y : ℕ). Breaks s total (entry_at start y)) q p)

  -- an entry in front that breaks no rule
  past : (i k h w h' w' : ℕ) → (Breaks s total (entry_at start i) → ⊥) →
      ((z : ℕ) → Grown s start (rows_at s) (suc i) k h' z → Grown s start (rows_at s) i (suc k) h z) →
      ((z : ℕ) → Grown s start (cols_at s) (suc i) k w' z → Grown s start (cols_at s) i (suc k) w z) →
      (x : Result (ℕ × ℕ) ℕ) → ScanSays (suc i) k h' w' x → ScanSays i (suc k) h w x
  past i k h w h' w' fine f g (Err x) (a, l, b, c) = (omega arith, omega arith, b, fine_more i x x refl fine c)
  past i k h w h' w' fine f g (Ok (y, z)) (c, a, b) = (fine_more i (suc i + k) (i + suc k) (omega arith) fine c, f y a, g z b)

  scan_says : (k i h w : ℕ) → ScanSays i k h w (scan_of s total start k i h w)
  unfolding scan_of
  scan_says zero i h w = ((λ x a l p. absurd (omega arith)), none_left s start (rows_at s) i h, none_left s start (cols_at s) i w)
  scan_says (suc k) i h w = go (λ a b. scan_says k (suc i) a b) (entry_of s total (entry_at start i)) (entry_meaning s total (entry_at start i))
    where
      go : ((a b : ℕ) → ScanSays (suc i) k a b (scan_of s total start k (suc i) a b)) → (x : Entry) → EntrySays s total (entry_at start i) x →
          ScanSays i (suc k) h w (elim x [ Empty ↦ scan_of s total start k (suc i) h w | Glyph r c ↦ scan_of s total start k (suc i) (larger h r) (larger w c) | Broken ↦ Err i ])
      go ih Empty e =
          past i k h w h w (λ b. e b.0) (λ z. skip s start (rows_at s) i k h z e) (λ z. skip s start (cols_at s) i k w z e) (scan_of s total start k (suc i) h w) (ih h w)
      go ih (Glyph r c) e =
          past i k h w (larger h r) (larger w c) (λ b. b.1 e.1)
          (λ z. grow s start (rows_at s) i k h r z e.0 e.2) (λ z. grow s start (cols_at s) i k w c z e.0 e.3) (scan_of s total start k (suc i) (larger h r) (larger w c))
          (ih (larger h r) (larger w c))
      go ih Broken e = (omega arith, omega arith, e, λ x a l p. absurd (omega arith))

-- grown from nothing is the greatest
greatest : (s : List ℕ) (n start : ℕ) (m : ℕ → ℕ) (z : ℕ) → Grown s start m 0 n 0 z → ((i : ℕ) → i < n → HasGlyph s (entry_at start i) → 1 ≤ m (entry_at start i)) → IsGreatest s n start m z
greatest s n start m z g pos = record { bound = bound; met = go g.met }
  where
    bound : (i : ℕ) → i < n → HasGlyph s (entry_at start i) → m (entry_at start i) ≤ z
    bound i l p = g.bound i (omega arith) (omega arith) p

    go : (z ≡ 0) ⊎ ((i : ℕ) × (0 ≤ i) × (i < 0 + n) × HasGlyph s (entry_at start i) × (m (entry_at start i) ≡ z)) →
        ((z ≡ 0) × ((i : ℕ) → i < n → HasGlyph s (entry_at start i) → ⊥)) ⊎ ((i : ℕ) × (i < n) × HasGlyph s (entry_at start i) × (m (entry_at start i) ≡ z))
    go (inl e) = inl (e, λ i l p. absurd (omega (arith, pos i l p, g.bound i (omega arith) (omega arith) p)))
    go (inr (i, a, l, p, e)) = inr (i, omega arith, p, e)

-- an entry with a glyph that breaks no rule keeps them
pub keeps_rules : (s : List ℕ) (total at : ℕ) → (Breaks s total at → ⊥) → HasGlyph s at → Rules s total at
keeps_rules s total at b h = go (entry_of s total at) (entry_meaning s total at)
  where
    go : (x : Entry) → EntrySays s total at x → Rules s total at
    go Empty e = absurd (e h)
    go (Glyph r c) e = e.1
    go Broken e = absurd (b e)

-- the scan stops at the first entry that breaks a rule
pub scan_broken : (s : List ℕ) (total n start i : ℕ) → scan_of s total start n 0 0 0 ≡ Err i → FirstBroken s total n start i
scan_broken s total n start i e =
    let g = rw e at (scan_says s total start n 0 0 0) in
    record { within = omega (arith, g.1); breaks = g.2; first = λ j l p. g.3 j (omega arith) l p }

-- or no entry does, and it gives the largest sums over the entries with a glyph
pub scan_greatest : (s : List ℕ) (total n start h w : ℕ) → scan_of s total start n 0 0 0 ≡ Ok (h, w) →
    ((i : ℕ) → i < n → Breaks s total (entry_at start i) → ⊥) × IsGreatest s n start (rows_at s) h × IsGreatest s n start (cols_at s) w
scan_greatest s total n start h w e =
    let g = rw e at (scan_says s total start n 0 0 0) in
    let fine : (i : ℕ) → i < n → Breaks s total (entry_at start i) → ⊥ = λ i l p. g.0 i (omega arith) (omega arith) p in (
      fine,
      greatest s n start (rows_at s) h g.1 (λ i l p. (keeps_rules s total (entry_at start i) (fine i l) p).0.0),
      greatest s n start (cols_at s) w g.2 (λ i l p. (keeps_rules s total (entry_at start i) (fine i l) p).1.0),
    )

-- there is one greatest number
pub one_greatest : (s : List ℕ) (n start : ℕ) (m : ℕ → ℕ) (x y : ℕ) → IsGreatest s n start m x → IsGreatest s n start m y → x ≡ y
one_greatest s n start m x y a b = go a.met b.met
  where
    go : ((x ≡ 0) × ((i : ℕ) → i < n → HasGlyph s (entry_at start i) → ⊥)) ⊎ ((i : ℕ) × (i < n) × HasGlyph s (entry_at start i) × (m (entry_at start i) ≡ x)) →
        ((y ≡ 0) × ((i : ℕ) → i < n → HasGlyph s (entry_at start i) → ⊥)) ⊎ ((i : ℕ) × (i < n) × HasGlyph s (entry_at start i) × (m (entry_at start i) ≡ y)) → x ≡ y
    go (inl p) (inl q) = p.0 ∙ sym q.0
    go (inl p) (inr (i, l, h, e)) = absurd (p.1 i l h)
    go (inr (i, l, h, e)) (inl q) = absurd (q.1 i l h)
    go (inr (i, l, h, e)) (inr (j, k, g, f)) = omega (arith, e, f, b.bound i l h, a.bound j k g)
