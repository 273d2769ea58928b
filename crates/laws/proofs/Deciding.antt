-- Rows 1 to 9 of document 01's table, one after the other, whatever stands after them (Check says what is shown).
use mathlib.Core.Path.{◌≡◌, refl, sym, ◌∙◌, ap}
use mathlib.Core.Logic.{◌⊎◌, inl, inr, ⊎_elim}
use mathlib.Core.List.{List, [], ◌∷◌}
use Prim.Native.Nat.{ℕ, ◌+◌, ◌*◌, ◌≤◌, ◌<◌}
use native.Mathlib.Omega.{arith}
use lib.ListN.{length, get_or}
use Rattle.base.specs.Meaning.{Begins, le32}
use Rattle.base.proofs.Tests.{below, same}
use Rattle.refusal.specs.declared.Refusal.{Refusal}
use Rattle.header.specs.declared.Kind.TheVariants.{Psf1, Psf2, Vfont2}
use Rattle.header.specs.declared.Font.{Font}
use Rattle.header.specs.declared.Fields.{Fields}
use Rattle.header.specs.Meaning.{limit, row_bytes, glyph_bytes, psf1_font, fields_of, psf2_font, vfont2_font, magic_of, psf1_count, psf1_table}
use Rattle.header.specs.Reading.{kind_of, head_of, psf2_shaped, vfont2_shaped, on_fields, says_of}
use Rattle.header.proofs.Cases as header
use Rattle.entries.specs.Meaning.{entry_at, rows_at, cols_at, FirstBroken, IsGreatest}
use Rattle.entries.specs.Reading.{scan_of}
use Rattle.entries.proofs.Meaning.{scan_broken, scan_greatest, one_greatest}
use Rattle.stages.specs.Reading.{scanned, entries_of, through_body, through_entries}
use Rattle.stages.proofs.Cases as stages
use Rattle.content.proofs.Magic.{kind_says}
use Rattle.laws.specs.Meaning.{Exact, Said, refuses, told, Row, Psf1Rows, HeadRows, Psf2Rows, EntryRows, Vfont2Rows, KindRows, RowsThen}
use Rattle.laws.proofs.Exactly.{row, row_at, less, equal, other, either}
use Rattle.std.specs.Prelude.{Result, Ok, Err, Option, Some, None}
use Rattle.header.specs.declared.Kind.{Kind}

-- whether a number is the greatest, where the greatest is known
module _ (s : List ℕ) (n start : ℕ) (m : ℕ → ℕ) (a p : ℕ) (g : IsGreatest s n start m p) where
  differs : (IsGreatest s n start m a → ⊥) → a ≡ p → ⊥
  differs k e = k (rw e g)

  agrees : ((IsGreatest s n start m a → ⊥) → ⊥) → a ≡ p
  agrees k = equal a p (λ d. k (λ x. d (one_greatest s n start m a p x g)))

  greatest_or : (IsGreatest s n start m a → ⊥) ⊎ ((IsGreatest s n start m a → ⊥) → ⊥)
  greatest_or = go (same a p)
    where
      go : (a ≡ p) ⊎ ((a ≡ p) → ⊥) → (IsGreatest s n start m a → ⊥) ⊎ ((IsGreatest s n start m a → ⊥) → ⊥)
      go (inl e) = inr (λ k. differs k e)
      go (inr k) = inl (λ x. k (one_greatest s n start m a p x g))

-- only one entry is the first that breaks a rule
one_broken : (s : List ℕ) (total n start i k : ℕ) → FirstBroken s total n start i → FirstBroken s total n start k → i ≡ k
one_broken s total n start i k a b = go (below i k) (below k i)
  where
    go : (i < k) ⊎ (k ≤ i) → (k < i) ⊎ (i ≤ k) → i ≡ k
    go (inl l) m = absurd (b.first i l a.breaks)
    go (inr l) (inl m) = absurd (a.first k m b.breaks)
    go (inr l) (inr m) = omega arith

-- two lists that a list begins with agree in their first byte
front : (p q : ℕ) (ps qs s : List ℕ) → Begins (p ∷ ps) s → Begins (q ∷ qs) s → (p ≡ q → ⊥) → ⊥
front p q ps qs [] a b n = let z : ◌≡◌ {A = ℕ} 0 1 = cc in omega arith
front p q ps qs (x ∷ s) a b n = n (let u : x ≡ p = cc in let v : x ≡ q = cc in sym u ∙ v)

-- no file begins with two magics
module _ (s : List ℕ) where
  psf1_not_psf2 : Begins (magic_of Psf1) s → Begins (magic_of Psf2) s → ⊥
  psf1_not_psf2 a b = front 0x36 0x72 _ _ s a b (λ e. omega arith)

  psf1_not_vfont2 : Begins (magic_of Psf1) s → Begins (magic_of Vfont2) s → ⊥
  psf1_not_vfont2 a b = front 0x36 0x27 _ _ s a b (λ e. omega arith)

  pub psf2_not_vfont2 : Begins (magic_of Psf2) s → Begins (magic_of Vfont2) s → ⊥
  psf2_not_vfont2 a b = front 0x72 0x27 _ _ s a b (λ e. omega arith)

-- what the check says, x: a refusal of stages 1 to 9 is its own, and for a font that passed them the rows after them decide
module _ (s : List ℕ) (after : Font → Said Font → Type 0) (x : Said Font) (stop : (r : Refusal) → Err r ≡ through_entries s → x ≡ told r)
    (on : (f : Font) → Ok f ≡ through_entries s → Exact x (after f)) where
  stop_body : (r : Refusal) → Err r ≡ through_body s → x ≡ told r
  stop_body r e = stop r (stages.entries_after s (Err r) (sym e))

  module _ (short : length s ≤ limit) where
    stop_header : (r : Refusal) → Err r ≡ says_of s → x ≡ told r
    stop_header r e = stop_body r (stages.body_after s (Err r) (sym e) short)

    -- a font that the header describes
    module _ (f : Font) (says : Ok f ≡ says_of s) where
      cut : length s < f.end → x ≡ refuses 8 (length s)
      cut h = stop_body _ (stages.body_cut (length s) f h ∙ stages.body_after s (Ok f) (sym says) short)

      scan : f.end ≤ length s → entries_of s f ≡ through_entries s
      scan h = stages.entries_after s (Ok f) (sym (stages.body_whole (length s) f h ∙ stages.body_after s (Ok f) (sym says) short))

    psf1_rows : kind_of s ≡ Some Psf1 → Exact x (Psf1Rows s after)
    psf1_rows k =
        let there = header.named_as s (Some Psf1) k in
        row (less (length s) 4) (λ h. stop_header _ (header.psf1_cut s h ∙ there)) (λ c.
        row (less 5 (get_or s 2 0)) (λ h. stop_header _ (header.psf1_mode s (omega arith, h) ∙ there)) (λ m.
        row (same (get_or s 3 0) 0) (λ h. stop_header _ (header.psf1_shape s ((omega arith, omega arith), h) ∙ there)) (λ z.
        let f = psf1_font (psf1_count (get_or s 2 0)) (get_or s 3 0) (psf1_table (get_or s 2 0)) in
        let says = header.psf1_sound s ((omega arith, omega arith), z) ∙ there in
        row (less (length s) (4 + psf1_count (get_or s 2 0) * get_or s 3 0)) (cut f says) (λ b.
        on f (stages.entries_of_lem s f Psf1 refl ∙ scan f says (omega arith))))))

    -- rows 3 to 6, whatever rows follow on the fields
    module _ (shaped : Fields → Result Font Refusal) (there : on_fields shaped (head_of s) ≡ says_of s) where
      stop_head : (r : Refusal) → Err r ≡ head_of s → x ≡ told r
      stop_head r e = stop_header r (ap (on_fields shaped) e ∙ there)

      head_rows : (rest : Said Font → Type 0) → (shaped (fields_of s) ≡ says_of s → Exact x rest) → Exact x (HeadRows s rest)
      head_rows rest next =
          row (less (length s) 32) (λ h. stop_head _ (header.head_cut s h)) (λ c.
          row (other (le32 s 4) 0) (λ h. stop_head _ (header.head_version s (omega arith, h))) (λ v'.
          let v : le32 s 4 ≡ 0 = equal (le32 s 4) 0 v' in
          let long : header.Long s = (omega arith, v) in
          row (less 1 (le32 s 12)) (λ h. stop_head _ (header.head_flags s (long, h))) (λ b.
          let flags : header.Flags s = (long, omega arith) in
          row (either (less (le32 s 8) 32) (less 4096 (le32 s 8)))
          (⊎_elim (λ h. stop_head _ (header.head_low s (flags, h)))
          (λ h. stop_head _ (header.head_high s (flags, omega arith, h)))) (λ z.
          let low : le32 s 8 < 32 → ⊥ = λ h. z (inl h) in
          let high : 4096 < le32 s 8 → ⊥ = λ h. z (inr h) in
          let start : header.Start s = (flags, omega arith, omega arith) in
          row (either (same (le32 s 16) 0) (less 4096 (le32 s 16)))
          (⊎_elim (λ h. stop_head _ (header.head_none s (start, h)))
          (λ h. stop_head _ (header.head_many s (start, (λ e. absurd (omega arith)), h)))) (λ n.
          let some : le32 s 16 ≡ 0 → ⊥ = λ h. n (inl h) in
          let few : 4096 < le32 s 16 → ⊥ = λ h. n (inr h) in
          next (ap (on_fields shaped) (header.head_sound s (start, some, omega arith)) ∙ there))))))

    psf2_rows : kind_of s ≡ Some Psf2 → Exact x (Psf2Rows s after)
    unfolding glyph_bytes
    psf2_rows k =
        head_rows psf2_shaped (header.named_as s (Some Psf2) k) _ (λ there.
        let f = fields_of s in
        row (either (less (le32 s 24) 1) (less 255 (le32 s 24)))
        (⊎_elim (λ h. stop_header _ (header.height_low f h ∙ there)) (λ h. stop_header _ (header.height_high f (omega arith, h) ∙ there))) (λ t.
        let t1 : le32 s 24 < 1 → ⊥ = λ h. t (inl h) in
        let t2 : 255 < le32 s 24 → ⊥ = λ h. t (inr h) in
        let tall : header.Height f = (omega arith, omega arith) in
        row (either (less (le32 s 28) 1) (less 255 (le32 s 28)))
        (⊎_elim (λ h. stop_header _ (header.width_low f (tall, h) ∙ there))
        (λ h. stop_header _ (header.width_high f (tall, omega arith, h) ∙ there))) (λ w.
        let w1 : le32 s 28 < 1 → ⊥ = λ h. w (inl h) in
        let w2 : 255 < le32 s 28 → ⊥ = λ h. w (inr h) in
        let broad : header.Width f = (tall, omega arith, omega arith) in
        row (other (le32 s 20) (le32 s 24 * row_bytes (le32 s 28)))
        (λ h. stop_header _ (header.size_wrong f (broad, h) ∙ there)) (λ z.
        let e : le32 s 20 ≡ le32 s 24 * row_bytes (le32 s 28) = equal (le32 s 20) (le32 s 24 * row_bytes (le32 s 28)) z in
        let says = header.psf2_sound f (broad, e) ∙ there in
        row (less (length s) (le32 s 8 + le32 s 16 * le32 s 20)) (cut (psf2_font f) says) (λ b.
        on (psf2_font f) (stages.entries_of_lem s (psf2_font f) Psf2 refl ∙ scan (psf2_font f) says (omega arith)))))))

    -- row 9
    entry_rows : (z : Result (ℕ × ℕ) ℕ) → scan_of s (le32 s 20) (le32 s 8) (le32 s 16) 0 0 0 ≡ z → scanned (vfont2_font (fields_of s)) z ≡ through_entries s →
        Exact x (EntryRows s (after (vfont2_font (fields_of s))))
    entry_rows (Err i) e there =
        let b = scan_broken s (le32 s 20) (le32 s 16) (le32 s 8) i e in
        row_at (inl (i, b))
        (λ k q. stop _ there ∙ ap (λ (j : ℕ). refuses 9 (entry_at (le32 s 8) j)) (one_broken s (le32 s 20) (le32 s 16) (le32 s 8) i k b q))
        (λ n. absurd (n i b))
    entry_rows (Ok (p, q)) e there =
        let f = vfont2_font (fields_of s) in
        let g = scan_greatest s (le32 s 20) (le32 s 16) (le32 s 8) p q e in
        row_at (inr (λ i b. g.0 i b.within b.breaks)) (λ i b. absurd (g.0 i b.within b.breaks)) (λ none.
        row (greatest_or s (le32 s 16) (le32 s 8) (rows_at s) (le32 s 24) p g.1)
        (λ n. stop _ (stages.height_wrong f p q (differs s (le32 s 16) (le32 s 8) (rows_at s) (le32 s 24) p g.1 n) ∙ there)) (λ m.
        let h = agrees s (le32 s 16) (le32 s 8) (rows_at s) (le32 s 24) p g.1 m in
        row (greatest_or s (le32 s 16) (le32 s 8) (cols_at s) (le32 s 28) q g.2)
        (λ n. stop _ (stages.width_wrong f p q (h, differs s (le32 s 16) (le32 s 8) (cols_at s) (le32 s 28) q g.2 n) ∙ there)) (λ r.
        let w = agrees s (le32 s 16) (le32 s 8) (cols_at s) (le32 s 28) q g.2 r in
        on f (stages.greatest_right f p q (h, w) ∙ there))))

    vfont2_rows : kind_of s ≡ Some Vfont2 → Exact x (Vfont2Rows s after)
    vfont2_rows k =
        head_rows vfont2_shaped (header.named_as s (Some Vfont2) k) _ (λ there.
        let f = fields_of s in
        row (less 255 (le32 s 24)) (λ h. stop_header _ (header.tall f h ∙ there)) (λ t.
        row (less 255 (le32 s 28)) (λ h. stop_header _ (header.broad f (omega arith, h) ∙ there)) (λ w.
        let says = header.vfont2_sound f (omega arith, omega arith) ∙ there in
        row (less (length s) (le32 s 8 + le32 s 16 * 18 + le32 s 20)) (cut (vfont2_font f) says) (λ b.
        entry_rows _ refl (stages.entries_of_lem s (vfont2_font f) Vfont2 refl ∙ scan (vfont2_font f) says (omega arith))))))

    -- the rows of the kind that the file begins with, and of no other
    only_psf1 : kind_of s ≡ Some Psf1 → Begins (magic_of Psf1) s → Exact x (KindRows s after)
    only_psf1 k b a = (λ e. inl (b, (psf1_rows k a).0 e), back)
      where
        back : KindRows s after a → x ≡ a
        back (inl (c, r)) = (psf1_rows k a).1 r
        back (inr (inl (c, r))) = absurd (psf1_not_psf2 s b c)
        back (inr (inr (c, r))) = absurd (psf1_not_vfont2 s b c)

    only_psf2 : kind_of s ≡ Some Psf2 → Begins (magic_of Psf2) s → Exact x (KindRows s after)
    only_psf2 k b a = (λ e. inr (inl (b, (psf2_rows k a).0 e)), back)
      where
        back : KindRows s after a → x ≡ a
        back (inl (c, r)) = absurd (psf1_not_psf2 s c b)
        back (inr (inl (c, r))) = (psf2_rows k a).1 r
        back (inr (inr (c, r))) = absurd (psf2_not_vfont2 s b c)

    only_vfont2 : kind_of s ≡ Some Vfont2 → Begins (magic_of Vfont2) s → Exact x (KindRows s after)
    only_vfont2 k b a = (λ e. inr (inr (b, (vfont2_rows k a).0 e)), back)
      where
        back : KindRows s after a → x ≡ a
        back (inl (c, r)) = absurd (psf1_not_vfont2 s c b)
        back (inr (inl (c, r))) = absurd (psf2_not_vfont2 s c b)
        back (inr (inr (c, r))) = (vfont2_rows k a).1 r

    kind_rows : (z : Option Kind) → kind_of s ≡ z →
        Exact x (Row ((Begins (magic_of Psf1) s → ⊥) × (Begins (magic_of Psf2) s → ⊥) × (Begins (magic_of Vfont2) s → ⊥)) 2 0 (KindRows s after))
    kind_rows (Some Psf1) k = let b = rw k at (kind_says s) in row (inr (λ n. n.0 b)) (λ n. absurd (n.0 b)) (λ n. only_psf1 k b)
    kind_rows (Some Psf2) k = let b = rw k at (kind_says s) in row (inr (λ n. n.1 b)) (λ n. absurd (n.1 b)) (λ n. only_psf2 k b)
    kind_rows (Some Vfont2) k = let b = rw k at (kind_says s) in row (inr (λ n. n.2 b)) (λ n. absurd (n.2 b)) (λ n. only_vfont2 k b)
    kind_rows None k = let b = rw k at (kind_says s) in row (inl b) (λ n. stop_header _ (header.named_as s None k)) (λ n. absurd (n b))

  pub rows_then : Exact x (RowsThen s after)
  rows_then = row (less limit (length s)) (λ h. stop_body _ (stages.too_long s h)) (λ n. kind_rows (omega arith) (kind_of s) refl)
