-- Rows 10 to 12 on a whole file, for a font that passed rows 1 to 9: from the check's answer to the laws of its tail.
use mathlib.Core.Path.{◌≡◌, refl, sym, ◌∙◌, ap, subst}
use mathlib.Core.Logic.{◌↔◌, ◌⊎◌, inl, inr}
use mathlib.Core.Bool.{Bool, true, false}
use mathlib.Core.List.{List, []}
use Prim.Native.Nat.{ℕ, ◌+◌, ◌≤◌}
use native.Mathlib.Omega.{arith}
use lib.ListN.{length, take, length-drop, drop_of_length-le}
use lib.Seq.{take_all}
use Rattle.base.specs.Meaning.{Bytes}
use Rattle.base.proofs.Parts.{bytes_drop, byte_at}
use Rattle.coding.specs.declared.Coding.{Coding}
use Rattle.table.specs.Reading.{table_of}
use Rattle.table.specs.Meaning.{IsTable, Completable, LongestStart, Unfinished, BadAt, TrailingAt}
use Rattle.table.proofs.Meaning as meaning
use Rattle.header.specs.declared.Font.{Font}
use Rattle.stages.specs.Meaning.{coding_of, tail_of}
use Rattle.stages.specs.Reading.{answered, through_entries, check_of}
use Rattle.stages.proofs.Cases.{with_table, bare_trailing, bare_sound, tail_after, placed}
use Rattle.laws.specs.Meaning.{Exact, gives, refuses, says, given, skipped, given_at, skipped_at, of_tail, TailRows}
use Rattle.laws.proofs.Exactly.{no_refusal_lem, row, row_at, is, less, clash, said_place}
use Rattle.std.specs.Prelude.{Result, Ok, Err}
use Rattle.table.specs.declared.Fault.{Fault}
use Rattle.table.specs.declared.Fault.TheVariants.{Cut, Bad, Trailing as Over}

module _ (s : List ℕ) (y : Bytes s) (f : Font) (passed : through_entries s ≡ Ok f) (marked : f.table ≡ true) where
  abbrev c : Coding
  c = coding_of f.kind

  t_bytes : Bytes (tail_of s f)
  t_bytes = bytes_drop f.end s y

  checked : check_of s ≡ answered f (table_of c f.count (tail_of s f))
  checked = sym (with_table s f marked ∙ tail_after s (Ok f) passed)

  where_it_ends : f.end + length (tail_of s f) ≡ length s
  where_it_ends = let p = placed s f (byte_at s y 3) passed in omega (arith, p.7, length-drop f.end s)

  -- the check's answer for each of the table's; a refusal by its number and place
  pub accepted : of_tail IsTable s f → check_of s ≡ Ok f
  accepted h = checked ∙ ap (answered f) ((meaning.complete_exactly c f.count (tail_of s f) t_bytes).1 h)

  answer_says : (a : Result (Unit {0}) Fault) → table_of c f.count (tail_of s f) ≡ a → says (check_of s) ≡ says (answered f a)
  answer_says a e = ap says (checked ∙ ap (answered f) e)

  cut : of_tail Unfinished s f → says (check_of s) ≡ refuses 10 (length s)
  cut h = let e = (meaning.cut_place c f.count (tail_of s f) (length (tail_of s f)) t_bytes).1 (refl, h) in answer_says _ e.1 ∙ ap (refuses 10) where_it_ends

  bad : (k : ℕ) → of_tail BadAt s f k → says (check_of s) ≡ refuses 11 (f.end + k)
  bad k h = let e = (meaning.bad_place c f.count (tail_of s f) k t_bytes).1 h in answer_says _ e.1

  over : (k : ℕ) → of_tail TrailingAt s f k → says (check_of s) ≡ refuses 12 (f.end + k)
  over k h = answer_says _ ((meaning.trailing_exactly c f.count (tail_of s f) k t_bytes).1 h)

  -- and one of them holds
  abbrev Outcome : Type 0
  Outcome = of_tail IsTable s f ⊎ (of_tail Unfinished s f ⊎ (((k : ℕ) × of_tail BadAt s f k) ⊎ ((k : ℕ) × of_tail TrailingAt s f k)))

  outcome : Outcome
  outcome = go (table_of c f.count (tail_of s f)) refl
    where
      go : (a : Result (Unit {0}) Fault) → table_of c f.count (tail_of s f) ≡ a → Outcome
      go (Ok tt) e = inl ((meaning.complete_exactly c f.count (tail_of s f) t_bytes).0 e)
      go (Err (Cut k g)) e = inr (inl ((meaning.cut_place c f.count (tail_of s f) k t_bytes).0 (g, e)).1)
      go (Err (Bad k g)) e = inr (inr (inl (k, (meaning.bad_place c f.count (tail_of s f) k t_bytes).0 (g, e))))
      go (Err (Over k)) e = inr (inr (inr (k, (meaning.trailing_exactly c f.count (tail_of s f) k t_bytes).0 e)))

  -- the table's rows
  pub table_rows : Exact (says (check_of s)) (TailRows s f true)
  table_rows = by outcome
    where
      by : Outcome → Exact (says (check_of s)) (TailRows s f true)
      by (inl h) =
          let q = ap says (accepted h) in
          row (inr (λ u. clash (sym (cut u) ∙ q) (λ z. omega arith))) (λ u. cut u) (λ a.
          row_at (inr (λ k u. clash (sym (bad k u) ∙ q) (λ z. omega arith))) (λ k u. bad k u) (λ b.
          row_at (inr (λ k u. clash (sym (over k u) ∙ q) (λ z. omega arith))) (λ k u. over k u) (λ d.
          is _ (gives f) q)))
      by (inr (inl h)) = row (inl h) (λ u. cut u) (λ n. absurd (n h))
      by (inr (inr (inl (k, h)))) =
          let q = bad k h in
          row (inr (λ u. clash (sym (cut u) ∙ q) (λ z. omega arith))) (λ u. cut u) (λ a.
          row_at (inl (k, h)) (λ j u. bad j u) (λ n. absurd (n k h)))
      by (inr (inr (inr (k, h)))) =
          let q = over k h in
          row (inr (λ u. clash (sym (cut u) ∙ q) (λ z. omega arith))) (λ u. cut u) (λ a.
          row_at (inr (λ j u. clash (sym (bad j u) ∙ q) (λ z. omega arith))) (λ j u. bad j u) (λ b.
          row_at (inl (k, h)) (λ j u. over j u) (λ n. absurd (n k h))))

  -- what each answer says of the tail
  sound_only : TailRows s f true (gives f) → of_tail IsTable s f
  sound_only r = go outcome
    where
      go : Outcome → of_tail IsTable s f
      go (inl h) = h
      go (inr (inl h)) = clash (sym (cut h) ∙ (table_rows (gives f)).1 r) (λ z. omega arith)
      go (inr (inr (inl (k, h)))) = clash (sym (bad k h) ∙ (table_rows (gives f)).1 r) (λ z. omega arith)
      go (inr (inr (inr (k, h)))) = clash (sym (over k h) ∙ (table_rows (gives f)).1 r) (λ z. omega arith)

  pub accepted_exactly : (says (check_of s) ≡ gives f) ↔ of_tail IsTable s f
  accepted_exactly = (λ e. sound_only ((table_rows (gives f)).0 e), λ h. ap says (accepted h))

  pub cut_exactly : (p : ℕ) → (says (check_of s) ≡ refuses 10 p) ↔ ((p ≡ length s) × of_tail Unfinished s f)
  cut_exactly p = (λ e. go ((table_rows (refuses 10 p)).0 e), λ (z, h). cut h ∙ ap (refuses 10) (sym z))
    where
      go : TailRows s f true (refuses 10 p) → (p ≡ length s) × of_tail Unfinished s f
      go (given h q) = (ap said_place q, h)
      go (skipped n (given_at k h q)) = clash q (λ z. omega arith)
      go (skipped n (skipped_at m (given_at k h q))) = clash q (λ z. omega arith)
      go (skipped n (skipped_at m (skipped_at l q))) = clash q (λ z. omega arith)

  pub bad_exactly : (p : ℕ) → (says (check_of s) ≡ refuses 11 p) ↔ ((k : ℕ) × (p ≡ f.end + k) × of_tail BadAt s f k)
  bad_exactly p = (λ e. go ((table_rows (refuses 11 p)).0 e), λ (k, z, h). bad k h ∙ ap (refuses 11) (sym z))
    where
      go : TailRows s f true (refuses 11 p) → (k : ℕ) × (p ≡ f.end + k) × of_tail BadAt s f k
      go (given h q) = clash q (λ z. omega arith)
      go (skipped n (given_at k h q)) = (k, ap said_place q, h)
      go (skipped n (skipped_at m (given_at k h q))) = clash q (λ z. omega arith)
      go (skipped n (skipped_at m (skipped_at l q))) = clash q (λ z. omega arith)

  pub trailing_exactly : (p : ℕ) → (says (check_of s) ≡ refuses 12 p) ↔ ((k : ℕ) × (p ≡ f.end + k) × of_tail TrailingAt s f k)
  trailing_exactly p = (λ e. go ((table_rows (refuses 12 p)).0 e), λ (k, z, h). over k h ∙ ap (refuses 12) (sym z))
    where
      go : TailRows s f true (refuses 12 p) → (k : ℕ) × (p ≡ f.end + k) × of_tail TrailingAt s f k
      go (given h q) = clash q (λ z. omega arith)
      go (skipped n (given_at k h q)) = clash q (λ z. omega arith)
      go (skipped n (skipped_at m (given_at k h q))) = (k, ap said_place q, h)
      go (skipped n (skipped_at m (skipped_at l q))) = clash q (λ z. omega arith)

  -- no bytes are no table, for a font has a glyph at least
  no_table : IsTable c f.count [] → ⊥
  no_table h =
      let none : h.reading ≡ [] = meaning.one_reading c h.reading [] h.values tt (sym h.same) in
      omega (arith, h.count, ap length none, (placed s f (byte_at s y 3) passed).1)

  -- where nothing follows the bitmaps, the table is cut
  pub nothing_cut : length s ≡ f.end → says (check_of s) ≡ refuses 10 (length s)
  nothing_cut l = go outcome
    where
      past : length s ≤ f.end
      past = omega (arith, l)

      none : tail_of s f ≡ []
      none = drop_of_length-le s past

      go : Outcome → says (check_of s) ≡ refuses 10 (length s)
      go (inl h) = absurd (no_table (subst (IsTable c f.count) none h))
      go (inr (inl h)) = cut h
      go (inr (inr (inl (k, h)))) = absurd (omega (arith, h.1, ap length none))
      go (inr (inr (inr (k, h)))) = absurd (omega (arith, h.0, ap length none))

  -- no table ends where it begins
  pub never_at_end : says (check_of s) ≡ refuses 12 f.end → ⊥
  never_at_end e =
      let r = (trailing_exactly f.end).0 e in
      let z : r.0 ≡ 0 = omega (arith, r.1) in
      no_table (subst (λ (k : ℕ). IsTable c f.count (take k (tail_of s f))) z r.2.1)

  -- a tail that is cut is its own longest start
  whole_start : of_tail Completable s f → of_tail LongestStart s f (length (tail_of s f))
  whole_start m =
      record {
        within = omega arith;
        completable = rw (take_all (length (tail_of s f)) (tail_of s f) (omega arith)) m;
        longest = λ j l h m. absurd (omega arith);
      }

  pub refused_place : (number p : ℕ) → says (check_of s) ≡ refuses number p → (k : ℕ) × (p ≡ f.end + k) × of_tail LongestStart s f k
  refused_place number p e = go outcome
    where
      go : Outcome → (k : ℕ) × (p ≡ f.end + k) × of_tail LongestStart s f k
      go (inl h) = no_refusal_lem (sym (ap says (accepted h)) ∙ e)
      go (inr (inl h)) = (length (tail_of s f), ap said_place (sym e ∙ cut h) ∙ sym where_it_ends, whole_start h.0)
      go (inr (inr (inl (k, h)))) = (k, ap said_place (sym e ∙ bad k h), h.0)
      go (inr (inr (inr (k, h)))) = (k, ap said_place (sym e ∙ over k h), meaning.trailing_start c f.count (tail_of s f) k t_bytes h)

module _ (s : List ℕ) (y : Bytes s) (f : Font) (passed : through_entries s ≡ Ok f) where
  bare_rows : f.table ≡ false → Exact (says (check_of s)) (TailRows s f false)
  bare_rows t =
      let there = tail_after s (Ok f) passed in
      row (less f.end (length s)) (λ h. ap says (sym (bare_trailing s f t h ∙ there)))
      (λ n. is _ (gives f) (ap says (sym (bare_sound s f t (omega arith) ∙ there))))

  pub tail_rows : (t : Bool) → f.table ≡ t → Exact (says (check_of s)) (TailRows s f t)
  tail_rows true e = table_rows s y f passed e
  tail_rows false e = bare_rows e
