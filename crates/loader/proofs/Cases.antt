-- The code's cases, one law for each return.
use mathlib.Core.Path.{◌≡◌, sym, ◌∙◌, ap}
use mathlib.Core.Bool.{true, false}
use mathlib.Core.List.{List, [], ◌++◌}
use Prim.Native.Nat.{ℕ, ◌+◌, ◌-◌, ◌≤◌, ◌<◌}
use native.Mathlib.Omega.{arith}
use lib.ListN.{length, take}
use lib.Seq.{take_all, take-append-add}
use borrow.Author.Tests.{eq-eqb, ne_eqb, lt-ltb, le-ltb}
use Rattle.base.specs.Reading.{when}
use Rattle.base.proofs.Chain.{chain}
use Rattle.refusal.specs.Meaning.{refusal, refusal_at}
use Rattle.refusal.specs.declared.Refusal.{Refusal}
use Rattle.refusal.specs.declared.Reason.TheVariants.{TooLong, Entry, TableCut, TableBad, Trailing, Late}
use Rattle.header.specs.declared.Kind.{Kind}
use Rattle.header.specs.declared.Kind.TheVariants.{Vfont2}
use Rattle.header.specs.declared.Font.{Font}
use Rattle.header.specs.Meaning.{limit}
use Rattle.header.specs.Reading.{says_of}
use Rattle.stages.specs.Meaning.{coding_of}
use Rattle.stages.specs.Reading.{and_then, sized, greatest_of, check_of}
use Rattle.coding.specs.declared.Coding.{Coding}
use Rattle.unfinished.specs.declared.Held.{Held}
use Rattle.unfinished.specs.Reading.{held_bytes, held_of}
use Rattle.entryfeed.specs.declared.Sums.{Sums}
use Rattle.entryfeed.specs.declared.Fed as entries
use Rattle.entryfeed.specs.Reading.{entries_fed}
use Rattle.tablefeed.specs.declared.Standing.{Standing}
use Rattle.tablefeed.specs.declared.Fed as tables
use Rattle.tablefeed.specs.Reading.{table_fed}
use Rattle.loader.specs.declared.Loader.{Loader}
use Rattle.loader.specs.Reading.{part_of, entries_in, table_in, counted, font_fed, said_fed, body_fed, head_fed, past_limit, is_open, open_fed, fed_of, feed_answer, entry_number, kind_told, entries_told, tail_told, font_told, answer_of, close_answer, closed_of}
use Rattle.std.specs.Prelude.{Result, Ok, Err}

-- the entries in a piece, where s is their part of it
module _ (f : Font) (total : ℕ) (h : Held) (x : Sums) (p s : List ℕ) (e : s ≡ part_of total f.entries f.bitmaps p) where
  pub no_entries : length s ≡ 0 → record { held = h; sums = x } ≡ entries_in f total h x p
  unfolding entries_in when
  no_entries z = rw (← e, eq-eqb (length s) 0 z)

  pub entries_on : (length s ≡ 0 → ⊥) → f.entries < total → (r : entries.Fed) → r ≡ entries_fed f.size total h x s → r ≡ entries_in f total h x p
  unfolding entries_in when
  entries_on z k r q = q ∙ rw (← e, ne_eqb (length s) 0 z, lt-ltb f.entries total k)

  pub entries_first : (length s ≡ 0 → ⊥) → total ≤ f.entries → (g : Held) → g ≡ held_of [] → (r : entries.Fed) → r ≡ entries_fed f.size f.entries g x s → r ≡ entries_in f total h x p
  unfolding entries_in when
  entries_first z k g w r q = q ∙ rw (← e, ne_eqb (length s) 0 z, le-ltb f.entries total k, w)

-- the table in a piece
module _ (f : Font) (total : ℕ) (h : Held) (t : Standing) (p s : List ℕ) (e : s ≡ part_of total f.end limit p) where
  pub no_tail : length s ≡ 0 → record { held = h; standing = t } ≡ table_in f total h t p
  unfolding table_in when
  no_tail z = rw (← e, eq-eqb (length s) 0 z)

  pub no_table : (length s ≡ 0 → ⊥) → f.table ≡ false → record { held = h; standing = t } ≡ table_in f total h t p
  unfolding table_in when
  no_table z k = rw (← e, ne_eqb (length s) 0 z, k)

  pub table_on : (length s ≡ 0 → ⊥) → f.table ≡ true → f.end < total → (c : Coding) → c ≡ coding_of f.kind → (r : tables.Fed) → r ≡ table_fed c f.count total h t s → r ≡ table_in f total h t p
  unfolding table_in when
  table_on z b k c w r q = q ∙ rw (← e, ne_eqb (length s) 0 z, b, lt-ltb f.end total k, w)

  pub table_first : (length s ≡ 0 → ⊥) → f.table ≡ true → total ≤ f.end → (c : Coding) → c ≡ coding_of f.kind → (g : Held) → g ≡ held_of [] →
      (r : tables.Fed) → r ≡ table_fed c f.count f.end g t s → r ≡ table_in f total h t p
  unfolding table_in when
  table_first z b k c w g v r q = q ∙ rw (← e, ne_eqb (length s) 0 z, b, le-ltb f.end total k, w, v)

module _ (l : Loader) (p : List ℕ) where
  pub font_fed_lem : (f : Font) (e : entries.Fed) (t : tables.Fed) → e ≡ entries_in f l.total l.held l.sums p → t ≡ table_in f l.total e.held l.standing p →
      counted l p t.held e.sums t.standing ≡ font_fed f l p
  unfolding font_fed
  font_fed_lem f e t q w = rw (w, q)

  pub said_fed_lem : (c : Result Font Refusal) → c ≡ says_of l.header → (r : Loader) → r ≡ said_fed c l p → r ≡ body_fed l p
  unfolding body_fed
  said_fed_lem c e r q = q ∙ rw e

  -- while the header is unfinished
  pub head_more : length p < 32 - l.total → (g : Held) → g ≡ held_of (held_bytes l.held ++ p) → counted l p g l.sums l.standing ≡ head_fed l p
  unfolding head_fed when
  head_more h g e = rw (lt-ltb (length p) (32 - l.total) h, e)

  pub head_whole : 32 - l.total ≤ length p → l.total < 32 → length (held_bytes l.held) ≡ l.total → (bytes : List ℕ) → take 32 bytes ≡ held_bytes l.held ++ take (32 - l.total) p → length bytes ≡ 32 →
      (g : Held) → g ≡ held_of [] → (r : Loader) → r ≡ body_fed (record { total = l.total; closed = l.closed; header = bytes; held = g; sums = l.sums; standing = l.standing }) p → r ≡ head_fed l p
  unfolding head_fed when
  head_whole h i k bytes e w g q r v =
      let a : bytes ≡ take 32 (held_bytes l.held ++ p) =
      let o : length (held_bytes l.held) + (32 - l.total) ≡ 32 = omega arith in
      sym (take_all 32 bytes (omega arith)) ∙ e ∙ sym (take-append-add (held_bytes l.held) p (32 - l.total)) ∙ ap (λ (n : ℕ). take n (held_bytes l.held ++ p)) o in
      v ∙ rw (le-ltb (length p) (32 - l.total) h, a, q)

  -- an open record
  pub too_long : limit < l.total → l ≡ open_fed l p
  unfolding open_fed
  too_long h = search chain depth 30

  pub grows_long : (l.total ≤ limit) × (limit - l.total < length p) → past_limit ≡ open_fed l p
  unfolding open_fed
  grows_long h = search chain depth 30

  pub in_head : (l.total ≤ limit) × (length p ≤ limit - l.total) × (l.total < 32) → head_fed l p ≡ open_fed l p
  unfolding open_fed
  in_head h = search chain depth 30

  pub in_body : (l.total ≤ limit) × (length p ≤ limit - l.total) × (32 ≤ l.total) → body_fed l p ≡ open_fed l p
  unfolding open_fed
  in_body h = search chain depth 30

  pub is_fed : is_open l ≡ true → open_fed l p ≡ fed_of l p
  unfolding fed_of
  is_fed e = rw e

  pub stays : is_open l ≡ false → l ≡ fed_of l p
  unfolding fed_of
  stays e = rw e

-- what feeding and closing answer
module _ (l : Loader) where
  pub taken : is_open l ≡ true → Ok tt ≡ feed_answer l
  unfolding feed_answer
  taken e = rw e

  pub fed_late : is_open l ≡ false → Err (refusal Late 0) ≡ feed_answer l
  unfolding feed_answer
  fed_late e = rw e

  pub answers : is_open l ≡ true → answer_of l ≡ close_answer l
  unfolding close_answer
  answers e = rw e

  pub close_late : is_open l ≡ false → Err (refusal Late 0) ≡ close_answer l
  unfolding close_answer
  close_late e = rw e

  pub closes : is_open l ≡ true → record { total = l.total; closed = 1; header = l.header; held = l.held; sums = l.sums; standing = l.standing } ≡ closed_of l
  unfolding closed_of
  closes e = rw e

  pub stays_closed : is_open l ≡ false → l ≡ closed_of l
  unfolding closed_of
  stays_closed e = rw e

  -- the stages
  pub answer_long : limit < l.total → Err (refusal TooLong limit) ≡ answer_of l
  unfolding answer_of
  answer_long h = search chain depth 30

  pub answer_short : (l.total ≤ limit) × (l.total < 32) → check_of (held_bytes l.held) ≡ answer_of l
  unfolding answer_of
  answer_short h = search chain depth 30

  pub answer_whole : (l.total ≤ limit) × (32 ≤ l.total) → and_then (says_of l.header) (λ f. font_told f l) ≡ answer_of l
  unfolding answer_of
  answer_whole h = search chain depth 30

  pub font_cut : (f : Font) (r : Refusal) (c : Result Font Refusal) → c ≡ sized l.total f → c ≡ Err r → Err r ≡ font_told f l
  unfolding font_told
  font_cut f r c e q = rw (← e, q)

  pub entries_refused : (f g : Font) (r : Refusal) (c d : Result Font Refusal) → c ≡ sized l.total f → c ≡ Ok g → d ≡ entries_told g l.sums → d ≡ Err r → Err r ≡ font_told f l
  unfolding font_told
  entries_refused f g r c d e q w v = rw (← e, q, ← w, v)

  pub to_tail : (f g k : Font) (c d x : Result Font Refusal) → c ≡ sized l.total f → c ≡ Ok g → d ≡ entries_told g l.sums → d ≡ Ok k → x ≡ tail_told k l.total l.standing → x ≡ font_told f l
  unfolding font_told
  to_tail f g k c d x e q w v u = u ∙ rw (← e, q, ← w, v)

pub told_by : (f : Font) (x : Sums) (k : Kind) → f.kind ≡ k → (r : Result Font Refusal) → r ≡ kind_told f x k → r ≡ entries_told f x
unfolding entries_told
told_by f x k e r q = q ∙ rw e

pub broke : (f : Font) (x : Sums) → (x.broken ≡ 0 → ⊥) → Err (refusal_at Entry x.broken (entry_number f.entries x.broken)) ≡ kind_told f x Vfont2
broke f x h = search chain depth 30

pub whole : (f : Font) (x : Sums) → x.broken ≡ 0 → greatest_of f x.height x.width ≡ kind_told f x Vfont2
whole f x h = search chain depth 30

module _ (f : Font) (total : ℕ) (t : Standing) where
  pub bare_over : f.table ≡ false → f.end < total → Err (refusal Trailing f.end) ≡ tail_told f total t
  unfolding tail_told when
  bare_over b h = rw (b, lt-ltb f.end total h)

  pub bare_sound : f.table ≡ false → total ≤ f.end → Ok f ≡ tail_told f total t
  unfolding tail_told when
  bare_sound b h = rw (b, le-ltb f.end total h)

  pub table_cut : f.table ≡ true → t.halted ≡ 0 → t.ended < f.count → Err (refusal_at TableCut total t.ended) ≡ tail_told f total t
  unfolding tail_told when
  table_cut b h k = rw (b, eq-eqb t.halted 0 h, lt-ltb t.ended f.count k)

  pub table_whole : f.table ≡ true → t.halted ≡ 0 → f.count ≤ t.ended → Ok f ≡ tail_told f total t
  unfolding tail_told when
  table_whole b h k = rw (b, eq-eqb t.halted 0 h, le-ltb t.ended f.count k)

  pub table_over : f.table ≡ true → (t.halted ≡ 0 → ⊥) → t.halted ≡ 12 → Err (refusal Trailing t.place) ≡ tail_told f total t
  unfolding tail_told when
  table_over b h k = rw (b, ne_eqb t.halted 0 h, eq-eqb t.halted 12 k)

  pub table_bad : f.table ≡ true → (t.halted ≡ 0 → ⊥) → (t.halted ≡ 12 → ⊥) → Err (refusal_at TableBad t.place t.ended) ≡ tail_told f total t
  unfolding tail_told when
  table_bad b h k = rw (b, ne_eqb t.halted 0 h, ne_eqb t.halted 12 k)
