-- What the close answers of a fresh record that was fed one piece: what the whole-file check answers on it.
use mathlib.Core.Path.{◌≡◌, refl, sym, ◌∙◌, ap, subst}
use mathlib.Core.Bool.{Bool, true, false}
use mathlib.Core.Logic.{◌⊎◌, inl, inr, ⊎_elim}
use mathlib.Core.List.{List, [], ◌∷◌, ◌++◌}
use Prim.Native.Nat.{ℕ, zero, suc, ◌+◌, ◌-◌, ◌*◌, ◌≤◌, ◌<◌}
use native.Mathlib.Omega.{arith}
use lib.Dec.{ltb}
use lib.ListN.{length, take, drop, length-drop, take-append-drop}
use lib.Seq.{take_all, length-take-le, drop-append-le}
use borrow.Author.Tests.{lt-ltb, le-ltb, eq-eqb, ne_eqb}
use Rattle.base.specs.Meaning.{pick}
use Rattle.base.specs.Reading.{when}
use Rattle.base.proofs.Tests.{by_when, below, same}
use Rattle.refusal.specs.Meaning.{refusal, refusal_at}
use Rattle.refusal.specs.declared.Reason.TheVariants.{TooLong, BodyCut, TableCut, TableBad, Trailing}
use Rattle.header.specs.declared.Kind.{Kind}
use Rattle.header.specs.declared.Kind.TheVariants.{Psf1, Psf2, Vfont2}
use Rattle.header.specs.declared.Font.{Font}
use Rattle.header.specs.Meaning.{limit}
use Rattle.header.specs.Reading.{says_of}
use Rattle.header.specs.Bounds.{PartsOf, Parts}
use Rattle.header.proofs.Front.{says_front, parts}
use Rattle.entries.specs.Meaning.{entry_at}
use Rattle.entries.specs.Reading.{scan_of}
use Rattle.table.specs.Reading.{steps_from, at_end, table_of}
use Rattle.stages.specs.Meaning.{coding_of, tail_of}
use Rattle.stages.specs.Reading.{and_then, sized, greatest_of, scanned, kind_entries, entries_of, answered, bare_of, tailed, through_body, through_entries, check_of}
use Rattle.unfinished.specs.declared.Held.{Held}
use Rattle.unfinished.specs.Reading.{held_bytes, held_of}
use Rattle.unfinished.proofs.Holding.{held, held_len}
use Rattle.coding.specs.declared.Coding.{Coding}
use Rattle.entryfeed.specs.declared.Sums.{Sums}
use Rattle.entryfeed.specs.declared.Fed as entries
use Rattle.tablefeed.specs.declared.Fed as tables
use Rattle.entryfeed.specs.Reading.{after_scan, sums_of, whole_in, entries_read, entries_fed}
use Rattle.entryfeed.proofs.Scanning.{scan_drop, scan_front}
use Rattle.tablefeed.specs.declared.Run.{Run}
use Rattle.tablefeed.specs.declared.Standing.{Standing}
use Rattle.tablefeed.specs.Reading.{run_of, halt_number, is_set, settled, table_read, table_fed}
use Rattle.tablefeed.proofs.Running.{table_told, told}
use Rattle.loader.specs.declared.Loader.{Loader}
use Rattle.loader.specs.Reading.{entry_number, part_of, entries_in, table_in, counted, font_fed, said_fed, body_fed, headed, past_limit, fresh_of, is_open, fed_of, kind_told, entries_told, tail_told, font_told, answer_of}
use Rattle.loader.proofs.Opening.{opens}
use Rattle.loader.proofs.Cases.{answer_long, answer_short, answer_whole, entries_first, no_entries, no_tail, table_first, table_cut, table_whole, table_over, table_bad, bare_over, bare_sound}
use Rattle.laws.proofs.Regions.{Kept, kept_of}
use Rattle.laws.proofs.Pieces.{in_header, through_header, overflows, body_total, said_keeps}
use Rattle.std.specs.Prelude.{Result, Ok, Err}
use Rattle.refusal.specs.declared.Refusal.{Refusal}

abbrev no_sums : Sums
no_sums = record { broken = 0; height = 0; width = 0 }

abbrev unread : Standing
unread = record { ended = 0; opened = 0; halted = 0; place = 0 }

all_read : (size at n : ℕ) (q : List ℕ) → length q ≡ n * 18 → (entries_read size at no_sums q).sums ≡ after_scan at (scan_of q size 0 n 0 0 0)
unfolding entries_read sums_of
all_read size at n q e = let k : whole_in q ≡ n = omega arith in rw k

none_read : (size at n : ℕ) (q : List ℕ) → n ≡ 0 → no_sums ≡ after_scan at (scan_of q size 0 n 0 0 0)
unfolding scan_of
none_read size at n q e = rw e

first_fed : (size at : ℕ) (q : List ℕ) → entries_fed size at (held_of []) no_sums q ≡ entries_read size at no_sums q
first_fed size at q = let l = held_len [] in let e : at - (held_of []).len ≡ at = omega arith in rw (e, held [])

first_table : (c : Coding) (n at : ℕ) (q : List ℕ) → table_fed c n at (held_of []) unread q ≡ table_read c n at unread q
unfolding table_fed
first_table c n at q = let l = held_len [] in let e : at - (held_of []).len ≡ at = omega arith in rw (e, held [])

no_run : (c : Coding) (n : ℕ) (q : List ℕ) → length q ≡ 0 → (0 ≡ (run_of 0 n false 0 (steps_from c 0 0 q)).ended) × (0 ≡ halt_number (run_of 0 n false 0 (steps_from c 0 0 q)).halted)
unfolding run_of steps_from
no_run c n [] e = (refl, refl)
no_run c n (b ∷ q) e = absurd (omega arith)

read_standing : (c : Coding) (n at : ℕ) (q : List ℕ) → ((table_read c n at unread q).standing.ended ≡ (run_of 0 n false 0 (steps_from c 0 0 q)).ended) × ((table_read c n at unread q).standing.halted ≡ halt_number (run_of 0 n false 0 (steps_from c 0 0 q)).halted) × ((table_read c n at unread q).standing.place ≡ at + (run_of 0 n false 0 (steps_from c 0 0 q)).place)
unfolding table_read settled is_set
read_standing c n at q = let e : n - 0 ≡ n = omega arith in rw e (refl, refl, refl)

-- what the entries said
module _ (f : Font) (s : List ℕ) (w : Parts f) (within : f.end ≤ length s) where
  -- the entries of the dispatch table, all of them whole
  module _ (k : f.kind ≡ Vfont2) where
    v : (32 ≤ f.entries) × (f.bitmaps ≡ f.entries + f.count * 18)
    v = subst (PartsOf f) k w.3

    abbrev P : List ℕ
    P = part_of 0 f.entries f.bitmaps s

    long : length (take (f.bitmaps - 0) s) ≡ f.bitmaps
    long = let e : f.bitmaps - 0 ≡ f.bitmaps = omega arith in rw e (length-take-le f.bitmaps s (omega (arith, w.1)))

    size : length P ≡ f.count * 18
    size = let b = v.1 in length-drop (f.entries - 0) (take (f.bitmaps - 0) s) ∙ ap (λ (n : ℕ). n - (f.entries - 0)) long ∙ omega arith

    scans : scan_of P f.size 0 f.count 0 0 0 ≡ scan_of s f.size f.entries f.count 0 0 0
    scans =
        let a : f.entries - 0 ≡ f.entries = omega arith in
        let b : f.bitmaps - 0 ≡ f.bitmaps = omega arith in
        let z : f.entries + 0 ≡ f.entries = omega arith in
        let d : drop f.entries s ≡ P ++ drop f.bitmaps s =
        ap (λ (x : List ℕ). drop f.entries x) (sym (take-append-drop f.bitmaps s))
        ∙ drop-append-le f.entries (take f.bitmaps s) (drop f.bitmaps s) (let l = length-take-le f.bitmaps s (omega (arith, w.1)) in let c = v.1 in omega arith)
        ∙ rw (a, b) in
        let l = size in
        sym (scan_front P (drop f.bitmaps s) f.size f.count 0 0 (omega arith))
        ∙ sym (ap (λ (n : ℕ). scan_of s f.size n f.count 0 0 0) (sym z) ∙ scan_drop s f.size f.entries 0 f.count 0 0 ∙ ap (λ (x : List ℕ). scan_of x f.size 0 f.count 0 0 0) d)

    sums : (entries_in f 0 (held_of []) no_sums s).sums ≡ after_scan f.entries (scan_of s f.size f.entries f.count 0 0 0)
    sums = ⊎_elim none some (same (length P) 0) ∙ ap (after_scan f.entries) scans
      where
        none : length P ≡ 0 → (entries_in f 0 (held_of []) no_sums s).sums ≡ after_scan f.entries (scan_of P f.size 0 f.count 0 0 0)
        none z = let l = size in ap (λ (y : entries.Fed). y.sums) (sym (no_entries f 0 (held_of []) no_sums s P refl z)) ∙ none_read f.size f.entries f.count P (omega arith)

        some : (length P ≡ 0 → ⊥) → (entries_in f 0 (held_of []) no_sums s).sums ≡ after_scan f.entries (scan_of P f.size 0 f.count 0 0 0)
        some z =
            ap (λ (y : entries.Fed). y.sums) (sym (entries_first f 0 (held_of []) no_sums s P refl z (omega arith) (held_of []) refl _ refl) ∙ first_fed f.size f.entries P)
            ∙ all_read f.size f.entries f.count P size

    numbered : (start i : ℕ) → entry_number start (entry_at start i) ≡ i
    numbered start i = let e : start + i * 18 - start ≡ i * 18 = omega arith in rw e (omega arith)

    tells : (r : Result (ℕ × ℕ) ℕ) → kind_told f (after_scan f.entries r) Vfont2 ≡ scanned f r
    unfolding when
    tells (Err i) = let z : entry_at f.entries i ≡ 0 → ⊥ = λ e. omega (arith, w.0) in rw (ne_eqb (entry_at f.entries i) 0 z, numbered f.entries i)
    tells (Ok (h, g)) = refl

  entries_told_lem : entries_told f (entries_in f 0 (held_of []) no_sums s).sums ≡ entries_of s f
  unfolding entries_told entries_of
  entries_told_lem = by f.kind refl
    where
      by : (k : Kind) → f.kind ≡ k → kind_told f (entries_in f 0 (held_of []) no_sums s).sums k ≡ kind_entries s f k
      by Psf1 k = refl
      by Psf2 k = refl
      by Vfont2 k = ap (λ (x : Sums). kind_told f x Vfont2) (sums k) ∙ tells k (scan_of s f.size f.entries f.count 0 0 0)

-- what the tail said
module _ (f : Font) (s : List ℕ) (within : f.end ≤ length s) (short : length s ≤ limit) where
  abbrev C : Coding
  C = coding_of f.kind

  Q : part_of 0 f.end limit s ≡ tail_of s f
  Q = let a : f.end - 0 ≡ f.end = omega arith in ap (λ (n : ℕ). drop n (take (limit - 0) s)) a ∙ ap (λ (x : List ℕ). drop f.end x) (take_all limit s short)

  -- a standing that a run through the whole tail came to
  tail_by : (r : Run) (t : Standing) → t.ended ≡ r.ended → t.halted ≡ halt_number r.halted → ((halt_number r.halted ≡ 0 → ⊥) → t.place ≡ f.end + r.place) → f.table ≡ true →
      tail_told f (length s) t ≡ answered f (table_told f.count (length (tail_of s f)) r)
  tail_by r t e h p b = go (same (halt_number r.halted) 0) (same (halt_number r.halted) 12)
    where
      l : length (tail_of s f) ≡ length s - f.end
      l = length-drop f.end s

      at_cut : (k : ℕ) → f.count - r.ended ≡ k → r.ended < f.count → Err (refusal_at TableCut (length s) r.ended) ≡ answered f (at_end r.ended k (length (tail_of s f)))
      at_cut zero z q = absurd (omega arith)
      at_cut (suc k) z q = let end : length s ≡ f.end + length (tail_of s f) = omega (arith, l) in ap (λ (m : ℕ). Err (refusal_at TableCut m r.ended)) end

      at_whole : (k : ℕ) → f.count - r.ended ≡ k → f.count ≤ r.ended → Ok f ≡ answered f (at_end r.ended k (length (tail_of s f)))
      at_whole zero z q = refl
      at_whole (suc k) z q = absurd (omega arith)

      going : (halt_number r.halted) ≡ 0 → answered f (at_end r.ended (f.count - r.ended) (length (tail_of s f))) ≡ answered f (table_told f.count (length (tail_of s f)) r)
      going z = rw (eq-eqb (halt_number r.halted) 0 z)

      go : (halt_number r.halted ≡ 0) ⊎ (halt_number r.halted ≡ 0 → ⊥) → (halt_number r.halted ≡ 12) ⊎ (halt_number r.halted ≡ 12 → ⊥) → tail_told f (length s) t ≡ answered f (table_told f.count (length (tail_of s f)) r)
      go (inl z) y =
          ⊎_elim
          (λ (k : r.ended < f.count). sym (table_cut f (length s) t b (h ∙ z) (omega arith)) ∙ ap (λ (m : ℕ). Err (refusal_at TableCut (length s) m)) e ∙ at_cut (f.count - r.ended) refl k ∙ going z)
          (λ (k : f.count ≤ r.ended). sym (table_whole f (length s) t b (h ∙ z) (omega arith)) ∙ at_whole (f.count - r.ended) refl k ∙ going z)
          (below r.ended f.count)
      go (inr z) (inl y) =
          sym (table_over f (length s) t b (λ k. z (sym h ∙ k)) (h ∙ y))
          ∙ ap (λ (m : ℕ). Err (refusal Trailing m)) (p z)
          ∙ rw (ne_eqb (halt_number r.halted) 0 z, eq-eqb (halt_number r.halted) 12 y)
      go (inr z) (inr y) =
          sym (table_bad f (length s) t b (λ k. z (sym h ∙ k)) (λ k. y (sym h ∙ k)))
          ∙ (λ i. Err (refusal_at TableBad (p z i) (e i)))
          ∙ rw (ne_eqb (halt_number r.halted) 0 z, ne_eqb (halt_number r.halted) 12 y)

  abbrev R : Run
  R = run_of 0 f.count false 0 (steps_from C 0 0 (tail_of s f))

  -- the standing at the end
  stands : (h : Held) → f.table ≡ true → tail_told f (length s) (table_in f 0 h unread s).standing ≡ answered f (table_of C f.count (tail_of s f))
  stands h b = ⊎_elim none some (same (length (part_of 0 f.end limit s)) 0) ∙ ap (answered f) (sym (told C f.count (tail_of s f)))
    where
      none : length (part_of 0 f.end limit s) ≡ 0 → tail_told f (length s) (table_in f 0 h unread s).standing ≡ answered f (table_told f.count (length (tail_of s f)) R)
      none z =
          ap (λ (y : tables.Fed). tail_told f (length s) y.standing) (sym (no_tail f 0 h unread s _ refl z))
          ∙ tail_by R unread (empty z).0 (empty z).1 (λ k. absurd (k (sym (empty z).1))) b
        where
          empty : length (part_of 0 f.end limit s) ≡ 0 → (0 ≡ R.ended) × (0 ≡ halt_number R.halted)
          empty z = no_run C f.count (tail_of s f) (sym (ap (λ (x : List ℕ). length x) Q) ∙ z)

      some : (length (part_of 0 f.end limit s) ≡ 0 → ⊥) → tail_told f (length s) (table_in f 0 h unread s).standing ≡ answered f (table_told f.count (length (tail_of s f)) R)
      some z =
          let e : table_in f 0 h unread s ≡ table_read C f.count f.end unread (tail_of s f) =
          sym (table_first f 0 h unread s _ refl z b (omega arith) C refl (held_of []) refl _ refl) ∙ first_table C f.count f.end (part_of 0 f.end limit s) ∙ ap (table_read C f.count f.end unread) Q in
          let g = read_standing C f.count f.end (tail_of s f) in
          ap (λ (y : tables.Fed). tail_told f (length s) y.standing) e ∙ tail_by R _ g.0 g.1 (λ k. g.2) b

  bare_told : (t : Standing) → f.table ≡ false → tail_told f (length s) t ≡ when (ltb f.end (length s)) (Err (refusal Trailing f.end)) (Ok f)
  unfolding when
  bare_told t b =
      ⊎_elim
      (λ (k : f.end < length s). sym (bare_over f (length s) t b k) ∙ rw (lt-ltb f.end (length s) k))
      (λ (k : length s ≤ f.end). sym (bare_sound f (length s) t b k) ∙ rw (le-ltb f.end (length s) k))
      (below f.end (length s))

  tail_told_lem : (h : Held) → tail_told f (length s) (table_in f 0 h unread s).standing ≡ tailed s f
  unfolding tailed bare_of
  tail_told_lem h = by f.table refl
    where
      by : (b : Bool) → f.table ≡ b → tail_told f (length s) (table_in f 0 h unread s).standing ≡ pick b (answered f (table_of C f.count (tail_of s f))) (when (ltb f.end (length s)) (Err (refusal Trailing f.end)) (Ok f))
      by true b = stands h b
      by false b = bare_told (table_in f 0 h unread s).standing b

-- a font that the stages let through is the one that the header describes
abbrev SoundIs : Font → Result Font Refusal → Type 0
SoundIs f (Ok g) = g ≡ f
SoundIs f (Err r) = Unit {0}

same_font : (s : List ℕ) (f : Font) → SoundIs f (entries_of s f)
unfolding entries_of greatest_of
same_font s f = by f.kind
  where
    told_scan : (r : Result (ℕ × ℕ) ℕ) → SoundIs f (scanned f r)
    told_scan (Err i) = tt
    told_scan (Ok (h, w)) = by_when (SoundIs f) _ _ _ tt (by_when (SoundIs f) _ _ _ tt refl)

    by : (k : Kind) → SoundIs f (kind_entries s f k)
    by Psf1 = refl
    by Psf2 = refl
    by Vfont2 = told_scan (scan_of s f.size f.entries f.count 0 0 0)

cut_short : (n : ℕ) (f : Font) → n < f.end → (k : Font → Result Font Refusal) → and_then (sized n f) k ≡ Err (refusal BodyCut n)
unfolding sized when
cut_short n f h k = rw (lt-ltb n f.end h)

long_enough : (n : ℕ) (f : Font) → f.end ≤ n → sized n f ≡ Ok f
unfolding sized when
long_enough n f h = rw (le-ltb n f.end h)

-- a record whose header has just been read
module _ (f : Font) (s : List ℕ) (w : Parts f) (short : length s ≤ limit) (l : Loader) (fresh : (l.total ≡ 0) × (l.held ≡ held_of []) × (l.sums ≡ no_sums) × (l.standing ≡ unread)) where
  told_on : f.end ≤ length s → (t : Standing) → tail_told f (length s) t ≡ tailed s f → (c : Result Font Refusal) → SoundIs f c → and_then c (λ k. tail_told k (length s) t) ≡ and_then c (tailed s)
  told_on h t e (Ok g) q = rw q e
  told_on h t e (Err r) q = refl

  font_told_lem : font_told f (font_fed f l s) ≡ and_then (and_then (sized (length s) f) (entries_of s)) (tailed s)
  unfolding font_told font_fed
  font_told_lem =
      let n : 0 + length s ≡ length s = omega arith in
      rw (fresh.0, fresh.1, fresh.2, fresh.3, n) (go (below (length s) f.end))
    where
      go : (length s < f.end) ⊎ (f.end ≤ length s) →
          and_then (sized (length s) f) (λ g. and_then (entries_told g (entries_in f 0 (held_of []) no_sums s).sums) (λ k. tail_told k (length s) (table_in f 0 (entries_in f 0 (held_of []) no_sums s).held unread s).standing))
          ≡ and_then (and_then (sized (length s) f) (entries_of s)) (tailed s)
      go (inl h) = cut_short (length s) f h _ ∙ sym (ap (λ (c : Result Font Refusal). and_then c (tailed s)) (cut_short (length s) f h (entries_of s)))
      go (inr h) =
          rw (long_enough (length s) f h, entries_told_lem f s w h)
          (told_on h (table_in f 0 (entries_in f 0 (held_of []) no_sums s).held unread s).standing (tail_told_lem f s h short (entries_in f 0 (held_of []) no_sums s).held) (entries_of s f) (same_font s f))

-- the fresh record
pub fresh_open : is_open fresh_of ≡ true
unfolding fresh_of
fresh_open = opens fresh_of refl (λ z. held_len []) (λ z. absurd (omega arith))

pub fresh_kept : Kept fresh_of.held
unfolding fresh_of
fresh_kept = kept_of []

check_on : (s : List ℕ) → length s ≤ limit → check_of s ≡ and_then (and_then (and_then (says_of s) (sized (length s))) (entries_of s)) (tailed s)
unfolding check_of through_entries through_body when
check_on s h = rw (le-ltb limit (length s) h)

check_long : (s : List ℕ) → limit < length s → check_of s ≡ Err (refusal TooLong limit)
unfolding check_of through_entries through_body when
check_long s h = rw (lt-ltb limit (length s) h)

module _ (s : List ℕ) (short : length s ≤ limit) (long : 32 ≤ length s) where
  start : held_bytes fresh_of.held ++ s ≡ s
  unfolding fresh_of
  start = ap (λ (x : List ℕ). x ++ s) (held [])

  k : Loader
  k = headed fresh_of s

  k_fresh : (k.total ≡ 0) × (k.held ≡ held_of []) × (k.sums ≡ no_sums) × (k.standing ≡ unread)
  unfolding k fresh_of
  k_fresh = (refl, refl, refl, refl)

  k_header : says_of k.header ≡ says_of s
  unfolding k
  k_header =
      let l = length-take-le 32 s long in
      ap (λ (x : List ℕ). says_of (take 32 x)) start
      ∙ sym (ap says_of (sym (take-append-drop 32 s)) ∙ says_front (take 32 s) (drop 32 s) (omega arith))

  by_said : (c : Result Font Refusal) → says_of s ≡ c → and_then c (λ f. font_told f (said_fed c k s)) ≡ and_then (and_then (and_then c (sized (length s))) (entries_of s)) (tailed s)
  by_said (Ok f) e = font_told_lem f s (parts s f e) short k k_fresh
  by_said (Err r) e = refl

  body_header : (body_fed k s).header ≡ k.header
  unfolding body_fed
  body_header = (said_keeps (says_of k.header) k s).0

  body_said : body_fed k s ≡ said_fed (says_of s) k s
  unfolding body_fed
  body_said = ap (λ (c : Result Font Refusal). said_fed c k s) k_header

  loaded_whole : answer_of (body_fed k s) ≡ check_of s
  loaded_whole =
      let t : (body_fed k s).total ≡ k.total + length s = body_total k s in
      let z = k_fresh.0 in
      sym (answer_whole (body_fed k s) (omega arith, omega arith))
      ∙ ap (λ (c : Result Font Refusal). and_then c (λ f. font_told f (body_fed k s))) (ap says_of body_header ∙ k_header)
      ∙ ap (λ (l : Loader). and_then (says_of s) (λ f. font_told f l)) body_said
      ∙ by_said (says_of s) refl
      ∙ sym (check_on s short)

loaded_all : (s : List ℕ) → length s ≤ limit → 32 ≤ length s → answer_of (body_fed (headed fresh_of s) s) ≡ check_of s
unfolding k
loaded_all s h j = loaded_whole s h j

start_of : (s : List ℕ) → held_bytes fresh_of.held ++ s ≡ s
unfolding fresh_of
start_of s = ap (λ (x : List ℕ). x ++ s) (held [])

fresh_total : fresh_of.total ≡ 0
unfolding fresh_of
fresh_total = refl

past_long : limit < past_limit.total
unfolding past_limit
past_long = omega arith

nothing_more : counted fresh_of [] (held_of (held_bytes fresh_of.held ++ [])) fresh_of.sums fresh_of.standing ≡ fresh_of
unfolding fresh_of
nothing_more = λ i. record { total = 0; closed = 0; header = fresh_of.header; held = held_of (held [] i ++ []); sums = no_sums; standing = unread }

-- any piece
pub loaded : (s : List ℕ) → answer_of (fed_of fresh_of s) ≡ check_of s
loaded s = ⊎_elim too_long fits (below limit (length s))
  where
    too_long : limit < length s → answer_of (fed_of fresh_of s) ≡ check_of s
    too_long h =
        let z = fresh_total in
        ap answer_of (overflows fresh_of fresh_open fresh_kept s (omega arith) (omega arith)) ∙ sym (answer_long past_limit past_long) ∙ sym (check_long s h)

    fits : length s ≤ limit → answer_of (fed_of fresh_of s) ≡ check_of s
    fits h =
        let z = fresh_total in
        ⊎_elim
        (λ (j : length s < 32).
        let g = in_header fresh_of fresh_open fresh_kept s (omega arith) (omega arith) in
        let t = g.2 in
        ap answer_of g.0
        ∙ sym (answer_short _ (omega arith, omega arith))
        ∙ ap check_of (held (held_bytes fresh_of.held ++ s) ∙ start_of s))
        (λ (j : 32 ≤ length s). ap answer_of (through_header fresh_of fresh_open fresh_kept s (omega arith) (omega arith) (omega arith)).0 ∙ loaded_all s h j)
        (below (length s) 32)

-- fed nothing it stays as it is
pub fresh_empty : fed_of fresh_of [] ≡ fresh_of
fresh_empty = let z = fresh_total in (in_header fresh_of fresh_open fresh_kept [] (omega arith) (omega arith)).0 ∙ nothing_more
