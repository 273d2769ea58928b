-- Two pieces, one after the other, make of a record what the two joined make of it.
use mathlib.Core.Path.{◌≡◌, refl, sym, ◌∙◌, ap, subst}
use mathlib.Core.Bool.{Bool, true, false}
use mathlib.Core.Logic.{⊎_elim}
use mathlib.Core.List.{List, [], ◌++◌, append_assoc}
use Prim.Native.Nat.{ℕ, ◌+◌, ◌-◌, ◌≤◌, ◌<◌}
use native.Mathlib.Omega.{arith}
use lib.Dec.{eqb}
use lib.ListN.{length, take, length-append}
use lib.Seq.{take-append-le}
use borrow.Author.Tests.{le-ltb}
use Rattle.base.specs.Reading.{when}
use Rattle.base.proofs.Tests.{below, same}
use Rattle.header.specs.declared.Kind.{Kind}
use Rattle.header.specs.declared.Kind.TheVariants.{Psf1, Psf2, Vfont2}
use Rattle.header.specs.declared.Font.{Font}
use Rattle.header.specs.Meaning.{limit}
use Rattle.header.specs.Reading.{says_of}
use Rattle.header.specs.Bounds.{PartsOf, Parts}
use Rattle.header.proofs.Front.{parts}
use Rattle.stages.specs.Meaning.{coding_of}
use Rattle.unfinished.specs.declared.Held.{Held}
use Rattle.unfinished.specs.Reading.{held_bytes, held_of}
use Rattle.unfinished.proofs.Holding.{held, held_len}
use Rattle.entryfeed.specs.declared.Sums.{Sums}
use Rattle.entryfeed.specs.declared.Fed as entries
use Rattle.entryfeed.specs.Reading.{entries_fed}
use Rattle.entryfeed.proofs.Feeding as entry-laws
use Rattle.tablefeed.specs.declared.Standing.{Standing}
use Rattle.tablefeed.specs.declared.Fed as tables
use Rattle.tablefeed.specs.Reading.{table_fed}
use Rattle.tablefeed.proofs.Feeding as table-laws
use Rattle.loader.specs.declared.Loader.{Loader}
use Rattle.loader.specs.Reading.{part_of, entries_in, table_in, counted, font_fed, said_fed, body_fed, headed, head_fed, past_limit, fresh_of, is_open, open_fed, fed_of}
use Rattle.loader.proofs.Parting.{part_none, part_behind, part_before}
use Rattle.loader.proofs.Opening.{opened, opens}
use Rattle.loader.proofs.Cases.{too_long, grows_long, in_head, in_body, is_fed, stays, head_more}
use Rattle.laws.proofs.Regions.{Kept, kept_of, Stretch, region, untouched, region_twice, region_held}
use Rattle.std.specs.Prelude.{Result, Ok, Err}
use Rattle.refusal.specs.declared.Refusal.{Refusal}

-- the entries
module _ (f : Font) (there : 1 ≤ f.entries) where
  abbrev entry_stretch : Stretch entries.Fed Sums
  entry_stretch = record {
    held_in = λ y. y.held;
    rest_in = λ y. y.sums;
    both = λ h x. record { held = h; sums = x };
    held_both = λ h x. refl;
    rest_both = λ h x. refl;
    again = λ y. refl;
    fed = entries_fed f.size;
    twice = λ at h x p s k l. entry-laws.twice f.size at h x p s k l;
    start = f.entries;
    end = f.bitmaps;
    there = there;
  }

  pub entries_twice : (total : ℕ) (h : Held) (x : Sums) (p s : List ℕ) → Kept h → (f.entries < total → h.len < total) →
      entries_in f total h x (p ++ s) ≡ entries_in f (total + length p) (entries_in f total h x p).held (entries_in f total h x p).sums s
  unfolding entries_in
  entries_twice total h x p s k l =
      region_twice entry_stretch total h x p s k l

  pub entries_none : (total : ℕ) (h : Held) (x : Sums) (p : List ℕ) → length (part_of total f.entries f.bitmaps p) ≡ 0 → entries_in f total h x p ≡ record { held = h; sums = x }
  unfolding entries_in
  entries_none total h x p z =
      untouched entry_stretch total h x p z

  pub entries_held : (P : Held → Type 0) (total : ℕ) (h : Held) (x : Sums) (p : List ℕ) → P h → P (held_of []) → ((at : ℕ) (g : Held) (q : List ℕ) → P g → P (entries_fed f.size at g x q).held) → P (entries_in f total h x p).held
  unfolding entries_in
  entries_held =
      region_held entry_stretch

either : {A : Type 0} (a : A) (t : Bool) → when t a a ≡ a
unfolding when
either a true = refl
either a false = refl

-- the table
module _ (f : Font) (there : 1 ≤ f.end) where
  abbrev table_stretch : Stretch tables.Fed Standing
  table_stretch = record {
    held_in = λ y. y.held;
    rest_in = λ y. y.standing;
    both = λ h t. record { held = h; standing = t };
    held_both = λ h t. refl;
    rest_both = λ h t. refl;
    again = λ y. refl;
    fed = table_fed (coding_of f.kind) f.count;
    twice = λ at h t p s k l. table-laws.twice (coding_of f.kind) f.count at h t k (omega arith) p s;
    start = f.end;
    end = limit;
    there = there;
  }

  bare : f.table ≡ false → (total : ℕ) (h : Held) (t : Standing) (p : List ℕ) → table_in f total h t p ≡ record { held = h; standing = t }
  unfolding table_in when
  bare b total h t p = let as_it_was : tables.Fed = record { held = h; standing = t } in rw b (either as_it_was (eqb (length (part_of total f.end limit p)) 0))

  tabled : f.table ≡ true → (total : ℕ) (h : Held) (t : Standing) (p : List ℕ) → table_in f total h t p ≡
      region table_stretch total h t p
  unfolding table_in when
  tabled b total h t p = rw b

  pub table_twice : (total : ℕ) (h : Held) (t : Standing) (p s : List ℕ) → Kept h → (f.end < total → h.len < total) →
      table_in f total h t (p ++ s) ≡ table_in f (total + length p) (table_in f total h t p).held (table_in f total h t p).standing s
  table_twice total h t p s k l = go f.table refl
    where
      go : (b : Bool) → f.table ≡ b → table_in f total h t (p ++ s) ≡ table_in f (total + length p) (table_in f total h t p).held (table_in f total h t p).standing s
      go true b =
          rw (tabled b total h t (p ++ s), tabled b total h t p)
          (region_twice table_stretch total h t p s k l
          ∙ sym (tabled b (total + length p) _ _ s))
      go false b = rw (bare b total h t (p ++ s), bare b total h t p) (sym (bare b (total + length p) h t s))

  pub table_none : (total : ℕ) (h : Held) (t : Standing) (p : List ℕ) → length (part_of total f.end limit p) ≡ 0 → table_in f total h t p ≡ record { held = h; standing = t }
  table_none total h t p z = go f.table refl
    where
      go : (b : Bool) → f.table ≡ b → table_in f total h t p ≡ record { held = h; standing = t }
      go true b =
          tabled b total h t p
          ∙ untouched table_stretch total h t p z
      go false b = bare b total h t p

  pub table_held : (P : Held → Type 0) (total : ℕ) (h : Held) (t : Standing) (p : List ℕ) → P h → P (held_of []) → ((at : ℕ) (g : Held) (q : List ℕ) → P g → P (table_fed (coding_of f.kind) f.count at g t q).held) → P (table_in f total h t p).held
  table_held P total h t p k n g = go f.table refl
    where
      go : (b : Bool) → f.table ≡ b → P (table_in f total h t p).held
      go true b =
          rw (tabled b total h t p)
          (region_held table_stretch P total h t p k n g)
      go false b = rw (bare b total h t p) k

-- what a record must keep: as many bytes held as it says, few of them, none while the header is being read
abbrev pub Fine : Loader → Type 0
Fine l = Kept l.held × (l.held.len < 18) × (l.total < 32 → l.held.len ≡ 0)

-- a font
module _ (f : Font) (w : Parts f) where
  abbrev E : Loader → List ℕ → entries.Fed
  E l p = entries_in f l.total l.held l.sums p

  abbrev T : Loader → List ℕ → tables.Fed
  T l p = table_in f l.total (E l p).held l.standing p

  some_end : 1 ≤ f.end
  some_end = omega (arith, w.2)

  few_entries : (l : Loader) → Fine l → f.entries < l.total → l.held.len < l.total
  few_entries l y k = ⊎_elim (λ (h : l.total < 32). let z = y.2 h in omega (arith, w.0)) (λ (h : 32 ≤ l.total). omega (arith, y.1)) (below l.total 32)

  kept_entries : (l : Loader) (p : List ℕ) → Fine l → Kept (E l p).held
  kept_entries l p y = entries_held f w.0 Kept l.total l.held l.sums p y.0 (kept_of []) (λ at g q k. entry-laws.fed_kept f.size at g l.sums q)

  short_entries : (l : Loader) (p : List ℕ) → Fine l → (E l p).held.len < 18
  short_entries l p y = entries_held f w.0 (λ h. h.len < 18) l.total l.held l.sums p y.1 (subst (λ (n : ℕ). n < 18) (sym (held_len [])) (omega arith)) (λ at g q k. entry-laws.fed_short f.size at g l.sums q)

  kept_table : (l : Loader) (p : List ℕ) → Fine l → Kept (T l p).held
  kept_table l p y = table_held f some_end Kept l.total (E l p).held l.standing p (kept_entries l p y) (kept_of []) (λ at g q k. table-laws.fed_kept (coding_of f.kind) f.count at g l.standing k q)

  short_table : (l : Loader) (p : List ℕ) → Fine l → (T l p).held.len < 18
  short_table l p y =
      (table_held f some_end (λ h. Kept h × (h.len < 18)) l.total (E l p).held l.standing p (kept_entries l p y, short_entries l p y) (kept_of [], subst (λ (n : ℕ). n < 18) (sym (held_len [])) (omega arith))
      (λ at g q k. (table-laws.fed_kept (coding_of f.kind) f.count at g l.standing k.0 q, table-laws.fed_short (coding_of f.kind) f.count at g l.standing k.0 q k.1))).1

  few_table : (l : Loader) (h : Held) → h.len < 18 → f.end < l.total → h.len < l.total
  few_table l h k z = omega (arith, w.2)

  font_twice : (l : Loader) (p s : List ℕ) → Fine l → font_fed f (font_fed f l p) s ≡ font_fed f l (p ++ s)
  unfolding font_fed
  font_twice l p s y = ⊎_elim outside inside (same (length (part_of l.total f.end limit p)) 0)
    where
      n : l.total + length p + length s ≡ l.total + length (p ++ s)
      n = let a = length-append p s in omega arith

      e2 : E l (p ++ s) ≡ entries_in f (l.total + length p) (E l p).held (E l p).sums s
      e2 = entries_twice f w.0 l.total l.held l.sums p s y.0 (few_entries l y)

      -- the piece ends before the table
      outside : length (part_of l.total f.end limit p) ≡ 0 →
          counted (counted l p (T l p).held (E l p).sums (T l p).standing) s (T (counted l p (T l p).held (E l p).sums (T l p).standing) s).held (E (counted l p (T l p).held (E l p).sums (T l p).standing) s).sums (T (counted l p (T l p).held (E l p).sums (T l p).standing) s).standing
          ≡ counted l (p ++ s) (T l (p ++ s)).held (E l (p ++ s)).sums (T l (p ++ s)).standing
      outside z =
          let t1 : T l p ≡ record { held = (E l p).held; standing = l.standing } = table_none f some_end l.total (E l p).held l.standing p z in
          let t2 : T l (p ++ s) ≡ table_in f (l.total + length p) (E l (p ++ s)).held l.standing s =
          table_twice f some_end l.total (E l (p ++ s)).held l.standing p s (kept_entries l (p ++ s) y) (few_table l (E l (p ++ s)).held (short_entries l (p ++ s) y))
          ∙ ap (λ (r : tables.Fed). table_in f (l.total + length p) r.held r.standing s) (table_none f some_end l.total (E l (p ++ s)).held l.standing p z) in
          rw (t2, t1, e2, n)

      -- it reaches into it: no entry follows
      inside : (length (part_of l.total f.end limit p) ≡ 0 → ⊥) →
          counted (counted l p (T l p).held (E l p).sums (T l p).standing) s (T (counted l p (T l p).held (E l p).sums (T l p).standing) s).held (E (counted l p (T l p).held (E l p).sums (T l p).standing) s).sums (T (counted l p (T l p).held (E l p).sums (T l p).standing) s).standing
          ≡ counted l (p ++ s) (T l (p ++ s)).held (E l (p ++ s)).sums (T l (p ++ s)).standing
      inside z =
          let o : f.bitmaps ≤ l.total + length p = ⊎_elim (λ (k : l.total + length p < f.bitmaps). absurd (z (part_behind l.total f.end limit p (omega (arith, w.1))))) (λ (k : f.bitmaps ≤ l.total + length p). k) (below (l.total + length p) f.bitmaps) in
          let v : (h : Held) → entries_in f (l.total + length p) h (E l p).sums s ≡ record { held = h; sums = (E l p).sums } =
          λ h. entries_none f w.0 (l.total + length p) h (E l p).sums s (part_before (l.total + length p) f.entries f.bitmaps s o) in
          let e3 : E l (p ++ s) ≡ E l p = e2 ∙ v (E l p).held in
          let t2 : T l (p ++ s) ≡ table_in f (l.total + length p) (T l p).held (T l p).standing s =
          ap (λ (r : entries.Fed). table_in f l.total r.held l.standing (p ++ s)) e3
          ∙ table_twice f some_end l.total (E l p).held l.standing p s (kept_entries l p y) (few_table l (E l p).held (short_entries l p y)) in
          rw (t2, e3, v (T l p).held, n)

  font_fine : (l : Loader) (p : List ℕ) → Fine l → 32 ≤ l.total + length p → Fine (font_fed f l p)
  unfolding font_fed
  font_fine l p y h = (kept_table l p y, short_table l p y, λ z. absurd (omega arith))

-- a file whose header is known
pub said_keeps : (c : Result Font Refusal) (l : Loader) (p : List ℕ) → ((said_fed c l p).header ≡ l.header) × ((said_fed c l p).closed ≡ l.closed) × ((said_fed c l p).total ≡ l.total + length p)
unfolding font_fed
said_keeps (Ok f) l p = (refl, refl, refl)
said_keeps (Err r) l p = (refl, refl, refl)

joined : (l : Loader) (p s : List ℕ) → l.total + length p + length s ≡ l.total + length (p ++ s)
joined l p s = let a = length-append p s in omega arith

pub body_twice : (l : Loader) (p s : List ℕ) → Fine l → body_fed (body_fed l p) s ≡ body_fed l (p ++ s)
unfolding body_fed
body_twice l p s y = let k = (said_keeps (says_of l.header) l p).0 in rw k (by (says_of l.header) refl)
  where
    by : (c : Result Font Refusal) → says_of l.header ≡ c → said_fed c (said_fed c l p) s ≡ said_fed c l (p ++ s)
    by (Ok f) e = font_twice f (parts l.header f e) l p s y
    by (Err r) e = let n = joined l p s in λ i. record { total = n i; closed = l.closed; header = l.header; held = l.held; sums = l.sums; standing = l.standing }

body_fine : (l : Loader) (p : List ℕ) → Fine l → 32 ≤ l.total + length p → Fine (body_fed l p)
unfolding body_fed
body_fine l p y h = by (says_of l.header) refl
  where
    by : (c : Result Font Refusal) → says_of l.header ≡ c → Fine (said_fed c l p)
    by (Ok f) e = font_fine f (parts l.header f e) l p y h
    by (Err r) e = (y.0, y.1, λ z. absurd (omega arith))

-- bytes of the header alone
no_entry : (f : Font) (k : Kind) → PartsOf f k → (total : ℕ) (p : List ℕ) → total + length p ≤ 32 → length (part_of total f.entries f.bitmaps p) ≡ 0
no_entry f Psf1 w total p h = rw w (part_none total f.entries p)
no_entry f Psf2 w total p h = rw w (part_none total f.entries p)
no_entry f Vfont2 w total p h = part_behind total f.entries f.bitmaps p (omega (arith, w.0))

head_only : (l : Loader) (p : List ℕ) → l.total + length p ≤ 32 → body_fed l p ≡ counted l p l.held l.sums l.standing
unfolding body_fed font_fed
head_only l p h = by (says_of l.header) refl
  where
    by : (c : Result Font Refusal) → says_of l.header ≡ c → said_fed c l p ≡ counted l p l.held l.sums l.standing
    by (Ok f) e =
        let w = parts l.header f e in
        let a = entries_none f w.0 l.total l.held l.sums p (no_entry f f.kind w.3 l.total p h) in
        let b = table_none f (omega (arith, w.2)) l.total l.held l.standing p (part_behind l.total f.end limit p (omega (arith, w.2))) in
        rw (a, b)
    by (Err r) e = refl

pub body_total : (l : Loader) (p : List ℕ) → (body_fed l p).total ≡ l.total + length p
unfolding body_fed
body_total l p = (said_keeps (says_of l.header) l p).2

body_closed : (l : Loader) (p : List ℕ) → (body_fed l p).closed ≡ l.closed
unfolding body_fed
body_closed l p = (said_keeps (says_of l.header) l p).1

head_past : (l : Loader) (p : List ℕ) → 32 - l.total ≤ length p → body_fed (headed l p) p ≡ head_fed l p
unfolding head_fed when
head_past l p h = rw (le-ltb (length p) (32 - l.total) h)

-- an open record
module _ (l : Loader) (o : is_open l ≡ true) (kept : Kept l.held) where
  abbrev is : (l.closed ≡ 0) × (l.total < 32 → l.held.len ≡ l.total) × (32 ≤ l.total → l.held.len < 18)
  is = opened l o

  abbrev pub Goes : List ℕ → Loader → Type 0
  Goes p next = (fed_of l p ≡ next) × (is_open next ≡ true) × (next.total ≡ l.total + length p) × Kept next.held

  -- within the header, past it, and behind it
  pub in_header : (p : List ℕ) → l.total < 32 → l.total + length p < 32 → Goes p (counted l p (held_of (held_bytes l.held ++ p)) l.sums l.standing)
  in_header p h k =
      let u = is.1 h in
      let a = length-append (held_bytes l.held) p in
      let e = held_len (held_bytes l.held ++ p) in (
        sym (head_more l p (omega arith) _ refl ∙ in_head l p (omega arith, omega arith, h) ∙ is_fed l p o),
        opens _ is.0 (λ z. omega arith) (λ z. absurd (omega arith)),
        refl,
        kept_of (held_bytes l.held ++ p),
      )

  headed_fine : (p : List ℕ) → Fine (headed l p)
  headed_fine p = (kept_of [], subst (λ (n : ℕ). n < 18) (sym (held_len [])) (omega arith), λ z. held_len [])

  pub through_header : (p : List ℕ) → l.total < 32 → 32 ≤ l.total + length p → l.total + length p ≤ limit → Goes p (body_fed (headed l p) p)
  through_header p h k m =
      let y = body_fine (headed l p) p (headed_fine p) k in
      let t : (body_fed (headed l p) p).total ≡ l.total + length p = body_total (headed l p) p in (
        sym (head_past l p (omega arith) ∙ in_head l p (omega arith, omega arith, h) ∙ is_fed l p o),
        opens _ (body_closed (headed l p) p ∙ is.0) (λ z. absurd (omega arith)) (λ z. y.1),
        t,
        y.0,
      )

  in_the_body : (p : List ℕ) → 32 ≤ l.total → l.total + length p ≤ limit → Goes p (body_fed l p)
  in_the_body p h m =
      let y = body_fine l p (kept, is.2 h, λ z. absurd (omega arith)) (omega arith) in
      let t : (body_fed l p).total ≡ l.total + length p = body_total l p in (
        sym (in_body l p (omega arith, omega arith, h) ∙ is_fed l p o),
        opens _ (body_closed l p ∙ is.0) (λ z. absurd (omega arith)) (λ z. y.1),
        t,
        y.0,
      )

  -- too long
  pub overflows : (p : List ℕ) → l.total ≤ limit → limit < l.total + length p → fed_of l p ≡ past_limit
  overflows p h k = sym (grows_long l p (h, omega arith) ∙ is_fed l p o)

  over_long : (p : List ℕ) → limit < l.total → fed_of l p ≡ l
  over_long p h = sym (too_long l p h ∙ is_fed l p o)

past_open : is_open past_limit ≡ true
unfolding past_limit fresh_of
past_open = opens past_limit refl (λ z. absurd (omega arith)) (λ z. subst (λ (n : ℕ). n < 18) (sym (held_len [])) (omega arith))

past_stays : (p : List ℕ) → fed_of past_limit p ≡ past_limit
unfolding past_limit
past_stays p = sym (too_long past_limit p (omega arith) ∙ is_fed past_limit p past_open)

past_kept : Kept past_limit.held
unfolding past_limit fresh_of
past_kept = kept_of []

closed_stays : (l : Loader) (p : List ℕ) → is_open l ≡ false → fed_of l p ≡ l
closed_stays l p e = sym (stays l p e)

-- two pieces are one
module _ (l : Loader) (o : is_open l ≡ true) (kept : Kept l.held) (p s : List ℕ) where
  n : length (p ++ s) ≡ length p + length s
  n = length-append p s

  -- from the record after the first piece, which is still open
  from_next : (next : Loader) → Goes l o kept p next → l.total + length p ≤ limit →
      (l.total + length p + length s ≤ limit → open_fed next s ≡ open_fed l (p ++ s)) → fed_of (fed_of l p) s ≡ fed_of l (p ++ s)
  from_next next g h f = ⊎_elim too_much enough (below limit (l.total + length p + length s))
    where
      t : next.total ≡ l.total + length p
      t = g.2

      too_much : limit < l.total + length p + length s → fed_of (fed_of l p) s ≡ fed_of l (p ++ s)
      too_much k = ap (λ (x : Loader). fed_of x s) g.0 ∙ overflows next g.1 g.3 s (omega arith) (omega arith) ∙ sym (overflows l o kept (p ++ s) (omega arith) (omega (arith, n)))

      enough : l.total + length p + length s ≤ limit → fed_of (fed_of l p) s ≡ fed_of l (p ++ s)
      enough k = ap (λ (x : Loader). fed_of x s) g.0 ∙ sym (is_fed next s g.1) ∙ f k ∙ is_fed l (p ++ s) o

  twice_body : 32 ≤ l.total → l.total + length p ≤ limit → fed_of (fed_of l p) s ≡ fed_of l (p ++ s)
  twice_body h k =
      from_next (body_fed l p) (in_the_body l o kept p h k) k (λ m.
      let t = body_total l p in
      sym (in_body (body_fed l p) s (omega arith, omega arith, omega arith))
      ∙ body_twice l p s (kept, (is l o kept).2 h, λ z. absurd (omega arith))
      ∙ in_body l (p ++ s) (omega arith, omega (arith, n), h))

  twice_through : l.total < 32 → 32 ≤ l.total + length p → l.total + length p ≤ limit → fed_of (fed_of l p) s ≡ fed_of l (p ++ s)
  twice_through h j k =
      from_next (body_fed (headed l p) p) (through_header l o kept p h j k) k (λ m.
      let t = body_total (headed l p) p in
      let u = (is l o kept).1 h in
      let a = length-append (held_bytes l.held) p in
      let d : take 32 (held_bytes l.held ++ p) ≡ take 32 (held_bytes l.held ++ (p ++ s)) =
      sym (take-append-le 32 (held_bytes l.held ++ p) s (omega arith)) ∙ ap (λ (x : List ℕ). take 32 x) (append_assoc (held_bytes l.held) p s) in
      let e : headed l p ≡ headed l (p ++ s) = λ i. record { total = l.total; closed = l.closed; header = d i; held = held_of []; sums = l.sums; standing = l.standing } in
      sym (in_body (body_fed (headed l p) p) s (omega arith, omega arith, omega arith))
      ∙ body_twice (headed l p) p s (headed_fine l o kept p)
      ∙ ap (λ (x : Loader). body_fed x (p ++ s)) e
      ∙ head_past l (p ++ s) (omega (arith, n))
      ∙ in_head l (p ++ s) (omega arith, omega (arith, n), h))

  twice_header : l.total < 32 → l.total + length p < 32 → fed_of (fed_of l p) s ≡ fed_of l (p ++ s)
  twice_header h j =
      from_next next (in_header l o kept p h j) (omega arith) (λ m.
      sym (in_head next s (omega arith, omega arith, j)) ∙ ⊎_elim more past (below (l.total + length p + length s) 32) ∙ in_head l (p ++ s) (omega arith, omega (arith, n), h))
    where
      next : Loader
      next = counted l p (held_of (held_bytes l.held ++ p)) l.sums l.standing

      u : held_bytes (held_of (held_bytes l.held ++ p)) ++ s ≡ held_bytes l.held ++ (p ++ s)
      u = ap (λ (x : List ℕ). x ++ s) (held (held_bytes l.held ++ p)) ∙ append_assoc (held_bytes l.held) p s

      more : l.total + length p + length s < 32 → head_fed next s ≡ head_fed l (p ++ s)
      more k =
          let t = joined l p s in
          sym (head_more next s (omega arith) _ refl)
          ∙ (λ i. record { total = t i; closed = l.closed; header = l.header; held = held_of (u i); sums = l.sums; standing = l.standing })
          ∙ head_more l (p ++ s) (omega (arith, n)) _ refl

      past : 32 ≤ l.total + length p + length s → head_fed next s ≡ head_fed l (p ++ s)
      past k =
          let e : headed next s ≡ counted (headed l (p ++ s)) p (held_of []) l.sums l.standing =
          λ i. record { total = l.total + length p; closed = l.closed; header = take 32 (u i); held = held_of []; sums = l.sums; standing = l.standing } in
          sym (head_past next s (omega arith))
          ∙ ap (λ (x : Loader). body_fed x s) (e ∙ sym (head_only (headed l (p ++ s)) p (omega arith)))
          ∙ body_twice (headed l (p ++ s)) p s (headed_fine l o kept (p ++ s))
          ∙ head_past l (p ++ s) (omega (arith, n))

  open_twice : fed_of (fed_of l p) s ≡ fed_of l (p ++ s)
  open_twice = ⊎_elim long short (below limit l.total)
    where
      long : limit < l.total → fed_of (fed_of l p) s ≡ fed_of l (p ++ s)
      long h = ap (λ (x : Loader). fed_of x s) (over_long l o kept p h) ∙ over_long l o kept s h ∙ sym (over_long l o kept (p ++ s) h)

      grows : l.total ≤ limit → limit < l.total + length p → fed_of (fed_of l p) s ≡ fed_of l (p ++ s)
      grows h k = ap (λ (x : Loader). fed_of x s) (overflows l o kept p h k) ∙ past_stays s ∙ sym (overflows l o kept (p ++ s) h (omega (arith, n)))

      fits : l.total + length p ≤ limit → fed_of (fed_of l p) s ≡ fed_of l (p ++ s)
      fits k =
          ⊎_elim
          (λ (h : l.total < 32). ⊎_elim (λ (j : l.total + length p < 32). twice_header h j) (λ (j : 32 ≤ l.total + length p). twice_through h j k) (below (l.total + length p) 32))
          (λ (h : 32 ≤ l.total). twice_body h k)
          (below l.total 32)

      short : l.total ≤ limit → fed_of (fed_of l p) s ≡ fed_of l (p ++ s)
      short h = ⊎_elim (grows h) fits (below limit (l.total + length p))

pub fed_twice : (l : Loader) (p s : List ℕ) → Kept l.held → fed_of (fed_of l p) s ≡ fed_of l (p ++ s)
fed_twice l p s k = by (is_open l) refl
  where
    by : (b : Bool) → is_open l ≡ b → fed_of (fed_of l p) s ≡ fed_of l (p ++ s)
    by true o = open_twice l o k p s
    by false o = ap (λ (x : Loader). fed_of x s) (closed_stays l p o) ∙ closed_stays l s o ∙ sym (closed_stays l (p ++ s) o)

-- as many bytes are held then as are said, and an open record stays open
pub stays_open : (l : Loader) (p : List ℕ) → is_open l ≡ true → Kept l.held → (is_open (fed_of l p) ≡ true) × Kept (fed_of l p).held
stays_open l p o k = ⊎_elim long short (below limit l.total)
  where
    goes : (next : Loader) → Goes l o k p next → (is_open (fed_of l p) ≡ true) × Kept (fed_of l p).held
    goes next g = subst (λ (x : Loader). (is_open x ≡ true) × Kept x.held) (sym g.0) (g.1, g.3)

    long : limit < l.total → (is_open (fed_of l p) ≡ true) × Kept (fed_of l p).held
    long h = subst (λ (x : Loader). (is_open x ≡ true) × Kept x.held) (sym (over_long l o k p h)) (o, k)

    fits : l.total + length p ≤ limit → (is_open (fed_of l p) ≡ true) × Kept (fed_of l p).held
    fits m =
        ⊎_elim
        (λ (h : l.total < 32).
        ⊎_elim (λ (j : l.total + length p < 32). goes _ (in_header l o k p h j)) (λ (j : 32 ≤ l.total + length p). goes _ (through_header l o k p h j m)) (below (l.total + length p) 32))
        (λ (h : 32 ≤ l.total). goes _ (in_the_body l o k p h m))
        (below l.total 32)

    short : l.total ≤ limit → (is_open (fed_of l p) ≡ true) × Kept (fed_of l p).held
    short h =
        ⊎_elim
        (λ (m : limit < l.total + length p). subst (λ (x : Loader). (is_open x ≡ true) × Kept x.held) (sym (overflows l o k p h m)) (past_open, past_kept))
        fits
        (below limit (l.total + length p))
