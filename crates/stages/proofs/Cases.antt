-- The stages of the check one by one: what each is where it refuses or passes, and what is known of a font that passed.
use mathlib.Core.Path.{◌≡◌, refl, sym, ◌∙◌, ap, subst}
use mathlib.Core.List.{List}
use mathlib.Core.Bool.{Bool, true, false}
use Prim.Native.Nat.{ℕ, ◌+◌, ◌-◌, ◌≤◌, ◌<◌}
use native.Mathlib.Omega.{arith}
use lib.Dec.{ltb}
use lib.ListN.{length, get_or, take, drop, length-drop}
use borrow.Author.Tests.{lt-ltb, le-ltb, ltb-false, eqb-true, not-false}
use Rattle.base.specs.Meaning.{pick, Bytes}
use Rattle.base.specs.Reading.{when}
use Rattle.base.proofs.Chain.{chain}
use Rattle.base.proofs.Parts.{bytes_drop}
use Rattle.refusal.specs.declared.Refusal.{Refusal}
use Rattle.refusal.specs.Meaning.{refusal}
use Rattle.refusal.specs.declared.Reason.TheVariants.{TooLong, BodyCut, Entry, Trailing}
use Rattle.coding.specs.declared.Coding.{Coding}
use Rattle.table.specs.Reading.{table_of, table_place}
use Rattle.table.proofs.Meaning.{place_within}
use Rattle.header.specs.declared.Kind.{Kind}
use Rattle.header.specs.declared.Kind.TheVariants.{Psf1, Psf2, Vfont2}
use Rattle.header.specs.declared.Font.{Font}
use Rattle.header.specs.Meaning.{limit}
use Rattle.header.specs.Reading.{says_of}
use Rattle.header.specs.Bounds.{Placed}
use Rattle.header.proofs.Known.{never, passes, described}
use Rattle.entries.specs.Reading.{scan_of}
use Rattle.stages.specs.Meaning.{coding_of, tail_of}
use Rattle.stages.specs.Reading.{and_then, sized, greatest_of, scanned, kind_entries, entries_of, passed, answered, table_tail, bare_of, tailed, unless_table, tabled, through_body, through_entries, through_bare, to_table, check_of}
use Rattle.stages.specs.Bounds.{CheckedPlaced, ToTablePlaced}
use Rattle.std.specs.Prelude.{Option, Some, None, ok_or, Result, Ok, Err}
use Rattle.table.specs.declared.Fault.{Fault}
use Rattle.table.specs.declared.Fault.TheVariants.{Cut, Bad, Trailing as Over}

-- 8
module _ (len : ℕ) (f : Font) where
  pub body_cut : len < f.end → Err (refusal BodyCut len) ≡ sized len f
  unfolding sized
  body_cut h = search chain depth 30

  pub body_whole : f.end ≤ len → Ok f ≡ sized len f
  unfolding sized
  body_whole h = search chain depth 30

-- 9
module _ (f : Font) (h w : ℕ) where
  pub height_wrong : (f.height ≡ h → ⊥) → Err (refusal Entry 24) ≡ greatest_of f h w
  unfolding greatest_of
  height_wrong p = search chain depth 30

  pub width_wrong : (f.height ≡ h) × (f.width ≡ w → ⊥) → Err (refusal Entry 28) ≡ greatest_of f h w
  unfolding greatest_of
  width_wrong p = search chain depth 30

  pub greatest_right : (f.height ≡ h) × (f.width ≡ w) → Ok f ≡ greatest_of f h w
  unfolding greatest_of
  greatest_right p = search chain depth 30

pub entries_of_lem : (s : List ℕ) (f : Font) (k : Kind) → f.kind ≡ k → kind_entries s f k ≡ entries_of s f
unfolding entries_of
entries_of_lem s f k e = rw e

-- 10 to 12: a table's place lies in the tail, and so is an offset within the file
pub place_fits : (s : List ℕ) (f : Font) → Bytes s → Placed s f → (c : Coding) → f.end + table_place (table_of c f.count (tail_of s f)) ≤ length s
place_fits s f y p c =
    omega (arith, p.7, place_within c f.count (tail_of s f) (bytes_drop f.end s y), length-drop f.end s)

module _ (s : List ℕ) (f : Font) where
  -- what the reader says of the part that it is handed
  pub table_read : (c : Coding) → c ≡ coding_of f.kind → (tl : List ℕ) → tl ≡ tail_of s f → (a : Result (Unit {0}) Fault) → a ≡ table_of c f.count tl →
      a ≡ table_of (coding_of f.kind) f.count (tail_of s f)
  table_read c e tl l a q = q ∙ rw (l, e)

  pub read_fits : Bytes s → Placed s f → (c : Coding) → c ≡ coding_of f.kind → (tl : List ℕ) → tl ≡ tail_of s f → (a : Result (Unit {0}) Fault) → a ≡ table_of c f.count tl →
      f.end + table_place a ≤ length s
  read_fits y p c e tl l a q = subst (λ (x : Result (Unit {0}) Fault). f.end + table_place x ≤ length s) (sym (table_read c e tl l a q)) (place_fits s f y p (coding_of f.kind))

  pub with_table : f.table ≡ true → answered f (table_of (coding_of f.kind) f.count (tail_of s f)) ≡ tailed s f
  unfolding tailed
  with_table e = rw e

  bare : f.table ≡ false → bare_of s f ≡ tailed s f
  unfolding tailed
  bare e = rw e

  bytes_after : f.end < length s → Err (refusal Trailing f.end) ≡ bare_of s f
  unfolding bare_of when
  bytes_after h = rw (lt-ltb f.end (length s) h)

  nothing_after : length s ≤ f.end → Ok f ≡ bare_of s f
  unfolding bare_of when
  nothing_after h = rw (le-ltb f.end (length s) h)

  pub bare_trailing : f.table ≡ false → f.end < length s → Err (refusal Trailing f.end) ≡ tailed s f
  bare_trailing e h = bytes_after h ∙ bare e

  pub bare_sound : f.table ≡ false → length s ≤ f.end → Ok f ≡ tailed s f
  bare_sound e h = nothing_after h ∙ bare e

  -- up to a table, and the table
  with_flag : (b : Bool) → f.table ≡ b → Ok (b, f) ≡ to_table (Ok f)
  with_flag b e = ap (λ (x : Bool). Ok (x, f)) (sym e)

  pub reached_table : f.table ≡ true → Ok (true, f) ≡ to_table (unless_table s f)
  unfolding unless_table
  reached_table e = with_flag true e ∙ ap to_table (let g : Ok f ≡ pick f.table (Ok f) (bare_of s f) = rw e in g)

  unless_bare : f.table ≡ false → bare_of s f ≡ unless_table s f
  unfolding unless_table
  unless_bare e = rw e

  pub reached_trailing : f.table ≡ false → f.end < length s → Err (refusal Trailing f.end) ≡ to_table (unless_table s f)
  reached_trailing e h = ap to_table (bytes_after h ∙ unless_bare e)

  pub reached_end : f.table ≡ false → length s ≤ f.end → Ok (false, f) ≡ to_table (unless_table s f)
  reached_end e h = with_flag false e ∙ ap to_table (nothing_after h ∙ unless_bare e)

  pub tabled_by : (b : Bool) → f.table ≡ b → (a : Result (Unit {0}) Refusal) → a ≡ pick b (table_tail s f) (Ok tt) → passed f a ≡ tabled s f
  unfolding tabled
  tabled_by true e a q = ap (passed f) q ∙ (let g : passed f (table_tail s f) ≡ pick f.table (passed f (table_tail s f)) (Ok f) = rw e in g)
  tabled_by false e a q = ap (passed f) q ∙ (let g : Ok f ≡ pick f.table (passed f (table_tail s f)) (Ok f) = rw e in g)

  in_two : tailed s f ≡ and_then (unless_table s f) (tabled s)
  unfolding unless_table tailed bare_of when
  in_two = go f.table refl
    where
      by : (b c : Bool) → f.table ≡ b → pick b (passed f (table_tail s f)) (pick c (Err (refusal Trailing f.end)) (Ok f))
          ≡ and_then (pick b (Ok f) (pick c (Err (refusal Trailing f.end)) (Ok f))) (tabled s)
      by true c e = tabled_by true e (table_tail s f) refl
      by false true e = refl
      by false false e = tabled_by false e (Ok tt) refl

      go : (b : Bool) → f.table ≡ b → pick b (passed f (table_tail s f)) (when (ltb f.end (length s)) (Err (refusal Trailing f.end)) (Ok f))
          ≡ and_then (pick b (Ok f) (when (ltb f.end (length s)) (Err (refusal Trailing f.end)) (Ok f))) (tabled s)
      go b e = by b (ltb f.end (length s)) e

-- stage after stage, each handing a refusal through
module _ (s : List ℕ) where
  pub too_long : limit < length s → Err (refusal TooLong limit) ≡ through_body s
  unfolding through_body
  too_long h = search chain depth 30

  pub body_after : (x : Result Font Refusal) → says_of s ≡ x → length s ≤ limit → and_then x (sized (length s)) ≡ through_body s
  unfolding through_body when
  body_after x e h = rw (le-ltb limit (length s) h, e)

  pub entries_after : (x : Result Font Refusal) → through_body s ≡ x → and_then x (entries_of s) ≡ through_entries s
  unfolding through_entries
  entries_after x e = rw e

  pub tail_after : (x : Result Font Refusal) → through_entries s ≡ x → and_then x (tailed s) ≡ check_of s
  unfolding check_of
  tail_after x e = rw e

  pub bare_after : (x : Result Font Refusal) → through_entries s ≡ x → and_then x (unless_table s) ≡ through_bare s
  unfolding through_bare
  bare_after x e = rw e

  -- the check is what comes before a table, then the table
  pub table_after : (x : Result Font Refusal) → through_bare s ≡ x → and_then x (tabled s) ≡ check_of s
  unfolding through_bare check_of
  table_after x e = ap (λ (y : Result Font Refusal). and_then y (tabled s)) (sym e) ∙ go (through_entries s)
    where
      go : (y : Result Font Refusal) → and_then (and_then y (unless_table s)) (tabled s) ≡ and_then y (tailed s)
      go (Ok f) = sym (in_two s f)
      go (Err r) = refl

came : (y : Result Font Refusal) (t : Bool) (f : Font) → Ok (t, f) ≡ to_table y → (y ≡ Ok f) × (f.table ≡ t)
came (Ok g) t f e =
    let p : ◌≡◌ {A = Bool × Font} (t, f) (g.table, g) = cc in
    let h : f ≡ g = ap (λ (x : Bool × Font). x.1) p in
    (ap Ok (sym h), ap (λ (x : Font). x.table) h ∙ sym (ap (λ (x : Bool × Font). x.0) p))
came (Err r) t f e = let z : ◌≡◌ {A = ℕ} 0 1 = cc in absurd (omega arith)

came_refused : (y : Result Font Refusal) (r : Refusal) → Err r ≡ to_table y → y ≡ Err r
came_refused (Ok g) r e = let z : ◌≡◌ {A = ℕ} 0 1 = cc in absurd (omega arith)
came_refused (Err q) r e = let h : q ≡ r = cc in ap Err h

-- what a call that came to the table, and then checked it, knows of the font
module _ (s : List ℕ) where
  pub came_to : (t : Bool) (f : Font) → Ok (t, f) ≡ to_table (through_bare s) → through_bare s ≡ Ok f
  came_to t f e = (came (through_bare s) t f e).0

  pub checked_by : (t : Bool) (f : Font) → Ok (t, f) ≡ to_table (through_bare s) → (a : Result (Unit {0}) Refusal) → a ≡ pick t (table_tail s f) (Ok tt) → passed f a ≡ check_of s
  checked_by t f e a q = let w = came (through_bare s) t f e in tabled_by s f t w.1 a q ∙ table_after s (Ok f) w.0

  pub refused_by : (r : Refusal) → Err r ≡ to_table (through_bare s) → Err r ≡ check_of s
  refused_by r e = table_after s (Err r) (came_refused (through_bare s) r e)

-- the refusal that stands for no kind
pub named_none : (o : Option Kind) (r x : Refusal) → ok_or o r ≡ Err x → (o ≡ None) × (x ≡ r)
named_none (Some j) r x e = let z : ◌≡◌ {A = ℕ} 0 1 = cc in absurd (omega arith)
named_none None r x e = (refl, (let h : x ≡ r = cc in h))

-- a stage that passes gives the font that it was given
abbrev pub Gives : (Font → Result Font Refusal) → Type 0
Gives next = (f g : Font) → next f ≡ Ok g → f ≡ g

sound_same : (f g : Font) → ◌≡◌ {A = Result Font Refusal} (Ok f) (Ok g) → f ≡ g
sound_same f g e = cc

then_sound : (x : Result Font Refusal) (next : Font → Result Font Refusal) → Gives next → (g : Font) → and_then x next ≡ Ok g → (x ≡ Ok g) × (next g ≡ Ok g)
then_sound (Ok f) next gives g e = let h = gives f g e in (ap Ok h, subst (λ (x : Font). next x ≡ Ok g) h e)
then_sound (Err r) next gives g e = absurd (never r g e)

sized_gives : (len : ℕ) → Gives (sized len)
unfolding sized
sized_gives len f g e = sound_same f g (passes _ _ _ g e).1

greatest_gives : (h w : ℕ) → Gives (λ f. greatest_of f h w)
unfolding greatest_of
greatest_gives h w f g e = sound_same f g (passes _ _ _ g (passes _ _ _ g e).1).1

scanned_gives : (f g : Font) (x : Result (ℕ × ℕ) ℕ) → scanned f x ≡ Ok g → f ≡ g
scanned_gives f g (Err i) e = absurd (never _ g e)
scanned_gives f g (Ok (h, w)) e = greatest_gives h w f g e

entries_gives : (s : List ℕ) → Gives (entries_of s)
unfolding entries_of
entries_gives s f g e = go f.kind e
  where
    go : (k : Kind) → kind_entries s f k ≡ Ok g → f ≡ g
    go Psf1 e = sound_same f g e
    go Psf2 e = sound_same f g e
    go Vfont2 e = scanned_gives f g (scan_of s f.size f.entries f.count 0 0 0) e

pub tailed_gives : (s : List ℕ) → Gives (tailed s)
unfolding tailed bare_of
tailed_gives s f g e = go f.table e
  where
    told : (a : Result (Unit {0}) Fault) → answered f a ≡ Ok g → f ≡ g
    told (Ok tt) e = sound_same f g e
    told (Err (Cut k i)) e = absurd (never _ g e)
    told (Err (Bad k i)) e = absurd (never _ g e)
    told (Err (Over k)) e = absurd (never _ g e)

    go : (t : Bool) → pick t (answered f (table_of (coding_of f.kind) f.count (tail_of s f))) (when (ltb f.end (length s)) (Err (refusal Trailing f.end)) (Ok f)) ≡ Ok g → f ≡ g
    go true e = told (table_of (coding_of f.kind) f.count (tail_of s f)) e
    go false e = sound_same f g (passes _ _ _ g e).1

unless_gives : (s : List ℕ) → Gives (unless_table s)
unfolding unless_table bare_of
unless_gives s f g e = go f.table e
  where
    go : (t : Bool) → pick t (Ok f) (when (ltb f.end (length s)) (Err (refusal Trailing f.end)) (Ok f)) ≡ Ok g → f ≡ g
    go true e = sound_same f g e
    go false e = sound_same f g (passes _ _ _ g e).1

-- a font that passed, and every stage that it passed
module _ (s : List ℕ) (f : Font) where
  pub passed_body : through_body s ≡ Ok f → (length s ≤ limit) × (says_of s ≡ Ok f) × (f.end ≤ length s)
  unfolding through_body sized
  passed_body e =
      let a = passes _ _ _ f e in
      let b = then_sound (says_of s) (sized (length s)) (sized_gives (length s)) f a.1 in
      (ltb-false _ _ a.0, b.0, ltb-false _ _ (passes _ _ _ f b.1).0)

  pub passed_entries : through_entries s ≡ Ok f → (through_body s ≡ Ok f) × (entries_of s f ≡ Ok f)
  unfolding through_entries
  passed_entries e = then_sound (through_body s) (entries_of s) (entries_gives s) f e

  pub accepted : check_of s ≡ Ok f → (through_entries s ≡ Ok f) × (tailed s f ≡ Ok f)
  unfolding check_of
  accepted e = then_sound (through_entries s) (tailed s) (tailed_gives s) f e

  -- its parts stand in the file
  module _ (byte : get_or s 3 0 < 256) where
    pub body_placed : through_body s ≡ Ok f → Placed s f
    body_placed e =
        let b = passed_body e in
        let d = described s f byte b.1 in
        (b.0, d.0, d.1, d.2, d.3, d.4, d.5, b.2, d.6)

    pub placed : through_entries s ≡ Ok f → Placed s f
    placed e = body_placed (passed_entries e).0

  -- its entries say its greatest height and width
  right : (x : Result (ℕ × ℕ) ℕ) → scanned f x ≡ Ok f → x ≡ Ok (f.height, f.width)
  unfolding greatest_of
  right (Err i) e = absurd (never _ f e)
  right (Ok (h, w)) e =
      let a = passes _ _ _ f e in
      let b = passes _ _ _ f a.1 in
      let eh : f.height ≡ h = eqb-true _ _ (not-false _ a.0) in
      let ew : f.width ≡ w = eqb-true _ _ (not-false _ b.0) in
      λ i. Ok ((sym eh i), (sym ew i))

  pub scan_right : f.kind ≡ Vfont2 → through_entries s ≡ Ok f → scan_of s f.size f.entries f.count 0 0 0 ≡ Ok (f.height, f.width)
  scan_right q e = right _ (entries_of_lem s f Vfont2 q ∙ (passed_entries e).1)

-- what a call above knows of an answer
module _ (s : List ℕ) (byte : get_or s 3 0 < 256) where
  pub body_known : (x : Result Font Refusal) → x ≡ through_body s → CheckedPlaced s x
  body_known (Ok f) e = body_placed s f byte (sym e)
  body_known (Err r) e = tt

  pub entries_known : (x : Result Font Refusal) → x ≡ through_entries s → CheckedPlaced s x
  entries_known (Ok f) e = placed s f byte (sym e)
  entries_known (Err r) e = tt

  pub reached_placed : (x : Result (Bool × Font) Refusal) → x ≡ to_table (through_bare s) → ToTablePlaced s x
  unfolding through_bare
  reached_placed (Ok (t, f)) e = placed s f byte (then_sound (through_entries s) (unless_table s) (unless_gives s) f (came_to s t f e)).0
  reached_placed (Err r) e = tt

  pub checked_placed : (x : Result Font Refusal) → x ≡ check_of s → CheckedPlaced s x
  checked_placed (Ok f) e = placed s f byte (accepted s f (sym e)).0
  checked_placed (Err r) e = tt
