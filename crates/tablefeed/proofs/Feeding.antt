-- A table fed part by part: the code's cases, and in two goes.
use mathlib.Core.Path.{◌≡◌, refl, sym, ◌∙◌, ap, subst}
use mathlib.Core.Bool.{Bool, true, false}
use mathlib.Core.Logic.{◌⊎◌, inl, inr, ⊎_elim}
use mathlib.Core.List.{List, [], ◌++◌, append_assoc}
use Prim.Native.Nat.{ℕ, ◌+◌, ◌-◌, ◌≤◌, ◌<◌}
use native.Mathlib.Omega.{arith}
use lib.Dec.{eqb}
use lib.ListN.{length, take, drop, length-append, length-drop, take-append-drop}
use lib.Seq.{drop-append-le, drop-append-add, length-take-le}
use borrow.Author.Tests.{eq-eqb, ne_eqb}
use Rattle.base.specs.Meaning.{pick}
use Rattle.base.proofs.Tests.{same}
use Rattle.coding.specs.declared.Coding.{Coding}
use Rattle.table.specs.Reading.{steps_from, steps_at}
use Rattle.unfinished.specs.declared.Held.{Held}
use Rattle.unfinished.specs.Reading.{held_bytes, held_of}
use Rattle.unfinished.proofs.Holding.{held, held_len}
use Rattle.std.specs.Prelude.{Option, Some, None, is_some}
use Rattle.tablefeed.specs.declared.Halt.{Halt}
use Rattle.tablefeed.specs.declared.Halt.TheVariants.{Bad as TableBad, Trailing}
use Rattle.tablefeed.specs.declared.Run.{Run}
use Rattle.tablefeed.specs.declared.Standing.{Standing}
use Rattle.tablefeed.specs.declared.Fed.{Fed}
use Rattle.tablefeed.specs.Reading.{run_of, flag_of, is_set, halt_number, settled, table_read, table_fed}
use Rattle.tablefeed.specs.Bounds.{Resting}
use Rattle.tablefeed.proofs.Running.{moved, Rests, shift, rests, join}

-- flags
pub flag_yes : (b : Bool) → b ≡ true → 1 ≡ flag_of b
unfolding flag_of
flag_yes b e = rw e

pub flag_no : (b : Bool) → b ≡ false → 0 ≡ flag_of b
unfolding flag_of
flag_no b e = rw e

pub flag_back : (b : Bool) → is_set (flag_of b) ≡ b
unfolding flag_of is_set
flag_back true = refl
flag_back false = refl

-- a run that has stopped
pub met : (o : Option Halt) → is_some o ≡ true → halt_number o ≡ 0 → ⊥
met None e z = let y : ◌≡◌ {A = ℕ} 0 1 = cc in absurd (omega arith)
met (Some TableBad) e z = absurd (omega arith)
met (Some Trailing) e z = absurd (omega arith)

pub unmet : (o : Option Halt) → is_some o ≡ false → halt_number o ≡ 0
unmet None e = refl
unmet (Some TableBad) e = let y : ◌≡◌ {A = ℕ} 0 1 = cc in absurd (omega arith)
unmet (Some Trailing) e = let y : ◌≡◌ {A = ℕ} 0 1 = cc in absurd (omega arith)

-- how far s has been read
module _ (s : List ℕ) (at : ℕ) (r : Run) (f place : ℕ) (g : f ≡ flag_of r.opened) where
  pub halts : (halt_number r.halted ≡ 0 → ⊥) → (h : Held) → h ≡ held_of [] →
      record { held = h; standing = record { ended = r.ended; opened = f; halted = (halt_number r.halted); place = at + r.place } } ≡ settled s at r
  unfolding settled
  halts z h e = rw (ne_eqb (halt_number r.halted) 0 z, e, g)

  pub goes : halt_number r.halted ≡ 0 → (h : Held) → h ≡ held_of (drop r.place s) →
      record { held = h; standing = record { ended = r.ended; opened = f; halted = (halt_number r.halted); place = at + r.place } } ≡ settled s at r
  unfolding settled
  goes z h e = rw (eq-eqb (halt_number r.halted) 0 z, e, g)

-- where a run through s from a start on rests
pub at_rest : (c : Coding) (s : List ℕ) (start g n : ℕ) (o : Bool) (r : Run) → start ≤ length s → r ≡ run_of g n o start (steps_at c s start) → Resting s r
at_rest c s start g n o r h e =
    let l = length-drop start s in
    let i : Rests g start (drop start s) r = subst (Rests g start (drop start s)) (sym e) (rests c (drop start s) start g n o) in
    (omega (arith, i.1), λ z. let j = i.2 z in omega (arith, j.1))

-- bytes u in front
settled_behind : (u p : List ℕ) (at : ℕ) (x : Run) → length u ≤ at → settled (u ++ p) (at - length u) (moved (length u) x) ≡ settled p at x
unfolding settled
settled_behind u p at x h =
    let e : at - length u + (length u + x.place) ≡ at + x.place = omega arith in
    let d : drop (length u + x.place) (u ++ p) ≡ drop x.place p = drop-append-add u p x.place in
    rw (e, d)

-- more bytes behind, where it has stopped
settled_stopped : (q s : List ℕ) (at : ℕ) (x : Run) → (halt_number x.halted ≡ 0 → ⊥) → settled (q ++ s) at x ≡ settled q at x
unfolding settled
settled_stopped q s at x h = rw (ne_eqb (halt_number x.halted) 0 h)

module _ (c : Coding) (n at : ℕ) (t : Standing) where
  abbrev first : List ℕ → Run
  first q = run_of t.ended (n - t.ended) (is_set t.opened) 0 (steps_from c 0 0 q)

  -- what is wanted still, as the code counts it
  wanted : (q : List ℕ) → t.ended + (n - t.ended) - (first q).ended ≡ n - (first q).ended
  wanted q = let r = rests c q 0 t.ended (n - t.ended) (is_set t.opened) in omega (arith, r.0)

  on : (q s : List ℕ) → halt_number (first q).halted ≡ 0 →
      first (q ++ s) ≡ moved (first q).place (run_of (first q).ended (n - (first q).ended) (first q).opened 0 (steps_from c 0 0 (drop (first q).place q ++ s)))
  on q s z =
      let e : (first q).place - 0 ≡ (first q).place = omega arith in
      let d : (first q).place + 0 ≡ (first q).place = omega arith in
      join c q s 0 t.ended (n - t.ended) (is_set t.opened)
      ∙ rw (eq-eqb (halt_number (first q).halted) 0 z, e, wanted q)
      (rw d at (shift c (drop (first q).place q ++ s) (first q).place 0 (first q).ended (n - (first q).ended) (first q).opened))

  off : (q s : List ℕ) → (halt_number (first q).halted ≡ 0 → ⊥) → first (q ++ s) ≡ first q
  off q s z = join c q s 0 t.ended (n - t.ended) (is_set t.opened) ∙ rw (ne_eqb (halt_number (first q).halted) 0 z)

  -- the code's cases: nothing held; q begins with the bytes held
  pub from_part : (h : Held) (s : List ℕ) → t.halted ≡ 0 → h.len ≡ 0 → (r : Run) → r ≡ first s → (x : Fed) → x ≡ settled s at r → x ≡ table_fed c n at h t s
  unfolding table_fed table_read
  from_part h s z l r e x f = let d : at - 0 ≡ at = omega arith in f ∙ rw (eq-eqb t.halted 0 z, l, d, e)

  module _ (h : Held) (s q rest : List ℕ) (z : t.halted ≡ 0) (l : length (held_bytes h) ≡ h.len) (b : h.len ≤ at) (e : held_bytes h ++ s ≡ q ++ rest) (r : Run) (f : r ≡ first q) where
    all : table_fed c n at h t s ≡ settled (q ++ rest) (at - h.len) (first (q ++ rest))
    unfolding table_fed table_read
    all = rw (eq-eqb t.halted 0 z, e)

    pub stops : (halt_number r.halted ≡ 0 → ⊥) → (x : Fed) → x ≡ settled q (at - h.len) r → x ≡ table_fed c n at h t s
    stops k x w =
        let g : halt_number (first q).halted ≡ 0 → ⊥ = λ i. k (ap (λ (y : Run). (halt_number y.halted)) f ∙ i) in
        w
        ∙ ap (settled q (at - h.len)) f
        ∙ sym (all ∙ ap (settled (q ++ rest) (at - h.len)) (off q rest g) ∙ settled_stopped q rest (at - h.len) (first q) g)

    pub short : rest ≡ [] → (x : Fed) → x ≡ settled q (at - h.len) r → x ≡ table_fed c n at h t s
    short k x w =
        let g : q ++ [] ≡ q = mathlib.Core.List.append-nil q in
        w ∙ ap (settled q (at - h.len)) f ∙ sym (all ∙ rw (k, g))

    -- what begins in the bytes held is read: on in the part itself
    pub goes_on : halt_number r.halted ≡ 0 → h.len ≤ r.place → r.place ≤ length q → (y : Run) → y ≡ run_of r.ended (n - r.ended) r.opened (r.place - h.len) (steps_at c s (r.place - h.len)) →
        (x : Fed) → x ≡ settled s at y → x ≡ table_fed c n at h t s
    goes_on k i j y v x w =
        let place : r.place ≡ (first q).place = ap (λ (a : Run). a.place) f in
        let d : drop r.place q ++ rest ≡ drop (r.place - h.len) s =
        let o : length (held_bytes h) + (r.place - h.len) ≡ r.place = omega arith in
        sym (drop-append-le r.place q rest j)
        ∙ ap (λ (a : List ℕ). drop r.place a) (sym e)
        ∙ ap (λ (a : ℕ). drop a (held_bytes h ++ s)) (sym o)
        ∙ drop-append-add (held_bytes h) s (r.place - h.len) in
        let y0 : Run = run_of r.ended (n - r.ended) r.opened 0 (steps_from c 0 0 (drop (r.place - h.len) s)) in
        let v' : y ≡ moved (r.place - h.len) y0 =
        let o : r.place - h.len + 0 ≡ r.place - h.len = omega arith in
        v ∙ rw o at (shift c (drop (r.place - h.len) s) (r.place - h.len) 0 r.ended (n - r.ended) r.opened) in
        let u : first (q ++ rest) ≡ moved r.place y0 = rw (← f, d) at (on q rest (sym (ap (λ (a : Run). (halt_number a.halted)) f) ∙ k)) in
        let m : moved r.place y0 ≡ moved (length (held_bytes h)) y =
        let o : r.place + y0.place ≡ length (held_bytes h) + (r.place - h.len + y0.place) = omega arith in
        (λ a. record { ended = y0.ended; opened = y0.opened; halted = y0.halted; place = o a }) ∙ ap (moved (length (held_bytes h))) (sym v') in
        w
        ∙ sym (settled_behind (held_bytes h) s at y (omega arith))
        ∙ sym (all ∙ ap (settled (q ++ rest) (at - h.len)) (u ∙ m) ∙ rw (← e, l))

  -- in two goes
  read_on : (q s : List ℕ) → halt_number (first q).halted ≡ 0 →
      table_read c n at t (q ++ s) ≡ table_read c n (at + (first q).place) (table_read c n at t q).standing (drop (first q).place q ++ s)
  unfolding table_read settled
  read_on q s z =
      let i = rests c q 0 t.ended (n - t.ended) (is_set t.opened) in
      let l : length (take (first q).place q) ≡ (first q).place = length-take-le (first q).place q (omega (arith, i.1)) in
      let e : q ++ s ≡ take (first q).place q ++ (drop (first q).place q ++ s) =
      ap (λ (x : List ℕ). x ++ s) (sym (take-append-drop (first q).place q)) ∙ append_assoc (take (first q).place q) (drop (first q).place q) s in
      let x : Run = run_of (first q).ended (n - (first q).ended) (first q).opened 0 (steps_from c 0 0 (drop (first q).place q ++ s)) in
      let b : settled (take (first q).place q ++ (drop (first q).place q ++ s)) (at + (first q).place - (first q).place) (moved (first q).place x) ≡ settled (drop (first q).place q ++ s) (at + (first q).place) x =
      subst (λ (k : ℕ). settled (take (first q).place q ++ (drop (first q).place q ++ s)) (at + (first q).place - k) (moved k x) ≡ settled (drop (first q).place q ++ s) (at + (first q).place) x) l
      (settled_behind (take (first q).place q) (drop (first q).place q ++ s) (at + (first q).place) x (omega arith)) in
      let d : at + (first q).place - (first q).place ≡ at = omega arith in
      ap (settled (q ++ s) at) (on q s z)
      ∙ ap (λ (y : List ℕ). settled y at (moved (first q).place x)) e
      ∙ rw d at b
      ∙ ap (λ (o : Bool). settled (drop (first q).place q ++ s) (at + (first q).place) (run_of (first q).ended (n - (first q).ended) o 0 (steps_from c 0 0 (drop (first q).place q ++ s)))) (sym (flag_back (first q).opened))

  read_off : (q s : List ℕ) → (halt_number (first q).halted ≡ 0 → ⊥) → table_read c n at t (q ++ s) ≡ table_read c n at t q
  unfolding table_read
  read_off q s z = ap (settled (q ++ s) at) (off q s z) ∙ settled_stopped q s at (first q) z

  -- what is held then
  read_held : (q : List ℕ) → halt_number (first q).halted ≡ 0 → ((table_read c n at t q).held ≡ held_of (drop (first q).place q)) × ((table_read c n at t q).standing.halted ≡ 0)
  unfolding table_read settled
  read_held q z = (rw (eq-eqb (halt_number (first q).halted) 0 z), z)

  read_halted : (q : List ℕ) → (table_read c n at t q).standing.halted ≡ (halt_number (first q).halted)
  unfolding table_read settled
  read_halted q = refl

  -- as many bytes as are said
  read_kept : (q : List ℕ) → length (held_bytes (table_read c n at t q).held) ≡ (table_read c n at t q).held.len
  unfolding table_read settled
  read_kept q = ap (λ (x : List ℕ). length x) (held (pick (eqb (halt_number (first q).halted) 0) (drop (first q).place q) [])) ∙ sym (held_len (pick (eqb (halt_number (first q).halted) 0) (drop (first q).place q) []))

  -- few bytes
  pub read_short : (q : List ℕ) → (table_read c n at t q).held.len < 4
  unfolding table_read settled held_of
  read_short q =
      let i = rests c q 0 t.ended (n - t.ended) (is_set t.opened) in
      ⊎_elim
      (λ (z : (halt_number (first q).halted) ≡ 0).
      let l = length-drop (first q).place q in
      let j = i.2 z in
      rw (eq-eqb (halt_number (first q).halted) 0 z) (omega (arith, l, j.1)))
      (λ (z : halt_number (first q).halted ≡ 0 → ⊥). rw (ne_eqb (halt_number (first q).halted) 0 z) (omega arith))
      (same (halt_number (first q).halted) 0)

-- already refused
pub no_more : (c : Coding) (n at : ℕ) (h : Held) (t : Standing) (s : List ℕ) → (t.halted ≡ 0 → ⊥) → record { held = h; standing = t } ≡ table_fed c n at h t s
unfolding table_fed
no_more c n at h t s z = rw (ne_eqb t.halted 0 z)

-- the bytes held and the first m of a part, and the rest of it
pub split : (u s : List ℕ) (m : ℕ) → u ++ s ≡ (u ++ take m s) ++ drop m s
split u s m = ap (λ (z : List ℕ). u ++ z) (sym (take-append-drop m s)) ∙ sym (append_assoc u (take m s) (drop m s))

fed_reads : (c : Coding) (n at : ℕ) (h : Held) (t : Standing) (s : List ℕ) → t.halted ≡ 0 → table_fed c n at h t s ≡ table_read c n (at - h.len) t (held_bytes h ++ s)
unfolding table_fed
fed_reads c n at h t s z = rw (eq-eqb t.halted 0 z)

-- a part in two goes
module _ (c : Coding) (n at : ℕ) (h : Held) (t : Standing) (l : length (held_bytes h) ≡ h.len) (b : h.len ≤ at) where
  pub twice : (p s : List ℕ) → table_fed c n at h t (p ++ s) ≡ table_fed c n (at + length p) (table_fed c n at h t p).held (table_fed c n at h t p).standing s
  twice p s = go (same t.halted 0)
    where
      q : List ℕ
      q = held_bytes h ++ p

      F : Fed
      F = table_read c n (at - h.len) t q

      r : Run
      r = first c n (at - h.len) t q

      assoc : held_bytes h ++ (p ++ s) ≡ q ++ s
      assoc = sym (append_assoc (held_bytes h) p s)

      on_going : t.halted ≡ 0 → halt_number r.halted ≡ 0 → table_fed c n at h t (p ++ s) ≡ table_fed c n (at + length p) F.held F.standing s
      on_going z k =
          let w = read_held c n (at - h.len) t q k in
          let i = rests c q 0 t.ended (n - t.ended) (is_set t.opened) in
          let a = length-append (held_bytes h) p in
          let m = length-drop r.place q in
          let g : F.held.len ≡ length (drop r.place q) = ap (λ (x : Held). x.len) w.0 ∙ held_len (drop r.place q) in
          let o : at + length p - F.held.len ≡ at - h.len + r.place = omega (arith, i.1) in
          let d : held_bytes F.held ≡ drop r.place q = ap held_bytes w.0 ∙ held (drop r.place q) in
          fed_reads c n at h t (p ++ s) z
          ∙ ap (table_read c n (at - h.len) t) assoc
          ∙ read_on c n (at - h.len) t q s k
          ∙ sym (fed_reads c n (at + length p) F.held F.standing s w.1 ∙ rw (o, d))

      stopped : t.halted ≡ 0 → (halt_number r.halted ≡ 0 → ⊥) → table_fed c n at h t (p ++ s) ≡ table_fed c n (at + length p) F.held F.standing s
      stopped z k =
          fed_reads c n at h t (p ++ s) z ∙ ap (table_read c n (at - h.len) t) assoc ∙ read_off c n (at - h.len) t q s k
          ∙ no_more c n (at + length p) F.held F.standing s (λ i. k (sym (read_halted c n (at - h.len) t q) ∙ i))

      go : (t.halted ≡ 0) ⊎ (t.halted ≡ 0 → ⊥) → table_fed c n at h t (p ++ s) ≡ table_fed c n (at + length p) (table_fed c n at h t p).held (table_fed c n at h t p).standing s
      go (inl z) = rw (fed_reads c n at h t p z) (⊎_elim (on_going z) (stopped z) (same (halt_number r.halted) 0))
      go (inr z) = sym (no_more c n at h t (p ++ s) z) ∙ rw (← no_more c n at h t p z) (no_more c n (at + length p) h t s z)

-- what is held then
module _ (c : Coding) (n at : ℕ) (h : Held) (t : Standing) (l : length (held_bytes h) ≡ h.len) where
  -- as many bytes are held then as are said
  pub fed_kept : (p : List ℕ) → length (held_bytes (table_fed c n at h t p).held) ≡ (table_fed c n at h t p).held.len
  fed_kept p = go (same t.halted 0)
    where
      go : (t.halted ≡ 0) ⊎ (t.halted ≡ 0 → ⊥) → length (held_bytes (table_fed c n at h t p).held) ≡ (table_fed c n at h t p).held.len
      go (inl z) = rw (fed_reads c n at h t p z) (read_kept c n (at - h.len) t (held_bytes h ++ p))
      go (inr z) = rw (← no_more c n at h t p z) l

  -- few bytes are held then
  pub fed_short : (p : List ℕ) → h.len < 18 → (table_fed c n at h t p).held.len < 18
  fed_short p k = go (same t.halted 0)
    where
      go : (t.halted ≡ 0) ⊎ (t.halted ≡ 0 → ⊥) → (table_fed c n at h t p).held.len < 18
      go (inl z) = rw (fed_reads c n at h t p z) (let i = read_short c n (at - h.len) t (held_bytes h ++ p) in omega arith)
      go (inr z) = rw (← no_more c n at h t p z) k
