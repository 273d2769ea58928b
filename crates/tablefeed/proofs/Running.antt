-- A run through bytes: from another place, where it rests, on through more bytes, and what the check of the table makes of it.
use mathlib.Core.Path.{◌≡◌, refl, sym, ◌∙◌, ap, subst}
use mathlib.Core.Bool.{Bool, true, false}
use mathlib.Core.Logic.{◌⊎◌, inl, inr, ⊎_elim}
use mathlib.Core.List.{List, [], ◌∷◌, ◌++◌}
use Prim.Native.Nat.{ℕ, zero, suc, ◌+◌, ◌-◌, ◌≤◌, ◌<◌}
use native.Mathlib.Omega.{arith}
use lib.Dec.{eqb}
use lib.ListN.{length, drop, length-drop}
use lib.Seq.{drop-append-le, drop-drop, drop-nil}
use borrow.Author.Tests.{ne_eqb}
use Rattle.base.specs.Meaning.{pick}
use Rattle.base.proofs.Tests.{same}
use Rattle.coding.specs.declared.Coding.{Coding}
use Rattle.coding.specs.Reading.{read_token}
use Rattle.coding.proofs.Codings.{growing}
use Rattle.table.specs.Reading.{steps_from, check_steps, at_end, table_of}
use Rattle.tablefeed.specs.declared.Run.{Run}
use Rattle.tablefeed.specs.Reading.{going, stopped, run_of, halt_number}
use Rattle.tablefeed.proofs.Turns.{Turn, On, Stop, Wait, turn_of, run_on, check_on, TurnIn, turns}
use Rattle.std.specs.Prelude.{Result, Ok, Err}
use Rattle.table.specs.declared.Fault.{Fault}
use Rattle.table.specs.declared.Fault.TheVariants.{Bad as FaultBad, Trailing as FaultTrailing}
use Rattle.tablefeed.specs.declared.Halt.TheVariants.{Bad as TableBad}
use Rattle.token.specs.declared.Token.TheVariants.{Value as TokenValue, Start as TokenStart, End as TokenEnd}
use Rattle.token.specs.Reading.{Step}
use Rattle.token.specs.declared.Malformed.TheVariants.{Cut, Bad}

-- the same with its place d further on
abbrev pub moved : ℕ → Run → Run
moved d r = record { ended = r.ended; opened = r.opened; halted = r.halted; place = d + r.place }

-- where a run through q rests that began at a place with g descriptions complete
abbrev pub Rests : ℕ → ℕ → List ℕ → Run → Type 0
Rests g at q r = (g ≤ r.ended) × (r.place ≤ at + length q) × (halt_number r.halted ≡ 0 → (at ≤ r.place) × (at + length q < r.place + 4))

-- what the check says of bytes that end at e, of a table of n descriptions
abbrev pub table_told : ℕ → ℕ → Run → Result (Unit {0}) Fault
table_told n e r =
    pick (eqb (halt_number r.halted) 0) (at_end r.ended (n - r.ended) e)
    (pick (eqb (halt_number r.halted) 12) (Err (FaultTrailing r.place)) (Err (FaultBad r.place r.ended)))

-- every turn keeps the number of descriptions that are wanted, and leaves no fewer complete
abbrev Keeps : ℕ → ℕ → Turn → Type 0
Keeps g k (On g' n' o l) = (g ≤ g') × (g' + n' ≡ k)
Keeps g k (Stop j) = Unit {0}
Keeps g k Wait = Unit {0}

keeps : (g n : ℕ) (o : Bool) (t : Step) → Keeps g (g + suc n) (turn_of g n o t)
keeps g n o (Ok (TokenValue v, l)) = (omega arith, refl)
keeps g n true (Ok (TokenStart, l)) = tt
keeps g n false (Ok (TokenStart, l)) = (omega arith, refl)
keeps g n true (Ok (TokenEnd, l)) = tt
keeps g n false (Ok (TokenEnd, l)) = (omega arith, omega arith)
keeps g n o (Err Cut) = tt
keeps g n o (Err (Bad k)) = tt

module _ (c : Coding) where
  -- from another place
  shifts : (fuel : ℕ) (q : List ℕ) → length q ≤ fuel → (d at g n : ℕ) (o : Bool) →
      run_of g n o (d + at) (steps_from c (d + at) 0 q) ≡ moved d (run_of g n o at (steps_from c at 0 q))
  unfolding run_of steps_from
  shifts zero [] h d at g n o = refl
  shifts zero (b ∷ q) h d at g n o = absurd (omega arith)
  shifts (suc fuel) [] h d at g n o = refl
  shifts (suc fuel) (b ∷ q) h d at g zero o = refl
  shifts (suc fuel) (b ∷ q) h d at g (suc n) o =
      (turns c g n (d + at) b q o).0
      ∙ go (turn_of g n o (read_token c (b ∷ q))) (turns c g n at b q o).2 (λ p. shifts fuel p)
      ∙ ap (moved d) (sym (turns c g n at b q o).0)
    where
      go : (x : Turn) → TurnIn (length (b ∷ q)) x →
          ((p : List ℕ) → length p ≤ fuel → (d at g n : ℕ) (o : Bool) → run_of g n o (d + at) (steps_from c (d + at) 0 p) ≡ moved d (run_of g n o at (steps_from c at 0 p))) →
          run_on c g o (d + at) (b ∷ q) x ≡ moved d (run_on c g o at (b ∷ q) x)
      go (On g' n' o' l) z ih =
          let e : d + at + l ≡ d + (at + l) = omega arith in
          let k = length-drop l (b ∷ q) in
          rw e (ih (drop l (b ∷ q)) (omega (arith, z.0)) d (at + l) g' n' o')
      go (Stop k) z ih = let e : d + at + k ≡ d + (at + k) = omega arith in ap (stopped TableBad g) e
      go Wait z ih = refl

  pub shift : (q : List ℕ) (d at g n : ℕ) (o : Bool) → run_of g n o (d + at) (steps_from c (d + at) 0 q) ≡ moved d (run_of g n o at (steps_from c at 0 q))
  shift q = shifts (length q) q (omega arith)

  -- where it rests
  resting : (fuel : ℕ) (q : List ℕ) → length q ≤ fuel → (at g n : ℕ) (o : Bool) → Rests g at q (run_of g n o at (steps_from c at 0 q))
  unfolding run_of steps_from
  resting zero [] h at g n o = (omega arith, omega arith, λ e. (omega arith, omega arith))
  resting zero (b ∷ q) h at g n o = absurd (omega arith)
  resting (suc fuel) [] h at g n o = (omega arith, omega arith, λ e. (omega arith, omega arith))
  resting (suc fuel) (b ∷ q) h at g zero o = (omega arith, omega arith, λ e. absurd (omega arith))
  resting (suc fuel) (b ∷ q) h at g (suc n) o =
      subst (Rests g at (b ∷ q)) (sym (turns c g n at b q o).0)
      (go (turn_of g n o (read_token c (b ∷ q))) (turns c g n at b q o).2 (keeps g n o (read_token c (b ∷ q))) (λ p. resting fuel p))
    where
      go : (x : Turn) → TurnIn (length (b ∷ q)) x → Keeps g (g + suc n) x →
          ((p : List ℕ) → length p ≤ fuel → (at g n : ℕ) (o : Bool) → Rests g at p (run_of g n o at (steps_from c at 0 p))) →
          Rests g at (b ∷ q) (run_on c g o at (b ∷ q) x)
      go (On g' n' o' l) z w ih =
          let k = length-drop l (b ∷ q) in
          let r = ih (drop l (b ∷ q)) (omega (arith, z.0)) (at + l) g' n' o' in
          (omega (arith, r.0, w.0), omega (arith, r.1, z.1), λ e. let s = r.2 e in (omega (arith, s.0), omega (arith, s.1, z.1)))
      go (Stop k) z w ih = (omega arith, omega arith, λ e. absurd (omega arith))
      go Wait z w ih = (omega arith, omega arith, λ e. (omega arith, omega arith))

  pub rests : (q : List ℕ) (at g n : ℕ) (o : Bool) → Rests g at q (run_of g n o at (steps_from c at 0 q))
  rests q = resting (length q) q (omega arith)

  -- on through more bytes
  abbrev pub onward : ℕ → List ℕ → ℕ → List ℕ → Run → Run
  onward k s at q r = pick (eqb (halt_number r.halted) 0) (run_of r.ended (k - r.ended) r.opened r.place (steps_from c r.place 0 (drop (r.place - at) q ++ s))) r

  joins : (s : List ℕ) (fuel : ℕ) (q : List ℕ) → length q ≤ fuel → (at g n : ℕ) (o : Bool) →
      run_of g n o at (steps_from c at 0 (q ++ s)) ≡ onward (g + n) s at q (run_of g n o at (steps_from c at 0 q))
  unfolding run_of steps_from
  joins s zero [] h at g n o = let e : g + n - g ≡ n = omega arith in rw (e, drop-nil (at - at))
  joins s zero (b ∷ q) h at g n o = absurd (omega arith)
  joins s (suc fuel) [] h at g n o = let e : g + n - g ≡ n = omega arith in rw (e, drop-nil (at - at))
  joins s (suc fuel) (b ∷ q) h at g zero o = refl
  joins s (suc fuel) (b ∷ q) h at g (suc n) o = by ((growing c).kept (b ∷ q) s) (λ p. joins s fuel p)
    where
      T : List ℕ → Turn
      T p = turn_of g n o (read_token c p)

      -- nothing is read yet
      waits : run_of g (suc n) o at (steps_from c at 0 (b ∷ (q ++ s))) ≡ onward (g + suc n) s at (b ∷ q) (going g o at)
      waits = let e : g + suc n - g ≡ suc n = omega arith in let d : at - at ≡ 0 = omega arith in rw (e, d)

      go : (x : Turn) → TurnIn (length (b ∷ q)) x → Keeps g (g + suc n) x →
          run_of g (suc n) o at (steps_from c at 0 (b ∷ (q ++ s))) ≡ run_on c g o at (b ∷ (q ++ s)) x →
          ((p : List ℕ) → length p ≤ fuel → (at g n : ℕ) (o : Bool) → run_of g n o at (steps_from c at 0 (p ++ s)) ≡ onward (g + n) s at p (run_of g n o at (steps_from c at 0 p))) →
          run_of g (suc n) o at (steps_from c at 0 (b ∷ (q ++ s))) ≡ onward (g + suc n) s at (b ∷ q) (run_on c g o at (b ∷ q) x)
      go (On g' n' o' l) z w e ih =
          let k = length-drop l (b ∷ q) in
          let a : drop l (b ∷ (q ++ s)) ≡ drop l (b ∷ q) ++ s = drop-append-le l (b ∷ q) s z.1 in
          let r : Run = run_of g' n' o' (at + l) (steps_from c (at + l) 0 (drop l (b ∷ q))) in
          let i = rests (drop l (b ∷ q)) (at + l) g' n' o' in
          let f : onward (g' + n') s (at + l) (drop l (b ∷ q)) r ≡ onward (g + suc n) s at (b ∷ q) r =
          ⊎_elim
          (λ (y : (halt_number r.halted) ≡ 0).
          let j : l + (r.place - (at + l)) ≡ r.place - at = omega (arith, (i.2 y).0) in
          let d : drop (r.place - (at + l)) (drop l (b ∷ q)) ≡ drop (r.place - at) (b ∷ q) = drop-drop (r.place - (at + l)) l (b ∷ q) ∙ ap (λ (m : ℕ). drop m (b ∷ q)) j in
          rw (w.1, d))
          (λ (y : (halt_number r.halted) ≡ 0 → ⊥). rw (ne_eqb (halt_number r.halted) 0 y))
          (same (halt_number r.halted) 0) in
          e ∙ rw a (ih (drop l (b ∷ q)) (omega (arith, z.0)) (at + l) g' n' o') ∙ f
      go (Stop k) z w e ih = e
      go Wait z w e ih = waits

      by : (read_token c (b ∷ q) ≡ Err Cut) ⊎ (read_token c (b ∷ (q ++ s)) ≡ read_token c (b ∷ q)) →
          ((p : List ℕ) → length p ≤ fuel → (at g n : ℕ) (o : Bool) → run_of g n o at (steps_from c at 0 (p ++ s)) ≡ onward (g + n) s at p (run_of g n o at (steps_from c at 0 p))) →
          run_of g (suc n) o at (steps_from c at 0 (b ∷ (q ++ s))) ≡ onward (g + suc n) s at (b ∷ q) (run_of g (suc n) o at (steps_from c at 0 (b ∷ q)))
      by (inl e) ih =
          let r : run_of g (suc n) o at (steps_from c at 0 (b ∷ q)) ≡ going g o at = (turns c g n at b q o).0 ∙ ap (λ (x : Step). run_on c g o at (b ∷ q) (turn_of g n o x)) e in
          waits ∙ ap (onward (g + suc n) s at (b ∷ q)) (sym r)
      by (inr e) ih =
          let f : run_of g (suc n) o at (steps_from c at 0 (b ∷ (q ++ s))) ≡ run_on c g o at (b ∷ (q ++ s)) (T (b ∷ q)) =
          (turns c g n at b (q ++ s) o).0 ∙ ap (λ (x : Step). run_on c g o at (b ∷ (q ++ s)) (turn_of g n o x)) e in
          go (T (b ∷ q)) (turns c g n at b q o).2 (keeps g n o (read_token c (b ∷ q))) f ih
          ∙ ap (onward (g + suc n) s at (b ∷ q)) (sym (turns c g n at b q o).0)

  pub join : (q s : List ℕ) (at g n : ℕ) (o : Bool) → run_of g n o at (steps_from c at 0 (q ++ s)) ≡ onward (g + n) s at q (run_of g n o at (steps_from c at 0 q))
  join q s = joins s (length q) q (omega arith)

  -- what the check makes of it
  checks : (fuel : ℕ) (q : List ℕ) → length q ≤ fuel → (at g n : ℕ) (o : Bool) →
      check_steps (at + length q) g n o at (steps_from c at 0 q) ≡ table_told (g + n) (at + length q) (run_of g n o at (steps_from c at 0 q))
  unfolding run_of steps_from check_steps
  checks zero [] h at g n o = let e : g + n - g ≡ n = omega arith in let d : at + 0 ≡ at = omega arith in rw (e, d)
  checks zero (b ∷ q) h at g n o = absurd (omega arith)
  checks (suc fuel) [] h at g n o = let e : g + n - g ≡ n = omega arith in let d : at + 0 ≡ at = omega arith in rw (e, d)
  checks (suc fuel) (b ∷ q) h at g zero o = refl
  checks (suc fuel) (b ∷ q) h at g (suc n) o =
      (turns c g n at b q o).1 (at + length (b ∷ q))
      ∙ go (turn_of g n o (read_token c (b ∷ q))) (turns c g n at b q o).2 (keeps g n o (read_token c (b ∷ q))) (λ p. checks fuel p)
      ∙ ap (table_told (g + suc n) (at + length (b ∷ q))) (sym (turns c g n at b q o).0)
    where
      go : (x : Turn) → TurnIn (length (b ∷ q)) x → Keeps g (g + suc n) x →
          ((p : List ℕ) → length p ≤ fuel → (at g n : ℕ) (o : Bool) → check_steps (at + length p) g n o at (steps_from c at 0 p) ≡ table_told (g + n) (at + length p) (run_of g n o at (steps_from c at 0 p))) →
          check_on c (at + length (b ∷ q)) g at (b ∷ q) x ≡ table_told (g + suc n) (at + length (b ∷ q)) (run_on c g o at (b ∷ q) x)
      go (On g' n' o' l) z w ih =
          let k = length-drop l (b ∷ q) in
          let e : at + l + length (drop l (b ∷ q)) ≡ at + length (b ∷ q) = omega (arith, z.1) in
          rw (e, w.1) at (ih (drop l (b ∷ q)) (omega (arith, z.0)) (at + l) g' n' o')
      go (Stop k) z w ih = refl
      go Wait z w ih = let e : g + suc n - g ≡ suc n = omega arith in rw e

  -- the whole table
  pub told : (n : ℕ) (s : List ℕ) → table_of c n s ≡ table_told n (length s) (run_of 0 n false 0 (steps_from c 0 0 s))
  told n s =
      let e : 0 + length s ≡ length s = omega arith in
      let f : 0 + n ≡ n = omega arith in
      rw (e, f) at (checks (length s) s (omega arith) 0 0 n false)
