-- What a token at the front of some bytes does, in three ways: it leads on behind it, it stops, or it is cut and waits for more bytes. Every
-- induction over a table goes by these.
use mathlib.Core.Path.{◌≡◌, refl, sym, ◌∙◌, ap}
use mathlib.Core.Bool.{Bool, true, false}
use mathlib.Core.List.{List, [], ◌∷◌, ◌++◌}
use Prim.Native.Nat.{ℕ, suc, ◌+◌, ◌-◌, ◌≤◌, ◌<◌}
use native.Mathlib.Omega.{arith}
use lib.ListN.{length, take, drop, take-append-drop}
use lib.Seq.{length-take-le}
use Rattle.token.proofs.Sized.{Sized}
use Rattle.coding.specs.declared.Coding.{Coding}
use Rattle.coding.specs.Reading.{read_token}
use Rattle.coding.proofs.Codings.{token_sized, growing}
use Rattle.table.specs.Reading.{step_of, after_step, steps_from, check_steps}
use Rattle.table.proofs.Stepping.{first, front}
use Rattle.tablefeed.specs.declared.Run.{Run}
use Rattle.tablefeed.specs.Reading.{going, stopped, run_of}
use Rattle.std.specs.Prelude.{Result, Err, Ok}
use Rattle.table.specs.declared.Fault.{Fault}
use Rattle.table.specs.declared.Fault.TheVariants.{Cut as TableCut, Bad as FaultBad}
use Rattle.tablefeed.specs.declared.Halt.TheVariants.{Bad as TableBad, Trailing}
use Rattle.token.specs.declared.Token.TheVariants.{Value as TokenValue, Start as TokenStart, End as TokenEnd}
use Rattle.token.specs.declared.Malformed.TheVariants.{Cut, Bad}
use Rattle.token.specs.Reading.{Step}

-- on with so many descriptions complete and to come, just after a start mark or not, behind l bytes; or stopped after k bytes
pub data Turn : Type 0 where
  On : ℕ → ℕ → Bool → ℕ → Turn
  Stop : ℕ → Turn
  Wait : Turn

-- with g descriptions complete and another n behind the one that is being read
abbrev pub turn_of : ℕ → ℕ → Bool → Step → Turn
turn_of g n o (Ok (TokenValue v, l)) = On g (suc n) false l
turn_of g n true (Ok (TokenStart, l)) = Stop (l - 1)
turn_of g n false (Ok (TokenStart, l)) = On g (suc n) true l
turn_of g n true (Ok (TokenEnd, l)) = Stop (l - 1)
turn_of g n false (Ok (TokenEnd, l)) = On (suc g) n false l
turn_of g n o (Err Cut) = Wait
turn_of g n o (Err (Bad k)) = Stop k

-- what a run makes of it, at a place in front of bytes q
abbrev pub run_on : Coding → ℕ → Bool → ℕ → List ℕ → Turn → Run
run_on c g o at q (On g' n' o' l) = run_of g' n' o' (at + l) (steps_from c (at + l) 0 (drop l q))
run_on c g o at q (Stop k) = stopped TableBad g (at + k)
run_on c g o at q Wait = going g o at

-- and what the check does, of bytes that end at e
abbrev pub check_on : Coding → ℕ → ℕ → ℕ → List ℕ → Turn → Result (Unit {0}) Fault
check_on c e g at q (On g' n' o' l) = check_steps e g' n' o' (at + l) (steps_from c (at + l) 0 (drop l q))
check_on c e g at q (Stop k) = Err (FaultBad (at + k) g)
check_on c e g at q Wait = Err (TableCut e g)

-- the bounds of a turn in n bytes
abbrev pub TurnIn : ℕ → Turn → Type 0
TurnIn n (On g n' o l) = (1 ≤ l) × (l ≤ n)
TurnIn n (Stop k) = k < n
TurnIn n Wait = n < 4

module _ (c : Coding) where
  -- a whole token in front
  whole : (at : ℕ) (q : List ℕ) (l : ℕ) (w : Step) → 1 ≤ l → l ≤ length q → step_of at (read_token c q) ≡ w →
      ((f : ℕ → List Step) → after_step w f ≡ f (at + l)) → steps_from c at 0 q ≡ w ∷ steps_from c (at + l) 0 (drop l q)
  whole at q l w a b e f =
      let n : length (take l q) ≡ l = length-take-le l q b in
      let z : take l q ++ drop l q ≡ q = take-append-drop l q in
      rw (z, n) at (front c at (take l q) (drop l q) w (omega arith) (ap (λ (x : List ℕ). step_of at (read_token c x)) z ∙ e) (λ h. f h ∙ ap h (ap (λ (i : ℕ). at + i) (sym n))))

  -- one that stops there
  halts : (at b : ℕ) (t : List ℕ) (w : Step) → step_of at (read_token c (b ∷ t)) ≡ w → ((f : ℕ → List Step) → after_step w f ≡ []) → steps_from c at 0 (b ∷ t) ≡ w ∷ []
  halts at b t w e f = first c at b t w e ∙ ap (λ (z : List Step). w ∷ z) (f _)

  module _ (g n : ℕ) (at b : ℕ) (t : List ℕ) where
    abbrev q : List ℕ
    q = b ∷ t

    by : (o : Bool) (x : Step) → read_token c q ≡ x → Sized (length q) x →
        (run_of g (suc n) o at (steps_from c at 0 q) ≡ run_on c g o at q (turn_of g n o x))
        × ((e : ℕ) → check_steps e g (suc n) o at (steps_from c at 0 q) ≡ check_on c e g at q (turn_of g n o x))
        × TurnIn (length q) (turn_of g n o x)
    unfolding run_of check_steps
    by o (Ok (TokenValue v, l)) e z =
        let w = whole at q l (Ok (TokenValue v, (at + l))) z.0 z.1 (ap (step_of at) e) (λ f. refl) in
        (rw w, λ k. rw w, z)
    by true (Ok (TokenStart, l)) e z =
        let w = whole at q l (Ok (TokenStart, (at + l))) z.0 z.1 (ap (step_of at) e) (λ f. refl) in
        let p : at + l - 1 ≡ at + (l - 1) = omega (arith, z.0) in
        (rw (w, p), λ k. rw (w, p), omega (arith, z.0, z.1))
    by false (Ok (TokenStart, l)) e z =
        let w = whole at q l (Ok (TokenStart, (at + l))) z.0 z.1 (ap (step_of at) e) (λ f. refl) in
        (rw w, λ k. rw w, z)
    by true (Ok (TokenEnd, l)) e z =
        let w = whole at q l (Ok (TokenEnd, (at + l))) z.0 z.1 (ap (step_of at) e) (λ f. refl) in
        let p : at + l - 1 ≡ at + (l - 1) = omega (arith, z.0) in
        (rw (w, p), λ k. rw (w, p), omega (arith, z.0, z.1))
    by false (Ok (TokenEnd, l)) e z =
        let w = whole at q l (Ok (TokenEnd, (at + l))) z.0 z.1 (ap (step_of at) e) (λ f. refl) in
        (rw w, λ k. rw w, z)
    by o (Err Cut) e z =
        let w = halts at b t (Err Cut) (ap (step_of at) e) (λ f. refl) in
        (rw w, λ k. rw w, (growing c).cut_short q e)
    by o (Err (Bad k)) e z =
        let w = halts at b t (Err (Bad (at + k))) (ap (step_of at) e) (λ f. refl) in
        (rw w, λ i. rw w, z)

    pub turns : (o : Bool) →
        (run_of g (suc n) o at (steps_from c at 0 q) ≡ run_on c g o at q (turn_of g n o (read_token c q)))
        × ((e : ℕ) → check_steps e g (suc n) o at (steps_from c at 0 q) ≡ check_on c e g at q (turn_of g n o (read_token c q)))
        × TurnIn (length q) (turn_of g n o (read_token c q))
    turns o = by o (read_token c q) refl (token_sized c q)

    -- none left
    pub over : (o : Bool) → run_of g 0 o at (steps_from c at 0 q) ≡ stopped Trailing g at
    unfolding run_of steps_from
    over o = refl
