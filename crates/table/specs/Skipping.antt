-- Going over a table without its values: what plainly stands at a place, how far it is gone over, and what the check answers there.
use Rattle.std.specs.Prelude.{◌≡◌, Bool, true, false, ◌⊎◌, List, [], ◌∷◌, ℕ, zero, suc, ◌-◌, ◌≤◌, length, eqb, ltb, Result, Ok, Err}
use Rattle.base.specs.Meaning.{pick}
use Rattle.coding.specs.declared.Coding.{Coding}
use Rattle.coding.specs.Reading.{key_of}
use Rattle.table.specs.declared.Plain.{Plain}
use Rattle.table.specs.declared.Plain.TheVariants.{Value as PlainValue, Start as PlainStart, End as PlainEnd, Other}
use Rattle.table.specs.declared.Cursor.{Cursor}
use Rattle.table.specs.Reading.{step_at, steps_at, check_steps}
use Rattle.table.specs.declared.Fault.{Fault}
use Rattle.table.specs.declared.Fault.TheVariants.{Cut as TableCut, Bad as TableBad, Trailing}
use Rattle.token.specs.declared.Token.TheVariants.{Value as TokenValue, Start as TokenStart, End as TokenEnd}
use Rattle.token.specs.declared.Malformed.TheVariants.{Cut, Bad}
use Rattle.token.specs.Reading.{Step}

-- where in a description: among its singles, just after a start mark, or in a sequence with a value
pub data Phase : Type 0 where
  singles : Phase
  opened : Phase
  filled : Phase

-- whether a value must stand next
abbrev pub is_opened : Phase → Bool
is_opened singles = false
is_opened opened = true
is_opened filled = false

-- whether a value there stands in a sequence
abbrev pub is_inside : Phase → Bool
is_inside singles = false
is_inside opened = true
is_inside filled = true

-- behind a value
abbrev pub after_value : Phase → Phase
after_value singles = singles
after_value opened = filled
after_value filled = filled

-- what plainly stands there: a step without its value, but for a value with the key k and where nothing can be read
abbrev pub plain_of : Coding → ℕ → Step → Plain
plain_of c k (Ok (TokenValue v, next)) = pick (eqb (key_of c v) k) Other (PlainValue next)
plain_of c k (Ok (TokenStart, next)) = PlainStart next
plain_of c k (Ok (TokenEnd, next)) = PlainEnd next
plain_of c k (Err m) = Other

-- how far reading has come: the descriptions still to end, the phase, the place, and the steps from there on
pub record Front : Type 0 where
  pub left : ℕ
  pub phase : Phase
  pub at : ℕ
  pub rest : List Step

abbrev pub front : ℕ → Phase → ℕ → List Step → Front
front n p i xs = record { left = n; phase = p; at = i; rest = xs }

-- with n descriptions after this one: over values without the key k, and over marks, up to one where a value must stand; no further than the last
-- description
unfoldable pub skip_from : Coding → ℕ → ℕ → Phase → ℕ → List Step → Front
skip_from c k n p at [] = front (suc n) p at []
skip_from c k n p at (Ok (TokenValue v, next) ∷ xs) = pick (eqb (key_of c v) k) (front (suc n) p at (Ok (TokenValue v, next) ∷ xs)) (skip_from c k n (after_value p) next xs)
skip_from c k n singles at (Ok (TokenStart, next) ∷ xs) = skip_from c k n opened next xs
skip_from c k n opened at (Ok (TokenStart, next) ∷ xs) = front (suc n) opened at (Ok (TokenStart, next) ∷ xs)
skip_from c k n filled at (Ok (TokenStart, next) ∷ xs) = skip_from c k n opened next xs
skip_from c k n opened at (Ok (TokenEnd, next) ∷ xs) = front (suc n) opened at (Ok (TokenEnd, next) ∷ xs)
skip_from c k zero singles at (Ok (TokenEnd, next) ∷ xs) = front 0 singles next xs
skip_from c k zero filled at (Ok (TokenEnd, next) ∷ xs) = front 0 singles next xs
skip_from c k (suc n) singles at (Ok (TokenEnd, next) ∷ xs) = skip_from c k n singles next xs
skip_from c k (suc n) filled at (Ok (TokenEnd, next) ∷ xs) = skip_from c k n singles next xs
skip_from c k n p at (Err m ∷ xs) = front (suc n) p at (Err m ∷ xs)

-- from a front on, with a description still to end
abbrev pub skipped : Coding → ℕ → Front → Front
skipped c k f = skip_from c k (f.left - 1) f.phase f.at f.rest

-- no place of a table
abbrev pub no_start : ℕ
no_start = 18446744073709551615

-- the phase at a place, behind a start mark that ends at `start`, or where there is none in this description
unfoldable pub phase_of : ℕ → ℕ → Phase
phase_of start at = pick (eqb start no_start) singles (pick (eqb start at) opened filled)

abbrev pub cursor_of : ℕ → ℕ → ℕ → Cursor
cursor_of i n m = record { at = i; left = n; start = m }

-- a cursor in a list of bytes, as a front
abbrev pub front_at : Coding → List ℕ → Cursor → Front
front_at c s p = front p.left (phase_of p.start p.at) p.at (steps_at c s p.at)

-- a cursor within a list of bytes: at a place of it, behind a start mark before that or behind none
abbrev pub Stands : List ℕ → Cursor → Type 0
Stands s p = (p.at ≤ length s) × ((p.start ≤ p.at) ⊎ (p.start ≡ no_start))

-- the answer behind the last description, of bytes that end at e
unfoldable pub ended_of : ℕ → ℕ → Result (Unit {0}) Fault
ended_of e at = pick (ltb at e) (Err (Trailing at)) (Ok tt)

-- no value stands there
abbrev pub NoValue : Step → Type 0
NoValue (Ok (TokenValue v, next)) = ⊥
NoValue (Ok (TokenStart, next)) = Unit {0}
NoValue (Ok (TokenEnd, next)) = Unit {0}
NoValue (Err m) = Unit {0}

-- the answer at a step where a value must stand, of bytes that end at e, with g descriptions complete
abbrev pub refused_of : ℕ → ℕ → Step → Result (Unit {0}) Fault
refused_of e g (Ok (TokenValue v, next)) = Ok tt
refused_of e g (Ok (TokenStart, next)) = Err (TableBad (next - 1) g)
refused_of e g (Ok (TokenEnd, next)) = Err (TableBad (next - 1) g)
refused_of e g (Err Cut) = Err (TableCut e g)
refused_of e g (Err (Bad k)) = Err (TableBad k g)

-- the answer at a cursor, where no value stands or no description is left
abbrev pub answer_at : Coding → List ℕ → ℕ → Cursor → Result (Unit {0}) Fault
answer_at c s n p = pick (eqb p.left 0) (ended_of (length s) p.at) (refused_of (length s) (n - p.left) (step_at c s p.at))

-- the check of what is left of a table of n descriptions, from a front on, of bytes that end at e
abbrev pub check_front : ℕ → ℕ → Front → Result (Unit {0}) Fault
check_front e n f = check_steps e (n - f.left) f.left (is_opened f.phase) f.at f.rest

abbrev pub check_at : Coding → List ℕ → ℕ → Cursor → Result (Unit {0}) Fault
check_at c s n p = check_front (length s) n (front_at c s p)
