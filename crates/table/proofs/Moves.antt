-- How an item leads from one phase of a description to another: what the check, the telling of items and the grammar make of
-- it. Every induction over a table goes by these moves.
use mathlib.Core.Path.{◌≡◌, refl}
use mathlib.Core.List.{List, [], ◌∷◌}
use Prim.Native.Nat.{ℕ, zero, suc, ◌+◌}
use native.Mathlib.Omega.{arith}
use Rattle.coding.specs.declared.Coding.{Coding}
use Rattle.coding.specs.Meaning.{ValueOf}
use Rattle.table.specs.declared.Item.{Item}
use Rattle.table.specs.declared.Item.TheVariants.{Single, Start, Value, End}
use Rattle.table.specs.Reading.{ends_in, value_item, step_items, check_steps}
use Rattle.table.specs.Meaning.{OfCoding}
use Rattle.table.specs.Skipping.{Phase, singles, opened, filled, is_opened, is_inside}
use Rattle.table.proofs.Accepts.{Accepts}
use Rattle.table.proofs.Stepping.{step_for}
use Rattle.token.specs.Reading.{Step}

-- the descriptions complete behind an item, of those complete in front of it
abbrev pub ended : Item → ℕ → ℕ
ended (Single v) g = g
ended Start g = g
ended (Value v) g = g
ended End g = suc g

-- and those complete behind further items
pub ended_more : (i : Item) (g : ℕ) (is : List Item) → ended i g + ends_in is ≡ g + ends_in (i ∷ is)
ended_more (Single v) g is = refl
ended_more Start g is = refl
ended_more (Value v) g is = refl
ended_more End g is = omega arith

module _ (c : Coding) where
  -- item i leads from phase p with n descriptions left to phase p' with n' left
  pub record Move (n : ℕ) (p : Phase) (n' : ℕ) (p' : Phase) (i : Item) : Type 0 where
    pub of : OfCoding c (i ∷ [])
    pub checked : (e g at next : ℕ) (xs : List Step) → check_steps e g n (is_opened p) at (step_for c next i ∷ xs) ≡ check_steps e (ended i g) n' (is_opened p') next xs
    pub tells : (next : ℕ) (xs : List Step) → step_items (is_inside p) (step_for c next i ∷ xs) ≡ i ∷ step_items (is_inside p') xs
    pub accepts : (is : List Item) → Accepts n' p' is → Accepts n p (i ∷ is)

  module _ (n : ℕ) where
    pub single : (v : ℕ) → ValueOf c v → Move (suc n) singles (suc n) singles (Single v)
    unfolding check_steps step_items value_item
    single v u = record { of = (u, tt); checked = λ e g at next xs. refl; tells = λ next xs. refl; accepts = λ is a. a }

    pub first_value : (v : ℕ) → ValueOf c v → Move (suc n) opened (suc n) filled (Value v)
    unfolding check_steps step_items value_item
    first_value v u = record { of = (u, tt); checked = λ e g at next xs. refl; tells = λ next xs. refl; accepts = λ is a. a }

    pub other_value : (v : ℕ) → ValueOf c v → Move (suc n) filled (suc n) filled (Value v)
    unfolding check_steps step_items value_item
    other_value v u = record { of = (u, tt); checked = λ e g at next xs. refl; tells = λ next xs. refl; accepts = λ is a. a }

    pub first_start : Move (suc n) singles (suc n) opened Start
    unfolding check_steps step_items
    first_start = record { of = tt; checked = λ e g at next xs. refl; tells = λ next xs. refl; accepts = λ is a. a }

    pub other_start : Move (suc n) filled (suc n) opened Start
    unfolding check_steps step_items
    other_start = record { of = tt; checked = λ e g at next xs. refl; tells = λ next xs. refl; accepts = λ is a. a }

    pub end_singles : Move (suc n) singles n singles End
    unfolding check_steps step_items
    end_singles = record { of = tt; checked = λ e g at next xs. refl; tells = λ next xs. refl; accepts = λ is a. a }

    pub end_sequences : Move (suc n) filled n singles End
    unfolding check_steps step_items
    end_sequences = record { of = tt; checked = λ e g at next xs. refl; tells = λ next xs. refl; accepts = λ is a. a }

  -- the move of the first of accepted items
  pub record Moved (n : ℕ) (p : Phase) (i : Item) (is : List Item) : Type 0 where
    pub left : ℕ
    pub phase : Phase
    pub move : Move n p left phase i
    pub rest_of : OfCoding c is
    pub rest : Accepts left phase is

  pub moved : (n : ℕ) (p : Phase) (i : Item) (is : List Item) → OfCoding c (i ∷ is) → Accepts n p (i ∷ is) → Moved n p i is
  moved zero p i is o a = absurd a
  moved (suc n) singles (Single v) is o a = record { left = suc n; phase = singles; move = single n v o.0; rest_of = o.1; rest = a }
  moved (suc n) opened (Single v) is o a = absurd a
  moved (suc n) filled (Single v) is o a = absurd a
  moved (suc n) singles (Value v) is o a = absurd a
  moved (suc n) opened (Value v) is o a = record { left = suc n; phase = filled; move = first_value n v o.0; rest_of = o.1; rest = a }
  moved (suc n) filled (Value v) is o a = record { left = suc n; phase = filled; move = other_value n v o.0; rest_of = o.1; rest = a }
  moved (suc n) singles Start is o a = record { left = suc n; phase = opened; move = first_start n; rest_of = o; rest = a }
  moved (suc n) opened Start is o a = absurd a
  moved (suc n) filled Start is o a = record { left = suc n; phase = opened; move = other_start n; rest_of = o; rest = a }
  moved (suc n) singles End is o a = record { left = n; phase = singles; move = end_singles n; rest_of = o; rest = a }
  moved (suc n) opened End is o a = absurd a
  moved (suc n) filled End is o a = record { left = n; phase = singles; move = end_sequences n; rest_of = o; rest = a }
