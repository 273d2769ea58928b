-- A walk over a tail goes by the steps that are left.
use mathlib.Core.Path.{◌≡◌, sym, ◌∙◌, ap, subst}
use mathlib.Core.Bool.{false}
use mathlib.Core.List.{List, [], ◌∷◌}
use Prim.Native.Nat.{ℕ, ◌≤◌, ◌<◌}
use native.Mathlib.Omega.{arith}
use lib.ListN.{length, drop_of_length-le}
use denote.Ref.{Bor}
use Rattle.std.specs.Prelude.{Ok, Err, Option, Some, None}
use Rattle.token.specs.declared.Token.{Token}
use Rattle.token.specs.declared.Malformed.{Malformed}
use Rattle.token.specs.declared.Malformed.TheVariants.{Cut, Bad}
use Rattle.token.specs.Reading.{Step}
use Rattle.coding.specs.declared.Coding.{Coding}
use Rattle.table.specs.declared.Steps.{Steps}
use Rattle.table.specs.declared.Items.{Items}
use Rattle.table.specs.Reading.{steps_from, steps_at, step_items, items_in}
use Rattle.table.specs.Bounds.{StepSays}
use Rattle.table.specs.Walking.{WalksOn, Along, Begins, bytes_left, steps_left, items_left}

-- nothing is left from the end on
pub none_left : (c : Coding) (s : List ℕ) (at : ℕ) → length s ≤ at → steps_at c s at ≡ []
unfolding steps_from
none_left c s at h = rw (drop_of_length-le s h)

module _ (w v : Steps) (c : v.coding ≡ w.coding) (s : v.tail ≡ w.tail) where
  -- what is left of a walk that goes on at a place
  left_at : (at : ℕ) → v.at ≡ at → steps_left v ≡ steps_at w.coding w.tail.now at
  left_at at a = λ i. steps_at (c i) (s i).now (a i)

  left_none : (at : ℕ) → v.at ≡ at → length w.tail.now ≤ at → steps_left v ≡ []
  left_none at a h = left_at at a ∙ none_left w.coding w.tail.now at h

module _ (w v : Steps) where
  -- a step
  pub went : (x : Step) → WalksOn w (Some x) v → steps_left w ≡ x ∷ steps_left v
  went (Ok (t, next)) (c, s, (h, m, a)) = m.2 ∙ ap (λ (y : List Step). Ok (t, next) ∷ y) (sym (left_at w v c s next a))
  went (Err Cut) (c, s, (h, m, a)) = m h ∙ ap (λ (y : List Step). Err Cut ∷ y) (sym (left_none w v c s (length w.tail.now) a (omega arith)))
  went (Err (Bad k)) (c, s, (h, m, a)) = m.2 ∙ ap (λ (y : List Step). Err (Bad k) ∷ y) (sym (left_none w v c s (length w.tail.now) a (omega arith)))

  -- nothing is left behind one that can't be read
  broken : (m : Malformed) → WalksOn w (Some (Err m)) v → steps_left v ≡ []
  broken m (c, s, (h, l, a)) = left_none w v c s (length w.tail.now) a (omega arith)

  -- the end
  pub stayed : WalksOn w None v → (steps_left w ≡ []) × (steps_left v ≡ [])
  stayed (c, s, (h, a)) = (none_left w.coding w.tail.now w.at h, left_none w v c s w.at a h)

  -- from a place of the bytes to the next
  pub walked_along : (s : List ℕ) (at : ℕ) (t : Token) (next : ℕ) (x : Step) (r : Option Step) → r ≡ Some x → x ≡ Ok (t, next) → WalksOn w r v → Along s at w → Along s next v × (at < next) × (next ≤ length s)
  walked_along s at t next x r e f h (p, q) =
      let (c, d, (l, m, a)) = subst (λ (y : Option Step). WalksOn w y v) (e ∙ ap (λ (y : Step). Some y) f) h in
      ((ap (λ (y : Bor (List ℕ)). y.now) d ∙ p, a), omega (arith, m.0, q), omega (arith, m.1, ap length p))

  -- the same of any result, by its parts
  pub walked : (x : Step) (r : Option Step) → r ≡ Some x → WalksOn w r v → steps_left w ≡ x ∷ steps_left v
  walked x r e h = went x (subst (λ (y : Option Step). WalksOn w y v) e h)

  pub walked_token : (t u : Token) (next : ℕ) (x : Step) (r : Option Step) → r ≡ Some x → x ≡ Ok (t, next) → t ≡ u → WalksOn w r v → steps_left w ≡ Ok (u, next) ∷ steps_left v
  walked_token t u next x r e f g h = walked (Ok (u, next)) r (e ∙ ap (λ (y : Step). Some y) (f ∙ ap (λ (y : Token). Ok (y, next)) g)) h

  pub walked_malformed : (m : Malformed) (x : Step) (r : Option Step) → r ≡ Some x → x ≡ Err m → WalksOn w r v → (steps_left w ≡ Err m ∷ steps_left v) × (steps_left v ≡ [])
  walked_malformed m x r e f h =
      let q = e ∙ ap (λ (y : Step). Some y) f in
      (walked (Err m) r q h, broken m (subst (λ (y : Option Step). WalksOn w y v) q h))

  pub walked_out : (r : Option Step) → r ≡ None → WalksOn w r v → (steps_left w ≡ []) × (steps_left v ≡ [])
  walked_out r e h = stayed (subst (λ (y : Option Step). WalksOn w y v) e h)

-- at the end of the bytes nothing is left
pub along_end : (s : List ℕ) (at : ℕ) (w : Steps) → Along s at w → length s ≤ at → steps_left w ≡ []
along_end s at w (p, a) h = (λ i. steps_at w.coding (p i) (a i)) ∙ none_left w.coding s at h

-- a walk from a place in a coding, by its next step
module _ (c : Coding) (s : List ℕ) (at : ℕ) (w v : Steps) where
  pub walked_says : (x : Step) (r : Option Step) → r ≡ Some x → WalksOn w r v → Begins c s at w → (at < length s) × StepSays c s at x
  walked_says x r e h (d, p, a) =
      let (_, _, (l, m, _)) = subst (λ (y : Option Step). WalksOn w y v) e h in
      (omega (arith, l, ap length p, a), coe 0 1 (i. StepSays (d i) (p i) (a i) x) m)

  pub walked_on : (t : Token) (next : ℕ) (x : Step) (r : Option Step) → r ≡ Some x → x ≡ Ok (t, next) → WalksOn w r v → Begins c s at w → Begins c s next v
  walked_on t next x r e f h (d, p, a) =
      let (k, q, (l, m, b)) = subst (λ (y : Option Step). WalksOn w y v) (e ∙ ap (λ (y : Step). Some y) f) h in
      (k ∙ d, ap (λ (y : Bor (List ℕ)). y.now) q ∙ p, b)

  pub walked_end : (r : Option Step) → r ≡ None → WalksOn w r v → Begins c s at w → length s ≤ at
  walked_end r e h (d, p, a) =
      let (_, _, (l, _)) = subst (λ (y : Option Step). WalksOn w y v) e h in
      omega (arith, l, ap length p, a)

-- a walk that begins
pub steps_begin : (c : Coding) (s : List ℕ) (at : ℕ) (w : Steps) → Begins c s at w → steps_left w ≡ steps_at c s at
steps_begin c s at w (d, p, a) = λ i. steps_at (d i) (p i) (a i)

pub items_begin : (c : Coding) (s : List ℕ) (w : Items) → Begins c s 0 w.steps → w.inside ≡ false → (items_left w ≡ items_in c s) × ((bytes_left w.steps).bound ≡ length s)
items_begin c s w (d, p, a) e = (λ i. step_items (e i) (steps_at (d i) (p i) (a i)), omega (arith, ap length p, a))
