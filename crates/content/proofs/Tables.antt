-- A table that is carried to another coding is a table there, of the same descriptions.
use mathlib.Core.Path.{◌≡◌, refl, sym, ◌∙◌, ap, subst}
use mathlib.Core.Bool.{Bool, true, false}
use mathlib.Core.List.{List, []}
use Prim.Native.Nat.{ℕ}
use Rattle.base.specs.Meaning.{Bytes}
use Rattle.coding.specs.declared.Coding.{Coding}
use Rattle.table.specs.Meaning.{Desc, items, encode, Readable}
use Rattle.table.specs.Reading.{steps_from, step_items}
use Rattle.table.proofs.Reading.{items_bytes}
use Rattle.transcode.specs.Reading.{table_len, recoded}
use Rattle.transcode.proofs.Meaning.{length_exactly, recoded_table}
use Rattle.content.proofs.Tails.{Tail}
use Rattle.std.specs.Prelude.{Ok}

-- no bytes stay no bytes
pub nothing_recoded : (from to : Coding) → recoded from to [] ≡ []
unfolding recoded step_items steps_from
nothing_recoded from to = refl

module _ (from to : Coding) (tl : List ℕ) (m : ℕ) (c : table_len from to tl ≡ Ok m) where
  -- each reading in one coding is one in the other
  pub carried_reading : (ds : List Desc) → Readable from ds → tl ≡ encode from ds → Readable to ds × (recoded from to tl ≡ encode to ds)
  carried_reading ds o e = (((length_exactly from to ds tl o e m).0 c).0, recoded_table from to ds tl o e)

  -- a table in one coding is one in the other, and nothing stays nothing
  pub carried_tail : (t : Bool) (n : ℕ) → Tail t from n tl → Tail t to n (recoded from to tl) × Bytes (recoded from to tl)
  carried_tail true n i =
      let r = carried_reading i.reading i.values i.same in
      (record { reading = i.reading; count = i.count; values = r.0; same = r.1 }, subst Bytes (sym r.1) (items_bytes to (items i.reading) r.0))
  carried_tail false n e =
      let z : recoded from to tl ≡ [] = ap (recoded from to) e ∙ nothing_recoded from to in
      (z, subst Bytes (sym z) tt)

-- and back again it is what it was
pub back_again : (from to : Coding) (tl : List ℕ) (m : ℕ) → table_len from to tl ≡ Ok m → (t : Bool) (n : ℕ) → Tail t from n tl → recoded to from (recoded from to tl) ≡ tl
back_again from to tl m c true n i =
    let r = carried_reading from to tl m c i.reading i.values i.same in
    recoded_table to from i.reading (recoded from to tl) r.0 r.1 ∙ sym i.same
back_again from to tl m c false n e =
    ap (λ (x : List ℕ). recoded to from (recoded from to x)) e ∙ ap (recoded to from) (nothing_recoded from to) ∙ nothing_recoded to from ∙ sym e

-- one tail carries the tables and the readings of another, each in its own coding
pub record Carries (from to : Coding) (tl tl' : List ℕ) : Type 0 where
  pub tail : (t : Bool) (n : ℕ) → Tail t from n tl → Tail t to n tl' × Bytes tl'
  pub reading : (ds : List Desc) → Readable from ds → tl ≡ encode from ds → Readable to ds × (tl' ≡ encode to ds)

-- the tail in another coding does, where its every value is one of that coding's
pub recoded_carries : (from to : Coding) (tl : List ℕ) (m : ℕ) → table_len from to tl ≡ Ok m → Carries from to tl (recoded from to tl)
recoded_carries from to tl m c = record { tail = carried_tail from to tl m c; reading = carried_reading from to tl m c }

-- and so does the tail itself, in its own coding
pub same_carries : (from to : Coding) (tl : List ℕ) → from ≡ to → Bytes tl → Carries from to tl tl
same_carries from to tl e y = subst (λ (c : Coding). Carries from c tl tl) e (record { tail = λ t n i. (i, y); reading = λ ds o q. (o, q) })
