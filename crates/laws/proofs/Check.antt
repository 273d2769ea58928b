-- The check: `check` answers `check_of s`, and what it says is the first row of document 01's table that applies, on any bytes s (Bytes s
-- holds of any slice). `Exact x rows`: x is an answer exactly when the rows say so of it.
use mathlib.Core.Path.{◌≡◌, refl, sym, ap}
use mathlib.Core.List.{List}
use Prim.Native.Nat.{ℕ}
use native.Mathlib.Omega.{arith}
use Rattle.base.specs.Meaning.{Bytes}
use Rattle.header.specs.declared.Font.{Font}
use Rattle.stages.specs.Reading.{through_entries, check_of}
use Rattle.stages.proofs.Cases.{tail_after}
use Rattle.laws.specs.Meaning.{Exact, gives, says, RowsTo9, TailRows, CheckRows}
use Rattle.laws.proofs.Exactly.{is}
use Rattle.laws.proofs.Deciding.{rows_then}
use Rattle.laws.proofs.Tails.{tail_rows}
use Rattle.std.specs.Prelude.{Result, Ok, Err}
use Rattle.refusal.specs.declared.Refusal.{Refusal}

-- all rows, 1 to 12
pub check_exactly : (s : List ℕ) → Bytes s → Exact (says (check_of s)) (CheckRows s)
check_exactly s y =
    rows_then s (λ f. TailRows s f f.table) (says (check_of s)) (λ r e. ap says (sym (tail_after s (Err r) (sym e))))
    (λ f e. tail_rows s y f (sym e) f.table refl)

-- rows 1 to 9, of what stands before the tail
pub to_9_exactly : (s : List ℕ) → Exact (says (through_entries s)) (RowsTo9 s)
to_9_exactly s = rows_then s (λ f a. a ≡ gives f) (says (through_entries s)) (λ r e. ap says (sym e)) (λ f e. is _ (gives f) (ap says (sym e)))

-- a sound font by what is said of it
pub sound_said : (a : Result Font Refusal) (f : Font) → says a ≡ gives f → a ≡ Ok f
sound_said (Ok g) f e = let h : g ≡ f = cc in ap Ok h
sound_said (Err r) f e = let z : ◌≡◌ {A = ℕ} 0 1 = cc in absurd (omega arith)

-- a font that none of rows 1 to 9 applies to passed the stages before its tail
pub passed_9 : (s : List ℕ) (f : Font) → RowsTo9 s (gives f) → through_entries s ≡ Ok f
passed_9 s f r = sound_said (through_entries s) f ((to_9_exactly s (gives f)).1 r)
