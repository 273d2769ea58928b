-- A lookup, asked of a font as far as its table and then of that, answers as asked of the whole font.
use mathlib.Core.Path.{◌≡◌, refl, ◌∙◌, ap}
use mathlib.Core.Bool.{Bool}
use mathlib.Core.List.{List}
use Prim.Native.Nat.{ℕ}
use Rattle.refusal.specs.declared.Refusal.{Refusal}
use Rattle.header.specs.declared.Font.{Font}
use Rattle.stages.specs.Reading.{tabled, through_bare, to_table, check_of}
use Rattle.stages.proofs.Cases.{came_to, table_after, refused_by}
use Rattle.questions.specs.Reading.{after_tail}
use Rattle.fonts.specs.Reading.{asked}
use Rattle.std.specs.Prelude.{Result, Ok, Err}

module _ (s : List ℕ) (answer : Font → Result ℕ Refusal) where
  same : (x : Result Font Refusal) → after_tail answer x ≡ asked Err answer x
  same (Ok f) = refl
  same (Err r) = refl

  pub table_asked : (t : Bool) (f : Font) → Ok (t, f) ≡ to_table (through_bare s) → after_tail answer (tabled s f) ≡ asked Err answer (check_of s)
  table_asked t f e = same (tabled s f) ∙ ap (asked Err answer) (table_after s (Ok f) (came_to s t f e))

  pub none_asked : (r : Refusal) → Err r ≡ to_table (through_bare s) → Err r ≡ asked Err answer (check_of s)
  none_asked r e = ap (asked Err answer) (refused_by s r e)
