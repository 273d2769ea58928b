-- What the calls above know of an accepted font: where its parts stand.
use Rattle.std.specs.Prelude.{ℕ, List, Bool, Result, Ok, Err}
use Rattle.header.specs.Bounds.{Placed}
use Rattle.header.specs.declared.Font.{Font}
use Rattle.refusal.specs.declared.Refusal.{Refusal}

abbrev pub CheckedPlaced : List ℕ → Result Font Refusal → Type 0
CheckedPlaced s (Ok f) = Placed s f
CheckedPlaced s (Err r) = Unit {0}

abbrev pub ToTablePlaced : List ℕ → Result (Bool × Font) Refusal → Type 0
ToTablePlaced s (Ok (t, f)) = Placed s f
ToTablePlaced s (Err r) = Unit {0}
