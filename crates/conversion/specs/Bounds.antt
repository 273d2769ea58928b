-- What is known of a font that a conversion has opened.
use Rattle.std.specs.Prelude.{ℕ, ◌≡◌, List, Result, Ok, Err}
use Rattle.header.specs.declared.Kind.{Kind}
use Rattle.header.specs.Bounds.{Placed}
use Rattle.header.specs.declared.Font.{Font}
use Rattle.refusal.specs.declared.Refusal.{Refusal}

abbrev pub OpenedPlaced : Kind → List ℕ → Result Font Refusal → Type 0
OpenedPlaced k s (Ok f) = Placed s f × (f.kind ≡ k)
OpenedPlaced k s (Err r) = Unit {0}
