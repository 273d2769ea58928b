-- A view is the part that its second call names, or empty.
use mathlib.Core.Path.{◌≡◌}
use mathlib.Core.List.{List, []}
use Prim.Native.Nat.{ℕ, ◌+◌, ◌-◌}
use native.Mathlib.Nat.{add-sub_cancel_left}
use lib.ListN.{take, drop}
use Rattle.refusal.specs.declared.Refusal.{Refusal}
use Rattle.bitmap.specs.Meaning.{view_of}
use Rattle.std.specs.Prelude.{Result, Ok, Err}
use Rattle.bitmap.specs.declared.Part.{Part}

pub view_at : (s : List ℕ) (a : Result Part Refusal) (p : Part) → a ≡ Ok p → take (p.start + p.len - p.start) (drop p.start s) ≡ view_of s a
view_at s a p e = rw (e, add-sub_cancel_left p.start p.len)

pub view_none : (s : List ℕ) (p : Result Part Refusal) (r : Refusal) → p ≡ Err r → [] ≡ view_of s p
view_none s p r e = rw e
