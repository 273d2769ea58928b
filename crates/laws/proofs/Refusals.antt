-- What the refusal of an answer has, where it is one.
use mathlib.Core.Path.{◌≡◌, refl}
use Prim.Native.Nat.{ℕ}
use native.Mathlib.Omega.{arith}
use Rattle.refusal.specs.declared.Refusal.{Refusal}
use Rattle.header.specs.declared.Font.{Font}
use Rattle.header.specs.declared.Fields.{Fields}
use Rattle.header.specs.Reading.{on_fields}
use Rattle.stages.specs.Reading.{and_then}
use Rattle.std.specs.Prelude.{Result, Ok, Err}

-- an answer of a call whose refusal has P
abbrev pub OnRefusal : {A : Type 0} → (Refusal → Type 0) → Result A Refusal → Type 0
OnRefusal P (Ok v) = Unit {0}
OnRefusal P (Err r) = P r

-- the check, stage by stage
module _ (P : Refusal → Type 0) where
  pub on_sound : (c : Result Font Refusal) (k : Font → Result Font Refusal) → OnRefusal P c → ((f : Font) → c ≡ Ok f → OnRefusal P (k f)) → OnRefusal P (and_then c k)
  on_sound (Ok f) k a g = g f refl
  on_sound (Err r) k a g = a

  pub on_fields_lem : (shaped : Fields → Result Font Refusal) → ((f : Fields) → OnRefusal P (shaped f)) → (h : Result Fields Refusal) → OnRefusal P h → OnRefusal P (on_fields shaped h)
  on_fields_lem shaped g (Ok f) a = g f
  on_fields_lem shaped g (Err r) a = a

-- no answer is both
pub not_both : {T E A : Type 0} (x : Result T E) (v : T) (e : E) → x ≡ Ok v → x ≡ Err e → A
not_both x v e p q = let z : ◌≡◌ {A = ℕ} 0 1 = cc in absurd (omega arith)
