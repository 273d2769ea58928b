-- A refusal that `?` hands on is the answer; and a pair that is answered has its parts.
use mathlib.Core.Path.{◌≡◌, ◌∙◌, ap}
use Rattle.std.specs.Prelude.{Result, Ok, Err, IsErrAnd}

pub handed_on : {T E : Type 0} (r x : Result T E) (e : E) → IsErrAnd r (λ y. y ≡ e) → Err e ≡ x → r ≡ x
handed_on (Ok v) x e p q = elim p [ ]
handed_on (Err y) x e p q = ap Err p ∙ q

pub pair_same : {A B E : Type 0} (a c : A) (b d : B) → ◌≡◌ {A = Result (A × B) E} (Ok (a, b)) (Ok (c, d)) → (a ≡ c) × (b ≡ d)
pair_same {A} {B} a c b d e = let p : ◌≡◌ {A = A × B} (a, b) (c, d) = cc in (ap (λ (x : A × B). x.0) p, ap (λ (x : A × B). x.1) p)
