-- An open record.
use mathlib.Core.Path.{◌≡◌, refl, sym, ◌∙◌}
use mathlib.Core.Bool.{Bool, true, false, ◌&&◌}
use Prim.Native.Nat.{◌≤◌, ◌<◌}
use lib.Dec.{ltb, eqb}
use borrow.Author.Tests.{eq-eqb, ne_eqb, lt-ltb, le-ltb, eqb-true, ltb-true}
use mathlib.Core.Logic.{⊎_elim}
use Rattle.base.proofs.Tests.{below}
use Rattle.loader.specs.declared.Loader.{Loader}
use Rattle.loader.specs.Reading.{is_open}

pub is_closed : (l : Loader) → (l.closed ≡ 0 → ⊥) → false ≡ is_open l
unfolding is_open
is_closed l h = rw (ne_eqb l.closed 0 h)

pub in_header : (l : Loader) → l.closed ≡ 0 → l.total < 32 → eqb l.held.len l.total ≡ is_open l
unfolding is_open
in_header l h k = rw (eq-eqb l.closed 0 h, lt-ltb l.total 32 k)

pub in_body : (l : Loader) → l.closed ≡ 0 → 32 ≤ l.total → ltb l.held.len 18 ≡ is_open l
unfolding is_open
in_body l h k = rw (eq-eqb l.closed 0 h, le-ltb l.total 32 k)

and_left : (a b : Bool) → (a && b) ≡ true → a ≡ true
and_left true b e = refl
and_left false b e = e

not_closed : (l : Loader) → is_open l ≡ true → eqb l.closed 0 ≡ true
unfolding is_open
not_closed l e = and_left (eqb l.closed 0) _ e

pub opened : (l : Loader) → is_open l ≡ true → (l.closed ≡ 0) × (l.total < 32 → l.held.len ≡ l.total) × (32 ≤ l.total → l.held.len < 18)
opened l e =
    let c : l.closed ≡ 0 = eqb-true l.closed 0 (not_closed l e) in
    (c, λ h. eqb-true l.held.len l.total (in_header l c h ∙ e), λ h. ltb-true l.held.len 18 (in_body l c h ∙ e))

pub opens : (l : Loader) → l.closed ≡ 0 → (l.total < 32 → l.held.len ≡ l.total) → (32 ≤ l.total → l.held.len < 18) → is_open l ≡ true
opens l c f g = ⊎_elim (λ (h : l.total < 32). sym (in_header l c h) ∙ eq-eqb l.held.len l.total (f h)) (λ (h : 32 ≤ l.total). sym (in_body l c h) ∙ lt-ltb l.held.len 18 (g h)) (below l.total 32)
