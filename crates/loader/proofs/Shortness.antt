-- Feeding leaves few bytes unfinished.
use mathlib.Core.Path.{◌≡◌, sym, subst}
use mathlib.Core.List.{List}
use Prim.Native.Nat.{ℕ, ◌<◌}
use Rattle.base.proofs.Tests.{by_when}
use Rattle.header.specs.declared.Font.{Font}
use Rattle.unfinished.specs.declared.Held.{Held}
use Rattle.entryfeed.specs.declared.Sums.{Sums}
use Rattle.entryfeed.specs.declared.Fed as entries
use Rattle.entryfeed.proofs.Feeding.{fed_short}
use Rattle.loader.specs.Reading.{entries_in}

in_short : (f : Font) (total : ℕ) (h : Held) (x : Sums) (p : List ℕ) → h.len < 18 → (entries_in f total h x p).held.len < 18
unfolding entries_in
in_short f total h x p k =
    let P : entries.Fed → Type 0 = λ y. y.held.len < 18 in
    by_when P _ _ _ k (by_when P _ _ _ (fed_short _ _ _ _ _) (fed_short _ _ _ _ _))

pub entries_short : (f : Font) (total : ℕ) (h : Held) (x : Sums) (p : List ℕ) (r : entries.Fed) → r ≡ entries_in f total h x p → h.len < 18 → r.held.len < 18
entries_short f total h x p r e k = subst (λ (y : entries.Fed). y.held.len < 18) (sym e) (in_short f total h x p k)
