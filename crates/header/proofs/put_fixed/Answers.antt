-- `header::put_fixed` meets its contract: three numbers, one behind the other. Assumes the kind's header length, and room.
use mathlib.Core.Path.{refl, ◌∙◌, ap}
use Prim.Native.Nat.{ℕ}
use native.Mathlib.Omega.{arith}
use mathlib.Core.List.{List, [], ◌++◌}
use Rattle.base.specs.Reading.{bytes32, over}
use Rattle.base.proofs.Over.{over_none, behind}
use Rattle.header.proofs.Written.{fixed_flags}
use Rattle.header.proofs.put_fixed.Goals as goal

pub returns : goal.returns
unfolding bytes32
returns c = let a = c.args in
    let xs = a.out.now in
    behind (bytes32 0 ++ bytes32 a.fixed) (bytes32 c.flags_of.result) xs _ _ 8 refl
    (behind (bytes32 0) (bytes32 a.fixed) xs _ _ 4 refl
    (behind [] (bytes32 0) xs _ _ 0 refl (over_none xs) c.put32.ensures) c.put32-2.ensures) c.put32-3.ensures
    ∙ ap (λ (p : List ℕ). over p xs) (fixed_flags a.table a.fixed c.flags_of.result (omega arith) c.flags_of.ensures)
