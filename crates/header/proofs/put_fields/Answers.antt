-- `header::put_fields` meets its contract: four numbers, one behind the other. Assumes room.
use mathlib.Core.Path.{refl}
use mathlib.Core.List.{[], ◌++◌}
use Rattle.base.specs.Reading.{bytes32}
use Rattle.base.proofs.Over.{over_none, behind}
use Rattle.header.specs.Reading.{fields}
use Rattle.header.proofs.put_fields.Goals as goal

pub returns : goal.returns
unfolding fields bytes32
returns c = let a = c.args in
    let xs = a.out.now in
    behind (bytes32 a.a ++ bytes32 a.b ++ bytes32 a.c) (bytes32 a.d) xs _ _ 12 refl
    (behind (bytes32 a.a ++ bytes32 a.b) (bytes32 a.c) xs _ _ 8 refl
    (behind (bytes32 a.a) (bytes32 a.b) xs _ _ 4 refl
    (behind [] (bytes32 a.a) xs _ _ 0 refl (over_none xs) c.put32.ensures) c.put32-2.ensures) c.put32-3.ensures) c.put32-4.ensures
