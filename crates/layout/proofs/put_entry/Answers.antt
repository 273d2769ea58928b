-- `layout::put_entry` meets its contract: address, size and metrics, one behind the other. Assumes nothing.
use Rattle.layout.specs.Reading.{metrics_bytes, entry_bytes}
use Rattle.base.proofs.Over.{over_none, behind}
use Rattle.base.specs.Reading.{bytes32}
use mathlib.Core.List.{[], ◌++◌}
use mathlib.Core.Path.{refl}
use Rattle.layout.proofs.put_entry.Goals as goal

pub returns : goal.returns
unfolding entry_bytes bytes32
returns c = let a = c.args in let xs = a.out.now in
    behind (bytes32 a.address ++ bytes32 a.size) (metrics_bytes a.height a.width) xs _ _ 8 refl
    (behind (bytes32 a.address) (bytes32 a.size) xs _ _ 4 refl
    (behind [] (bytes32 a.address) xs _ _ 0 refl (over_none xs) c.put32.ensures) c.put32-2.ensures) c.put_metrics.ensures
