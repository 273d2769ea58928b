-- `layout::put_metrics` meets its contract: five numbers, one behind the other. Assumes nothing.
use Rattle.layout.specs.Reading.{metrics_bytes}
use Rattle.base.proofs.Over.{over_none, behind}
use Rattle.base.specs.Reading.{bytes16}
use mathlib.Core.List.{[], ◌++◌}
use mathlib.Core.Path.{refl}
use Rattle.layout.proofs.put_metrics.Goals as goal

pub returns : goal.returns
unfolding metrics_bytes bytes16
returns c = let a = c.args in let xs = a.out.now in
    behind (bytes16 a.height ++ bytes16 0 ++ bytes16 0 ++ bytes16 a.width) (bytes16 a.width) xs _ _ 8 refl
    (behind (bytes16 a.height ++ bytes16 0 ++ bytes16 0) (bytes16 a.width) xs _ _ 6 refl
    (behind (bytes16 a.height ++ bytes16 0) (bytes16 0) xs _ _ 4 refl
    (behind (bytes16 a.height) (bytes16 0) xs _ _ 2 refl
    (behind [] (bytes16 a.height) xs _ _ 0 refl (over_none xs) c.put16.ensures) c.put16-2.ensures) c.put16-3.ensures) c.put16-4.ensures) c.put16-5.ensures
