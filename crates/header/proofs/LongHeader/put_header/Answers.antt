-- `header::LongHeader::put_header` meets its contract: magic, fixed fields and four numbers, one behind the other. Assumes room.
use mathlib.Core.Path.{refl, ◌∙◌, ap}
use Prim.Native.Nat.{ℕ}
use mathlib.Core.List.{List, [], ◌++◌}
use Rattle.base.specs.Reading.{over}
use Rattle.base.proofs.Over.{over_none, behind}
use Rattle.header.specs.Reading.{fixed_fields, fields}
use Rattle.header.proofs.Written.{front_length}
use Rattle.header.proofs.LongHeader.put_header.Goals as goal

pub returns : goal.returns
returns g c = let a = c.args in
    let xs = a.out.now in
    let m = g.Self.Format.MAGIC in
    let laws = g.met.Self.LongHeader in
    behind (m ++ fixed_fields a.table) (fields a.n a.size a.height a.width) xs _ _ 16 (front_length m a.table laws.four)
    (behind m (fixed_fields a.table) xs _ _ 4 laws.four
    (behind [] m xs _ _ 0 refl (over_none xs) (c.copy.ensures ∙ rw c.MAGIC-magic.ensures)) c.put_fixed.ensures) c.put_fields.ensures
    ∙ ap (λ (p : List ℕ). over p xs) (laws.parts a.table _ _ _ _)
