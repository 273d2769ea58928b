-- `differences::count_pairs` meets its contract: 6, the glyphs that both have, the others. Assumes `Placed` of both fonts.
use mathlib.Core.Path.{refl}
use native.Mathlib.Omega.{arith}
use Rattle.glyphs.specs.Reading.{kind_number}
use Rattle.differences.proofs.Cases.{counted}
use Rattle.differences.proofs.count_pairs.Goals as goal

pub overflow_add-result-2 : goal.overflow_add-result-2
overflow_add-result-2 c = omega (arith, c.pair_count.ensures.1, c.count_common-common.ensures.1, c.max-m.ensures)

pub returns : goal.returns
returns c = let e = counted c.args.a.now c.args.f c.args.b.now c.args.h (kind_number c.table_kind.result) c.min-n.result c.max-m.result _ c.table_kind.ensures c.min-n.ensures c.max-m.ensures refl in
    (omega (arith, e, c.pair_count.ensures.0, c.count_common-common.ensures.0), omega (arith, c.pair_count.ensures.1, c.count_common-common.ensures.1, c.max-m.ensures))
