-- `differences::put_pairs` meets its contract: 6, the glyphs that both have, the others, one behind the other. Assumes `Placed` of both fonts, and room.
use mathlib.Core.Path.{refl}
use mathlib.Core.List.{[], ◌++◌}
use Prim.Native.Nat.{◌+◌, ◌-◌}
use native.Mathlib.Omega.{arith}
use Rattle.base.proofs.Written.{begins_as, room, goes_on, ends, ends_at}
use Rattle.std.specs.Prelude.{Some}
use Rattle.glyphs.specs.Reading.{kind_number}
use Rattle.differences.specs.Meaning.{numbers}
use Rattle.differences.specs.Reading.{pair_of, common_pairs, rest_from, pairs_of}
use Rattle.differences.proofs.Cases.{numbers_are, first_part, within, last}
use Rattle.differences.proofs.put_pairs.Goals as goal

pub put_pair-common-requires : goal.put_pair-common-requires
put_pair-common-requires c = (omega arith, room (numbers (pairs_of c.args.a.now c.args.f c.args.b.now c.args.h)) (numbers (pair_of (kind_number c.table_kind-k.result) 0)) ((numbers (common_pairs c.args.a.now c.args.f c.args.b.now c.args.h)) ++ (numbers (rest_from (kind_number (Some c.only_kind-r.result)) (c.max-m.result - c.min-n.result) c.min-n.result))) c.args.out.now c.args.out.now 0 (begins_as (numbers (pairs_of c.args.a.now c.args.f c.args.b.now c.args.h)) c.args.out.now _ c.requires.2 (numbers_are c.args.a.now c.args.f c.args.b.now c.args.h (kind_number c.table_kind-k.result) c.min-n.result c.max-m.result (kind_number (Some c.only_kind-r.result)) c.table_kind-k.ensures c.min-n.ensures c.max-m.ensures c.only_kind-r.ensures)))

pub slice_bounds-put_common-count : goal.slice_bounds-put_common-count
slice_bounds-put_common-count c = within _ _ _ _ _ (first_part (numbers (pairs_of c.args.a.now c.args.f c.args.b.now c.args.h)) (numbers (pair_of (kind_number c.table_kind-k.result) 0)) ((numbers (common_pairs c.args.a.now c.args.f c.args.b.now c.args.h)) ++ (numbers (rest_from (kind_number (Some c.only_kind-r.result)) (c.max-m.result - c.min-n.result) c.min-n.result))) c.args.out.now _ c.put_pair-common.result c.requires.2 (numbers_are c.args.a.now c.args.f c.args.b.now c.args.h (kind_number c.table_kind-k.result) c.min-n.result c.max-m.result (kind_number (Some c.only_kind-r.result)) c.table_kind-k.ensures c.min-n.ensures c.max-m.ensures c.only_kind-r.ensures) c.put_pair-common.ensures.0 c.put_pair-common.ensures.2)

pub slice_bounds-put_common-start : goal.slice_bounds-put_common-start
slice_bounds-put_common-start c = within _ _ _ _ _ (first_part (numbers (pairs_of c.args.a.now c.args.f c.args.b.now c.args.h)) (numbers (pair_of (kind_number c.table_kind-k.result) 0)) ((numbers (common_pairs c.args.a.now c.args.f c.args.b.now c.args.h)) ++ (numbers (rest_from (kind_number (Some c.only_kind-r.result)) (c.max-m.result - c.min-n.result) c.min-n.result))) c.args.out.now _ c.put_pair-common.result c.requires.2 (numbers_are c.args.a.now c.args.f c.args.b.now c.args.h (kind_number c.table_kind-k.result) c.min-n.result c.max-m.result (kind_number (Some c.only_kind-r.result)) c.table_kind-k.ensures c.min-n.ensures c.max-m.ensures c.only_kind-r.ensures) c.put_pair-common.ensures.0 c.put_pair-common.ensures.2)

pub put_common-requires : goal.put_common-requires
put_common-requires c = (c.requires.0, c.requires.1, room (numbers (pairs_of c.args.a.now c.args.f c.args.b.now c.args.h)) (numbers (common_pairs c.args.a.now c.args.f c.args.b.now c.args.h)) (numbers (rest_from (kind_number (Some c.only_kind-r.result)) (c.max-m.result - c.min-n.result) c.min-n.result)) c.args.out.now _ c.put_pair-common.result (first_part (numbers (pairs_of c.args.a.now c.args.f c.args.b.now c.args.h)) (numbers (pair_of (kind_number c.table_kind-k.result) 0)) ((numbers (common_pairs c.args.a.now c.args.f c.args.b.now c.args.h)) ++ (numbers (rest_from (kind_number (Some c.only_kind-r.result)) (c.max-m.result - c.min-n.result) c.min-n.result))) c.args.out.now _ c.put_pair-common.result c.requires.2 (numbers_are c.args.a.now c.args.f c.args.b.now c.args.h (kind_number c.table_kind-k.result) c.min-n.result c.max-m.result (kind_number (Some c.only_kind-r.result)) c.table_kind-k.ensures c.min-n.ensures c.max-m.ensures c.only_kind-r.ensures) c.put_pair-common.ensures.0 c.put_pair-common.ensures.2))

pub slice_bounds-put_rest-count : goal.slice_bounds-put_rest-count
slice_bounds-put_rest-count c = within _ _ _ _ _ (last _ _ _ _ _ (goes_on (numbers (pairs_of c.args.a.now c.args.f c.args.b.now c.args.h)) (numbers (common_pairs c.args.a.now c.args.f c.args.b.now c.args.h)) (numbers (rest_from (kind_number (Some c.only_kind-r.result)) (c.max-m.result - c.min-n.result) c.min-n.result)) c.args.out.now _ _ (numbers (common_pairs c.args.a.now c.args.f c.args.b.now c.args.h)) c.put_pair-common.result c.put_common.result refl c.put_common.ensures.0 c.put_common.ensures.2 (first_part (numbers (pairs_of c.args.a.now c.args.f c.args.b.now c.args.h)) (numbers (pair_of (kind_number c.table_kind-k.result) 0)) ((numbers (common_pairs c.args.a.now c.args.f c.args.b.now c.args.h)) ++ (numbers (rest_from (kind_number (Some c.only_kind-r.result)) (c.max-m.result - c.min-n.result) c.min-n.result))) c.args.out.now _ c.put_pair-common.result c.requires.2 (numbers_are c.args.a.now c.args.f c.args.b.now c.args.h (kind_number c.table_kind-k.result) c.min-n.result c.max-m.result (kind_number (Some c.only_kind-r.result)) c.table_kind-k.ensures c.min-n.ensures c.max-m.ensures c.only_kind-r.ensures) c.put_pair-common.ensures.0 c.put_pair-common.ensures.2)))

pub slice_bounds-put_rest-start : goal.slice_bounds-put_rest-start
slice_bounds-put_rest-start c = within _ _ _ _ _ (last _ _ _ _ _ (goes_on (numbers (pairs_of c.args.a.now c.args.f c.args.b.now c.args.h)) (numbers (common_pairs c.args.a.now c.args.f c.args.b.now c.args.h)) (numbers (rest_from (kind_number (Some c.only_kind-r.result)) (c.max-m.result - c.min-n.result) c.min-n.result)) c.args.out.now _ _ (numbers (common_pairs c.args.a.now c.args.f c.args.b.now c.args.h)) c.put_pair-common.result c.put_common.result refl c.put_common.ensures.0 c.put_common.ensures.2 (first_part (numbers (pairs_of c.args.a.now c.args.f c.args.b.now c.args.h)) (numbers (pair_of (kind_number c.table_kind-k.result) 0)) ((numbers (common_pairs c.args.a.now c.args.f c.args.b.now c.args.h)) ++ (numbers (rest_from (kind_number (Some c.only_kind-r.result)) (c.max-m.result - c.min-n.result) c.min-n.result))) c.args.out.now _ c.put_pair-common.result c.requires.2 (numbers_are c.args.a.now c.args.f c.args.b.now c.args.h (kind_number c.table_kind-k.result) c.min-n.result c.max-m.result (kind_number (Some c.only_kind-r.result)) c.table_kind-k.ensures c.min-n.ensures c.max-m.ensures c.only_kind-r.ensures) c.put_pair-common.ensures.0 c.put_pair-common.ensures.2)))

pub put_rest-requires : goal.put_rest-requires
put_rest-requires c = (omega (arith, c.max-m.ensures, c.max-m.ensures, c.min-n.ensures), room (numbers (pairs_of c.args.a.now c.args.f c.args.b.now c.args.h)) (numbers (rest_from (kind_number (Some c.only_kind-r.result)) (c.max-m.result - c.min-n.result) c.min-n.result)) [] c.args.out.now _ (c.put_pair-common.result + c.put_common.result) (last _ _ _ _ _ (goes_on (numbers (pairs_of c.args.a.now c.args.f c.args.b.now c.args.h)) (numbers (common_pairs c.args.a.now c.args.f c.args.b.now c.args.h)) (numbers (rest_from (kind_number (Some c.only_kind-r.result)) (c.max-m.result - c.min-n.result) c.min-n.result)) c.args.out.now _ _ (numbers (common_pairs c.args.a.now c.args.f c.args.b.now c.args.h)) c.put_pair-common.result c.put_common.result refl c.put_common.ensures.0 c.put_common.ensures.2 (first_part (numbers (pairs_of c.args.a.now c.args.f c.args.b.now c.args.h)) (numbers (pair_of (kind_number c.table_kind-k.result) 0)) ((numbers (common_pairs c.args.a.now c.args.f c.args.b.now c.args.h)) ++ (numbers (rest_from (kind_number (Some c.only_kind-r.result)) (c.max-m.result - c.min-n.result) c.min-n.result))) c.args.out.now _ c.put_pair-common.result c.requires.2 (numbers_are c.args.a.now c.args.f c.args.b.now c.args.h (kind_number c.table_kind-k.result) c.min-n.result c.max-m.result (kind_number (Some c.only_kind-r.result)) c.table_kind-k.ensures c.min-n.ensures c.max-m.ensures c.only_kind-r.ensures) c.put_pair-common.ensures.0 c.put_pair-common.ensures.2))))

pub returns : goal.returns
returns c = let w = goes_on (numbers (pairs_of c.args.a.now c.args.f c.args.b.now c.args.h)) (numbers (rest_from (kind_number (Some c.only_kind-r.result)) (c.max-m.result - c.min-n.result) c.min-n.result)) [] c.args.out.now _ _ (numbers (rest_from (kind_number (Some c.only_kind-r.result)) (c.max-m.result - c.min-n.result) c.min-n.result)) (c.put_pair-common.result + c.put_common.result) c.put_rest.result refl c.put_rest.ensures.0 c.put_rest.ensures.2 (last _ _ _ _ _ (goes_on (numbers (pairs_of c.args.a.now c.args.f c.args.b.now c.args.h)) (numbers (common_pairs c.args.a.now c.args.f c.args.b.now c.args.h)) (numbers (rest_from (kind_number (Some c.only_kind-r.result)) (c.max-m.result - c.min-n.result) c.min-n.result)) c.args.out.now _ _ (numbers (common_pairs c.args.a.now c.args.f c.args.b.now c.args.h)) c.put_pair-common.result c.put_common.result refl c.put_common.ensures.0 c.put_common.ensures.2 (first_part (numbers (pairs_of c.args.a.now c.args.f c.args.b.now c.args.h)) (numbers (pair_of (kind_number c.table_kind-k.result) 0)) ((numbers (common_pairs c.args.a.now c.args.f c.args.b.now c.args.h)) ++ (numbers (rest_from (kind_number (Some c.only_kind-r.result)) (c.max-m.result - c.min-n.result) c.min-n.result))) c.args.out.now _ c.put_pair-common.result c.requires.2 (numbers_are c.args.a.now c.args.f c.args.b.now c.args.h (kind_number c.table_kind-k.result) c.min-n.result c.max-m.result (kind_number (Some c.only_kind-r.result)) c.table_kind-k.ensures c.min-n.ensures c.max-m.ensures c.only_kind-r.ensures) c.put_pair-common.ensures.0 c.put_pair-common.ensures.2))) in
    (ends_at (numbers (pairs_of c.args.a.now c.args.f c.args.b.now c.args.h)) c.args.out.now _ _ w, ends (numbers (pairs_of c.args.a.now c.args.f c.args.b.now c.args.h)) c.args.out.now _ _ w)
