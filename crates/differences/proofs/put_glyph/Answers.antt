-- `differences::put_glyph` meets its contract: one pair behind the other. Assumes a glyph's number and room.
use mathlib.Core.Path.{refl}
use mathlib.Core.List.{[]}
use native.Mathlib.Omega.{arith}
use Rattle.base.proofs.Written.{begins_as, room, goes_on, ends, ends_at}
use Rattle.glyphs.specs.Reading.{kind_number}
use Rattle.differences.specs.Meaning.{numbers}
use Rattle.differences.specs.Reading.{pair_of, glyph_pairs}
use Rattle.differences.proofs.Pairs.{numbers_append}
use Rattle.differences.proofs.Cases.{first_part, within, last}
use Rattle.differences.proofs.put_glyph.Goals as goal

pub put_pair-at-requires : goal.put_pair-at-requires
put_pair-at-requires c = (c.requires.0, room (numbers (glyph_pairs (kind_number c.args.k) (kind_number c.args.j) c.args.g)) (numbers (pair_of (kind_number c.args.k) c.args.g)) (numbers (pair_of (kind_number c.args.j) c.args.g)) c.args.out.now c.args.out.now 0 (begins_as (numbers (glyph_pairs (kind_number c.args.k) (kind_number c.args.j) c.args.g)) c.args.out.now _ c.requires.1 (numbers_append (pair_of (kind_number c.args.k) c.args.g) (pair_of (kind_number c.args.j) c.args.g))))

pub slice_bounds-put_pair-count-2 : goal.slice_bounds-put_pair-count-2
slice_bounds-put_pair-count-2 c = within _ _ _ _ _ (last _ _ _ _ _ (first_part (numbers (glyph_pairs (kind_number c.args.k) (kind_number c.args.j) c.args.g)) (numbers (pair_of (kind_number c.args.k) c.args.g)) (numbers (pair_of (kind_number c.args.j) c.args.g)) c.args.out.now _ c.put_pair-at.result c.requires.1 (numbers_append (pair_of (kind_number c.args.k) c.args.g) (pair_of (kind_number c.args.j) c.args.g)) c.put_pair-at.ensures.0 c.put_pair-at.ensures.2))

pub slice_bounds-put_pair-start-2 : goal.slice_bounds-put_pair-start-2
slice_bounds-put_pair-start-2 c = within _ _ _ _ _ (last _ _ _ _ _ (first_part (numbers (glyph_pairs (kind_number c.args.k) (kind_number c.args.j) c.args.g)) (numbers (pair_of (kind_number c.args.k) c.args.g)) (numbers (pair_of (kind_number c.args.j) c.args.g)) c.args.out.now _ c.put_pair-at.result c.requires.1 (numbers_append (pair_of (kind_number c.args.k) c.args.g) (pair_of (kind_number c.args.j) c.args.g)) c.put_pair-at.ensures.0 c.put_pair-at.ensures.2))

pub put_pair-requires : goal.put_pair-requires
put_pair-requires c = (c.requires.0, room (numbers (glyph_pairs (kind_number c.args.k) (kind_number c.args.j) c.args.g)) (numbers (pair_of (kind_number c.args.j) c.args.g)) [] c.args.out.now _ c.put_pair-at.result (last _ _ _ _ _ (first_part (numbers (glyph_pairs (kind_number c.args.k) (kind_number c.args.j) c.args.g)) (numbers (pair_of (kind_number c.args.k) c.args.g)) (numbers (pair_of (kind_number c.args.j) c.args.g)) c.args.out.now _ c.put_pair-at.result c.requires.1 (numbers_append (pair_of (kind_number c.args.k) c.args.g) (pair_of (kind_number c.args.j) c.args.g)) c.put_pair-at.ensures.0 c.put_pair-at.ensures.2)))

pub returns : goal.returns
returns c = let w = goes_on (numbers (glyph_pairs (kind_number c.args.k) (kind_number c.args.j) c.args.g)) (numbers (pair_of (kind_number c.args.j) c.args.g)) [] c.args.out.now _ _ (numbers (pair_of (kind_number c.args.j) c.args.g)) c.put_pair-at.result c.put_pair.result refl c.put_pair.ensures.0 c.put_pair.ensures.2 (last _ _ _ _ _ (first_part (numbers (glyph_pairs (kind_number c.args.k) (kind_number c.args.j) c.args.g)) (numbers (pair_of (kind_number c.args.k) c.args.g)) (numbers (pair_of (kind_number c.args.j) c.args.g)) c.args.out.now _ c.put_pair-at.result c.requires.1 (numbers_append (pair_of (kind_number c.args.k) c.args.g) (pair_of (kind_number c.args.j) c.args.g)) c.put_pair-at.ensures.0 c.put_pair-at.ensures.2)) in
    (ends_at (numbers (glyph_pairs (kind_number c.args.k) (kind_number c.args.j) c.args.g)) c.args.out.now _ _ w, omega arith, ends (numbers (glyph_pairs (kind_number c.args.k) (kind_number c.args.j) c.args.g)) c.args.out.now _ _ w)
