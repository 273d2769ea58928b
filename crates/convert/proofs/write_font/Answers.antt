-- `convert::write_font` meets its contract: header, entries, bitmaps and table, one behind the other. Assumes a font that the conversion is ready for, and room.
use mathlib.Core.List.{List, [], ◌++◌}
use lib.ListN.{length, length-append}
use Rattle.base.specs.Reading.{over}
use Rattle.base.proofs.Over.{over_none, behind}
use Rattle.base.proofs.Parts.{rest_all}
use Rattle.header.specs.Reading.{header_bytes}
use Rattle.header.proofs.Written.{header_length}
use Rattle.layout.specs.Reading.{dispatch_bytes, evenly, glyphs_in}
use Rattle.stages.specs.Meaning.{tail_of}
use Rattle.conversion.specs.Reading.{table_in, measured_of}
use Rattle.convert.proofs.Cases as cases
use native.Mathlib.Omega.{arith}
use mathlib.Core.Path.{◌≡◌, refl, sym, ◌∙◌, ap, subst}
use Prim.Native.Nat.{ℕ, ◌+◌, ◌*◌, ◌≤◌}
use native.Mathlib.Nat.{mul-le-mul}
use Rattle.conversion.proofs.Cases.{front_is}
use borrow.Author.Rules.{rules}
use Rattle.convert.proofs.write_font.Goals as goal
use Rattle.std.specs.Prelude.{Ok}

pub overflow_mul-bitmaps : goal.overflow_mul-bitmaps
overflow_mul-bitmaps c = let n : c.args.f.count ≤ 4096 = c.requires.0.2 in let e = c.entry_len.ensures.1 in omega (arith, mul-le-mul n e)

pub overflow_add-bitmaps : goal.overflow_add-bitmaps
overflow_add-bitmaps c = let n : c.args.f.count ≤ 4096 = c.requires.0.2 in let e = c.entry_len.ensures.1 in let h = c.header_len-entries.ensures.1 in omega (arith, mul-le-mul n e)

pub overflow_mul-table : goal.overflow_mul-table
overflow_mul-table c = let n : c.args.f.count ≤ 4096 = c.requires.0.2 in let z = c.glyph_bytes-size.ensures.1 in let e = c.entry_len.ensures.1 in let h = c.header_len-entries.ensures.1 in omega (arith, mul-le-mul n z)

pub overflow_add-table : goal.overflow_add-table
overflow_add-table c = let n : c.args.f.count ≤ 4096 = c.requires.0.2 in let z = c.glyph_bytes-size.ensures.1 in let e = c.entry_len.ensures.1 in let h = c.header_len-entries.ensures.1 in omega (arith, mul-le-mul n z, mul-le-mul n e)

pub put_header-requires : goal.put_header-requires
put_header-requires c = let fr = front_is c.args.c c.args.f c.target_of-kind.result c.header_len-entries.result c.entry_len.result c.glyph_bytes-size.result c.target_of-kind.ensures c.header_len-entries.ensures.0 c.entry_len.ensures.0 c.glyph_bytes-size.ensures.0 in omega (arith, fr, c.requires.4, c.requires.0.2, c.requires.0.3, c.requires.0.4, c.field_at_20-field.ensures.1, c.header_len-entries.ensures.0)

pub slice_bounds-put_dispatch-count : goal.slice_bounds-put_dispatch-count
slice_bounds-put_dispatch-count c = let fr = front_is c.args.c c.args.f c.target_of-kind.result c.header_len-entries.result c.entry_len.result c.glyph_bytes-size.result c.target_of-kind.ensures c.header_len-entries.ensures.0 c.entry_len.ensures.0 c.glyph_bytes-size.ensures.0 in omega (arith, fr, c.requires.4)

pub slice_bounds-put_dispatch-start : goal.slice_bounds-put_dispatch-start
slice_bounds-put_dispatch-start c = let fr = front_is c.args.c c.args.f c.target_of-kind.result c.header_len-entries.result c.entry_len.result c.glyph_bytes-size.result c.target_of-kind.ensures c.header_len-entries.ensures.0 c.entry_len.ensures.0 c.glyph_bytes-size.ensures.0 in omega (arith, fr, c.requires.4)

pub put_dispatch-requires : goal.put_dispatch-requires
put_dispatch-requires c = let fr = front_is c.args.c c.args.f c.target_of-kind.result c.header_len-entries.result c.entry_len.result c.glyph_bytes-size.result c.target_of-kind.ensures c.header_len-entries.ensures.0 c.entry_len.ensures.0 c.glyph_bytes-size.ensures.0 in omega (arith, fr, c.requires.4, c.requires.0.2, c.requires.0.3, c.requires.0.4, c.glyph_bytes-size.ensures.1, ap (λ (x : ℕ). c.args.f.count * x) c.entry_len.ensures.0)

pub slice_bounds-put_glyphs-count : goal.slice_bounds-put_glyphs-count
slice_bounds-put_glyphs-count c = let fr = front_is c.args.c c.args.f c.target_of-kind.result c.header_len-entries.result c.entry_len.result c.glyph_bytes-size.result c.target_of-kind.ensures c.header_len-entries.ensures.0 c.entry_len.ensures.0 c.glyph_bytes-size.ensures.0 in omega (arith, fr, c.requires.4)

pub slice_bounds-put_glyphs-start : goal.slice_bounds-put_glyphs-start
slice_bounds-put_glyphs-start c = let fr = front_is c.args.c c.args.f c.target_of-kind.result c.header_len-entries.result c.entry_len.result c.glyph_bytes-size.result c.target_of-kind.ensures c.header_len-entries.ensures.0 c.entry_len.ensures.0 c.glyph_bytes-size.ensures.0 in omega (arith, fr, c.requires.4)

pub put_glyphs-requires : goal.put_glyphs-requires
put_glyphs-requires c = let fr = front_is c.args.c c.args.f c.target_of-kind.result c.header_len-entries.result c.entry_len.result c.glyph_bytes-size.result c.target_of-kind.ensures c.header_len-entries.ensures.0 c.entry_len.ensures.0 c.glyph_bytes-size.ensures.0 in (c.requires.0, omega (arith, fr, c.requires.4, ap (λ (x : ℕ). c.args.f.count * x) c.glyph_bytes-size.ensures.0), c.requires.3)

pub slice_bounds-put_table-count : goal.slice_bounds-put_table-count
slice_bounds-put_table-count c = omega (arith, c.requires.0.7)

pub slice_bounds-put_table-start : goal.slice_bounds-put_table-start
slice_bounds-put_table-start c = omega (arith, c.requires.0.7)

pub slice_bounds-put_table-count-2 : goal.slice_bounds-put_table-count-2
slice_bounds-put_table-count-2 c = let fr = front_is c.args.c c.args.f c.target_of-kind.result c.header_len-entries.result c.entry_len.result c.glyph_bytes-size.result c.target_of-kind.ensures c.header_len-entries.ensures.0 c.entry_len.ensures.0 c.glyph_bytes-size.ensures.0 in omega (arith, fr, c.requires.4)

pub slice_bounds-put_table-start-2 : goal.slice_bounds-put_table-start-2
slice_bounds-put_table-start-2 c = let fr = front_is c.args.c c.args.f c.target_of-kind.result c.header_len-entries.result c.entry_len.result c.glyph_bytes-size.result c.target_of-kind.ensures c.header_len-entries.ensures.0 c.entry_len.ensures.0 c.glyph_bytes-size.ensures.0 in omega (arith, fr, c.requires.4)

pub put_table-requires : goal.put_table-requires
put_table-requires c = let fr = front_is c.args.c c.args.f c.target_of-kind.result c.header_len-entries.result c.entry_len.result c.glyph_bytes-size.result c.target_of-kind.ensures c.header_len-entries.ensures.0 c.entry_len.ensures.0 c.glyph_bytes-size.ensures.0 in (subst (λ (t : List ℕ). measured_of c.args.c t ≡ Ok (length (table_in c.args.c t))) (sym (rest_all c.args.file.now c.args.f.end)) c.requires.1, let e = ap (λ (t : List ℕ). length (table_in c.args.c t)) (rest_all c.args.file.now c.args.f.end) in omega (arith, fr, e, c.requires.4))

pub shape_of-out : goal.shape_of-out
shape_of-out c = let fr = front_is c.args.c c.args.f c.target_of-kind.result c.header_len-entries.result c.entry_len.result c.glyph_bytes-size.result c.target_of-kind.ensures c.header_len-entries.ensures.0 c.entry_len.ensures.0 c.glyph_bytes-size.ensures.0 in omega (arith, fr, c.requires.4)

pub returns : goal.returns
returns c = let f = c.args.f in
    let s = c.args.file.now in
    let xs = c.args.out.now in
    let k = c.target_of-kind.result in
    let z = c.glyph_bytes-size.result in
    let v = c.field_at_20-field.result in
    let l : length (glyphs_in s f) ≡ f.count * z = c.requires.2 ∙ ap (λ (x : ℕ). f.count * x) (sym c.glyph_bytes-size.ensures.0) in
    let ee : length ((header_bytes k f.table f.count v f.height f.width) ++ (dispatch_bytes k z f.height f.width (evenly z 0 f.count))) ≡ c.header_len-entries.result + f.count * c.entry_len.result = cases.entries_end k f.table f.count z v f.height f.width ∙ λ i. sym c.header_len-entries.ensures.0 i + f.count * sym c.entry_len.ensures.0 i in
    let be : length ((header_bytes k f.table f.count v f.height f.width) ++ (dispatch_bytes k z f.height f.width (evenly z 0 f.count)) ++ glyphs_in s f) ≡ c.header_len-entries.result + f.count * c.entry_len.result + f.count * z = length-append ((header_bytes k f.table f.count v f.height f.width) ++ (dispatch_bytes k z f.height f.width (evenly z 0 f.count))) (glyphs_in s f) ∙ λ i. ee i + l i in
    behind ((header_bytes k f.table f.count v f.height f.width) ++ (dispatch_bytes k z f.height f.width (evenly z 0 f.count)) ++ glyphs_in s f) (table_in c.args.c (tail_of s f)) xs _ _ (c.header_len-entries.result + f.count * c.entry_len.result + f.count * z) be
    (behind ((header_bytes k f.table f.count v f.height f.width) ++ (dispatch_bytes k z f.height f.width (evenly z 0 f.count))) (glyphs_in s f) xs _ _ (c.header_len-entries.result + f.count * c.entry_len.result) ee
    (behind (header_bytes k f.table f.count v f.height f.width) (dispatch_bytes k z f.height f.width (evenly z 0 f.count)) xs _ _ c.header_len-entries.result (header_length k f.table f.count v f.height f.width ∙ sym c.header_len-entries.ensures.0)
    (behind [] (header_bytes k f.table f.count v f.height f.width) xs _ _ 0 refl (over_none xs) c.put_header.ensures) c.put_dispatch.ensures) c.put_glyphs.ensures)
    (cases.part_table c.args.c s f.end _ _ c.put_table.ensures)
    ∙ ap (λ (p : List ℕ). over p xs) (cases.output_is c.args.c s f k z v c.target_of-kind.ensures c.glyph_bytes-size.ensures.0 (cases.field_is k f.count z v (glyphs_in s f) l c.field_at_20-field.ensures.0.0 c.field_at_20-field.ensures.0.1))
