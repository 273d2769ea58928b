-- `glyphs::pixel_kind` meets its contract: by what the bitmaps' bytes say. Assumes that the bitmaps stand in their files and have one height and
-- width.
use mathlib.Core.Path.{◌≡◌, sym, ◌∙◌}
use Rattle.glyphs.proofs.Cases.{part_length, no_pixel, some_pixel}
use Rattle.header.specs.Meaning.{glyph_bytes}
use Rattle.glyphs.proofs.pixel_kind.Goals as goal

pub same_bitmaps-requires : goal.same_bitmaps-requires
same_bitmaps-requires c = let r = c.requires in
    let e : glyph_bytes c.args.q.height c.args.q.width ≡ glyph_bytes c.args.p.height c.args.p.width = λ i. glyph_bytes (sym r.2 i) (sym r.3 i) in
    (part_length c.args.a.now c.args.p r.0, part_length c.args.b.now c.args.q r.1 ∙ e, r.0.2, r.0.3)

pub returns-then-same_bitmaps : goal.returns-then-same_bitmaps
returns-then-same_bitmaps c = no_pixel c.args.a.now c.args.p c.args.b.now c.args.q _ c.same_bitmaps.ensures c.if-same_bitmaps.true

pub returns : goal.returns
returns c = some_pixel c.args.a.now c.args.p c.args.b.now c.args.q _ c.same_bitmaps.ensures c.if-same_bitmaps.false
