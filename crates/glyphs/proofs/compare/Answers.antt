-- `glyphs::compare` meets its contract: by what is located in both fonts. Assumes `Placed` of both, and that both have the glyph.
use mathlib.Core.Path.{refl, sym, ◌∙◌}
use Rattle.glyphs.proofs.Cases.{glyph_kind_lem}
use Rattle.glyphs.proofs.compare.Goals as goal

pub drawn_kind-requires : goal.drawn_kind-requires
drawn_kind-requires c = let r = c.requires in
    (r.0, r.1, r.2, r.3, sym c.locate-x.ensures.equal ∙ c.in-Ok.is, sym c.locate-y.ensures.equal ∙ c.in-Ok-y.is, rw c.in-Ok.is at c.locate-x.ensures.bounded, rw c.in-Ok-y.is at c.locate-y.ensures.bounded)

pub returns-in-Ok-y : goal.returns-in-Ok-y
returns-in-Ok-y c = glyph_kind_lem c.args.a.now c.args.f c.args.b.now c.args.h c.args.g _ _ _ (sym c.locate-x.ensures.equal ∙ c.in-Ok.is) (sym c.locate-y.ensures.equal ∙ c.in-Ok-y.is) c.drawn_kind.ensures

pub returns-in-Err-y : goal.returns-in-Err-y
returns-in-Err-y c = glyph_kind_lem c.args.a.now c.args.f c.args.b.now c.args.h c.args.g _ _ _ (sym c.locate-x.ensures.equal ∙ c.in-Ok.is) (sym c.locate-y.ensures.equal ∙ c.in-Err-y.is) refl

pub returns-in-Ok-y-2 : goal.returns-in-Ok-y-2
returns-in-Ok-y-2 c = glyph_kind_lem c.args.a.now c.args.f c.args.b.now c.args.h c.args.g _ _ _ (sym c.locate-x.ensures.equal ∙ c.in-Err.is) (sym c.locate-y.ensures.equal ∙ c.in-Ok-y-2.is) refl

pub returns-in-Err-y-2 : goal.returns-in-Err-y-2
returns-in-Err-y-2 c = glyph_kind_lem c.args.a.now c.args.f c.args.b.now c.args.h c.args.g _ _ _ (sym c.locate-x.ensures.equal ∙ c.in-Err.is) (sym c.locate-y.ensures.equal ∙ c.in-Err-y-2.is) refl
