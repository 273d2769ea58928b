-- `glyphs::drawn_kind` meets its contract: metrics first, then pixels. Assumes the bitmaps that were located.
use mathlib.Core.Path.{sym, ◌∙◌}
use Rattle.glyphs.specs.Reading.{equal_metrics}
use Rattle.glyphs.proofs.Cases.{other_metrics, same_metrics, same_sizes}
use Rattle.glyphs.proofs.drawn_kind.Goals as goal

pub returns-then-eq : goal.returns-then-eq
unfolding equal_metrics
returns-then-eq c = same_metrics c.args.a.now c.args.f c.args.b.now c.args.h c.args.g c.args.p c.args.q _ _ c.kind_metrics-v.ensures c.kind_metrics-w.ensures _ (sym c.eq.ensures ∙ c.if-eq.true) c.pixel_kind.ensures

pub pixel_kind-requires : goal.pixel_kind-requires
unfolding equal_metrics
pixel_kind-requires c = let r = c.requires in
    let z = same_sizes c.args.a.now c.args.f c.args.b.now c.args.h c.args.g c.args.p c.args.q _ _ c.kind_metrics-v.ensures c.kind_metrics-w.ensures r.0 r.1 r.2 r.3 r.4 r.5 (sym c.eq.ensures ∙ c.if-eq.true) in
    (r.6, r.7, z.0, z.1, r.0.0, r.1.0)

pub returns : goal.returns
unfolding equal_metrics
returns c = other_metrics c.args.a.now c.args.f c.args.b.now c.args.h c.args.g c.args.p c.args.q _ _ c.kind_metrics-v.ensures c.kind_metrics-w.ensures (sym c.eq.ensures ∙ c.if-eq.false)
