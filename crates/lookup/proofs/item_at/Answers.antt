-- `lookup::item_at` meets its contract: the items that are left give at each turn what all items give.
use mathlib.Core.Path.{◌≡◌, sym, ◌∙◌, ap, subst}
use Rattle.lookup.specs.Reading.{item_at}
use Rattle.lookup.proofs.Turns.{inner_item, item_here, item_next, item_past, no_item, glyph_past, item_none}
use Rattle.lookup.proofs.item_at.Goals as goal

pub loop-item-preserved-then-is_end : goal.loop-item-preserved-then-is_end
loop-item-preserved-then-is_end c =
    let s = c.in-Some.ensures.steps in
    sym (ap (item_at _ _) s ∙ glyph_past _ _ _ _ c.if-glyphs-ne0.true (sym c.is_end.ensures ∙ c.if-is_end.true)) ∙ c.loop-item.invariant

pub loop-item-preserved-else-is_end : goal.loop-item-preserved-else-is_end
loop-item-preserved-else-is_end c =
    let s = c.in-Some.ensures.steps in
    sym (ap (item_at _ _) s ∙ item_past _ _ _ _ c.if-glyphs-ne0.true (inner_item _ (sym c.is_end.ensures ∙ c.if-is_end.false))) ∙ c.loop-item.invariant

pub returns-then-left-eq0 : goal.returns-then-left-eq0
returns-then-left-eq0 c =
    let s = c.in-Some.ensures.steps in
    sym (ap (item_at _ _) s ∙ item_here _ _ _ _ c.if-glyphs-ne0.false c.if-left-eq0.true) ∙ c.loop-item.invariant

pub returns-then-is_end-2 : goal.returns-then-is_end-2
returns-then-is_end-2 c =
    let s = c.in-Some.ensures.steps in
    sym (ap (item_at _ _) s ∙ no_item _ _ _ _ c.if-glyphs-ne0.false c.if-left-eq0.false (sym c.is_end-in-loop-item.ensures ∙ c.if-is_end-2.true)) ∙ c.loop-item.invariant

pub loop-item-preserved : goal.loop-item-preserved
loop-item-preserved c =
    let s = c.in-Some.ensures.steps in
    sym (ap (item_at _ _) s ∙ item_next _ _ _ _ c.if-glyphs-ne0.false c.if-left-eq0.false (inner_item _ (sym c.is_end-in-loop-item.ensures ∙ c.if-is_end-2.false))) ∙ c.loop-item.invariant

pub returns : goal.returns
returns c = sym (ap (item_at _ _) c.in-None.ensures.steps.0 ∙ item_none _ _) ∙ c.loop-item.invariant
