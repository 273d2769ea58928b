-- The walk over the glyphs that two fonts both have: the pairs that are left of it, and what a call of `next` gives.
use Rattle.std.specs.Prelude.{◌≡◌, ℕ, ◌-◌, ◌≤◌, List, [], ◌++◌, Option, MatchOption}
use Rattle.std.specs.Iterator.{Count, at_most}
use Rattle.glyphs.specs.Reading.{glyph_kind, kind_number}
use Rattle.differences.specs.Reading.{glyph_pairs, common_from}
use Rattle.differences.specs.declared.common.Common.{Common}
use Rattle.differences.specs.declared.common.Shared.{Shared}

-- no more glyphs than are left
abbrev pub glyphs_left : Common → Count
glyphs_left w = at_most (w.n - w.g)

-- the pairs that are left
abbrev pub pairs_left : Common → List (ℕ × ℕ)
pairs_left w = common_from (glyph_kind w.a.now w.f w.b.now w.h) w.c w.s.now w.d w.t.now (w.n - w.g) w.g w.x w.y

-- the pairs of one glyph
abbrev pub pairs_here : Shared → List (ℕ × ℕ)
pairs_here p = glyph_pairs (kind_number p.drawn) (kind_number p.listed) p.glyph

-- a call of `next` gives a glyph whose pairs are the first that are left; none where none are
abbrev pub GivesPairs : Common → Option Shared → Common → Type 0
GivesPairs w r v =
    MatchOption r ((pairs_left w ≡ []) × (pairs_left v ≡ [])) (λ p. (p.glyph ≤ 4096) × (pairs_left w ≡ pairs_here p ++ pairs_left v))
