-- The steps from walks and lookups on a whole file to the laws of its tail, for a font with a table that passed rows 1 to 9.
use mathlib.Core.Path.{◌≡◌, refl, sym, ◌∙◌, ap}
use mathlib.Core.Logic.{◌↔◌, ◌⊎◌, inl, inr}
use mathlib.Core.Bool.{true}
use mathlib.Core.List.{List, []}
use Prim.Native.Nat.{ℕ, ◌≤◌, ◌<◌}
use native.Mathlib.Omega.{arith}
use Rattle.base.specs.Meaning.{Bytes}
use Rattle.coding.specs.declared.Coding.{Coding}
use Rattle.table.specs.declared.Item.{Item}
use Rattle.table.specs.Meaning.{IsTable}
use Rattle.lookup.specs.Meaning.{Any, ListsValue, ListsSequence, Lowest, Nowhere, ItemIs}
use Rattle.lookup.proofs.Meaning as looked
use Rattle.header.specs.declared.Font.{Font}
use Rattle.stages.specs.Meaning.{coding_of, tail_of}
use Rattle.stages.specs.Reading.{through_entries, check_of}
use Rattle.questions.specs.Reading.{walk_of, lookup_of, askable}
use Rattle.fonts.specs.Reading.{item_of, value_glyph, sequence_glyph}
use Rattle.laws.specs.Meaning.{gives, refuses, says, of_tail}
use Rattle.laws.proofs.Tails.{accepted}
use Rattle.laws.proofs.Asking.{walks, looks, seeks, is_askable}
use Rattle.std.specs.Prelude.{Ok, Option, Some, None}

-- each answer of a question comes from one answer of the tail's walk
is_item : (w : Option Item) (i : Item) → says (walk_of w) ≡ gives i → w ≡ Some i
is_item (Some j) i e = let h : j ≡ i = cc in ap Some h
is_item None i e = let z : ◌≡◌ {A = ℕ} 0 1 = cc in absurd (omega arith)

pub is_found : (w : Option ℕ) (g : ℕ) → says (lookup_of w) ≡ gives g → w ≡ Some g
is_found (Some h) g e = let q : h ≡ g = cc in ap Some q
is_found None g e = let z : ◌≡◌ {A = ℕ} 0 1 = cc in absurd (omega arith)

pub is_unmapped : (w : Option ℕ) → says (lookup_of w) ≡ refuses 15 0 → w ≡ None
is_unmapped (Some h) e = let z : ◌≡◌ {A = ℕ} 0 1 = cc in absurd (omega arith)
is_unmapped None e = refl

module _ (s : List ℕ) (y : Bytes s) (f : Font) (passed : through_entries s ≡ Ok f) (marked : f.table ≡ true) (r : of_tail IsTable s f) where
  abbrev c : Coding
  c = coding_of f.kind

  sound : check_of s ≡ Ok f
  sound = accepted s y f passed marked r

  pub walk_exactly : (g k : ℕ) (i : Item) → (says (item_of s g k) ≡ gives i) ↔ ItemIs r.reading g k i
  walk_exactly g k i =
      let m = looked.item_exactly c r.reading (tail_of s f) r.values r.same g k i in
      let w = walks s f sound marked g k in
      (λ e. m.0 (is_item _ i (sym (ap says w) ∙ e)), λ h. ap says (w ∙ ap walk_of (m.1 h)))

  pub value_exactly : (v g : ℕ) → v ≤ 0x10FFFF → (says (value_glyph s v) ≡ gives g) ↔ Lowest (ListsValue v) 0 r.reading g
  value_exactly v g h =
      let m = looked.value_exactly c r.reading (tail_of s f) r.values r.same v g in
      let w = looks s f sound marked v h in
      (λ e. m.0 (is_found _ g (sym (ap says w) ∙ e)), λ l. ap says (w ∙ ap lookup_of (m.1 l)))

  pub value_unmapped_exactly : (v : ℕ) → v ≤ 0x10FFFF → (says (value_glyph s v) ≡ refuses 15 0) ↔ Nowhere (ListsValue v) 0 r.reading
  value_unmapped_exactly v h =
      let m = looked.no_value_exactly c r.reading (tail_of s f) r.values r.same v in
      let w = looks s f sound marked v h in
      (λ e. m.0 (is_unmapped _ (sym (ap says w) ∙ e)), λ l. ap says (w ∙ ap lookup_of (m.1 l)))

  module _ (vs : List ℕ) (some : vs ≡ [] → ⊥) (low : Any (λ (v : ℕ). 0x10FFFF < v) vs → ⊥) where
    asks : askable vs ≡ true
    asks = is_askable vs no
      where
        no : (vs ≡ []) ⊎ Any (λ (v : ℕ). 0x10FFFF < v) vs → ⊥
        no (inl e) = some e
        no (inr h) = low h

    pub sequence_exactly : (g : ℕ) → (says (sequence_glyph s vs) ≡ gives g) ↔ Lowest (ListsSequence vs) 0 r.reading g
    sequence_exactly g =
        let m = looked.sequence_exactly c r.reading (tail_of s f) r.values r.same vs g in
        let w = seeks s f sound marked vs asks in
        (λ e. m.0 (is_found _ g (sym (ap says w) ∙ e)), λ l. ap says (w ∙ ap lookup_of (m.1 l)))

    pub sequence_unmapped_exactly : (says (sequence_glyph s vs) ≡ refuses 15 0) ↔ Nowhere (ListsSequence vs) 0 r.reading
    sequence_unmapped_exactly =
        let m = looked.no_sequence_exactly c r.reading (tail_of s f) r.values r.same vs in
        let w = seeks s f sound marked vs asks in
        (λ e. m.0 (is_unmapped _ (sym (ap says w) ∙ e)), λ l. ap says (w ∙ ap lookup_of (m.1 l)))
