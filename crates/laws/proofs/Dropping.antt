-- What a good drop leaves, and what lookups answer then (Edits says what is shown).
use mathlib.Core.Path.{◌≡◌, refl, sym, ◌∙◌, ap, subst}
use mathlib.Core.Logic.{◌↔◌}
use mathlib.Core.Bool.{true}
use mathlib.Core.List.{List, ◌++◌}
use Prim.Native.Nat.{ℕ, ◌+◌, ◌-◌, ◌≤◌}
use native.Mathlib.Omega.{arith}
use lib.ListN.{length, take, replicate}
use lib.Seq.{length-take-le}
use Rattle.base.specs.Meaning.{Bytes}
use Rattle.base.specs.Reading.{over}
use Rattle.base.proofs.Parts.{bytes_take}
use Rattle.coding.specs.declared.Coding.TheVariants.{Utf8}
use Rattle.utf8.specs.Meaning.{utf8_bytes}
use Rattle.table.specs.Meaning.{Desc, items, encode, Readable}
use Rattle.lookup.specs.Meaning.{ListsValue, Lowest, Nowhere}
use Rattle.lookup.specs.Reading.{find_value}
use Rattle.lookup.proofs.Searching.{at_exactly, none_exactly}
use Rattle.lookup.proofs.Finding.{has_value, value_yes, value_no, find_value_lem}
use Rattle.header.specs.declared.Font.{Font}
use Rattle.header.specs.Meaning.{limit}
use Rattle.stages.specs.Reading.{check_of}
use Rattle.questions.specs.Reading.{lookup_of}
use Rattle.fonts.specs.Reading.{value_glyph, sequence_glyph}
use Rattle.content.specs.Meaning.{Describes}
use Rattle.content.proofs.Source.{is_placed}
use Rattle.mapping.specs.Meaning.{Lists, without_single, dropped, LowestOther, NoOther}
use Rattle.mapping.proofs.Changing.{readable_dropped}
use Rattle.mapping.proofs.Looking.{dropped_other, sequence_same, dropped_still, other_lowest, lowest_other, other_nowhere, nowhere_other}
use Rattle.edit.specs.Reading.{drop_into}
use Rattle.laws.specs.Meaning.{gives, refuses, says, Edits}
use Rattle.laws.proofs.Reading.{is_found, is_unmapped}
use Rattle.laws.proofs.Retabled.{Editable, one_reading, edits, value_moved, sequence_moved, new_value}
use Rattle.laws.proofs.Editing.{drops_into, DropGood, shorter_by}
use Rattle.laws.proofs.Converting.{one_font}
use Rattle.std.specs.Prelude.{Ok, Option, Some, None}

-- what is found among items is the lowest glyph that lists it
lowest_value : (v : ℕ) (ds : List Desc) (h : ℕ) → (find_value v 0 (items ds) ≡ Some h) ↔ Lowest (ListsValue v) 0 ds h
lowest_value v ds h = at_exactly (has_value v) (ListsValue v) (value_yes v) (value_no v) ds (find_value v 0 (items ds)) (find_value_lem v 0 ds) h

no_lowest_value : (v : ℕ) (ds : List Desc) → (find_value v 0 (items ds) ≡ None) ↔ Nowhere (ListsValue v) 0 ds
no_lowest_value v ds = none_exactly (has_value v) (ListsValue v) (value_yes v) (value_no v) ds (find_value v 0 (items ds)) (find_value_lem v 0 ds)

-- a good drop
module _ (xs : List ℕ) (y : Bytes xs) (len g v n : ℕ) (r : DropGood xs y len g v n) where
  abbrev ds : List Desc
  ds = r.reading

  abbrev a : Editable xs len g v ds
  a = r.editable

  abbrev old : List ℕ
  old = take len xs

  abbrev new : List ℕ
  new = take a.font.end old ++ encode Utf8 (dropped v g ds)

  abbrev out : List ℕ
  out = drop_into xs len g v

  size_within : length (utf8_bytes v) ≤ len
  size_within = (shorter_by xs y len g v ds a r.hole).1

  freed : len - n ≡ length (utf8_bytes v)
  freed = omega (arith, r.shrunk, size_within)

  values : Readable Utf8 (dropped v g ds)
  values = readable_dropped Utf8 v g ds a.values

  long : length new ≡ n
  long = (shorter_by xs y len g v ds a r.hole).0 ∙ sym r.shrunk

  laid : out ≡ over (new ++ replicate (len - n) 0) xs
  laid = drops_into xs y len g v ds a r.hole ∙ ap (λ (k : ℕ). over (new ++ replicate k 0) xs) (sym freed)

  small : n ≤ limit
  small =
      let p = is_placed old a.font (bytes_take len xs y) a.sound in
      omega (arith, p.0, length-take-le len xs a.within, r.shrunk)

  room : n + (len - n) ≤ length xs
  room = omega (arith, a.within, r.shrunk)

  pub drop_edits : Edits (dropped v g) g xs len out n
  drop_edits = edits xs y len g v ds a (without_single v) values n out laid long small room

  pub drop_other : (w : ℕ) → (w ≡ v → ⊥) → value_glyph (take n out) w ≡ value_glyph old w
  drop_other w o = value_moved xs y len g v ds a (without_single v) values n out laid long small room w (dropped_other g ds v w o)

  pub drop_sequence : (vs : List ℕ) → sequence_glyph (take n out) vs ≡ sequence_glyph old vs
  drop_sequence vs = sequence_moved xs y len g v ds a (without_single v) values n out laid long small room vs (sequence_same g ds (without_single v) (λ d. refl) vs)

  module _ (f : Font) (es : List Desc) (sound : check_of old ≡ Ok f) (d : Describes old f true es) where
    read_so : es ≡ ds
    read_so =
        one_reading xs y len g v ds a (without_single v) values n out laid long small room es
        (subst (λ (x : Font). Describes old x true es) (one_font old f a.font sound a.sound) d)

    pub drop_still : Lists v g (dropped v g es) → value_glyph (take n out) v ≡ value_glyph old v
    drop_still l =
        value_moved xs y len g v ds a (without_single v) values n out laid long small room v
        (dropped_still g ds v r.hole.listed (subst (λ (x : List Desc). Lists v g (dropped v g x)) read_so l))

    module _ (gone : Lists v g (dropped v g es) → ⊥) where
      not_listed : Lists v g (dropped v g ds) → ⊥
      not_listed = subst (λ (x : List Desc). Lists v g (dropped v g x) → ⊥) read_so gone

      new_said : says (value_glyph (take n out) v) ≡ says (lookup_of (find_value v 0 (items (dropped v g ds))))
      new_said = ap says (new_value xs y len g v ds a (without_single v) values n out laid long small room)

      found_so : (h : ℕ) → (find_value v 0 (items (dropped v g ds)) ≡ Some h) ↔ Lowest (ListsValue v) 0 (dropped v g ds) h
      found_so h = lowest_value v (dropped v g ds) h

      pub drop_lowest : (h : ℕ) → (says (value_glyph (take n out) v) ≡ gives h) ↔ LowestOther (ListsValue v) g es h
      drop_lowest h = (there, back)
        where
          there : says (value_glyph (take n out) v) ≡ gives h → LowestOther (ListsValue v) g es h
          there e =
              subst (λ (x : List Desc). LowestOther (ListsValue v) g x h) (sym read_so)
              (other_lowest g ds v not_listed h ((found_so h).0 (is_found (find_value v 0 (items (dropped v g ds))) h (sym new_said ∙ e))))

          back : LowestOther (ListsValue v) g es h → says (value_glyph (take n out) v) ≡ gives h
          back l =
              new_said ∙ ap (λ (x : Option ℕ). says (lookup_of x)) ((found_so h).1 (lowest_other g ds v not_listed h (subst (λ (x : List Desc). LowestOther (ListsValue v) g x h) read_so l)))

      pub drop_unmapped : (says (value_glyph (take n out) v) ≡ refuses 15 0) ↔ NoOther (ListsValue v) g es
      drop_unmapped = (there, back)
        where
          there : says (value_glyph (take n out) v) ≡ refuses 15 0 → NoOther (ListsValue v) g es
          there e =
              subst (λ (x : List Desc). NoOther (ListsValue v) g x) (sym read_so)
              (other_nowhere g ds v not_listed ((no_lowest_value v (dropped v g ds)).0 (is_unmapped (find_value v 0 (items (dropped v g ds))) (sym new_said ∙ e))))

          back : NoOther (ListsValue v) g es → says (value_glyph (take n out) v) ≡ refuses 15 0
          back l =
              new_said ∙ ap (λ (x : Option ℕ). says (lookup_of x)) ((no_lowest_value v (dropped v g ds)).1 (nowhere_other g ds v not_listed (subst (λ (x : List Desc). NoOther (ListsValue v) g x) read_so l)))
