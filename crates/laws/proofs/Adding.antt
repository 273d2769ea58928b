-- What a good add leaves, what lookups answer then, and the drop after it (Edits says what is shown).
use mathlib.Core.Path.{◌≡◌, refl, sym, ◌∙◌, ap, subst}
use mathlib.Core.Logic.{◌⊎◌, inl, inr}
use mathlib.Core.List.{List, [], ◌++◌, append-nil}
use Prim.Native.Nat.{ℕ, ◌+◌, ◌-◌, ◌≤◌, min}
use native.Mathlib.Omega.{arith}
use lib.ListN.{length, take, drop, replicate, length-append, length-replicate, take-append-drop}
use lib.Seq.{length-take-le}
use Rattle.base.specs.Meaning.{Bytes}
use Rattle.base.specs.Reading.{over}
use Rattle.base.proofs.Parts.{bytes_take, bytes_drop, bytes_append}
use Rattle.coding.specs.declared.Coding.TheVariants.{Utf8}
use Rattle.utf8.specs.Meaning.{utf8_bytes}
use Rattle.table.specs.Meaning.{Desc, items, encode, Readable}
use Rattle.table.proofs.Reading.{items_bytes}
use Rattle.lookup.specs.Reading.{find_value}
use Rattle.header.specs.Meaning.{limit}
use Rattle.questions.specs.Reading.{lookup_of}
use Rattle.fonts.specs.Reading.{value_glyph, sequence_glyph}
use Rattle.mapping.specs.Meaning.{with_single, added, dropped}
use Rattle.mapping.proofs.Changing.{length_changed, readable_added, added_dropped, added_lists}
use Rattle.mapping.proofs.Places.{Hole, Gap}
use Rattle.mapping.proofs.Looking.{lower_of, added_other, sequence_same, added_value}
use Rattle.edit.specs.Reading.{add_into, drop_answer, drop_into}
use Rattle.laws.specs.Meaning.{gives, refuses, says, Edits}
use Rattle.laws.proofs.Exactly.{given_same, no_refusal_lem}
use Rattle.laws.proofs.Converting.{rest_is}
use Rattle.laws.proofs.Retabled.{over_front, over_over, Editable, same_front, new_tail, new_sound, edits, value_moved, sequence_moved, old_value, new_value}
use Rattle.laws.proofs.Editing.{scalar_value, either_way, drops, drops_into, adds_into, AddGood, longer_by}
use Rattle.std.specs.Prelude.{Ok, Option, Some, None}

-- a good add: what the buffer holds then
module _ (xs : List ℕ) (y : Bytes xs) (len g v n : ℕ) (r : AddGood xs y len g v n) where
  abbrev ds : List Desc
  ds = r.reading

  abbrev a : Editable xs len g v ds
  a = r.editable

  abbrev old : List ℕ
  old = take len xs

  abbrev new : List ℕ
  new = take a.font.end old ++ encode Utf8 (added v g ds)

  abbrev out : List ℕ
  out = add_into xs len g v

  none_freed : len - n ≡ 0
  none_freed = omega (arith, r.grown)

  values : Readable Utf8 (added v g ds)
  values = readable_added Utf8 v (scalar_value v a.scalar r.character) g ds a.values

  long : length new ≡ n
  long = longer_by xs y len g v ds a r.gap ∙ sym r.grown

  laid_new : out ≡ over new xs
  laid_new = adds_into xs y len g v ds a r.gap r.character r.small r.room

  laid : out ≡ over (new ++ replicate (len - n) 0) xs
  laid =
      let z : replicate {A = ℕ} (len - n) 0 ≡ [] = ap (λ (k : ℕ). replicate {A = ℕ} k 0) none_freed in
      laid_new ∙ ap (λ (x : List ℕ). over x xs) (sym (ap (λ (x : List ℕ). new ++ x) z ∙ append-nil new))

  small : n ≤ limit
  small = omega (arith, r.small, r.grown)

  room : n + (len - n) ≤ length xs
  room = omega (arith, r.room, r.grown)

  pub add_edits : Edits (added v g) g xs len out n
  add_edits = edits xs y len g v ds a (with_single v) values n out laid long small room

  -- what lookups answer then
  pub add_other : (w : ℕ) → (w ≡ v → ⊥) → value_glyph (take n out) w ≡ value_glyph old w
  add_other w o = value_moved xs y len g v ds a (with_single v) values n out laid long small room w (added_other g ds v w o)

  pub add_sequence : (vs : List ℕ) → sequence_glyph (take n out) vs ≡ sequence_glyph old vs
  add_sequence vs = sequence_moved xs y len g v ds a (with_single v) values n out laid long small room vs (sequence_same g ds (with_single v) (λ d. refl) vs)

  add_value : value_glyph (take n out) v ≡ Ok (lower_of g (find_value v 0 (items ds)))
  add_value =
      new_value xs y len g v ds a (with_single v) values n out laid long small room
      ∙ ap lookup_of (added_value g ds v (let l = a.low in omega (arith, a.count)))

  pub add_mapped : (h : ℕ) → says (value_glyph old v) ≡ gives h → says (value_glyph (take n out) v) ≡ gives (min g h)
  add_mapped h e = ap says add_value ∙ go (find_value v 0 (items ds)) (sym (ap says (old_value xs y len g v ds a (with_single v) values n out laid long small room)) ∙ e)
    where
      go : (x : Option ℕ) → says (lookup_of x) ≡ gives h → gives (lower_of g x) ≡ gives (min g h)
      go (Some j) q = let z : j ≡ h = given_same q in ap (λ (k : ℕ). gives (min g k)) z
      go None q = no_refusal_lem (sym q)

  pub add_unmapped : says (value_glyph old v) ≡ refuses 15 0 → says (value_glyph (take n out) v) ≡ gives g
  add_unmapped e = ap says add_value ∙ go (find_value v 0 (items ds)) (sym (ap says (old_value xs y len g v ds a (with_single v) values n out laid long small room)) ∙ e)
    where
      go : (x : Option ℕ) → says (lookup_of x) ≡ refuses 15 0 → gives (lower_of g x) ≡ gives g
      go (Some j) q = no_refusal_lem q
      go None q = refl

  -- the drop after it: the new font is one that the drop may be asked of, and glyph g lists v
  out_bytes : Bytes out
  unfolding over
  out_bytes =
      subst Bytes (sym laid_new)
      (bytes_append new (drop (length new) xs)
      (bytes_append (take a.font.end old) (encode Utf8 (added v g ds)) (bytes_take a.font.end old (bytes_take len xs y)) (items_bytes Utf8 (items (added v g ds)) values))
      (bytes_drop (length new) xs y))

  abbrev again : Editable out n g v (added v g ds)
  again =
      record {
        within = add_edits.inside;
        font = a.font;
        sound = new_sound xs y len g v ds a (with_single v) values n out laid long small room;
        kind = a.kind;
        marked = a.marked;
        low = a.low;
        scalar = a.scalar;
        count = length_changed (with_single v) g ds ∙ a.count;
        values = values;
        same = new_tail xs y len g v ds a (with_single v) values n out laid long small room;
      }

  again_hole : Hole Utf8 v g (added v g ds)
  again_hole = go (either_way out out_bytes n g v (added v g ds) again)
    where
      go : Hole Utf8 v g (added v g ds) ⊎ Gap Utf8 v g (added v g ds) → Hole Utf8 v g (added v g ds)
      go (inl h) = h
      go (inr p) = absurd (p.unlisted (added_lists v g ds (let l = a.low in omega (arith, a.count))))

  pub drop_after : drop_answer out n g v ≡ Ok len
  drop_after =
      let z : n - length (utf8_bytes v) ≡ len = omega (arith, r.grown) in
      drops out out_bytes n g v (added v g ds) again again_hole ∙ ap Ok z

  font_back : take a.font.end (take n out) ++ encode Utf8 (dropped v g (added v g ds)) ≡ old
  font_back =
      ap (λ (x : List ℕ). x ++ encode Utf8 (dropped v g (added v g ds))) (same_front xs y len g v ds a (with_single v) values n out laid long small room)
      ∙ ap (λ (x : List Desc). take a.font.end old ++ encode Utf8 x) (added_dropped v g ds r.gap.unlisted)
      ∙ ap (λ (x : List ℕ). take a.font.end old ++ x) (sym a.same) ∙ take-append-drop a.font.end old

  back_long : length (old ++ replicate (n - len) 0) ≡ n
  back_long = length-append old (replicate (n - len) 0) ∙ omega (arith, length-take-le len xs a.within, length-replicate {A = ℕ} (n - len) 0, r.grown)

  drop_after_into : drop_into out n g v ≡ over (old ++ replicate (n - len) 0) xs
  drop_after_into =
      let z : length (utf8_bytes v) ≡ n - len = omega (arith, r.grown) in
      drops_into out out_bytes n g v (added v g ds) again again_hole
      ∙ ap (λ (x : List ℕ). over (x ++ replicate (length (utf8_bytes v)) 0) out) font_back
      ∙ ap (λ (k : ℕ). over (old ++ replicate k 0) out) z
      ∙ ap (over (old ++ replicate (n - len) 0)) laid_new
      ∙ over_over (old ++ replicate (n - len) 0) new xs (back_long ∙ sym long)

  pub drop_after_font : take len (drop_into out n g v) ≡ old
  drop_after_font = ap (take len) drop_after_into ∙ over_front old (replicate (n - len) 0) xs len (length-take-le len xs a.within)

  pub drop_after_behind : drop n (drop_into out n g v) ≡ drop n xs
  drop_after_behind = ap (drop n) drop_after_into ∙ rest_is (old ++ replicate (n - len) 0) xs n back_long
