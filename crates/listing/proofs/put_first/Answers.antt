-- `listing::put_first` meets its contract: each part stands behind those before it. Assumes nothing.
use native.Mathlib.Omega.{arith}
use mathlib.Core.Path.{sym, ◌∙◌, ap}
use mathlib.Core.List.{List, ◌++◌}
use Prim.Native.Nat.{ℕ, ◌≤◌, ◌<◌}
use lib.ListN.{length}
use Rattle.text.proofs.Putting.{first_stands, behind_room, behind_stands}
use Rattle.text.proofs.Digits.{number_21}
use Rattle.listing.proofs.Words.{kind_7, word_6, first_line_lem}
use Rattle.listing.specs.Meaning.{kind_text, table_word}
use Rattle.text.specs.Meaning.{number_text}
use Rattle.header.specs.declared.Font.{Font}
use Rattle.base.specs.Reading.{over}
use Rattle.listing.proofs.put_first.Goals as goal

-- no part is long
abbrev Short : Font → Type 0
Short f = (length (kind_text f.kind) ≤ 7) × (length (number_text f.count 32) ≤ 21) × (length (number_text f.height 32) ≤ 21) × (length (number_text f.width 32) ≤ 21) × (length (table_word f.table) ≤ 6)

short : (f : Font) → f.count < 18446744073709551616 → f.height < 18446744073709551616 → f.width < 18446744073709551616 → Short f
short f a b d = (kind_7 f.kind, number_21 f.count 32 a, number_21 f.height 32 b, number_21 f.width 32 d, word_6 f.table)

pub put_kind-a-requires : goal.put_kind-a-requires
put_kind-a-requires c =
    let h = short c.args.f (omega arith) (omega arith) (omega arith) in
    omega (arith, c.requires, h)

pub slice_bounds-put_number-count : goal.slice_bounds-put_number-count
slice_bounds-put_number-count c =
    let h = short c.args.f (omega arith) (omega arith) (omega arith) in
    let s1 = first_stands (kind_text c.args.f.kind) c.args.out.now c.put_kind-a.new.out c.put_kind-a.result (omega (arith, c.requires, h)) c.put_kind-a.ensures in
    omega (arith, c.requires, h, c.put_kind-a.ensures.0, s1.1)

pub slice_bounds-put_number-start : goal.slice_bounds-put_number-start
slice_bounds-put_number-start c =
    let h = short c.args.f (omega arith) (omega arith) (omega arith) in
    let s1 = first_stands (kind_text c.args.f.kind) c.args.out.now c.put_kind-a.new.out c.put_kind-a.result (omega (arith, c.requires, h)) c.put_kind-a.ensures in
    omega (arith, c.requires, h, c.put_kind-a.ensures.0, s1.1)

pub put_number-requires : goal.put_number-requires
put_number-requires c =
    let h = short c.args.f (omega arith) (omega arith) (omega arith) in
    let s1 = first_stands (kind_text c.args.f.kind) c.args.out.now c.put_kind-a.new.out c.put_kind-a.result (omega (arith, c.requires, h)) c.put_kind-a.ensures in
    behind_room (kind_text c.args.f.kind) (number_text c.args.f.count 32) c.args.out.now _ _ s1 (omega (arith, c.requires, h, c.put_kind-a.ensures.0))

pub overflow_add-b : goal.overflow_add-b
overflow_add-b c =
    let h = short c.args.f (omega arith) (omega arith) (omega arith) in
    omega (arith, h, c.put_kind-a.ensures.0, c.put_number.ensures.0)

pub slice_bounds-put_number-count-2 : goal.slice_bounds-put_number-count-2
slice_bounds-put_number-count-2 c =
    let h = short c.args.f (omega arith) (omega arith) (omega arith) in
    let s1 = first_stands (kind_text c.args.f.kind) c.args.out.now c.put_kind-a.new.out c.put_kind-a.result (omega (arith, c.requires, h)) c.put_kind-a.ensures in
    let s2 = behind_stands (kind_text c.args.f.kind) (number_text c.args.f.count 32) c.args.out.now _ _ s1 (omega (arith, c.requires, h, c.put_kind-a.ensures.0)) _ _ c.put_number.ensures in
    omega (arith, c.requires, h, c.put_kind-a.ensures.0, c.put_number.ensures.0, s2.1)

pub slice_bounds-put_number-start-2 : goal.slice_bounds-put_number-start-2
slice_bounds-put_number-start-2 c =
    let h = short c.args.f (omega arith) (omega arith) (omega arith) in
    let s1 = first_stands (kind_text c.args.f.kind) c.args.out.now c.put_kind-a.new.out c.put_kind-a.result (omega (arith, c.requires, h)) c.put_kind-a.ensures in
    let s2 = behind_stands (kind_text c.args.f.kind) (number_text c.args.f.count 32) c.args.out.now _ _ s1 (omega (arith, c.requires, h, c.put_kind-a.ensures.0)) _ _ c.put_number.ensures in
    omega (arith, c.requires, h, c.put_kind-a.ensures.0, c.put_number.ensures.0, s2.1)

pub put_number-requires-2 : goal.put_number-requires-2
put_number-requires-2 c =
    let h = short c.args.f (omega arith) (omega arith) (omega arith) in
    let s1 = first_stands (kind_text c.args.f.kind) c.args.out.now c.put_kind-a.new.out c.put_kind-a.result (omega (arith, c.requires, h)) c.put_kind-a.ensures in
    let s2 = behind_stands (kind_text c.args.f.kind) (number_text c.args.f.count 32) c.args.out.now _ _ s1 (omega (arith, c.requires, h, c.put_kind-a.ensures.0)) _ _ c.put_number.ensures in
    behind_room (kind_text c.args.f.kind ++ number_text c.args.f.count 32) (number_text c.args.f.height 32) c.args.out.now _ _ s2 (omega (arith, c.requires, h, c.put_kind-a.ensures.0, c.put_number.ensures.0))

pub overflow_add-d : goal.overflow_add-d
overflow_add-d c =
    let h = short c.args.f (omega arith) (omega arith) (omega arith) in
    omega (arith, h, c.put_kind-a.ensures.0, c.put_number.ensures.0, c.put_number-2.ensures.0)

pub slice_bounds-put_number-count-3 : goal.slice_bounds-put_number-count-3
slice_bounds-put_number-count-3 c =
    let h = short c.args.f (omega arith) (omega arith) (omega arith) in
    let s1 = first_stands (kind_text c.args.f.kind) c.args.out.now c.put_kind-a.new.out c.put_kind-a.result (omega (arith, c.requires, h)) c.put_kind-a.ensures in
    let s2 = behind_stands (kind_text c.args.f.kind) (number_text c.args.f.count 32) c.args.out.now _ _ s1 (omega (arith, c.requires, h, c.put_kind-a.ensures.0)) _ _ c.put_number.ensures in
    let s3 = behind_stands (kind_text c.args.f.kind ++ number_text c.args.f.count 32) (number_text c.args.f.height 32) c.args.out.now _ _ s2 (omega (arith, c.requires, h, c.put_kind-a.ensures.0, c.put_number.ensures.0)) _ _ c.put_number-2.ensures in
    omega (arith, c.requires, h, c.put_kind-a.ensures.0, c.put_number.ensures.0, c.put_number-2.ensures.0, s3.1)

pub slice_bounds-put_number-start-3 : goal.slice_bounds-put_number-start-3
slice_bounds-put_number-start-3 c =
    let h = short c.args.f (omega arith) (omega arith) (omega arith) in
    let s1 = first_stands (kind_text c.args.f.kind) c.args.out.now c.put_kind-a.new.out c.put_kind-a.result (omega (arith, c.requires, h)) c.put_kind-a.ensures in
    let s2 = behind_stands (kind_text c.args.f.kind) (number_text c.args.f.count 32) c.args.out.now _ _ s1 (omega (arith, c.requires, h, c.put_kind-a.ensures.0)) _ _ c.put_number.ensures in
    let s3 = behind_stands (kind_text c.args.f.kind ++ number_text c.args.f.count 32) (number_text c.args.f.height 32) c.args.out.now _ _ s2 (omega (arith, c.requires, h, c.put_kind-a.ensures.0, c.put_number.ensures.0)) _ _ c.put_number-2.ensures in
    omega (arith, c.requires, h, c.put_kind-a.ensures.0, c.put_number.ensures.0, c.put_number-2.ensures.0, s3.1)

pub put_number-requires-3 : goal.put_number-requires-3
put_number-requires-3 c =
    let h = short c.args.f (omega arith) (omega arith) (omega arith) in
    let s1 = first_stands (kind_text c.args.f.kind) c.args.out.now c.put_kind-a.new.out c.put_kind-a.result (omega (arith, c.requires, h)) c.put_kind-a.ensures in
    let s2 = behind_stands (kind_text c.args.f.kind) (number_text c.args.f.count 32) c.args.out.now _ _ s1 (omega (arith, c.requires, h, c.put_kind-a.ensures.0)) _ _ c.put_number.ensures in
    let s3 = behind_stands (kind_text c.args.f.kind ++ number_text c.args.f.count 32) (number_text c.args.f.height 32) c.args.out.now _ _ s2 (omega (arith, c.requires, h, c.put_kind-a.ensures.0, c.put_number.ensures.0)) _ _ c.put_number-2.ensures in
    behind_room ((kind_text c.args.f.kind ++ number_text c.args.f.count 32) ++ number_text c.args.f.height 32) (number_text c.args.f.width 32) c.args.out.now _ _ s3 (omega (arith, c.requires, h, c.put_kind-a.ensures.0, c.put_number.ensures.0, c.put_number-2.ensures.0))

pub overflow_add-e : goal.overflow_add-e
overflow_add-e c =
    let h = short c.args.f (omega arith) (omega arith) (omega arith) in
    omega (arith, h, c.put_kind-a.ensures.0, c.put_number.ensures.0, c.put_number-2.ensures.0, c.put_number-3.ensures.0)

pub slice_bounds-put_word-count : goal.slice_bounds-put_word-count
slice_bounds-put_word-count c =
    let h = short c.args.f (omega arith) (omega arith) (omega arith) in
    let s1 = first_stands (kind_text c.args.f.kind) c.args.out.now c.put_kind-a.new.out c.put_kind-a.result (omega (arith, c.requires, h)) c.put_kind-a.ensures in
    let s2 = behind_stands (kind_text c.args.f.kind) (number_text c.args.f.count 32) c.args.out.now _ _ s1 (omega (arith, c.requires, h, c.put_kind-a.ensures.0)) _ _ c.put_number.ensures in
    let s3 = behind_stands (kind_text c.args.f.kind ++ number_text c.args.f.count 32) (number_text c.args.f.height 32) c.args.out.now _ _ s2 (omega (arith, c.requires, h, c.put_kind-a.ensures.0, c.put_number.ensures.0)) _ _ c.put_number-2.ensures in
    let s4 = behind_stands ((kind_text c.args.f.kind ++ number_text c.args.f.count 32) ++ number_text c.args.f.height 32) (number_text c.args.f.width 32) c.args.out.now _ _ s3 (omega (arith, c.requires, h, c.put_kind-a.ensures.0, c.put_number.ensures.0, c.put_number-2.ensures.0)) _ _ c.put_number-3.ensures in
    omega (arith, c.requires, h, c.put_kind-a.ensures.0, c.put_number.ensures.0, c.put_number-2.ensures.0, c.put_number-3.ensures.0, s4.1)

pub slice_bounds-put_word-start : goal.slice_bounds-put_word-start
slice_bounds-put_word-start c =
    let h = short c.args.f (omega arith) (omega arith) (omega arith) in
    let s1 = first_stands (kind_text c.args.f.kind) c.args.out.now c.put_kind-a.new.out c.put_kind-a.result (omega (arith, c.requires, h)) c.put_kind-a.ensures in
    let s2 = behind_stands (kind_text c.args.f.kind) (number_text c.args.f.count 32) c.args.out.now _ _ s1 (omega (arith, c.requires, h, c.put_kind-a.ensures.0)) _ _ c.put_number.ensures in
    let s3 = behind_stands (kind_text c.args.f.kind ++ number_text c.args.f.count 32) (number_text c.args.f.height 32) c.args.out.now _ _ s2 (omega (arith, c.requires, h, c.put_kind-a.ensures.0, c.put_number.ensures.0)) _ _ c.put_number-2.ensures in
    let s4 = behind_stands ((kind_text c.args.f.kind ++ number_text c.args.f.count 32) ++ number_text c.args.f.height 32) (number_text c.args.f.width 32) c.args.out.now _ _ s3 (omega (arith, c.requires, h, c.put_kind-a.ensures.0, c.put_number.ensures.0, c.put_number-2.ensures.0)) _ _ c.put_number-3.ensures in
    omega (arith, c.requires, h, c.put_kind-a.ensures.0, c.put_number.ensures.0, c.put_number-2.ensures.0, c.put_number-3.ensures.0, s4.1)

pub put_word-requires : goal.put_word-requires
put_word-requires c =
    let h = short c.args.f (omega arith) (omega arith) (omega arith) in
    let s1 = first_stands (kind_text c.args.f.kind) c.args.out.now c.put_kind-a.new.out c.put_kind-a.result (omega (arith, c.requires, h)) c.put_kind-a.ensures in
    let s2 = behind_stands (kind_text c.args.f.kind) (number_text c.args.f.count 32) c.args.out.now _ _ s1 (omega (arith, c.requires, h, c.put_kind-a.ensures.0)) _ _ c.put_number.ensures in
    let s3 = behind_stands (kind_text c.args.f.kind ++ number_text c.args.f.count 32) (number_text c.args.f.height 32) c.args.out.now _ _ s2 (omega (arith, c.requires, h, c.put_kind-a.ensures.0, c.put_number.ensures.0)) _ _ c.put_number-2.ensures in
    let s4 = behind_stands ((kind_text c.args.f.kind ++ number_text c.args.f.count 32) ++ number_text c.args.f.height 32) (number_text c.args.f.width 32) c.args.out.now _ _ s3 (omega (arith, c.requires, h, c.put_kind-a.ensures.0, c.put_number.ensures.0, c.put_number-2.ensures.0)) _ _ c.put_number-3.ensures in
    behind_room (((kind_text c.args.f.kind ++ number_text c.args.f.count 32) ++ number_text c.args.f.height 32) ++ number_text c.args.f.width 32) (table_word c.args.f.table) c.args.out.now _ _ s4 (omega (arith, c.requires, h, c.put_kind-a.ensures.0, c.put_number.ensures.0, c.put_number-2.ensures.0, c.put_number-3.ensures.0))

pub overflow_add-result : goal.overflow_add-result
overflow_add-result c =
    let h = short c.args.f (omega arith) (omega arith) (omega arith) in
    omega (arith, h, c.put_kind-a.ensures.0, c.put_number.ensures.0, c.put_number-2.ensures.0, c.put_number-3.ensures.0, c.put_word.ensures.0)

pub returns : goal.returns
returns c =
    let h = short c.args.f (omega arith) (omega arith) (omega arith) in
    let s1 = first_stands (kind_text c.args.f.kind) c.args.out.now c.put_kind-a.new.out c.put_kind-a.result (omega (arith, c.requires, h)) c.put_kind-a.ensures in
    let s2 = behind_stands (kind_text c.args.f.kind) (number_text c.args.f.count 32) c.args.out.now _ _ s1 (omega (arith, c.requires, h, c.put_kind-a.ensures.0)) _ _ c.put_number.ensures in
    let s3 = behind_stands (kind_text c.args.f.kind ++ number_text c.args.f.count 32) (number_text c.args.f.height 32) c.args.out.now _ _ s2 (omega (arith, c.requires, h, c.put_kind-a.ensures.0, c.put_number.ensures.0)) _ _ c.put_number-2.ensures in
    let s4 = behind_stands ((kind_text c.args.f.kind ++ number_text c.args.f.count 32) ++ number_text c.args.f.height 32) (number_text c.args.f.width 32) c.args.out.now _ _ s3 (omega (arith, c.requires, h, c.put_kind-a.ensures.0, c.put_number.ensures.0, c.put_number-2.ensures.0)) _ _ c.put_number-3.ensures in
    let s5 = behind_stands (((kind_text c.args.f.kind ++ number_text c.args.f.count 32) ++ number_text c.args.f.height 32) ++ number_text c.args.f.width 32) (table_word c.args.f.table) c.args.out.now _ _ s4 (omega (arith, c.requires, h, c.put_kind-a.ensures.0, c.put_number.ensures.0, c.put_number-2.ensures.0, c.put_number-3.ensures.0)) _ _ c.put_word.ensures in
    let l = first_line_lem c.args.f in
    (s5.0 ∙ sym (ap length l), s5.2 ∙ sym (ap (λ (z : List ℕ). over z c.args.out.now) l), omega (arith, h, c.put_kind-a.ensures.0, c.put_number.ensures.0, c.put_number-2.ensures.0, c.put_number-3.ensures.0, c.put_word.ensures.0))
