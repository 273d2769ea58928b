-- `listing::list_font` meets its contract: the first line stands in front, and the lines of the table behind it. Assumes nothing.
use native.Mathlib.Omega.{arith}
use mathlib.Core.Path.{sym, ◌∙◌, ap}
use mathlib.Core.List.{List}
use Prim.Native.Nat.{ℕ}
use lib.ListN.{length}
use Rattle.text.proofs.Putting.{first_stands, behind_stands}
use Rattle.listing.proofs.Answers.{no_room_as, wrote, in_front, font_text_lem, font_length}
use Rattle.listing.specs.Meaning.{first_line}
use Rattle.listing.specs.Reading.{lines_text, font_text}
use Rattle.base.specs.Reading.{over}
use borrow.Author.Rules.{rules}
use Rattle.listing.proofs.list_font.Goals as goal

pub returns-then-out-total : goal.returns-then-out-total
returns-then-out-total c = let e = font_length c.args.file.now c.args.f c.put_first-n.result c.lines_len-m.result c.put_first-n.ensures.0 c.lines_len-m.ensures.0 in record { equal = no_room_as _ _ _ e _ c.if-out-total.true c.refuse.ensures; bounded = omega (arith, e, c.put_first-n.ensures.2, c.lines_len-m.ensures.1) }

pub slice_bounds-copy-end : goal.slice_bounds-copy-end
slice_bounds-copy-end c = c.put_first-n.ensures.0 ∙ sym (ap length (in_front (first_line c.args.f) _ _ _ c.put_first-n.ensures.0 c.put_first-n.ensures.1))

pub copy-requires : goal.copy-requires
copy-requires c = let e = ap length (in_front (first_line c.args.f) _ _ _ c.put_first-n.ensures.0 c.put_first-n.ensures.1) in omega (arith, e, c.put_first-n.ensures.0)

pub returns : goal.returns
returns c = let e = font_length c.args.file.now c.args.f c.put_first-n.result c.lines_len-m.result c.put_first-n.ensures.0 c.lines_len-m.ensures.0 in
    let o = c.copy.ensures ∙ ap (λ (z : List ℕ). over z c.args.out.now) (in_front (first_line c.args.f) _ _ _ c.put_first-n.ensures.0 c.put_first-n.ensures.1) in
    let s = first_stands (first_line c.args.f) c.args.out.now c.copy.new.out c.put_first-n.result (omega (arith, c.put_first-n.ensures.0)) (c.put_first-n.ensures.0, o) in
    let r = behind_stands (first_line c.args.f) (lines_text c.args.file.now c.args.f) c.args.out.now c.copy.new.out c.put_first-n.result s (omega (arith, c.lines_len-m.ensures.0)) c.put_lines.new.out c.lines_len-m.result (c.lines_len-m.ensures.0, c.put_lines.ensures) in
    record { equal = wrote (font_text c.args.file.now c.args.f) c.args.out.now _ e c.if-out-total.false _ (r.2 ∙ sym (ap (λ (z : List ℕ). over z c.args.out.now) (font_text_lem c.args.file.now c.args.f))); bounded = omega (arith, e, c.put_first-n.ensures.2, c.lines_len-m.ensures.1) }
