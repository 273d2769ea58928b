-- `edit::insert` meets its contract: ASK for a noncharacter, SIZE, ROOM, else a gap opened and the value put there. Assumes a font within limit and
-- buffer, a place in it, and a scalar value.
use mathlib.Core.Path.{refl, sym, ◌∙◌, ap}
use native.Mathlib.Omega.{arith}
use lib.ListN.{length}
use Rattle.utf8.specs.Meaning.{utf8_bytes}
use Rattle.moves.proofs.Moves.{part_laid}
use Rattle.edit.proofs.Cases as cases
use borrow.Author.Rules.{rules}
use Rattle.edit.proofs.insert.Goals as goal
use Rattle.std.specs.Prelude.{Err}

pub returns-then-is_noncharacter : goal.returns-then-is_noncharacter
returns-then-is_noncharacter c = record { answer = ap Err c.refuse.ensures ∙ cases.asked (length c.args.buf.now) c.args.len c.args.v (sym c.is_noncharacter.ensures ∙ c.if-is_noncharacter.true); buffer = refl }

pub returns-then-need-gt-LIMIT : goal.returns-then-need-gt-LIMIT
returns-then-need-gt-LIMIT c = record { answer = ap Err c.refuse-then-need-gt-LIMIT.ensures ∙ cases.over_limit (length c.args.buf.now) c.args.len c.args.v _ c.len_utf8-n.ensures.0 c.if-need-gt-LIMIT.true ∙ cases.unasked (length c.args.buf.now) c.args.len c.args.v (sym c.is_noncharacter.ensures ∙ c.if-is_noncharacter.false); buffer = refl }

pub returns-then-buf-need : goal.returns-then-buf-need
returns-then-buf-need c = record { answer = ap Err c.refuse-then-buf-need.ensures ∙ cases.no_room (length c.args.buf.now) c.args.len c.args.v _ c.len_utf8-n.ensures.0 c.if-need-gt-LIMIT.false c.if-buf-need.true ∙ cases.unasked (length c.args.buf.now) c.args.len c.args.v (sym c.is_noncharacter.ensures ∙ c.if-is_noncharacter.false); buffer = refl }

pub returns : goal.returns
returns c = let a = c.args in
    let s = a.buf.now in
    let w = c.move_up.new.buf in record { answer = cases.fits (length s) a.len a.v _ c.len_utf8-n.ensures.0 c.if-need-gt-LIMIT.false c.if-buf-need.false ∙ cases.unasked (length c.args.buf.now) c.args.len c.args.v (sym c.is_noncharacter.ensures ∙ c.if-is_noncharacter.false); buffer = cases.put s w _ a.len a.at a.v _ (omega arith) (omega arith) c.len_utf8-n.ensures.0 c.move_up.ensures (part_laid a.at (utf8_bytes a.v) w _ (omega arith) c.put_utf8.ensures.1) }
