-- `convert::convert` meets its contract: what prepare says, then the room. Assumes nothing.
use Rattle.base.proofs.Parts.{bytes_of}
use Rattle.convert.proofs.Asks.{ready_placed, ready_table, ready_length, ready_stands, ready_long}
use native.Mathlib.Omega.{arith}
use mathlib.Core.Path.{sym, ◌∙◌, ap}
use Rattle.convert.proofs.Cases as cases
use Rattle.base.proofs.Handed.{handed_on}
use borrow.Author.Rules.{rules}
use Rattle.convert.proofs.convert.Goals as goal
use Rattle.std.specs.Prelude.{Err}

pub returns-then-out-need : goal.returns-then-out-need
returns-then-out-need c = let w = cases.no_room c.args.c c.args.file.now c.args.out.now _ _ (sym c.prepare.ensures ∙ c.in_ok-f.was) (omega arith) in record { answer = ap Err c.refuse.ensures ∙ w.0; buffer = w.1 }

pub write_font-requires : goal.write_font-requires
write_font-requires c = (ready_placed c.args.c c.args.file.now _ _ (bytes_of c.args.file.now c.type_inv.file) (sym c.prepare.ensures ∙ c.in_ok-f.was), ready_table c.args.c c.args.file.now _ _ (bytes_of c.args.file.now c.type_inv.file) (sym c.prepare.ensures ∙ c.in_ok-f.was), ready_length c.args.c c.args.file.now _ _ (bytes_of c.args.file.now c.type_inv.file) (sym c.prepare.ensures ∙ c.in_ok-f.was), ready_stands c.args.c c.args.file.now _ _ (bytes_of c.args.file.now c.type_inv.file) (sym c.prepare.ensures ∙ c.in_ok-f.was), let l = ready_long c.args.c c.args.file.now _ _ (bytes_of c.args.file.now c.type_inv.file) (sym c.prepare.ensures ∙ c.in_ok-f.was) in omega (arith, l))

pub returns : goal.returns
returns c = let w = cases.wrote c.args.c c.args.file.now c.args.out.now _ _ (sym c.prepare.ensures ∙ c.in_ok-f.was) (omega arith) in record { answer = w.0; buffer = c.write_font.ensures ∙ w.1 }

pub returns-in_err-f : goal.returns-in_err-f
returns-in_err-f c = let both = cases.unprepared c.args.c c.args.file.now c.args.out.now _ (sym c.prepare.ensures ∙ c.in_err-f.was) in record { answer = handed_on c.from_residual.result _ _ c.from_residual.ensures.1 both.0; buffer = both.1 }
