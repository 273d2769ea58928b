-- `utf8::plain_len` meets its contract: by the row of its first byte. Assumes nothing but what it asks.
use mathlib.Core.Path.{sym, subst}
use native.Mathlib.Omega.{arith}
use Rattle.utf8.proofs.Rows.{found, found_four}
use Rattle.utf8.proofs.Lengths.{Told, none_begun}
use Rattle.utf8.proofs.plain_len.Goals as goal

pub returns-in_err-l : goal.returns-in_err-l
returns-in_err-l c = subst (Told c.args.key c.args.s.now c.args.at) (sym c.from_residual.ensures) (none_begun c.args.key c.args.s.now c.args.at c.args.b c.requires _ c.lead_of.ensures c.in_err-l.was)

pub row_len-requires-in_default : goal.row_len-requires-in_default
row_len-requires-in_default c =
    let d = found _ _ _ c.lead_of.ensures c.in_ok-l.was in
    let m = c.in_default.in_default-own.rest in
    let n = found_four c.args.b (omega arith) _ d c.requires.2 m.0.1 m.1 in
    (c.requires.0, c.requires.1, (d.same, n, omega arith, omega arith))
