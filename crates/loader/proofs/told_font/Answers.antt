-- `loader::told_font` meets its contract. Assumes nothing.
use Rattle.base.proofs.Handed.{handed_on}
use Rattle.loader.proofs.Cases.{font_cut, entries_refused, to_tail}
use Rattle.loader.proofs.told_font.Goals as goal

pub returns-in_err-g : goal.returns-in_err-g
returns-in_err-g c = handed_on c.from_residual.result _ _ c.from_residual.ensures.1 (font_cut c.args.l _ _ _ c.check_length.ensures c.in_err-g.was)

pub returns-in_err-k : goal.returns-in_err-k
returns-in_err-k c = handed_on c.from_residual-in_err-k.result _ _ c.from_residual-in_err-k.ensures.1 (entries_refused c.args.l _ _ _ _ _ c.check_length.ensures c.in_ok-g.was c.told_entries.ensures c.in_err-k.was)

pub returns : goal.returns
returns c = to_tail c.args.l _ _ _ _ _ _ c.check_length.ensures c.in_ok-g.was c.told_entries.ensures c.in_ok-k.was c.told_tail.ensures
