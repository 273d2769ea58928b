-- `entryfeed::more_sums` meets its contract. Assumes that the entries stand in the slice, and the slice within the file limit.
use native.Mathlib.Omega.{arith}
use mathlib.Core.Path.{sym, ◌∙◌}
use Rattle.entries.proofs.Meaning.{scan_broken, larger_max}
use Rattle.entryfeed.proofs.Feeding.{found, taller}
use Rattle.entryfeed.proofs.more_sums.Goals as goal

pub overflow_mul-result : goal.overflow_mul-result
overflow_mul-result c = let i = (scan_broken _ _ _ _ _ (sym c.scan_entries-r.ensures ∙ c.in-Err.is)).within in omega arith

pub overflow_add-result-in-Err : goal.overflow_add-result-in-Err
overflow_add-result-in-Err c = let i = (scan_broken _ _ _ _ _ (sym c.scan_entries-r.ensures ∙ c.in-Err.is)).within in omega arith

pub returns-in-Err : goal.returns-in-Err
returns-in-Err c = found _ _ _ c.args.s.now _ _ c.if-x-ne0.false _ _ c.in-Err.is c.scan_entries-r.ensures

pub returns-in-Ok : goal.returns-in-Ok
returns-in-Ok c = taller _ _ _ c.args.s.now _ _ c.if-x-ne0.false _ _ _ _ _ c.in-Ok.is c.scan_entries-r.ensures (c.max.ensures ∙ larger_max _ _) (c.max-in-Ok.ensures ∙ larger_max _ _)
