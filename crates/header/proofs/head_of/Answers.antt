-- `header::head_of` meets its contract: each return is one case of the definition. Assumes nothing.
use native.Mathlib.Omega.{arith}
use mathlib.Core.Path.{◌∙◌, ap}
use Rattle.header.proofs.Cases as cases
use Rattle.header.proofs.head_of.Goals as goal
use Rattle.std.specs.Prelude.{Err}

pub returns-then-len-fixed : goal.returns-then-len-fixed
returns-then-len-fixed c = record { equal = ap Err c.refuse.ensures ∙ cases.head_cut c.args.file.now (omega arith); bounded = tt }

pub returns-then-get32-ne0 : goal.returns-then-get32-ne0
returns-then-get32-ne0 c = record { equal = ap Err c.refuse-then-get32-ne0.ensures ∙ cases.head_version c.args.file.now (omega arith); bounded = tt }

pub returns-then-flags-gt1 : goal.returns-then-flags-gt1
returns-then-flags-gt1 c = record { equal = ap Err c.refuse-then-flags-gt1.ensures ∙ cases.head_flags c.args.file.now (omega arith); bounded = tt }

pub returns-then-header-fixed : goal.returns-then-header-fixed
returns-then-header-fixed c = record { equal = ap Err c.refuse-then-header-fixed.ensures ∙ cases.head_low c.args.file.now (omega arith); bounded = tt }

pub returns-then-count-eq0 : goal.returns-then-count-eq0
returns-then-count-eq0 c = record { equal = ap Err c.refuse-then-count-eq0.ensures ∙ cases.head_none c.args.file.now (omega arith); bounded = tt }

pub returns-then-count-gt4096 : goal.returns-then-count-gt4096
returns-then-count-gt4096 c = record { equal = ap Err c.refuse-then-count-gt4096.ensures ∙ cases.head_many c.args.file.now (omega arith); bounded = tt }

pub returns : goal.returns
returns c = record { equal = cases.head_read c.args.file.now c.get32-header.result c.get32-count.result c.get32-2.result c.get32-3.result c.get32-4.result c.get32-flags.result (omega arith) (omega arith); bounded = omega arith }
