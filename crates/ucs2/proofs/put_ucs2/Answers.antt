-- `ucs2::put_ucs2` meets its contract: two bytes stored. Assumes nothing.
use native.Mathlib.Omega.{arith}
use Rattle.ucs2.specs.Meaning.{word_bytes}
use Rattle.base.proofs.Over.{stores}
use Rattle.ucs2.proofs.put_ucs2.Goals as goal

pub returns : goal.returns
returns c = stores (word_bytes c.args.v) c.args.out.now (omega arith)
