-- `psf1::Psf1::put_header` meets its contract: four stores. Assumes room.
use native.Mathlib.Omega.{arith}
use mathlib.Core.Path.{◌∙◌, ap}
use Prim.Native.Nat.{ℕ}
use mathlib.Core.List.{List, [], ◌∷◌}
use lib.ListN.{length-set}
use Rattle.base.specs.Reading.{over}
use Rattle.base.proofs.Over.{stores}
use Rattle.header.proofs.Written.{header_mode}
use Rattle.psf1.proofs.Psf1.put_header.Goals as goal

pub bounds-out-1 : goal.bounds-out-1
bounds-out-1 c = simp length-set (omega arith)

pub bounds-out-2 : goal.bounds-out-2
bounds-out-2 c = simp length-set (omega arith)

pub returns : goal.returns
returns c = let xs = c.args.out.now in stores (0x36 ∷ 0x04 ∷ c.mode_of-mode.result ∷ c.args.height ∷ []) xs (omega arith) ∙ ap (λ (p : List ℕ). over p xs) (header_mode c.args.n c.args.table c.mode_of-mode.result c.args.height c.args.height 8 c.mode_of-mode.ensures)
