-- `entries::signed` meets its contract: the two bytes as the machine's signed number. Assumes a number of two bytes.
use mathlib.Core.Path.{refl, ◌∙◌, ap}
use native.Mathlib.Omega.{arith}
use mir.Syntax.{w16}
use mir.Val.{to_z}
use mir.Facts.{of_z-to_z}
use Rattle.entries.proofs.Machine.{as_signed, field_kept}
use Rattle.entries.proofs.signed.Goals as goal

pub returns : goal.returns
returns c = let v = c.args.v in field_kept c.from.result v v (rw (c.from.ensures, c.cast_signed.ensures) (ap (to_z w16) (of_z-to_z {w = w16} {n = v} (record { fits = omega arith })) ∙ as_signed v c.requires)) refl c.requires
