-- `utf8::read_value` meets its contract: a first byte below 80 is the value, else its row decides. Assumes nothing.
use mathlib.Core.Path.{refl, ◌∙◌, ap}
use Prim.Native.Nat.{◌+◌, ◌*◌, ◌≤◌, ◌<◌}
use native.Mathlib.Omega.{arith}
use native.Mathlib.Nat.{mod-lt}
use lib.ListN.{get_or}
use Rattle.utf8.specs.Reading.{permitted_at}
use Rattle.utf8.proofs.First.{no_bytes, no_value, long_value}
use Rattle.utf8.proofs.Permitted.{permitted_low}
use Rattle.utf8.proofs.Rows.{found, not_found, found_fine, found_four}
use Rattle.utf8.proofs.read_value.Goals as goal

-- the value of a first byte below 80
pub returns-then-s-eq0 : goal.returns-then-s-eq0
returns-then-s-eq0 c = no_bytes _ c.if-s-eq0.true

pub returns-in_default : goal.returns-in_default
returns-in_default c = no_value _ (omega arith) _ refl (not_found _ _ c.lead_of.ensures c.in_default.is)

pub nonzero_rem-b : goal.nonzero_rem-b
nonzero_rem-b c = let h : get_or c.args.s.now 0 0 < 256 = omega (arith, c.type_inv.s 0) in let d = found _ _ _ c.lead_of.ensures c.in-Some.is in let f = found_fine _ h _ d in omega (arith, f.some)

pub further-requires : goal.further-requires
further-requires c = let h : get_or c.args.s.now 0 0 < 256 = omega (arith, c.type_inv.s 0) in let d = found _ _ _ c.lead_of.ensures c.in-Some.is in let f = found_fine _ h _ d in let w = c.from-v.ensures in (omega (arith, mod-lt (get_or c.args.s.now 0 0) f.some, f.small), omega (arith, f.low))

pub returns-in-2 : goal.returns-in-2
returns-in-2 c = let h : get_or c.args.s.now 0 0 < 256 = omega (arith, c.type_inv.s 0) in let d = found _ _ _ c.lead_of.ensures c.in-Some.is in let f = found_fine _ h _ d in let w = c.from-v.ensures in let b : c.from-v.result * 64 + 128 ≤ 0xFDD0 = omega (arith, mod-lt (get_or c.args.s.now 0 0) f.some, f.small) in permitted_low 1 _ _ _ b c.further.ensures.1 ∙ ap (permitted_at 1) c.further.ensures.0 ∙ long_value _ (omega arith) _ d.same 1 c.in-2.is _ c.from-v.ensures

pub three-r-requires : goal.three-r-requires
three-r-requires c = let h : get_or c.args.s.now 0 0 < 256 = omega (arith, c.type_inv.s 0) in let d = found _ _ _ c.lead_of.ensures c.in-Some.is in let f = found_fine _ h _ d in let w = c.from-v.ensures in (omega (arith, mod-lt (get_or c.args.s.now 0 0) f.some, f.small), omega (arith, f.low))

pub returns-in-3 : goal.returns-in-3
returns-in-3 c = let d = found _ _ _ c.lead_of.ensures c.in-Some.is in c.permitted_at.ensures ∙ ap (permitted_at 2) c.three-r.ensures.0 ∙ long_value _ (omega arith) _ d.same 2 c.in-3.is _ c.from-v.ensures

pub four-r-requires : goal.four-r-requires
four-r-requires c = let h : get_or c.args.s.now 0 0 < 256 = omega (arith, c.type_inv.s 0) in let d = found _ _ _ c.lead_of.ensures c.in-Some.is in let f = found_fine _ h _ d in let w = c.from-v.ensures in (omega (arith, mod-lt (get_or c.args.s.now 0 0) f.some, f.small), omega (arith, f.low))

pub returns-in_default-n : goal.returns-in_default-n
returns-in_default-n c = let h : get_or c.args.s.now 0 0 < 256 = omega (arith, c.type_inv.s 0) in let d = found _ _ _ c.lead_of.ensures c.in-Some.is in let m = c.in_default-n.in_default-n-own.rest in let n = found_four _ h _ d (omega arith) m.0.1 m.1 in c.permitted_at-in_default-n.ensures ∙ ap (permitted_at 3) c.four-r.ensures ∙ long_value _ (omega arith) _ d.same 3 n _ c.from-v.ensures
