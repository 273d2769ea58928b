-- `convert::field_at_20` meets its contract: by the kind. Assumes small numbers.
use native.Mathlib.Omega.{arith}
use mathlib.Core.Path.{◌≡◌, refl}
use Prim.Native.Nat.{ℕ, ◌≤◌}
use native.Mathlib.Nat.{mul-le-mul}
use Rattle.header.specs.declared.Kind.TheVariants.{Psf1, Psf2}
use Rattle.convert.proofs.Cases.{no_vfont2}
use borrow.Author.Rules.{rules}
use Rattle.convert.proofs.field_at_20.Goals as goal

pub overflow_mul-result : goal.overflow_mul-result
overflow_mul-result c = let n : c.args.n ≤ 4096 = omega arith in let z : c.args.size ≤ 8160 = omega arith in omega (arith, mul-le-mul n z)

pub returns-in-Psf1 : goal.returns-in-Psf1
returns-in-Psf1 c = ((λ q. no_vfont2 _ Psf1 c.in-Psf1.is q (λ e. let x : ◌≡◌ {A = ℕ} 0 1 = cc in omega arith), λ q. refl), omega arith)

pub returns-in-Psf2 : goal.returns-in-Psf2
returns-in-Psf2 c = ((λ q. no_vfont2 _ Psf2 c.in-Psf2.is q (λ e. let x : ◌≡◌ {A = ℕ} 0 1 = cc in omega arith), λ q. refl), omega arith)

pub returns-in-Vfont2 : goal.returns-in-Vfont2
returns-in-Vfont2 c = let n : c.args.n ≤ 4096 = omega arith in let z : c.args.size ≤ 8160 = omega arith in ((λ q. refl, λ q. absurd (q c.in-Vfont2.is)), omega (arith, mul-le-mul n z))
