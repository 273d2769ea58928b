-- `conversion::opened` meets its contract: the font's own refusal, then its kind. Assumes nothing.
use mathlib.Core.Path.{◌≡◌, sym, ◌∙◌, ap}
use denote.Enum.Bare.{sameb}
use Rattle.header.specs.contracts.Kind.{the_type}
use Rattle.header.specs.declared.Kind.{Kind}
use Rattle.conversion.specs.Reading.{same_kind}
use Rattle.conversion.proofs.Cases as cases
use borrow.Author.Rules.{rules}
use Rattle.conversion.proofs.opened.Goals as goal
use Rattle.std.specs.Prelude.{Err}

-- `==` of two kinds
alike : (a b : Kind) → sameb the_type a b ≡ same_kind a b
alike a b = search rules

pub returns-then-eq : goal.returns-then-eq
returns-then-eq c = let q = sym (c.eq.ensures ∙ alike _ _) ∙ c.if-eq.true in let e = sym c.check.ensures.equal ∙ c.in-Ok.is in record { equal = cases.right_kind c.args.k c.args.file.now _ e q; bounded = (rw c.in-Ok.is at c.check.ensures.bounded, cases.kind_same c.args.k _ q) }

pub returns-else-eq : goal.returns-else-eq
returns-else-eq c = record { equal = ap Err c.refuse.ensures ∙ cases.wrong_kind c.args.k c.args.file.now _ (sym c.check.ensures.equal ∙ c.in-Ok.is) (sym (c.eq.ensures ∙ alike _ _) ∙ c.if-eq.false); bounded = tt }

pub returns-in-Err : goal.returns-in-Err
returns-in-Err c = record { equal = cases.not_opened c.args.k c.args.file.now _ (sym c.check.ensures.equal ∙ c.in-Err.is); bounded = tt }
