-- `conversion::measured` meets its contract: the table's length, or the first value that can't be carried. Assumes `Placed`.
use Rattle.conversion.specs.Reading.{fitting, measured_of, measured_then}
use Rattle.refusal.specs.declared.Reason.TheVariants.{Value}
use Rattle.refusal.specs.Meaning.{refusal_at}
use native.Mathlib.Omega.{arith}
use mathlib.Core.Path.{◌≡◌, sym, ◌∙◌, ap}
use Prim.Native.Nat.{ℕ, ◌+◌, ◌-◌}
use mathlib.Core.List.{List}
use lib.ListN.{length, take, drop}
use Rattle.header.specs.declared.Font.{Font}
use Rattle.conversion.specs.declared.Conversion.{Conversion}
use Rattle.base.proofs.Parts.{rest_all, rest_length}
use Rattle.stages.specs.Meaning.{tail_of}
use Rattle.conversion.proofs.measured.Goals as goal
use Rattle.std.specs.Prelude.{Result, Err}

told : (c : Conversion) (s : List ℕ) (f : Font) (m : Result ℕ ℕ) → m ≡ measured_of c (take (length s - f.end) (drop f.end s)) → m ≡ measured_of c (tail_of s f)
told c s f m e = e ∙ rw (rest_all s f.end)

pub overflow_add-front_len : goal.overflow_add-front_len
overflow_add-front_len c = let w = rw c.in-Ok.is at c.table_len-m.ensures.bounded in let l = rest_length c.args.file.now c.args.f.end in omega (arith, w, l, c.requires.0, c.front_len.ensures.1)

pub overflow_add-end : goal.overflow_add-end
overflow_add-end c = let w = rw c.in-Err.is at c.table_len-m.ensures.bounded in let l = rest_length c.args.file.now c.args.f.end in omega (arith, w, l, c.requires.0, c.requires.7)

pub glyph_at-requires : goal.glyph_at-requires
glyph_at-requires c = let w = rw c.in-Err.is at c.table_len-m.ensures.bounded in let l = rest_length c.args.file.now c.args.f.end in (c.requires, omega (arith, w, l, c.requires.7))

pub returns-in-Ok : goal.returns-in-Ok
returns-in-Ok c = c.fit.ensures ∙ ap (λ (x : ℕ). fitting c.args.f (x + c.in-Ok.t)) c.front_len.ensures.0 ∙ ap (measured_then c.args.c c.args.f (tail_of c.args.file.now c.args.f)) (sym c.in-Ok.is ∙ told c.args.c c.args.file.now c.args.f _ c.table_len-m.ensures.equal)

pub returns-in-Err : goal.returns-in-Err
returns-in-Err c = ap Err c.refuse_at.ensures ∙ ap (λ (x : ℕ). Err (refusal_at Value (c.args.f.end + c.in-Err.k) x)) c.glyph_at.ensures ∙ ap (measured_then c.args.c c.args.f (tail_of c.args.file.now c.args.f)) (sym c.in-Err.is ∙ told c.args.c c.args.file.now c.args.f _ c.table_len-m.ensures.equal)
