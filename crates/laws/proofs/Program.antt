-- The program `fontload` (document 02, W2): what it answers on any input, however the input reaches it in chunks. `Answers`, `Reads`, `BadLine`:
-- crates/frames/specs/Meaning.antt; what a line means: crates/hexline/specs/Meaning.antt.
use mathlib.Core.Path.{◌≡◌, sym, ◌∙◌, ap}
use mathlib.Core.Logic.{◌↔◌}
use mathlib.Core.List.{List}
use Prim.Native.Nat.{ℕ}
use native.Mathlib.Omega.{arith}
use lib.ListN.{take}
use Rattle.refusal.specs.declared.Reason.TheVariants.{Line}
use Rattle.refusal.specs.Meaning.{refusal, number_of}
use Rattle.stages.specs.Reading.{check_of}
use Rattle.loader.specs.Meaning.{together}
use Rattle.frames.specs.Meaning.{loader_says, BadLine, Answers, bad_line, too_big, closed, fed_chunks, outcome_text, output_of}
use Rattle.frames.specs.Reading.{fresh_of, answered_of, closed_of}
use Rattle.frames.proofs.Meaning as frames
use Rattle.laws.proofs.Early.{Early, early_check}
use Rattle.laws.proofs.Loading.{answer_is_check}
use Rattle.std.specs.Prelude.{Result, Ok, Err}
use Rattle.frames.specs.declared.Failure.{Failure}
use Rattle.header.specs.declared.Font.{Font}
use Rattle.refusal.specs.declared.Refusal.{Refusal}
use Rattle.frames.specs.declared.Failure.TheVariants.{Refused, TooBig}

-- what the whole-file check says of pieces joined
abbrev pub check_said : List (List ℕ) → Result (Unit {0}) Failure
check_said ps = answered_of (check_of (together ps))

said_alike : (ps : List (List ℕ)) → loader_says ps ≡ check_said ps
said_alike ps = ap answered_of (answer_is_check ps)

there : (s : List ℕ) (o : Result (Unit {0}) Failure) → Answers loader_says s o → Answers check_said s o
there s o (bad_line i b e) = bad_line i b e
there s o (too_big ls ps r a h e) = too_big ls ps r a h e
there s o (closed ls ps r a h e) = closed ls ps r a h (e ∙ said_alike ps)

back : (s : List ℕ) (o : Result (Unit {0}) Failure) → Answers check_said s o → Answers loader_says s o
back s o (bad_line i b e) = bad_line i b e
back s o (too_big ls ps r a h e) = too_big ls ps r a h e
back s o (closed ls ps r a h e) = closed ls ps r a h (e ∙ sym (said_alike ps))

-- any input, cut into chunks in any way: LINE for a bad line; `too big`; else `sound` or the refusal of the whole-file check on the lines'
-- bytes joined; and nothing else
pub program_exactly : (cs : List (List ℕ)) (o : Result (Unit {0}) Failure) → (closed_of (fed_chunks fresh_of cs) ≡ o) ↔ Answers check_said (together cs) o
program_exactly cs o = (
  λ (e : closed_of (fed_chunks fresh_of cs) ≡ o). there (together cs) o ((frames.exactly cs o).0 e),
  λ (a : Answers check_said (together cs) o). (frames.exactly cs o).1 (back (together cs) o a),
)

abbrev numbered : Result (Unit {0}) Failure → ℕ
numbered (Ok tt) = 0
numbered (Err (Refused r)) = number_of r.reason
numbered (Err TooBig) = 0

-- the check never says LINE
never_line : (c : Result Font Refusal) (i : ℕ) → Early c → answered_of c ≡ Err (Refused (refusal Line i)) → ⊥
never_line (Ok f) i e q = let z : ◌≡◌ {A = ℕ} 0 1 = cc in omega (arith, z)
never_line (Err r) i e q =
    let h : number_of r.reason ≡ 23 = ap (λ (o : Result (Unit {0}) Failure). numbered o) q in
    omega (arith, e, h)

-- LINE exactly for the first bad line that counts
pub line_exactly : (cs : List (List ℕ)) (i : ℕ) → (closed_of (fed_chunks fresh_of cs) ≡ Err (Refused (refusal Line i))) ↔ BadLine (together cs) i
line_exactly =
    frames.line_exactly (λ ls ps i a e. never_line (check_of (together ps)) i (early_check (together ps)) (sym (said_alike ps) ∙ e))

-- and the text is written
pub text_written : (cs : List (List ℕ)) (o : Result (Unit {0}) Failure) → Answers check_said (together cs) o → let w = output_of (outcome_text (closed_of (fed_chunks fresh_of cs))) in take w.len w.bytes ≡ outcome_text o
text_written cs o a = frames.text_written cs o (back (together cs) o a)
