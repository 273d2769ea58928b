-- The tail of an accepted font is a table of its kind, or nothing; and a font that passed the stages before, whose tail is one, is accepted.
use mathlib.Core.Path.{◌≡◌, refl, sym, ◌∙◌, ap}
use mathlib.Core.Bool.{Bool, true, false}
use mathlib.Core.List.{List, []}
use Prim.Native.Nat.{ℕ}
use native.Mathlib.Omega.{arith}
use lib.Dec.{ltb}
use lib.ListN.{length, length-drop, drop_of_length-le}
use borrow.Author.Tests.{ltb-false}
use Rattle.base.specs.Meaning.{pick, Bytes}
use Rattle.base.specs.Reading.{when}
use Rattle.base.proofs.Parts.{bytes_drop}
use Rattle.refusal.specs.Meaning.{refusal}
use Rattle.refusal.specs.declared.Reason.TheVariants.{Trailing}
use Rattle.coding.specs.declared.Coding.{Coding}
use Rattle.table.specs.Reading.{table_of}
use Rattle.table.specs.Meaning.{IsTable}
use Rattle.table.proofs.Meaning.{complete_exactly}
use Rattle.header.specs.declared.Font.{Font}
use Rattle.header.proofs.Known.{never}
use Rattle.stages.specs.Meaning.{coding_of, tail_of}
use Rattle.stages.specs.Reading.{answered, bare_of, tailed, through_entries, check_of}
use Rattle.stages.proofs.Cases.{accepted, with_table, bare_sound, tail_after}
use Rattle.std.specs.Prelude.{Result, Ok, Err}
use Rattle.table.specs.declared.Fault.{Fault}
use Rattle.table.specs.declared.Fault.TheVariants.{Cut, Bad, Trailing as Over}

-- a tail that is a table where the font has one, and nothing where it hasn't
abbrev pub Tail : Bool → Coding → ℕ → List ℕ → Type 0
Tail true c n tl = IsTable c n tl
Tail false c n tl = tl ≡ []

-- the tail of an accepted font
pub tail_known : (s : List ℕ) (f : Font) → Bytes s → check_of s ≡ Ok f → Tail f.table (coding_of f.kind) f.count (tail_of s f)
unfolding tailed bare_of when
tail_known s f y e = go f.table (accepted s f e).1
  where
    told : (a : Result (Unit {0}) Fault) → table_of (coding_of f.kind) f.count (tail_of s f) ≡ a → answered f a ≡ Ok f → IsTable (coding_of f.kind) f.count (tail_of s f)
    told (Ok tt) q e = (complete_exactly (coding_of f.kind) f.count (tail_of s f) (bytes_drop f.end s y)).0 q
    told (Err (Cut k g)) q e = absurd (never _ f e)
    told (Err (Bad k g)) q e = absurd (never _ f e)
    told (Err (Over k)) q e = absurd (never _ f e)

    bare : (t : Bool) → ltb f.end (length s) ≡ t → when t (Err (refusal Trailing f.end)) (Ok f) ≡ Ok f → tail_of s f ≡ []
    bare true q e = absurd (never _ f e)
    bare false q e = drop_of_length-le s (ltb-false _ _ q)

    go : (t : Bool) → pick t (answered f (table_of (coding_of f.kind) f.count (tail_of s f))) (when (ltb f.end (length s)) (Err (refusal Trailing f.end)) (Ok f)) ≡ Ok f →
        Tail t (coding_of f.kind) f.count (tail_of s f)
    go true e = told (table_of (coding_of f.kind) f.count (tail_of s f)) refl e
    go false e = bare (ltb f.end (length s)) refl e

-- a font with such a tail, which passed the stages before
pub tail_sound : (s : List ℕ) (f : Font) → Bytes (tail_of s f) → through_entries s ≡ Ok f → Tail f.table (coding_of f.kind) f.count (tail_of s f) → check_of s ≡ Ok f
tail_sound s f y e tl = sym (tail_after s (Ok f) e) ∙ go f.table refl tl
  where
    go : (t : Bool) → f.table ≡ t → Tail t (coding_of f.kind) f.count (tail_of s f) → tailed s f ≡ Ok f
    go true q w = sym (with_table s f q) ∙ ap (answered f) ((complete_exactly (coding_of f.kind) f.count (tail_of s f) y).1 w)
    go false q w = sym (bare_sound s f q (omega (arith, length-drop f.end s, ap length w)))
