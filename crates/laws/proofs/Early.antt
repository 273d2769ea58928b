-- The whole-file check and the loader's close refuse with 1 to 12 alone.
use mathlib.Core.Bool.{Bool, true, false}
use mathlib.Core.List.{List}
use Prim.Native.Nat.{ℕ, ◌≤◌}
use native.Mathlib.Omega.{arith}
use lib.ListN.{length}
use Rattle.base.specs.Meaning.{pick}
use Rattle.base.specs.Reading.{when}
use Rattle.base.proofs.Tests.{by_when}
use Rattle.refusal.specs.Meaning.{number_of}
use Rattle.header.specs.declared.Kind.{Kind}
use Rattle.header.specs.declared.Kind.TheVariants.{Psf1, Psf2, Vfont2}
use Rattle.header.specs.declared.Font.{Font}
use Rattle.header.specs.declared.Fields.{Fields}
use Rattle.header.specs.Reading.{kind_of, psf1_says, head_of, psf2_shaped, vfont2_shaped, named_says, says_of}
use Rattle.entries.specs.Reading.{scan_of}
use Rattle.table.specs.Reading.{table_of}
use Rattle.stages.specs.Meaning.{coding_of, tail_of}
use Rattle.stages.specs.Reading.{and_then, sized, greatest_of, scanned, kind_entries, entries_of, answered, bare_of, tailed, through_body, through_entries, check_of}
use Rattle.entryfeed.specs.declared.Sums.{Sums}
use Rattle.tablefeed.specs.declared.Standing.{Standing}
use Rattle.loader.specs.declared.Loader.{Loader}
use Rattle.loader.specs.Reading.{kind_told, entries_told, tail_told, font_told, answer_of}
use Rattle.laws.proofs.Refusals.{OnRefusal, on_sound, on_fields_lem}
use Rattle.std.specs.Prelude.{Result, Ok, Err, Option, Some, None}
use Rattle.refusal.specs.declared.Refusal.{Refusal}
use Rattle.table.specs.declared.Fault.{Fault}
use Rattle.table.specs.declared.Fault.TheVariants.{Cut, Bad, Trailing}

abbrev pub Early : {A : Type 0} → Result A Refusal → Type 0
Early {A} = OnRefusal {A = A} (λ r. number_of r.reason ≤ 12)

-- a test that refuses, and the rest
or_else : {A : Type 0} (t : Bool) (a b : Result A Refusal) → Early a → Early b → Early (when t a b)
or_else = by_when Early

early_then : (c : Result Font Refusal) (k : Font → Result Font Refusal) → Early c → ((f : Font) → Early (k f)) → Early (and_then c k)
early_then c k e g = on_sound _ c k e (λ f q. g f)

-- the header
early_head : (s : List ℕ) → Early (head_of s)
unfolding head_of
early_head s =
    or_else _ _ _ (omega arith) (or_else _ _ _ (omega arith) (or_else _ _ _ (omega arith) (or_else _ _ _ (omega arith)
    (or_else _ _ _ (omega arith) (or_else _ _ _ (omega arith) (or_else _ _ _ (omega arith) tt))))))

early_psf1 : (s : List ℕ) → Early (psf1_says s)
unfolding psf1_says
early_psf1 s = or_else _ _ _ (omega arith) (or_else _ _ _ (omega arith) (or_else _ _ _ (omega arith) tt))

early_psf2 : (f : Fields) → Early (psf2_shaped f)
unfolding psf2_shaped
early_psf2 f = or_else _ _ _ (omega arith) (or_else _ _ _ (omega arith) (or_else _ _ _ (omega arith) (or_else _ _ _ (omega arith) (or_else _ _ _ (omega arith) tt))))

early_vfont2 : (f : Fields) → Early (vfont2_shaped f)
unfolding vfont2_shaped
early_vfont2 f = or_else _ _ _ (omega arith) (or_else _ _ _ (omega arith) tt)

early_named : (s : List ℕ) (n : Option Kind) → Early (named_says s n)
early_named s (Some Psf1) = early_psf1 s
early_named s (Some Psf2) = on_fields_lem _ psf2_shaped early_psf2 (head_of s) (early_head s)
early_named s (Some Vfont2) = on_fields_lem _ vfont2_shaped early_vfont2 (head_of s) (early_head s)
early_named s None = omega arith

early_says : (s : List ℕ) → Early (says_of s)
unfolding says_of
early_says s = early_named s (kind_of s)

-- length, entries, tail
early_sized : (n : ℕ) (f : Font) → Early (sized n f)
unfolding sized
early_sized n f = or_else _ _ _ (omega arith) tt

early_greatest : (f : Font) (h w : ℕ) → Early (greatest_of f h w)
unfolding greatest_of
early_greatest f h w = or_else _ _ _ (omega arith) (or_else _ _ _ (omega arith) tt)

early_scanned : (f : Font) (r : Result (ℕ × ℕ) ℕ) → Early (scanned f r)
early_scanned f (Err i) = omega arith
early_scanned f (Ok (h, w)) = early_greatest f h w

early_entries : (s : List ℕ) (f : Font) → Early (entries_of s f)
unfolding entries_of
early_entries s f = by f.kind
  where
    by : (k : Kind) → Early (kind_entries s f k)
    by Psf1 = tt
    by Psf2 = tt
    by Vfont2 = early_scanned f (scan_of s f.size f.entries f.count 0 0 0)

early_answered : (f : Font) (a : Result (Unit {0}) Fault) → Early (answered f a)
early_answered f (Ok tt) = tt
early_answered f (Err (Cut k g)) = omega arith
early_answered f (Err (Bad k g)) = omega arith
early_answered f (Err (Trailing k)) = omega arith

early_tailed : (s : List ℕ) (f : Font) → Early (tailed s f)
unfolding tailed bare_of
early_tailed s f = by f.table
  where
    by : (b : Bool) → Early (pick b (answered f (table_of (coding_of f.kind) f.count (tail_of s f))) (bare_of s f))
    by true = early_answered f (table_of (coding_of f.kind) f.count (tail_of s f))
    by false = or_else _ _ _ (omega arith) tt

early_body : (s : List ℕ) → Early (through_body s)
unfolding through_body
early_body s = or_else _ _ _ (omega arith) (early_then (says_of s) _ (early_says s) (early_sized (length s)))

pub early_check : (s : List ℕ) → Early (check_of s)
unfolding check_of through_entries
early_check s = early_then (and_then (through_body s) (entries_of s)) (tailed s) (early_then (through_body s) (entries_of s) (early_body s) (early_entries s)) (early_tailed s)

-- the close
early_kind : (f : Font) (x : Sums) (k : Kind) → Early (kind_told f x k)
early_kind f x Psf1 = tt
early_kind f x Psf2 = tt
early_kind f x Vfont2 = or_else _ _ _ (omega arith) (early_greatest f x.height x.width)

early_told : (f : Font) (x : Sums) → Early (entries_told f x)
unfolding entries_told
early_told f x = early_kind f x f.kind

early_tail : (f : Font) (n : ℕ) (t : Standing) → Early (tail_told f n t)
unfolding tail_told
early_tail f n t =
    or_else _ _ _ (or_else _ _ _ (omega arith) tt) (or_else _ _ _ (or_else _ _ _ (omega arith) tt) (or_else _ _ _ (omega arith) (omega arith)))

early_font : (f : Font) (l : Loader) → Early (font_told f l)
unfolding font_told
early_font f l = early_then (sized l.total f) _ (early_sized l.total f) (λ g. early_then (entries_told g l.sums) _ (early_told g l.sums) (λ k. early_tail k l.total l.standing))

pub early_answer : (l : Loader) → Early (answer_of l)
unfolding answer_of
early_answer l = or_else _ _ _ (omega arith) (or_else _ _ _ (early_check _) (early_then (says_of l.header) _ (early_says l.header) (λ f. early_font f l)))
