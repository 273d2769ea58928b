-- The cases of a conversion's answer and of what it leaves in the buffer, and the parts of its output.
use mathlib.Core.Path.{◌≡◌, refl, sym, ◌∙◌, ap}
use mathlib.Core.List.{List, ◌++◌}
use mathlib.Core.Bool.{Bool}
use Prim.Native.Nat.{ℕ, ◌+◌, ◌-◌, ◌*◌, ◌≤◌, ◌<◌}
use native.Mathlib.Omega.{arith}
use lib.ListN.{length, take, drop, length-append}
use borrow.Author.Tests.{lt-ltb, le-ltb}
use Rattle.base.specs.Reading.{when, over}
use Rattle.base.proofs.Parts.{rest_all}
use Rattle.refusal.specs.Meaning.{refusal}
use Rattle.refusal.specs.declared.Refusal.{Refusal}
use Rattle.refusal.specs.declared.Reason.TheVariants.{Room}
use Rattle.header.specs.declared.Kind.{Kind}
use Rattle.header.specs.declared.Kind.TheVariants.{Psf1, Psf2, Vfont2}
use Rattle.header.specs.declared.Font.{Font}
use Rattle.header.specs.Meaning.{char_size, header_len, entry_len}
use Rattle.header.specs.Reading.{header_bytes}
use Rattle.header.proofs.Written.{header_length}
use Rattle.layout.specs.Reading.{dispatch_bytes, field_at20, font_bytes, glyphs_in, evenly}
use Rattle.layout.proofs.Parts.{dispatch_length, evenly_length}
use Rattle.stages.specs.Meaning.{tail_of}
use Rattle.conversion.specs.declared.Conversion.{Conversion}
use Rattle.conversion.specs.Meaning.{target_kind}
use Rattle.conversion.specs.Reading.{table_in, output_of, prepared_of}
use Rattle.convert.specs.Reading.{converted_of, converted_into}
use Rattle.std.specs.Prelude.{Ok, Err}

-- a refused font
module _ (c : Conversion) (s xs : List ℕ) where
  pub unprepared : (r : Refusal) → prepared_of c s ≡ Err r → (Err r ≡ converted_of c s (length xs)) × (xs ≡ converted_into c s xs)
  unfolding converted_of converted_into
  unprepared r e = (rw e, rw e)

  module _ (f : Font) (n : ℕ) (e : prepared_of c s ≡ Ok (f, n)) where
    pub no_room : length xs < n → (Err (refusal Room n) ≡ converted_of c s (length xs)) × (xs ≡ converted_into c s xs)
    unfolding converted_of converted_into when
    no_room h = (rw (e, lt-ltb (length xs) n h), rw (e, lt-ltb (length xs) n h))

    pub wrote : n ≤ length xs → (Ok n ≡ converted_of c s (length xs)) × (over (output_of c s f) xs ≡ converted_into c s xs)
    unfolding converted_of converted_into when
    wrote h = (rw (e, le-ltb (length xs) n h), rw (e, le-ltb (length xs) n h))

-- the number at 20, as it was worked out
pub field_is : (k : Kind) (n z v : ℕ) (b : List ℕ) → length b ≡ n * z → (k ≡ Vfont2 → v ≡ n * z) → ((k ≡ Vfont2 → ⊥) → v ≡ z) → v ≡ field_at20 k z b
field_is Psf1 n z v b l e g = g (λ q. let x : ◌≡◌ {A = ℕ} 0 1 = cc in absurd (omega arith))
field_is Psf2 n z v b l e g = g (λ q. let x : ◌≡◌ {A = ℕ} 0 1 = cc in absurd (omega arith))
field_is Vfont2 n z v b l e g = e refl ∙ sym l

-- the parts of an output, with the kind, the size and the number at 20 as they were worked out
pub output_is : (c : Conversion) (s : List ℕ) (f : Font) (k : Kind) (z v : ℕ) → k ≡ target_kind c → z ≡ char_size f → v ≡ field_at20 k z (glyphs_in s f) →
    header_bytes k f.table f.count v f.height f.width ++ dispatch_bytes k z f.height f.width (evenly z 0 f.count) ++ glyphs_in s f ++ table_in c (tail_of s f)
    ≡ output_of c s f
unfolding output_of font_bytes
output_is c s f k z v ek ez ev =
    (λ i. header_bytes k f.table f.count (ev i) f.height f.width ++ dispatch_bytes k z f.height f.width (evenly z 0 f.count) ++ glyphs_in s f ++ table_in c (tail_of s f))
    ∙ (λ i. header_bytes (ek i) f.table f.count (field_at20 (ek i) (ez i) (glyphs_in s f)) f.height f.width ++ dispatch_bytes (ek i) (ez i) f.height f.width (evenly (ez i) 0 f.count) ++ glyphs_in s f ++ table_in c (tail_of s f))

-- where each part ends
module _ (k : Kind) (t : Bool) (n z v h w : ℕ) where
  pub entries_end : length (header_bytes k t n v h w ++ dispatch_bytes k z h w (evenly z 0 n)) ≡ header_len k + n * entry_len k
  entries_end =
      let p = header_bytes k t n v h w in
      let q = dispatch_bytes k z h w (evenly z 0 n) in
      length-append p q ∙ (λ i. header_length k t n v h w i + (dispatch_length k z h w (evenly z 0 n) ∙ ap (λ (x : ℕ). x * entry_len k) (evenly_length z 0 n)) i)

  pub bitmaps_end : (b : List ℕ) → length b ≡ n * z → length (header_bytes k t n v h w ++ dispatch_bytes k z h w (evenly z 0 n) ++ b) ≡ header_len k + n * entry_len k + n * z
  bitmaps_end b l = length-append (header_bytes k t n v h w ++ dispatch_bytes k z h w (evenly z 0 n)) b ∙ (λ i. entries_end i + l i)

-- the table, by the conversion
pub table_by : (d c : Conversion) (t : List ℕ) → c ≡ d → table_in d t ≡ table_in c t
table_by d c t e = rw e

-- a kind that is not vfont2
pub no_vfont2 : {A : Type 0} (k j : Kind) → k ≡ j → k ≡ Vfont2 → (j ≡ Vfont2 → ⊥) → A
no_vfont2 k j e q n = absurd (n (sym e ∙ q))

-- the table that a part of the file is
pub part_table : (c : Conversion) (s : List ℕ) (e : ℕ) (ys m : List ℕ) → ys ≡ over (table_in c (take (length s - e) (drop e s))) m → ys ≡ over (table_in c (drop e s)) m
part_table c s e ys m q = q ∙ ap (λ (t : List ℕ). over (table_in c t) m) (rest_all s e)
