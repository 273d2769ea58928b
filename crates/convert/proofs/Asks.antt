-- A font that a conversion is ready for is all that its writer asks for.
use mathlib.Core.Path.{◌≡◌, refl, sym, ◌∙◌, ap, subst}
use mathlib.Core.List.{List}
use Prim.Native.Nat.{ℕ, ◌+◌, ◌*◌, ◌≤◌, ◌<◌}
use native.Mathlib.Omega.{arith}
use lib.ListN.{length}
use Rattle.base.specs.Meaning.{Bytes}
use Rattle.coding.specs.declared.Coding.TheVariants.{Utf8, Ucs2}
use Rattle.transcode.proofs.Measuring.{length_recoded}
use Rattle.header.specs.declared.Kind.TheVariants.{Vfont2}
use Rattle.header.specs.declared.Font.{Font}
use Rattle.header.specs.Bounds.{Placed}
use Rattle.entries.specs.Meaning.{entry_at, address_at}
use Rattle.layout.specs.Reading.{glyphs_in}
use Rattle.header.specs.Meaning.{char_size}
use Rattle.stages.specs.Meaning.{tail_of}
use Rattle.content.proofs.Evens.{even_metrics_lem}
use Rattle.content.proofs.Shapes.{AllEven}
use Rattle.content.proofs.Source.{is_placed, source_length, entry_stands}
use Rattle.conversion.specs.declared.Conversion.{Conversion}
use Rattle.conversion.specs.declared.Conversion.TheVariants.{Psf1ToPsf2, Psf2ToPsf1, Psf2ToVfont2, Vfont2ToPsf2}
use Rattle.conversion.specs.Meaning.{source_kind, front_len}
use Rattle.conversion.specs.Reading.{table_in, measured_of, prepared_of}
use Rattle.conversion.proofs.Cases.{measured_is, suits_is}
use Rattle.conversion.proofs.Ready.{Known, known, even_fields, all_even}
use Rattle.std.specs.Prelude.{Ok}

-- the table's length is the one that was measured
pub measured_length : (c : Conversion) (tl : List ℕ) (t : ℕ) → measured_of c tl ≡ Ok t → t ≡ length (table_in c tl)
measured_length Psf1ToPsf2 tl t e = length_recoded Ucs2 Utf8 tl t (measured_is Psf1ToPsf2 Psf1ToPsf2 tl refl ∙ e)
measured_length Psf2ToPsf1 tl t e = length_recoded Utf8 Ucs2 tl t (measured_is Psf2ToPsf1 Psf2ToPsf1 tl refl ∙ e)
measured_length Psf2ToVfont2 tl t e = let q : Ok (length tl) ≡ Ok t = measured_is Psf2ToVfont2 Psf2ToVfont2 tl refl ∙ e in let h : length tl ≡ t = cc in sym h
measured_length Vfont2ToPsf2 tl t e = let q : Ok (length tl) ≡ Ok t = measured_is Vfont2ToPsf2 Vfont2ToPsf2 tl refl ∙ e in let h : length tl ≡ t = cc in sym h

module _ (c : Conversion) (s : List ℕ) (f : Font) (n : ℕ) (y : Bytes s) (e : prepared_of c s ≡ Ok (f, n)) where
  pub ready : Known c s f n
  ready = known c s f n e

  -- its parts stand in the file
  pub ready_placed : Placed s f
  ready_placed = is_placed s f y ready.sound

  -- its glyphs all have its height and width
  pub ready_even : AllEven s f f.kind
  ready_even = subst (AllEven s f) (sym ready.kind) (by c refl)
    where
      by : (d : Conversion) → c ≡ d → AllEven s f (source_kind c)
      by Psf1ToPsf2 q = subst (λ (x : Conversion). AllEven s f (source_kind x)) (sym q) tt
      by Psf2ToPsf1 q = subst (λ (x : Conversion). AllEven s f (source_kind x)) (sym q) tt
      by Psf2ToVfont2 q = subst (λ (x : Conversion). AllEven s f (source_kind x)) (sym q) tt
      by Vfont2ToPsf2 q =
          let u = suits_is Vfont2ToPsf2 c s f q ∙ (known c s f n e).suits in
          let p = is_placed s f y (known c s f n e).sound in
          subst (λ (x : Conversion). AllEven s f (source_kind x)) (sym q)
          (λ i l.
          let w = even_fields s f.height f.width (entry_at f.entries i) (all_even s f u i l) in
          (w.0, even_metrics_lem s f.height f.width (entry_at f.entries i) (omega (arith, p.3)) (omega (arith, p.4)) w))

  pub ready_length : length (glyphs_in s f) ≡ f.count * char_size f
  ready_length = source_length s f y ready.sound ready_even

  pub ready_stands : f.kind ≡ Vfont2 → (i : ℕ) → i < f.count → f.bitmaps + address_at s (entry_at f.entries i) + char_size f ≤ length s
  ready_stands q i l = entry_stands s f y ready.sound q i l (subst (AllEven s f) q ready_even i l)

  -- its table is carried, and its output has the length that is told
  pub ready_table : measured_of c (tail_of s f) ≡ Ok (length (table_in c (tail_of s f)))
  ready_table = ready.measured ∙ ap Ok (measured_length c (tail_of s f) ready.table ready.measured)

  pub ready_long : n ≡ front_len c f + length (table_in c (tail_of s f))
  ready_long = ready.long ∙ ap (λ (x : ℕ). front_len c f + x) (measured_length c (tail_of s f) ready.table ready.measured)
