-- The glyph of a refusal (document 02, W7). `TellsGlyph s r`: of all numbers the refusal r, on the file s, tells exactly the one that W7 asks for with its
-- number and place; these are the pages' before this one. Bytes s holds of any slice.
use mathlib.Core.Path.{◌≡◌, sym, ◌∙◌, subst}
use mathlib.Core.Logic.{◌↔◌}
use mathlib.Core.List.{List}
use Prim.Native.Nat.{ℕ}
use lib.ListN.{take}
use Rattle.base.specs.Meaning.{Bytes}
use Rattle.refusal.specs.Meaning.{no_glyph}
use Rattle.refusal.specs.declared.Refusal.{Refusal}
use Rattle.stages.specs.Reading.{check_of}
use Rattle.conversion.specs.declared.Conversion.{Conversion}
use Rattle.convert.specs.Reading.{converted_of}
use Rattle.edit.specs.Reading.{add_answer, drop_answer}
use Rattle.differences.specs.Reading.{compare_answer}
use Rattle.loader.specs.declared.Loader.{Loader}
use Rattle.loader.specs.Meaning.{together, fed_all}
use Rattle.loader.specs.Reading.{fresh_of, feed_answer, close_answer}
use Rattle.fonts.specs.Reading.{glyph_part_of, row_part_of, pixel_at, glyph_metrics_of, item_of, value_glyph, sequence_glyph}
use Rattle.laws.specs.Meaning.{TellsGlyph}
use Rattle.laws.proofs.Loading.{answer_is_check}
use Rattle.laws.proofs.Numbering.{tells, refusal_tells, check_numbered}
use Rattle.laws.proofs.Handing as handing
use Rattle.differences.specs.declared.Uncompared.TheVariants.{First, Second, Neither}
use Rattle.std.specs.Prelude.{Err}

module _ (s : List ℕ) (y : Bytes s) (r : Refusal) where
  -- the check
  pub check_glyph : check_of s ≡ Err r → TellsGlyph s r
  check_glyph = refusal_tells s r _ (check_numbered s y)

  -- bitmaps and metrics
  pub part_glyph : (g : ℕ) → glyph_part_of s g ≡ Err r → TellsGlyph s r
  part_glyph g = refusal_tells s r _ (handing.part_told s y g)

  pub row_glyph : (g i : ℕ) → row_part_of s g i ≡ Err r → TellsGlyph s r
  row_glyph g i = refusal_tells s r _ (handing.row_told s y g i)

  pub pixel_glyph : (g i j : ℕ) → pixel_at s g i j ≡ Err r → TellsGlyph s r
  pixel_glyph g i j = refusal_tells s r _ (handing.pixel_told s y g i j)

  pub metrics_glyph : (g : ℕ) → glyph_metrics_of s g ≡ Err r → TellsGlyph s r
  metrics_glyph g = refusal_tells s r _ (handing.metrics_told s y g)

  -- walks and lookups
  pub item_glyph : (g k : ℕ) → item_of s g k ≡ Err r → TellsGlyph s r
  item_glyph g k = refusal_tells s r _ (handing.item_told s y g k)

  pub value_glyph_lem : (v : ℕ) → value_glyph s v ≡ Err r → TellsGlyph s r
  value_glyph_lem v = refusal_tells s r _ (handing.value_told s y v)

  pub sequence_glyph_lem : (vs : List ℕ) → sequence_glyph s vs ≡ Err r → TellsGlyph s r
  sequence_glyph_lem vs = refusal_tells s r _ (handing.sequence_told s y vs)

  -- conversions, into a buffer of m bytes
  pub conversion_glyph : (c : Conversion) (m : ℕ) → converted_of c s m ≡ Err r → TellsGlyph s r
  conversion_glyph c m = refusal_tells s r _ (handing.conversion_told s y c m)

-- edits of a font in the first len bytes of a buffer
module _ (xs : List ℕ) (y : Bytes xs) (len g v : ℕ) (r : Refusal) where
  pub add_glyph : add_answer xs len g v ≡ Err r → TellsGlyph (take len xs) r
  add_glyph = refusal_tells (take len xs) r _ (handing.add_told xs y len g v)

  pub drop_glyph : drop_answer xs len g v ≡ Err r → TellsGlyph (take len xs) r
  drop_glyph = refusal_tells (take len xs) r _ (handing.drop_told xs y len g v)

-- a comparison, with a buffer of so many numbers: the first font's refusal, the second's, or ROOM
module _ (s o : List ℕ) (ys : Bytes s) (yo : Bytes o) (room : ℕ) (r : Refusal) where
  pub first_glyph : compare_answer s o room ≡ Err (First r) → TellsGlyph s r
  first_glyph e = tells s r (subst (handing.OfCompared s o) e (handing.compare_told s o ys yo room))

  pub second_glyph : compare_answer s o room ≡ Err (Second r) → TellsGlyph o r
  second_glyph e = tells o r (subst (handing.OfCompared s o) e (handing.compare_told s o ys yo room))

  pub neither_glyph : compare_answer s o room ≡ Err (Neither r) → r.glyph ≡ no_glyph
  neither_glyph e = subst (handing.OfCompared s o) e (handing.compare_told s o ys yo room)

-- "The whole-file check and the one fed by pieces agree on it": a refusal is the one's exactly when it is the other's, number, place and glyph
pub pieces_agree : (ps : List (List ℕ)) (r : Refusal) → (close_answer (fed_all fresh_of ps) ≡ Err r) ↔ (check_of (together ps) ≡ Err r)
pieces_agree ps r = (λ e. sym (answer_is_check ps) ∙ e, λ e. answer_is_check ps ∙ e)

-- and LATE, for a piece, names none
pub late_glyph : (l : Loader) (r : Refusal) → feed_answer l ≡ Err r → r.glyph ≡ no_glyph
late_glyph l r e = subst handing.OfReply e (handing.feed_told l)
