-- The lines of the items of descriptions: for each its number, its singles, its sequences and a newline.
use mathlib.Core.Path.{◌≡◌, refl, sym, ◌∙◌, ap}
use mathlib.Core.Bool.{true, false}
use mathlib.Core.List.{List, [], ◌∷◌, ◌++◌, append_assoc}
use Prim.Native.Nat.{ℕ, ◌+◌}
use Rattle.table.specs.declared.Item.{Item}
use Rattle.table.specs.declared.Item.TheVariants.{Single, Start, Value, End}
use Rattle.table.specs.Meaning.{Seq, Desc, each, seqs, described, items}
use Rattle.lines.specs.Meaning.{singles_text, values_text, sequences_text, glyph_line, glyph_lines}
use Rattle.text.specs.Reading.{numeral}
use Rattle.lines.specs.Reading.{item_text, piece_of, lines_of}

module _ (g : ℕ) where
  -- the number stands in front of the first item
  numbered : (i : Item) (is : List Item) → lines_of g true (i ∷ is) ≡ numeral 10 g ++ lines_of g false (i ∷ is)
  unfolding lines_of piece_of
  numbered i is = append_assoc (numeral 10 g) (item_text i) _

  front : (vs : List ℕ) (qs : List Seq) (k : List Item) → lines_of g true (each Single vs (seqs qs (End ∷ k))) ≡ numeral 10 g ++ lines_of g false (each Single vs (seqs qs (End ∷ k)))
  front [] [] k = numbered End k
  front [] (q ∷ qs) k = numbered Start (Value q.first ∷ each Value q.others (seqs qs (End ∷ k)))
  front (v ∷ vs) qs k = numbered (Single v) (each Single vs (seqs qs (End ∷ k)))

  singles_lines : (vs : List ℕ) (k : List Item) → lines_of g false (each Single vs k) ≡ singles_text vs ++ lines_of g false k
  unfolding lines_of piece_of
  singles_lines [] k = refl
  singles_lines (v ∷ vs) k = ap (λ (z : List ℕ). 32 ∷ (numeral 16 v ++ z)) (singles_lines vs k) ∙ ap (λ (z : List ℕ). 32 ∷ z) (sym (append_assoc (numeral 16 v) (singles_text vs) (lines_of g false k)))

  values_lines : (vs : List ℕ) (k : List Item) → lines_of g false (each Value vs k) ≡ values_text vs ++ lines_of g false k
  unfolding lines_of piece_of
  values_lines [] k = refl
  values_lines (v ∷ vs) k = ap (λ (z : List ℕ). 43 ∷ (numeral 16 v ++ z)) (values_lines vs k) ∙ ap (λ (z : List ℕ). 43 ∷ z) (sym (append_assoc (numeral 16 v) (values_text vs) (lines_of g false k)))

  seqs_lines : (qs : List Seq) (k : List Item) → lines_of g false (seqs qs k) ≡ sequences_text qs ++ lines_of g false k
  unfolding lines_of piece_of
  seqs_lines [] k = refl
  seqs_lines (q ∷ qs) k =
      let us = q.first ∷ q.others in
      ap (λ (z : List ℕ). 32 ∷ z)
      (values_lines us (seqs qs k)
      ∙ ap (λ (z : List ℕ). values_text us ++ z) (seqs_lines qs k)
      ∙ sym (append_assoc (values_text us) (sequences_text qs) (lines_of g false k)))

  end_lines : (k : List Item) → lines_of g false (End ∷ k) ≡ (10 ∷ []) ++ lines_of (g + 1) true k
  unfolding lines_of piece_of
  end_lines k = refl

  moved : (a b d e x : List ℕ) → a ++ (b ++ (d ++ (e ++ x))) ≡ (a ++ (b ++ (d ++ e))) ++ x
  moved a b d e x = rw (append_assoc a (b ++ (d ++ e)) x, append_assoc b (d ++ e) x, append_assoc d e x)

  line : (d : Desc) (k : List Item) → lines_of g true (described d k) ≡ glyph_line g d ++ lines_of (g + 1) true k
  line d k =
      front d.singles d.sequences k
      ∙ ap (λ (z : List ℕ). numeral 10 g ++ z)
      (singles_lines d.singles (seqs d.sequences (End ∷ k))
      ∙ ap (λ (z : List ℕ). singles_text d.singles ++ z)
      (seqs_lines d.sequences (End ∷ k) ∙ ap (λ (z : List ℕ). sequences_text d.sequences ++ z) (end_lines k)))
      ∙ moved (numeral 10 g) (singles_text d.singles) (sequences_text d.sequences) (10 ∷ []) (lines_of (g + 1) true k)

pub lines_of_lem : (g : ℕ) (ds : List Desc) → lines_of g true (items ds) ≡ glyph_lines g ds
unfolding lines_of
lines_of_lem g [] = refl
lines_of_lem g (d ∷ ds) = line g d (items ds) ∙ ap (λ (z : List ℕ). glyph_line g d ++ z) (lines_of_lem (g + 1) ds)
