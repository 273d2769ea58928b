-- `words::put_refused` meets its contract: each part stands behind those before it. Assumes nothing.
use native.Mathlib.Omega.{arith}
use mathlib.Core.Path.{◌∙◌, ap, refl}
use mathlib.Core.List.{List, [], ◌∷◌, ◌++◌}
use Prim.Native.Nat.{ℕ}
use lib.ListN.{length}
use Rattle.text.proofs.Putting.{first_stands, behind_stands}
use Rattle.text.proofs.Digits.{number_21}
use Rattle.words.proofs.Words.{refused_text_lem}
use Rattle.text.specs.Meaning.{number_text}
use Rattle.base.specs.Reading.{over}
use Rattle.words.proofs.put_refused.Goals as goal

pub returns : goal.returns
returns c = let n1 = number_21 c.size.result 32 (omega arith) in let n2 = number_21 c.args.r.place 32 (omega arith) in let n3 = number_21 c.args.r.glyph 10 (omega arith) in
    let s1 = first_stands (114 ∷ 101 ∷ 102 ∷ 117 ∷ 115 ∷ 101 ∷ 100 ∷ 32 ∷ []) c.args.out.now c.put_text-a.new.out c.put_text-a.result (omega (arith, c.requires)) c.put_text-a.ensures in
    let s2 = behind_stands (114 ∷ 101 ∷ 102 ∷ 117 ∷ 115 ∷ 101 ∷ 100 ∷ 32 ∷ []) (number_text c.size.result 32) c.args.out.now _ _ s1 (omega (arith, c.requires, n1, c.put_text-a.ensures.0)) _ _ c.put_number.ensures in
    let s3 = behind_stands ((114 ∷ 101 ∷ 102 ∷ 117 ∷ 115 ∷ 101 ∷ 100 ∷ 32 ∷ []) ++ (number_text c.size.result 32)) (number_text c.args.r.place 32) c.args.out.now _ _ s2 (omega (arith, c.requires, n1, n2, c.put_text-a.ensures.0, c.put_number.ensures.0)) _ _ c.put_number-2.ensures in
    let s4 = behind_stands (((114 ∷ 101 ∷ 102 ∷ 117 ∷ 115 ∷ 101 ∷ 100 ∷ 32 ∷ []) ++ (number_text c.size.result 32)) ++ (number_text c.args.r.place 32)) (number_text c.args.r.glyph 10) c.args.out.now _ _ s3 (omega (arith, c.requires, n1, n2, n3, c.put_text-a.ensures.0, c.put_number.ensures.0, c.put_number-2.ensures.0)) _ _ c.put_number-3.ensures in
    let l = refused_text_lem c.args.r c.size.result c.args.r.place c.args.r.glyph (c.size.ensures ∙ c.number.ensures) refl refl in
    (s4.0 ∙ ap length l, s4.2 ∙ ap (λ (z : List ℕ). over z c.args.out.now) l, omega (arith, n1, n2, n3, c.put_text-a.ensures.0, c.put_number.ensures.0, c.put_number-2.ensures.0, c.put_number-3.ensures.0))
