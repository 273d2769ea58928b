-- The step that a coding's own token makes, and the one that a first byte decides in UTF-8.
use mathlib.Core.Path.{◌≡◌, refl, sym, ◌∙◌, ap, subst}
use mathlib.Core.List.{List, ◌∷◌}
use Prim.Native.Nat.{ℕ, suc, ◌+◌, ◌-◌, ◌<◌}
use native.Mathlib.Omega.{arith}
use lib.ListN.{length, get_or, take, drop}
use lib.Seq.{drop-cons}
use Rattle.base.proofs.Parts.{rest_all}
use Rattle.utf8.specs.Reading.{read_value, as_token, read_utf8}
use Rattle.utf8.proofs.First.{ascii, as_start, as_end, no_mark}
use Rattle.ucs2.specs.Reading.{read_ucs2}
use Rattle.coding.specs.declared.Coding.{Coding}
use Rattle.coding.specs.declared.Coding.TheVariants.{Utf8, Ucs2}
use Rattle.coding.specs.Reading.{read_token}
use Rattle.table.specs.Reading.{step_of, step_at}
use Rattle.table.specs.Bounds.{StepFits, StepSays}
use Rattle.table.proofs.Stepping.{token_says}
use Rattle.std.specs.Prelude.{Result, Ok, Err}
use Rattle.token.specs.declared.Malformed.{Malformed}
use Rattle.token.specs.declared.Token.TheVariants.{Value as TokenValue, Start as TokenStart, End as TokenEnd}
use Rattle.token.specs.declared.Token.{Token}
use Rattle.token.specs.declared.Malformed.TheVariants.{Cut, Bad}
use Rattle.token.specs.Reading.{Step}

-- what a step at a place is to be: the defined one, and what it says
abbrev pub Stepped : Coding → List ℕ → ℕ → Step → Type 0
Stepped c s i x = (x ≡ step_at c s i) × StepSays c s i x

pub stepped : (c : Coding) (s : List ℕ) (i : ℕ) (r x : Step) → r ≡ x → Stepped c s i x → Stepped c s i r
stepped c s i r x e p = subst (Stepped c s i) (sym e) p

-- the place after a step is within the list, so it is a number of the machine
pub fits : (c : Coding) (s : List ℕ) (i : ℕ) (x : Step) → length s < 18446744073709551616 → StepSays c s i x → StepFits x
fits c s i (Ok (t, next)) h w = omega (arith, w.1)
fits c s i (Err Cut) h w = tt
fits c s i (Err (Bad k)) h w = omega (arith, w.1)

utf8_token : (s : List ℕ) → read_utf8 s ≡ read_token Utf8 s
unfolding read_token
utf8_token s = refl

ucs2_token : (s : List ℕ) → read_ucs2 s ≡ read_token Ucs2 s
unfolding read_token
ucs2_token s = refl

module _ (s : List ℕ) (i : ℕ) (h : i < length s) where
  pub ucs2_step : (t : Step) → t ≡ read_ucs2 (take (length s - i) (drop i s)) → Stepped Ucs2 s i (step_of i t)
  ucs2_step t e = token_says Ucs2 s i h t (e ∙ ap read_ucs2 (rest_all s i) ∙ ucs2_token (drop i s))

  -- the byte stands in front of the list from its place on
  here : (t : Step) → t ≡ read_utf8 (get_or s i 0 ∷ drop (suc i) s) → Stepped Utf8 s i (step_of i t)
  here t e = token_says Utf8 s i h t (e ∙ ap read_utf8 (sym (drop-cons s i 0 h)) ∙ utf8_token (drop i s))

  -- a byte that is no mark begins a value
  pub value_step : (get_or s i 0 ≡ 254 → ⊥) → (get_or s i 0 ≡ 255 → ⊥) → (r : Result (ℕ × ℕ) Malformed) → r ≡ read_value (take (length s - i) (drop i s)) → Stepped Utf8 s i (step_of i (as_token r))
  value_step a b r e =
      here (as_token r)
      (ap as_token (e ∙ ap read_value (rest_all s i ∙ drop-cons s i 0 h)) ∙ no_mark (get_or s i 0 ∷ drop (suc i) s) (omega arith) a b)

  pub first_one : get_or s i 0 < 128 → (v : ℕ) → v ≡ get_or s i 0 → Stepped Utf8 s i (Ok (TokenValue v, (i + 1)))
  first_one k v e = rw e (here (Ok (TokenValue (get_or s i 0), 1)) (ascii (get_or s i 0 ∷ drop (suc i) s) (omega arith) k))

  pub first_end : get_or s i 0 ≡ 255 → Stepped Utf8 s i (Ok (TokenEnd, (i + 1)))
  first_end e = here (Ok (TokenEnd, 1)) (as_end (get_or s i 0 ∷ drop (suc i) s) (omega arith) (λ z. absurd (omega arith)) e)

  pub first_start : get_or s i 0 ≡ 254 → Stepped Utf8 s i (Ok (TokenStart, (i + 1)))
  first_start e = here (Ok (TokenStart, 1)) (as_start (get_or s i 0 ∷ drop (suc i) s) (omega arith) e)
