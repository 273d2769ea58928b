-- What plainly stands at a place, and why a table is refused there, by what the readers of the codings say.
use mathlib.Core.Path.{◌≡◌, refl, sym, ◌∙◌, ap, subst}
use mathlib.Core.Bool.{Bool, true, false}
use mathlib.Core.Logic.{◌⊎◌, inl, inr}
use mathlib.Core.List.{List, [], ◌∷◌}
use Prim.Native.Nat.{ℕ, suc, ◌+◌, ◌-◌, ◌*◌, ◌≤◌, ◌<◌}
use native.Mathlib.Omega.{arith}
use lib.ListN.{length, get_or, drop, length-drop, drop_of_length-le}
use lib.Seq.{drop-cons}
use lib.Dec.{eqb, ltb}
use borrow.Author.Tests.{eq-eqb, ne_eqb}
use Rattle.base.specs.Meaning.{pick}
use Rattle.base.proofs.Parts.{rest_all}
use Rattle.base.proofs.Tests.{by_test, below, same}
use Rattle.utf8.specs.Reading.{read_value, as_token, plain_len}
use Rattle.utf8.proofs.Plain.{mark_bad, key_itself}
use Rattle.ucs2.specs.Reading.{is_word, read_ucs2}
use Rattle.coding.specs.declared.Coding.{Coding}
use Rattle.coding.specs.declared.Coding.TheVariants.{Utf8, Ucs2}
use Rattle.coding.specs.Reading.{key_of, mark_len, read_token}
use Rattle.coding.proofs.Written.{utf8_key_lem}
use Rattle.table.specs.declared.Plain.{Plain}
use Rattle.table.specs.declared.Plain.TheVariants.{Value as PlainValue, Other}
use Rattle.table.specs.Reading.{step_of, step_at}
use Rattle.table.specs.Bounds.{StepSays}
use Rattle.table.specs.Skipping.{plain_of, NoValue, refused_of}
use Rattle.table.proofs.Firsts.{Stepped, value_step, first_start, first_end}
use Rattle.table.proofs.Stepping.{past_end}
use Rattle.std.specs.Prelude.{Option, None, Some, Result, Ok, Err}
use Rattle.table.specs.declared.Fault.{Fault}
use Rattle.table.specs.declared.Fault.TheVariants.{Cut as TableCut, Bad as TableBad}
use Rattle.token.specs.declared.Malformed.{Malformed}
use Rattle.token.specs.declared.Malformed.TheVariants.{Cut, Bad}
use Rattle.token.specs.declared.Token.TheVariants.{Value as TokenValue, Start as TokenStart, End as TokenEnd}
use Rattle.token.specs.Reading.{Step}

-- what plainly stands at a place is to be: the defined one, with what the step there says
abbrev pub Plained : Coding → ℕ → List ℕ → ℕ → Plain → Type 0
Plained c k s i r = (r ≡ plain_of c k (step_at c s i)) × StepSays c s i (step_at c s i)

pub plained : (c : Coding) (k : ℕ) (s : List ℕ) (i : ℕ) (x : Step) (r : Plain) → Stepped c s i x → r ≡ plain_of c k x → Plained c k s i r
plained c k s i x r w e = subst (λ (y : Step). (r ≡ plain_of c k y) × StepSays c s i y) w.0 (e, w.1)

-- a value by its key
module _ (k next : ℕ) where
  pub with_key : (c : Coding) (v : ℕ) → key_of c v ≡ k → Other ≡ plain_of c k (Ok (TokenValue v, next))
  with_key c v e = rw (eq-eqb (key_of c v) k e)

  pub without_key : (c : Coding) (v : ℕ) → (key_of c v ≡ k → ⊥) → PlainValue next ≡ plain_of c k (Ok (TokenValue v, next))
  without_key c v e = rw (ne_eqb (key_of c v) k e)

-- a value of one byte is its own key
pub one_key : (v : ℕ) → v < 0x80 → key_of Utf8 v ≡ v
one_key v h = sym (key_itself v h ∙ utf8_key_lem Utf8 v refl)

-- a longer value of UTF-8, by its plain length
abbrev plain_by : ℕ → Option ℕ → Plain
plain_by i None = Other
plain_by i (Some l) = PlainValue (i + l)

module _ (s : List ℕ) (i k : ℕ) where
  by_length : (r : Result (ℕ × ℕ) Malformed) → plain_by i (plain_len k r) ≡ plain_of Utf8 k (step_of i (as_token r))
  by_length (Ok (v, m)) = rw (utf8_key_lem Utf8 v refl) (go (eqb (key_of Utf8 v) k))
    where
      go : (t : Bool) → plain_by i (pick t None (Some m)) ≡ pick t Other (PlainValue (i + m))
      go true = refl
      go false = refl
  by_length (Err Cut) = refl
  by_length (Err (Bad j)) = refl

  module _ (h : i < length s) (a : get_or s i 0 ≡ 254 → ⊥) (b : get_or s i 0 ≡ 255 → ⊥) (o : Option ℕ) (e : o ≡ plain_len k (read_value (drop i s))) where
    stepped_value : Stepped Utf8 s i (step_of i (as_token (read_value (drop i s))))
    stepped_value = value_step s i h a b (read_value (drop i s)) (ap read_value (sym (rest_all s i)))

    pub length_none : o ≡ None → Plained Utf8 k s i Other
    length_none z = plained Utf8 k s i _ Other stepped_value (ap (plain_by i) (sym z ∙ e) ∙ by_length (read_value (drop i s)))

    pub length_some : (l : ℕ) → o ≡ Some l → Plained Utf8 k s i (PlainValue (i + l))
    length_some l z = plained Utf8 k s i _ (PlainValue (i + l)) stepped_value (ap (plain_by i) (sym z ∙ e) ∙ by_length (read_value (drop i s)))

-- why a table is refused, by what the reader of a value says
abbrev pub said : ℕ → ℕ → ℕ → Result (ℕ × ℕ) Malformed → Result (Unit {0}) Fault
said e g i (Ok (v, l)) = Ok tt
said e g i (Err Cut) = Err (TableCut e g)
said e g i (Err (Bad k)) = Err (TableBad (i + k) g)

module _ (e g i : ℕ) where
  said_so : (r : Result (ℕ × ℕ) Malformed) → NoValue (step_of i (as_token r)) → said e g i r ≡ refused_of e g (step_of i (as_token r))
  said_so (Ok (v, l)) n = absurd n
  said_so (Err Cut) n = refl
  said_so (Err (Bad k)) n = refl

  -- a mark is bad at its only byte
  mark_said : (r : Result (ℕ × ℕ) Malformed) (x : Step) → r ≡ Err (Bad 0) → Err (TableBad (i + 1 - 1) g) ≡ refused_of e g x → said e g i r ≡ refused_of e g x
  mark_said r x q f = let z : i + 0 ≡ i + 1 - 1 = omega arith in rw q (ap (λ (j : ℕ). Err (TableBad j g)) z ∙ f)

module _ (s : List ℕ) (g i : ℕ) (n : NoValue (step_at Utf8 s i)) where
  utf8_within : i < length s → said (length s) g i (read_value (drop i s)) ≡ refused_of (length s) g (step_at Utf8 s i)
  utf8_within h = by_mark (same (get_or s i 0) 254) (same (get_or s i 0) 255)
    where
      mark : (get_or s i 0 ≡ 254) ⊎ (get_or s i 0 ≡ 255) → read_value (drop i s) ≡ Err (Bad 0)
      mark (inl q) = rw (drop-cons s i 0 h) (mark_bad (get_or s i 0 ∷ drop (suc i) s) (omega arith) 254 q (omega arith) (omega arith))
      mark (inr q) = rw (drop-cons s i 0 h) (mark_bad (get_or s i 0 ∷ drop (suc i) s) (omega arith) 255 q (omega arith) (omega arith))

      by_mark : (get_or s i 0 ≡ 254) ⊎ (get_or s i 0 ≡ 254 → ⊥) → (get_or s i 0 ≡ 255) ⊎ (get_or s i 0 ≡ 255 → ⊥) → said (length s) g i (read_value (drop i s)) ≡ refused_of (length s) g (step_at Utf8 s i)
      by_mark (inl q) d = mark_said (length s) g i _ (step_at Utf8 s i) (mark (inl q)) (ap (refused_of (length s) g) (first_start s i h q).0)
      by_mark (inr a) (inl q) = mark_said (length s) g i _ (step_at Utf8 s i) (mark (inr q)) (ap (refused_of (length s) g) (first_end s i h q).0)
      by_mark (inr a) (inr b) =
          let w = value_step s i h a b (read_value (drop i s)) (ap read_value (sym (rest_all s i))) in
          said_so (length s) g i (read_value (drop i s)) (subst NoValue (sym w.0) n) ∙ ap (refused_of (length s) g) w.0

  pub utf8_said : i ≤ length s → said (length s) g i (read_value (drop i s)) ≡ refused_of (length s) g (step_at Utf8 s i)
  unfolding read_value
  utf8_said h = go (below i (length s))
    where
      go : (i < length s) ⊎ (length s ≤ i) → said (length s) g i (read_value (drop i s)) ≡ refused_of (length s) g (step_at Utf8 s i)
      go (inl l) = utf8_within l
      go (inr l) = ap (λ (t : List ℕ). said (length s) g i (read_value t)) (drop_of_length-le s l) ∙ ap (refused_of (length s) g) (past_end Utf8 s i l).0

-- a token of two bytes that is no value: cut where one is missing, else bad at the second
abbrev InTwo : Step → Type 0
InTwo (Ok (TokenValue v, l)) = Unit {0}
InTwo (Ok (TokenStart, l)) = l ≡ 2
InTwo (Ok (TokenEnd, l)) = l ≡ 2
InTwo (Err Cut) = ⊥
InTwo (Err (Bad k)) = k ≡ 1

in_two : (s : List ℕ) → 2 ≤ length s → InTwo (read_ucs2 s)
unfolding read_ucs2
in_two [] h = absurd (omega arith)
in_two (a ∷ []) h = absurd (omega arith)
in_two (a ∷ (b ∷ s)) h =
    by_test InTwo (is_word (a + 256 * b)) _ _ (λ _. tt) (λ _.
    by_test InTwo (ltb (a + 256 * b) 0xFFFE) _ _ (λ _. refl) (λ _.
    by_test InTwo (eqb (a + 256 * b) 0xFFFE) _ _ (λ _. refl) (λ _. refl)))

in_one : (s : List ℕ) → length s < 2 → read_ucs2 s ≡ Err Cut
unfolding read_ucs2
in_one [] h = refl
in_one (a ∷ []) h = refl
in_one (a ∷ (b ∷ s)) h = absurd (omega arith)

module _ (s : List ℕ) (g i : ℕ) where
  pub ucs2_cut : length s - i < 2 → Err (TableCut (length s) g) ≡ refused_of (length s) g (step_at Ucs2 s i)
  unfolding read_token
  ucs2_cut h = let n = length-drop i s in rw (in_one (drop i s) (omega arith))

  pub ucs2_bad : 2 ≤ length s - i → NoValue (step_at Ucs2 s i) → Err (TableBad (i + 1) g) ≡ refused_of (length s) g (step_at Ucs2 s i)
  unfolding read_token
  ucs2_bad h n = let m = length-drop i s in go (read_ucs2 (drop i s)) (in_two (drop i s) (omega arith)) n
    where
      go : (t : Step) → InTwo t → NoValue (step_of i t) → Err (TableBad (i + 1) g) ≡ refused_of (length s) g (step_of i t)
      go (Ok (TokenValue v, l)) w n = absurd n
      go (Ok (TokenStart, l)) w n = let z : i + 1 ≡ i + l - 1 = omega arith in ap (λ (j : ℕ). Err (TableBad j g)) z
      go (Ok (TokenEnd, l)) w n = let z : i + 1 ≡ i + l - 1 = omega arith in ap (λ (j : ℕ). Err (TableBad j g)) z
      go (Err Cut) w n = absurd w
      go (Err (Bad k)) w n = rw w
