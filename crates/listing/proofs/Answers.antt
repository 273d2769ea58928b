-- What a listing answers and leaves: there is no room, or the text stands in front; and the text of each answer of the check.
use mathlib.Core.Path.{◌≡◌, refl, sym, ◌∙◌, ap, subst}
use mathlib.Core.Bool.{Bool, true, false}
use mathlib.Core.List.{List, [], ◌++◌}
use Prim.Native.Nat.{ℕ, ◌+◌, ◌-◌, ◌≤◌, ◌<◌}
use native.Mathlib.Omega.{arith}
use lib.ListN.{length, take, drop, length-append}
use lib.Seq.{take-append_seam}
use lib.Dec.{ltb}
use borrow.Author.Tests.{lt-ltb, le-ltb, ltb-false}
use Rattle.base.specs.Reading.{over, when}
use Rattle.refusal.specs.Meaning.{refusal}
use Rattle.refusal.specs.declared.Refusal.{Refusal}
use Rattle.refusal.specs.declared.Reason.TheVariants.{Room}
use Rattle.coding.specs.declared.Coding.{Coding}
use Rattle.header.specs.declared.Font.{Font}
use Rattle.stages.specs.Meaning.{coding_of, tail_of}
use Rattle.stages.specs.Reading.{check_of}
use Rattle.words.specs.Meaning.{big_text}
use Rattle.listing.specs.Meaning.{first_line}
use Rattle.listing.specs.Reading.{lines_text, font_text, answer_text, listing_of, listed_of, left_of}
use Rattle.lines.specs.Reading.{table_text}
use Rattle.std.specs.Prelude.{Result, Ok, Err}

-- what a call answers, and what it leaves where xs was
abbrev pub Lists : List ℕ → List ℕ → Result ℕ Refusal → List ℕ → Type 0
Lists text xs r w = (r ≡ listed_of text (length xs)) × (w ≡ left_of text xs)

module _ (text xs : List ℕ) (m : ℕ) (e : m ≡ length text) where
  pub no_room : length xs < m → Lists text xs (Err (refusal Room m)) xs
  unfolding listed_of left_of when
  no_room h = let k : length xs < length text = omega arith in (rw (lt-ltb (length xs) (length text) k, e), rw (lt-ltb (length xs) (length text) k))

  pub no_room_as : (r : Refusal) → length xs < m → r ≡ refusal Room m → Lists text xs (Err r) xs
  no_room_as r h q = subst (λ (x : Refusal). Lists text xs (Err x) xs) (sym q) (no_room h)

  pub wrote : m ≤ length xs → (w : List ℕ) → w ≡ over text xs → Lists text xs (Ok m) w
  unfolding listed_of left_of when
  wrote h w o = let k : length text ≤ length xs = omega arith in (rw (le-ltb (length xs) (length text) k, e), rw (le-ltb (length xs) (length text) k) o)

pub same_text : (t u xs : List ℕ) (r : Result ℕ Refusal) (w : List ℕ) → t ≡ u → Lists t xs r w → Lists u xs r w
same_text t u xs r w e l = (l.0 ∙ ap (λ (z : List ℕ). listed_of z (length xs)) e, l.1 ∙ ap (λ (z : List ℕ). left_of z xs) e)

-- a text is what stands in front
pub in_front : (p xs w : List ℕ) (n : ℕ) → n ≡ length p → w ≡ over p xs → take n w ≡ p
unfolding over
in_front p xs w n e o = rw (o, e) (take-append_seam p (drop (length p) xs))

module _ (s : List ℕ) (f : Font) where
  pub lines_table : f.table ≡ true → (c : Coding) → c ≡ coding_of f.kind → (tl : List ℕ) → tl ≡ tail_of s f → table_text c tl ≡ lines_text s f
  unfolding lines_text
  lines_table t c e tl l = rw (t, e, l)

  pub lines_bare : f.table ≡ false → lines_text s f ≡ []
  unfolding lines_text
  lines_bare t = rw t

  pub font_text_lem : font_text s f ≡ first_line f ++ lines_text s f
  unfolding font_text
  font_text_lem = refl

  pub font_length : (n m : ℕ) → n ≡ length (first_line f) → m ≡ length (lines_text s f) → n + m ≡ length (font_text s f)
  font_length n m e q = omega (arith, ap length font_text_lem, length-append (first_line f) (lines_text s f))

pub listing_big : (s : List ℕ) → 65536 < length s → big_text ≡ listing_of s
unfolding listing_of when
listing_big s h = rw (lt-ltb 65536 (length s) h)

pub listing_answer : (s : List ℕ) (a : Result Font Refusal) → length s ≤ 65536 → a ≡ check_of s → answer_text s a ≡ listing_of s
unfolding listing_of when
listing_answer s a h e = rw (le-ltb 65536 (length s) h, e)

-- what is written stands within the buffer
pub wrote_inside : (text : List ℕ) (room n : ℕ) → listed_of text room ≡ Ok n → n ≤ room
unfolding listed_of when
wrote_inside text room n e = go (ltb room (length text)) refl e
  where
    go : (t : Bool) → ltb room (length text) ≡ t → when t (Err (refusal Room (length text))) (Ok (length text)) ≡ Ok n → n ≤ room
    go true p q = let z : ◌≡◌ {A = ℕ} 0 1 = cc in absurd (omega arith)
    go false p q = let h : length text ≡ n = cc in let k = ltb-false room (length text) p in omega arith

-- and a buffer that is as long as the text is never refused: the text stands in front, and nothing behind it is changed
pub always_wrote : (text xs : List ℕ) → length text ≤ length xs → (listed_of text (length xs) ≡ Ok (length text)) × (left_of text xs ≡ over text xs)
always_wrote text xs h = let w = wrote text xs (length text) refl h (over text xs) refl in (sym w.0, sym w.1)
