-- The glyph that a refusal of the check tells: so many descriptions are complete in front of its place, and not one more.
use mathlib.Core.Path.{◌≡◌, refl, sym, ◌∙◌, ap, subst}
use mathlib.Core.Bool.{Bool, true, false}
use mathlib.Core.Logic.{◌⊎◌, inl, inr}
use mathlib.Core.List.{List, [], ◌∷◌, ◌++◌}
use Prim.Native.Nat.{ℕ, zero, suc, ◌+◌, ◌-◌, ◌≤◌, ◌<◌}
use native.Mathlib.Omega.{arith}
use lib.ListN.{length, take, length-append, length-take}
use lib.Seq.{take_at, take-take, take_all, take-length, length-take-le}
use Rattle.base.specs.Meaning.{Bytes}
use Rattle.base.proofs.Tests.{below}
use Rattle.coding.specs.declared.Coding.{Coding}
use Rattle.table.specs.declared.Item.{Item}
use Rattle.table.specs.Meaning.{Desc, items, bytes, OfCoding, encode, start_of, Readable, IsTable, Completable, Unfinished, BadAt, InGlyph}
use Rattle.table.specs.Reading.{ends_in, steps_from, check_steps, table_of}
use Rattle.table.proofs.EndToEnd.{bytes_of_append, items_append, encode_append, of_append, of_left, start_before, readable_before}
use Rattle.table.proofs.Reading.{items_bytes}
use Rattle.table.proofs.Places.{complete_table, table_complete, cut_short, short_cut, bad_broken, broken_bad, trailing_over, over_trailing, cut_before}
use Rattle.table.proofs.Answers.{same_cut}
use Rattle.std.specs.Prelude.{Result, Ok, Err}
use Rattle.table.specs.declared.Fault.{Fault}
use Rattle.table.specs.declared.Fault.TheVariants.{Cut as TableCut, Bad as TableBad, Trailing}
use Rattle.token.specs.declared.Token.TheVariants.{Value as TokenValue, Start as TokenStart, End as TokenEnd}
use Rattle.token.specs.declared.Malformed.TheVariants.{Cut, Bad}
use Rattle.token.specs.Reading.{Step}

-- an answer that tells glyph h
abbrev pub Tells : ℕ → Result (Unit {0}) Fault → Type 0
Tells h (Ok tt) = ⊥
Tells h (Err (TableCut k g)) = g ≡ h
Tells h (Err (TableBad k g)) = g ≡ h
Tells h (Err (Trailing k)) = ⊥

-- an answer that comes with no description left
abbrev Ended : Result (Unit {0}) Fault → Type 0
Ended (Ok tt) = Unit {0}
Ended (Err (TableCut k g)) = ⊥
Ended (Err (TableBad k g)) = ⊥
Ended (Err (Trailing k)) = Unit {0}

-- the same steps with another number of descriptions to end: beyond glyph h it makes no difference, and with no more than those
-- before it the check ends there
record Alike (xs : List Step) (e g n : ℕ) (o : Bool) (at h : ℕ) : Type 0 where
  from : g ≤ h
  short : h < g + n
  beyond : (m : ℕ) → h < g + m → check_steps e g m o at xs ≡ check_steps e g n o at xs
  before : (m : ℕ) → h ≡ g + m → Ended (check_steps e g m o at xs)

-- a step that stops the check in description g
stops : (xs : List Step) (e g n : ℕ) (o : Bool) (at h : ℕ) → g ≡ h → Ended (check_steps e g zero o at xs) →
    ((m : ℕ) → check_steps e g (suc m) o at xs ≡ check_steps e g (suc n) o at xs) → Alike xs e g (suc n) o at h
stops xs e g n o at h q z f = record { from = omega arith; short = omega arith; beyond = beyond'; before = before' }
  where
    beyond' : (m : ℕ) → h < g + m → check_steps e g m o at xs ≡ check_steps e g (suc n) o at xs
    beyond' zero l = absurd (omega arith)
    beyond' (suc m) l = f m

    before' : (m : ℕ) → h ≡ g + m → Ended (check_steps e g m o at xs)
    before' zero l = z
    before' (suc m) l = absurd (omega arith)

-- a step inside description g
stays : (x : Step) (xs : List Step) (e g n : ℕ) (o o' : Bool) (at next h : ℕ) → Ended (check_steps e g zero o at (x ∷ xs)) →
    ((m : ℕ) → check_steps e g (suc m) o at (x ∷ xs) ≡ check_steps e g (suc m) o' next xs) → Alike xs e g (suc n) o' next h → Alike (x ∷ xs) e g (suc n) o at h
stays x xs e g n o o' at next h z f r = record { from = r.from; short = r.short; beyond = beyond'; before = before' }
  where
    beyond' : (m : ℕ) → h < g + m → check_steps e g m o at (x ∷ xs) ≡ check_steps e g (suc n) o at (x ∷ xs)
    beyond' zero l = absurd (omega (arith, r.from))
    beyond' (suc m) l = f m ∙ r.beyond (suc m) l ∙ sym (f n)

    before' : (m : ℕ) → h ≡ g + m → Ended (check_steps e g m o at (x ∷ xs))
    before' zero l = z
    before' (suc m) l = subst Ended (sym (f m)) (r.before (suc m) l)

-- an end mark
ends : (x : Step) (xs : List Step) (e g n : ℕ) (o o' : Bool) (at next h : ℕ) →
    ((m : ℕ) → check_steps e g (suc m) o at (x ∷ xs) ≡ check_steps e (suc g) m o' next xs) → Alike xs e (suc g) n o' next h → Alike (x ∷ xs) e g (suc n) o at h
ends x xs e g n o o' at next h f r = record { from = omega (arith, r.from); short = omega (arith, r.short); beyond = beyond'; before = before' }
  where
    beyond' : (m : ℕ) → h < g + m → check_steps e g m o at (x ∷ xs) ≡ check_steps e g (suc n) o at (x ∷ xs)
    beyond' zero l = absurd (omega (arith, r.from))
    beyond' (suc m) l = f m ∙ r.beyond m (omega arith) ∙ sym (f n)

    before' : (m : ℕ) → h ≡ g + m → Ended (check_steps e g m o at (x ∷ xs))
    before' zero l = absurd (omega (arith, r.from))
    before' (suc m) l = subst Ended (sym (f m)) (r.before m (omega arith))

alike : (xs : List Step) (e g n : ℕ) (o : Bool) (at h : ℕ) → Tells h (check_steps e g n o at xs) → Alike xs e g n o at h
unfolding check_steps
alike [] e g zero o at h q = absurd q
alike [] e g (suc n) o at h q = stops [] e g n o at h q tt (λ m. refl)
alike (x ∷ xs) e g zero o at h q = absurd q
alike (Ok (TokenValue v, next) ∷ xs) e g (suc n) o at h q = stays _ xs e g n o false at next h tt (λ m. refl) (alike xs e g (suc n) false next h q)
alike (Ok (TokenStart, next) ∷ xs) e g (suc n) true at h q = stops _ e g n true at h q tt (λ m. refl)
alike (Ok (TokenStart, next) ∷ xs) e g (suc n) false at h q = stays _ xs e g n false true at next h tt (λ m. refl) (alike xs e g (suc n) true next h q)
alike (Ok (TokenEnd, next) ∷ xs) e g (suc n) true at h q = stops _ e g n true at h q tt (λ m. refl)
alike (Ok (TokenEnd, next) ∷ xs) e g (suc n) false at h q = ends _ xs e g n false false at next h (λ m. refl) (alike xs e (suc g) n false next h q)
alike (Err Cut ∷ xs) e g (suc n) o at h q = stops _ e g n o at h q tt (λ m. refl)
alike (Err (Bad k) ∷ xs) e g (suc n) o at h q = stops _ e g n o at h q tt (λ m. refl)

-- so many descriptions without values
abbrev bares : ℕ → List Desc
bares zero = []
bares (suc n) = record { singles = []; sequences = [] } ∷ bares n

bares_long : (n : ℕ) → length (bares n) ≡ n
bares_long zero = refl
bares_long (suc n) = ap suc (bares_long n)

module _ (c : Coding) where
  bares_of : (n : ℕ) → Readable c (bares n)
  bares_of zero = tt
  bares_of (suc n) = bares_of n

  -- a table of fewer descriptions could be completed
  fewer_completable : (m n : ℕ) (s : List ℕ) → m ≤ n → IsTable c m s → Completable c n s
  fewer_completable m n s l t =
      let b = bares (n - m) in
      let d = t.reading in
      record {
        more = encode c b;
        of = items_bytes c (items b) (bares_of (n - m));
        table = record {
          reading = d ++ b;
          count = omega (arith, length-append d b, bares_long (n - m), t.count);
          values = subst (OfCoding c) (sym (items_append d b)) (of_append c (items d) (items b) t.values (bares_of (n - m)));
          same = ap (λ (x : List ℕ). x ++ encode c b) t.same ∙ sym (encode_append c d b);
        };
      }

  module _ (s : List ℕ) where
    -- the first descriptions of a table are a table
    fewer_within : (m n j : ℕ) → m ≤ n → j ≤ length s → IsTable c n (take j s) → (i : ℕ) × (i ≤ j) × IsTable c m (take i s)
    fewer_within m n j l h t =
        let d = t.reading in
        let b = start_before c d m in
        let w : length (take (start_of c d m) (take j s)) ≡ start_of c d m = ap length (ap (take (start_of c d m)) t.same ∙ b) in
        let i : start_of c d m ≤ j = omega (arith, w, length-take-le j s h, length-take (start_of c d m) (take j s)) in (
          start_of c d m,
          i,
          record {
            reading = take m d;
            count = length-take-le m d (omega (arith, t.count));
            values = readable_before c d m t.values;
            same = sym (take-take (start_of c d m) j s i) ∙ ap (take (start_of c d m)) t.same ∙ b;
          },
        )

    fewer_table : (m n j : ℕ) → m ≤ n → IsTable c n (take j s) → (i : ℕ) × (i ≤ j) × IsTable c m (take i s)
    fewer_table m n j l t = go (below (length s) j)
      where
        go : (length s < j) ⊎ (j ≤ length s) → (i : ℕ) × (i ≤ j) × IsTable c m (take i s)
        go (inl h) =
            let r = fewer_within m n (length s) l (omega arith) (subst (IsTable c n) (take_all j s (omega arith) ∙ sym (take-length s)) t) in
            (r.0, omega (arith, r.1), r.2)
        go (inr h) = fewer_within m n j l h t

    -- a place stands in one description only
    pub one_glyph : (k g h : ℕ) → InGlyph c s k g → InGlyph c s k h → g ≡ h
    one_glyph k g h a b = go (below g h) (below h g)
      where
        go : (g < h) ⊎ (h ≤ g) → (h < g) ⊎ (g ≤ h) → g ≡ h
        go (inl x) y = let r = fewer_table (suc g) h b.start x b.complete in absurd (a.unended r.0 (omega (arith, r.1, b.before)) r.2)
        go (inr x) (inl y) = let r = fewer_table (suc h) g a.start y a.complete in absurd (b.unended r.0 (omega (arith, r.1, a.before)) r.2)
        go (inr x) (inr y) = omega arith

    -- where glyph h is told, no start is a table
    no_start : (m h : ℕ) → Tells h (table_of c m s) → (j : ℕ) → IsTable c m (take j s) → ⊥
    no_start m h q j t = go (below j (length s))
      where
        go : (j < length s) ⊎ (length s ≤ j) → ⊥
        go (inl l) = subst (Tells h) (over_trailing c m s j l t) q
        go (inr l) = subst (Tells h) (table_complete c m s (subst (IsTable c m) (take_all j s l) t)) q

    -- where the check ends with no description left, a start is a table
    start_table : (m : ℕ) → Bytes s → (a : Result (Unit {0}) Fault) → table_of c m s ≡ a → Ended a → (j : ℕ) × (j ≤ length s) × IsTable c m (take j s)
    start_table m y (Ok tt) e d = (length s, omega arith, subst (IsTable c m) (sym (take-length s)) (complete_table c m s y e))
    start_table m y (Err (TableCut k g)) e d = absurd d
    start_table m y (Err (TableBad k g)) e d = absurd d
    start_table m y (Err (Trailing j)) e d = let r = trailing_over c m s j y e in (j, omega (arith, r.1), r.2)

    -- the glyph that is told is one of the font's, and the place stands in its description
    module _ (n h : ℕ) (y : Bytes s) (q : Tells h (table_of c n s)) where
      told_alike : Alike (steps_from c 0 0 s) (length s) 0 n false 0 h
      told_alike = alike (steps_from c 0 0 s) (length s) 0 n false 0 h q

      told_less : h < n
      told_less = omega (arith, told_alike.short)

      told_in : (k : ℕ) → ((j : ℕ) → k < j → j ≤ length s → Completable c n (take j s) → ⊥) → InGlyph c s k h
      told_in k f =
          let r = start_table h y (table_of c h s) refl (told_alike.before h (omega arith)) in
          let l : r.0 ≤ k = go r.0 (below k r.0) r.1 r.2 in
          record {
            start = r.0;
            before = l;
            complete = r.2;
            unended = λ j _. no_start (suc h) h (subst (Tells h) (sym (told_alike.beyond (suc h) (omega arith))) q) j;
          }
        where
          go : (j : ℕ) → (k < j) ⊎ (j ≤ k) → j ≤ length s → IsTable c h (take j s) → j ≤ k
          go j (inl x) l t = let w = told_less in absurd (f j x l (fewer_completable h n (take j s) (omega arith) t))
          go j (inr x) l t = x

    module _ (n k : ℕ) (y : Bytes s) where
      cut_glyph : (g : ℕ) → table_of c n s ≡ Err (TableCut k g) → (g < n) × InGlyph c s k g
      cut_glyph g e =
          let q : Tells g (table_of c n s) = subst (Tells g) (sym e) refl in
          let r = (cut_short c n s k g y e).0 in
          (told_less n g y q, told_in n g y q k (λ j a b. absurd (omega arith)))

      bad_glyph : (g : ℕ) → table_of c n s ≡ Err (TableBad k g) → (g < n) × InGlyph c s k g
      bad_glyph g e =
          let q : Tells g (table_of c n s) = subst (Tells g) (sym e) refl in
          (told_less n g y q, told_in n g y q k (bad_broken c n s k g y e).0.longest)

      pub glyph_told : (g : ℕ) → (table_of c n s ≡ Err (TableCut k g)) ⊎ (table_of c n s ≡ Err (TableBad k g)) → (g < n) × InGlyph c s k g
      glyph_told g (inl e) = cut_glyph g e
      glyph_told g (inr e) = bad_glyph g e

      pub in_cut : (g : ℕ) → (k ≡ length s) × Unfinished c n s → InGlyph c s k g → table_of c n s ≡ Err (TableCut k g)
      in_cut g f i =
          let r = short_cut c n s k y f in
          r.1 ∙ ap ((λ (h : ℕ). Err (TableCut k h))) (one_glyph k r.0 g (cut_glyph r.0 r.1).1 i)

      pub in_bad : (g : ℕ) → BadAt c n s k → InGlyph c s k g → table_of c n s ≡ Err (TableBad k g)
      in_bad g f i =
          let r = broken_bad c n s k y f in
          r.1 ∙ ap ((λ (h : ℕ). Err (TableBad k h))) (one_glyph k r.0 g (bad_glyph r.0 r.1).1 i)

  -- what stands in a start of some bytes, stands in the bytes
  in_start : (s : List ℕ) (k g : ℕ) → InGlyph c (take k s) k g → InGlyph c s k g
  in_start s k g i =
      record {
        start = i.start;
        before = i.before;
        complete = subst (IsTable c g) (take-take i.start k s i.before) i.complete;
        unended = λ j l t. i.unended j l (subst (IsTable c (suc g)) (sym (take-take j k s l)) t);
      }

  -- the place of an item stands in the description of the glyph that has it: as many as end before it
  pub item_glyph : (ds : List Desc) (is : List Item) (i : Item) (js : List Item) → Readable c ds → items ds ≡ is ++ (i ∷ js) →
      (ends_in is < length ds) × InGlyph c (encode c ds) (length (bytes c is)) (ends_in is)
  item_glyph ds is i js o e =
      let x = bytes c is in
      let y = bytes c (i ∷ js) in
      let w : encode c ds ≡ x ++ y = ap (bytes c) e ∙ bytes_of_append c is (i ∷ js) in
      let t : take (length x) (encode c ds) ≡ x = ap (take (length x)) w ∙ take_at x y (length x) refl in
      let q : table_of c (length ds) x ≡ Err (TableCut (length x) (ends_in is)) = cut_before c (length ds) ds is i js refl o e ∙ same_cut (omega arith) (omega arith) in
      let r = glyph_told x (length ds) (length x) (items_bytes c is (of_left c is (i ∷ js) (subst (OfCoding c) e o))) (ends_in is) (inl q) in
      (r.0, in_start (encode c ds) (length x) (ends_in is) (subst (λ (z : List ℕ). InGlyph c z (length x) (ends_in is)) (sym t) r.1))
