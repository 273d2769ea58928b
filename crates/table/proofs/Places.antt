-- The answers and their places, in the words of specs/Meaning.antt; and that each kind of tail has its answer only.
use mathlib.Core.Path.{◌≡◌, refl, sym, ◌∙◌, ap, subst}
use mathlib.Core.Bool.{false}
use mathlib.Core.Logic.{◌⊎◌, inl, inr}
use mathlib.Core.List.{List, [], ◌∷◌, ◌++◌, append_assoc, append-nil}
use Prim.Native.Nat.{ℕ, suc, ◌+◌, ◌≤◌, ◌<◌}
use native.Mathlib.Omega.{arith}
use lib.ListN.{length, take, drop, take-append-drop}
use lib.Seq.{take-take, take-length, drop-cons, length-take-le}
use Rattle.base.specs.Meaning.{Bytes}
use Rattle.base.proofs.Parts.{bytes_right}
use Rattle.base.proofs.Tests.{below}
use Rattle.coding.specs.declared.Coding.{Coding}
use Rattle.coding.specs.Reading.{read_token}
use Rattle.table.specs.declared.Item.{Item}
use Rattle.table.specs.Meaning.{Desc, items, bytes, OfCoding, encode, Readable, IsTable, Completable, LongestStart, Unfinished, BadAt}
use Rattle.table.specs.Reading.{ends_in, steps_from, check_steps, table_of, table_place}
use Rattle.table.proofs.Accepts.{Accepts, accepts_items, accepted_items}
use Rattle.table.specs.Skipping.{singles}
use Rattle.table.proofs.Answers.{walk, Read, More, Stops, Says, answer_told, at_over, passes, stops_before, bad_behind}
use Rattle.table.proofs.Reading.{items_bytes}
use Rattle.std.specs.Prelude.{Result, Ok, Err}
use Rattle.table.specs.declared.Fault.{Fault}
use Rattle.table.specs.declared.Fault.TheVariants.{Cut as TableCut, Bad as TableBad, Trailing}
use Rattle.token.specs.declared.Malformed.TheVariants.{Bad}

module _ (c : Coding) (n : ℕ) where
  whole : (s : List ℕ) → walk c 0 n singles 0 s ≡ table_of c n s
  whole s = let e : 0 + length s ≡ length s = omega arith in ap (λ (x : ℕ). check_steps x 0 n false 0 (steps_from c 0 0 s)) e

  -- the items in front of one of a table's
  pub cut_before : (ds : List Desc) (is : List Item) (i : Item) (js : List Item) → length ds ≡ n → Readable c ds → items ds ≡ is ++ (i ∷ js) →
      table_of c n (bytes c is) ≡ Err (TableCut (0 + length (bytes c is)) (0 + ends_in is))
  cut_before ds is i js q o e =
      sym (whole (bytes c is))
      ∙ stops_before c is i js 0 n singles 0 (subst (OfCoding c) e o) (subst (Accepts n singles) e (subst (λ (m : ℕ). Accepts m singles (items ds)) q (accepts_items ds)))

  -- a token that is bad, behind them
  pub bad_token : (ds : List Desc) (is : List Item) (i : Item) (js : List Item) (y : List ℕ) (k : ℕ) → length ds ≡ n → Readable c ds → items ds ≡ is ++ (i ∷ js) →
      1 ≤ length y → read_token c y ≡ Err (Bad k) → table_of c n (bytes c is ++ y) ≡ Err (TableBad (0 + length (bytes c is) + k) (0 + ends_in is))
  bad_token ds is i js y k q o e h t =
      sym (whole (bytes c is ++ y))
      ∙ bad_behind c is i js 0 n singles 0 y k h t (subst (OfCoding c) e o) (subst (Accepts n singles) e (subst (λ (m : ℕ). Accepts m singles (items ds)) q (accepts_items ds)))

  -- a table, and what stands behind it
  table_over : (s y : List ℕ) → IsTable c n s → table_of c n (s ++ y) ≡ at_over c (length s) y
  table_over s y t =
      let d = encode c t.reading in
      let e : 0 + length d ≡ length d = omega arith in
      subst (λ (x : List ℕ). table_of c n (x ++ y) ≡ at_over c (length x) y) (sym t.same)
      (sym (whole (d ++ y))
      ∙ ap (λ (m : ℕ). walk c 0 m singles 0 (d ++ y)) (sym t.count)
      ∙ passes c (items t.reading) 0 (length t.reading) singles 0 y t.values (accepts_items t.reading)
      ∙ ap (λ (k : ℕ). at_over c k y) e)

  pub table_complete : (s : List ℕ) → IsTable c n s → table_of c n s ≡ Ok tt
  table_complete s t = subst (λ (x : List ℕ). table_of c n x ≡ Ok tt) (append-nil s) (table_over s [] t)

  is_table : (s : List ℕ) → Read c n singles s → IsTable c n s
  is_table s r =
      let w = accepted_items n r.found r.accepted in
      record { reading = w.all; count = w.count; values = subst (OfCoding c) w.same r.of; same = r.same ∙ ap (bytes c) w.same }

  table_bytes : (s : List ℕ) → IsTable c n s → Bytes s
  table_bytes s t = subst Bytes (sym t.same) (items_bytes c (items t.reading) t.values)

  is_completable : (s : List ℕ) → More c n singles s → Completable c n s
  is_completable s m =
      let t = is_table (s ++ m.more) m.read in
      record { more = m.more; of = bytes_right s m.more (table_bytes (s ++ m.more) t); table = t }

  pub table_completable : (s : List ℕ) → IsTable c n s → Completable c n s
  table_completable s t = record { more = []; of = tt; table = subst (IsTable c n) (sym (append-nil s)) t }

  module _ (s : List ℕ) where
    says : Bytes s → (a : Result (Unit {0}) Fault) → table_of c n s ≡ a → Says c 0 n singles 0 s a
    says y a e = subst (Says c 0 n singles 0 s) (whole s ∙ e) (answer_told c n s y)

    pub complete_table : Bytes s → table_of c n s ≡ Ok tt → IsTable c n s
    complete_table y e = is_table s (says y (Ok tt) e)

    no_table : (a : Result (Unit {0}) Fault) → table_of c n s ≡ a → (a ≡ Ok tt → ⊥) → IsTable c n s → ⊥
    no_table a e f t = f (sym e ∙ table_complete s t)

    pub cut_short : (k g : ℕ) → Bytes s → table_of c n s ≡ Err (TableCut k g) → (k ≡ length s) × Unfinished c n s
    cut_short k g y e =
        let r = says y (Err (TableCut k g)) e in
        (omega (arith, r.0), (is_completable s r.1, no_table (Err (TableCut k g)) e (λ q. let z : ◌≡◌ {A = ℕ} 0 1 = cc in absurd (omega arith))))

    -- the first j bytes, with at least one more than k
    further : (k j : ℕ) (more : List ℕ) → k < j → take j s ++ more ≡ take (suc k) s ++ (drop (suc k) (take j s) ++ more)
    further k j more h =
        ap (λ (x : List ℕ). x ++ more) (sym (take-append-drop (suc k) (take j s)) ∙ ap (λ (x : List ℕ). x ++ drop (suc k) (take j s)) (take-take (suc k) j s (omega arith)))
        ∙ append_assoc (take (suc k) s) (drop (suc k) (take j s)) more

    module _ (a : Result (Unit {0}) Fault) (f : a ≡ Ok tt → ⊥) (Q : List ℕ → Type 0) (g : (t : List ℕ) → Q t → Completable c n t) where
      stops_longest : (k : ℕ) → Stops c 0 n singles 0 s a k Q → LongestStart c n s k × (k < length s) × Q (take k s)
      stops_longest k r =
          let q : r.good ≡ k = omega (arith, r.place) in
          let i : k < length s = omega (arith, r.within) in
          let u = subst (λ (x : ℕ). Q (take x s)) q r.start in
          let v = subst (λ (x : ℕ). (y : List ℕ) → walk c 0 n singles 0 (take (suc x) s ++ y) ≡ a) q r.never in (
            record {
              within = omega arith;
              completable = g (take k s) u;
              longest = λ j h l t.
                  let x = drop (suc k) (take j s) ++ t.more in
                  f (sym (v x) ∙ whole (take (suc k) s ++ x) ∙ ap (table_of c n) (sym (further k j t.more h)) ∙ table_complete (take j s ++ t.more) t.table);
            },
            i,
            u,
          )

    pub over_trailing : (k : ℕ) → k < length s → IsTable c n (take k s) → table_of c n s ≡ Err (Trailing k)
    over_trailing k h t =
        let e = ap (table_of c n) (sym (take-append-drop k s)) ∙ table_over (take k s) (drop k s) t in
        e ∙ ap (λ (x : List ℕ). at_over c (length (take k s)) x) (drop-cons s k 0 h) ∙ ap (λ (m : ℕ). Err (Trailing m)) (length-take-le k s (omega arith))

    pub bad_broken : (k g : ℕ) → Bytes s → table_of c n s ≡ Err (TableBad k g) → BadAt c n s k
    bad_broken k g y e =
        let r = stops_longest (Err (TableBad k g)) (λ q. let z : ◌≡◌ {A = ℕ} 0 1 = cc in absurd (omega arith)) (More c n singles) is_completable k (says y (Err (TableBad k g)) e) in
        (r.0, r.1, λ t. let q = sym e ∙ over_trailing k r.1 t in let z : ◌≡◌ {A = ℕ} 0 1 = cc in absurd (omega arith))

    pub trailing_over : (k : ℕ) → Bytes s → table_of c n s ≡ Err (Trailing k) → LongestStart c n s k × (k < length s) × IsTable c n (take k s)
    trailing_over k y e =
        let r = stops_longest (Err (Trailing k)) (λ q. let z : ◌≡◌ {A = ℕ} 0 1 = cc in absurd (omega arith)) (Read c n singles) (λ t r. table_completable t (is_table t r)) k (says y (Err (Trailing k)) e) in
        (r.0, r.1, is_table (take k s) r.2)

    -- a tail is its whole start
    longer : (k : ℕ) → LongestStart c n s k → k < length s → Completable c n s → ⊥
    longer k l h t = l.longest (length s) h (omega arith) (subst (Completable c n) (sym (take-length s)) t)

    one_longest : (k j : ℕ) → LongestStart c n s k → LongestStart c n s j → k ≡ j
    one_longest k j l m = go (below k j) (below j k)
      where
        go : (k < j) ⊎ (j ≤ k) → (j < k) ⊎ (k ≤ j) → k ≡ j
        go (inl x) y = absurd (l.longest j x m.within m.completable)
        go (inr x) (inl y) = absurd (m.longest k y l.within l.completable)
        go (inr x) (inr y) = omega arith

    -- each kind of tail has its own answer
    pub short_cut : (k : ℕ) → Bytes s → (k ≡ length s) × Unfinished c n s → (g : ℕ) × (table_of c n s ≡ Err (TableCut k g))
    short_cut k y (q, (t, f)) = go (table_of c n s) refl
      where
        go : (a : Result (Unit {0}) Fault) → table_of c n s ≡ a → (g : ℕ) × (table_of c n s ≡ Err (TableCut k g))
        go (Ok tt) e = absurd (f (complete_table y e))
        go (Err (TableCut j g)) e = let r = cut_short j g y e in (g, e ∙ ap (λ (x : ℕ). Err (TableCut x g)) (r.0 ∙ sym q))
        go (Err (TableBad j g)) e = let r = bad_broken j g y e in absurd (longer j r.0 r.1 t)
        go (Err (Trailing j)) e = let r = trailing_over j y e in absurd (longer j r.0 r.1 t)

    pub broken_bad : (k : ℕ) → Bytes s → BadAt c n s k → (g : ℕ) × (table_of c n s ≡ Err (TableBad k g))
    broken_bad k y (l, h, f) = go (table_of c n s) refl
      where
        go : (a : Result (Unit {0}) Fault) → table_of c n s ≡ a → (g : ℕ) × (table_of c n s ≡ Err (TableBad k g))
        go (Ok tt) e = absurd (longer k l h (table_completable s (complete_table y e)))
        go (Err (TableCut j g)) e = absurd (longer k l h (cut_short j g y e).1.0)
        go (Err (TableBad j g)) e = (g, e ∙ ap (λ (x : ℕ). Err (TableBad x g)) (one_longest j k (bad_broken j g y e).0 l))
        go (Err (Trailing j)) e = let r = trailing_over j y e in absurd (f (subst (λ (x : ℕ). IsTable c n (take x s)) (one_longest j k r.0 l) r.2))

    pub within_tail : Bytes s → table_place (table_of c n s) ≤ length s
    within_tail y = go (table_of c n s) refl
      where
        go : (a : Result (Unit {0}) Fault) → table_of c n s ≡ a → table_place a ≤ length s
        go (Ok tt) e = omega arith
        go (Err (TableCut k g)) e = let r = (cut_short k g y e).0 in omega arith
        go (Err (TableBad k g)) e = let r = (bad_broken k g y e).1 in omega arith
        go (Err (Trailing k)) e = let r = (trailing_over k y e).1 in omega arith
