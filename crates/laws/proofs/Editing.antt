-- The steps from the edits on any buffer to the laws of a font's descriptions: what is sought, row by row, and the two calls' rows (Edits says what is
-- shown).
use mathlib.Core.Path.{◌≡◌, refl, sym, ◌∙◌, ap, subst}
use mathlib.Core.Logic.{◌⊎◌, inl, inr}
use mathlib.Core.Bool.{Bool, true, false}
use mathlib.Core.List.{List, ◌++◌, append_assoc}
use Prim.Native.Nat.{ℕ, ◌+◌, ◌-◌, ◌≤◌, ◌<◌}
use native.Mathlib.Omega.{arith}
use lib.ListN.{length, take, drop, replicate, length-append, length-drop, take-append-drop}
use lib.Seq.{take_at, drop_at, length-take-le}
use Rattle.base.specs.Meaning.{Bytes}
use Rattle.base.specs.Reading.{over}
use Rattle.base.proofs.Parts.{bytes_take}
use Rattle.base.proofs.Tests.{below}
use Rattle.refusal.specs.Meaning.{refusal}
use Rattle.refusal.specs.declared.Reason.TheVariants.{Ask, NoTable, WrongKind, Size, Room, Have, NotThere}
use Rattle.refusal.specs.declared.Refusal.{Refusal}
use Rattle.coding.specs.declared.Coding.TheVariants.{Utf8}
use Rattle.coding.specs.Meaning.{ValueOf, value_bytes}
use Rattle.coding.proofs.Written.{utf8_value}
use Rattle.token.specs.Meaning.{Noncharacter}
use Rattle.token.specs.Reading.{is_noncharacter}
use Rattle.token.proofs.Noncharacters.{noncharacter_exactly, noncharacter_no, no_noncharacter}
use Rattle.utf8.specs.Meaning.{Scalar, utf8_bytes}
use Rattle.utf8.specs.Reading.{is_scalar}
use Rattle.utf8.proofs.Written.{scalar_exactly}
use Rattle.table.specs.Meaning.{Desc, encode, Readable}
use Rattle.header.specs.declared.Kind.{Kind}
use Rattle.header.specs.declared.Kind.TheVariants.{Psf2}
use Rattle.header.specs.declared.Font.{Font}
use Rattle.header.specs.Meaning.{limit}
use Rattle.stages.specs.Meaning.{coding_of, tail_of}
use Rattle.stages.specs.Reading.{check_of}
use Rattle.content.specs.Meaning.{Describes}
use Rattle.conversion.specs.Reading.{same_kind, opened_of}
use Rattle.conversion.proofs.Cases.{right_kind, wrong_kind, not_opened}
use Rattle.moves.specs.Reading.{inserted, removed}
use Rattle.mapping.specs.Meaning.{added, dropped}
use Rattle.mapping.specs.declared.Mapping.{Mapping}
use Rattle.mapping.specs.Reading.{mapping_of}
use Rattle.mapping.proofs.Places.{Hole, Gap, hole_or_gap}
use Rattle.edit.proofs.Cases as cases
use Rattle.edit.specs.Reading.{longer, sought_at, sought_on, sought_in, sought_of, fitted, insert_answer, adding, dropping, inserted_at, removed_at, left_by, add_answer, add_into, drop_answer, drop_into}
use Rattle.laws.specs.Meaning.{Exact, Said, gives, refuses, says, In, given, skipped, own as own_given, sound as sound-given, reads, EditRows, AddLast, AddRows, DropLast, DropRows}
use Rattle.laws.proofs.Exactly.{given_same, no_refusal_lem, is, row, own_first, reading_of, less, at_most, either}
use Rattle.laws.proofs.Asking.{described, bare_or, not_bare}
use Rattle.laws.proofs.Listed.{no_value, listed_value}
use Rattle.laws.proofs.Refusing.{alike, not_alike, wrong_or, not_wrong}
use Rattle.laws.proofs.Retabled.{front_long, Editable}
use Rattle.std.specs.Prelude.{Result, Err, Ok}
use Rattle.mapping.specs.declared.Mapping.TheVariants.{Listed, Unlisted}

-- a value that may not be asked for
abbrev Unfit : ℕ → Type 0
Unfit v = (0x10FFFF < v) ⊎ In 0xD800 0xDFFF v

unfit_or : (v : ℕ) → Unfit v ⊎ (Unfit v → ⊥)
unfit_or v = either (less 0x10FFFF v) (surrogate_or (below v 0xD800) (below v 0xE000))
  where
    surrogate_or : (v < 0xD800) ⊎ (0xD800 ≤ v) → (v < 0xE000) ⊎ (0xE000 ≤ v) → In 0xD800 0xDFFF v ⊎ (In 0xD800 0xDFFF v → ⊥)
    surrogate_or (inl l) b = inr (λ q. omega (arith, q.0))
    surrogate_or (inr l) (inl m) = inl (l, omega arith)
    surrogate_or (inr l) (inr m) = inr (λ q. omega (arith, q.1))

unfit_no : (v : ℕ) → Unfit v → is_scalar v ≡ false
unfit_no v u = go (is_scalar v) refl
  where
    never : Scalar v → ⊥
    never (inl l) = by u
      where
        by : Unfit v → ⊥
        by (inl q) = omega arith
        by (inr q) = omega (arith, q.0)
    never (inr l) = by u
      where
        by : Unfit v → ⊥
        by (inl q) = omega (arith, l.1)
        by (inr q) = omega (arith, q.1, l.0)

    go : (t : Bool) → is_scalar v ≡ t → is_scalar v ≡ false
    go true e = absurd (never ((scalar_exactly v).0 e))
    go false e = e

fit_scalar : (v : ℕ) → (Unfit v → ⊥) → Scalar v
fit_scalar v n = go (below v 0xD800) (below v 0xE000) (below 0x10FFFF v)
  where
    go : (v < 0xD800) ⊎ (0xD800 ≤ v) → (v < 0xE000) ⊎ (0xE000 ≤ v) → (0x10FFFF < v) ⊎ (v ≤ 0x10FFFF) → Scalar v
    go (inl l) b c = inl l
    go (inr l) (inl m) c = absurd (n (inr (l, omega arith)))
    go (inr l) (inr m) (inl h) = absurd (n (inl h))
    go (inr l) (inr m) (inr h) = inr (m, omega arith)

noncharacter_or : (v : ℕ) → Noncharacter v ⊎ (Noncharacter v → ⊥)
noncharacter_or v = go (is_noncharacter v) refl
  where
    go : (t : Bool) → is_noncharacter v ≡ t → Noncharacter v ⊎ (Noncharacter v → ⊥)
    go true e = inl ((noncharacter_exactly v).0 e)
    go false e = inr (noncharacter_no v e)

-- a list by its first bytes, a part behind them, and the rest
split_behind : (s front rest : List ℕ) (end : ℕ) → end ≤ length s → drop end s ≡ front ++ rest → (s ≡ take end s ++ front ++ rest) × (length (take end s ++ front) ≡ end + length front)
split_behind s front rest end l e = (
  sym (take-append-drop end s) ∙ ap (λ (x : List ℕ). take end s ++ x) e ∙ sym (append_assoc (take end s) front rest),
  length-append (take end s) front ∙ ap (λ (x : ℕ). x + length front) (length-take-le end s l),
)

-- a piece put in or taken out there
inserted_behind : (s front p back : List ℕ) (end : ℕ) → end ≤ length s → drop end s ≡ front ++ back → inserted (end + length front) p s ≡ take end s ++ (front ++ (p ++ back))
unfolding inserted
inserted_behind s front p back end l e =
    let a = take end s ++ front in
    let q = split_behind s front back end l e in
    ap (λ (x : List ℕ). take (end + length front) x ++ p ++ drop (end + length front) x) q.0
    ∙ ap (λ (x : List ℕ). x ++ p ++ drop (end + length front) (a ++ back)) (take_at a back (end + length front) q.1)
    ∙ ap (λ (x : List ℕ). a ++ p ++ x) (drop_at a back (end + length front) q.1)
    ∙ append_assoc a p back ∙ append_assoc (take end s) front (p ++ back)

removed_behind : (s front p back : List ℕ) (end : ℕ) → end ≤ length s → drop end s ≡ front ++ (p ++ back) → removed (end + length front) (length p) s ≡ take end s ++ (front ++ back)
unfolding removed
removed_behind s front p back end l e =
    let a = take end s ++ front in
    let q = split_behind s front (p ++ back) end l e in
    let m : length (a ++ p) ≡ end + length front + length p = length-append a p ∙ ap (λ (x : ℕ). x + length p) q.1 in
    ap (λ (x : List ℕ). take (end + length front) x ++ drop (end + length front + length p) x) q.0
    ∙ ap (λ (x : List ℕ). x ++ drop (end + length front + length p) (a ++ (p ++ back))) (take_at a (p ++ back) (end + length front) q.1)
    ∙ ap (λ (x : List ℕ). a ++ drop (end + length front + length p) x) (sym (append_assoc a p back))
    ∙ ap (λ (x : List ℕ). a ++ x) (drop_at (a ++ p) back (end + length front + length p) m)
    ∙ append_assoc (take end s) front back

-- what is sought in the first len bytes of a buffer, row by row
module _ (xs : List ℕ) (len g v : ℕ) where
  abbrev file : List ℕ
  file = take len xs

  far : length xs < len → sought_of xs len g v ≡ Err (refusal Ask 0)
  far h = sym (cases.too_long xs len g v h)

  module _ (within : len ≤ length xs) where
    near : (c : Result Font Refusal) → c ≡ opened_of Psf2 file → sought_of xs len g v ≡ sought_in file g v c
    near c e = sym (cases.in_buffer xs len g v within (sought_in file g v c) (ap (sought_in file g v) e))

    own : (r : Refusal) → check_of file ≡ Err r → sought_of xs len g v ≡ Err r
    own r e = near (Err r) (not_opened Psf2 file r e)

    module _ (f : Font) (e : check_of file ≡ Ok f) where
      other_kind : (f.kind ≡ Psf2 → ⊥) → sought_of xs len g v ≡ Err (refusal WrongKind 0)
      other_kind n = near (Err (refusal WrongKind 0)) (wrong_kind Psf2 file f e (not_alike Psf2 f.kind n))

      module _ (kind : f.kind ≡ Psf2) where
        right : sought_of xs len g v ≡ sought_on file g v f
        right = near (Ok f) (right_kind Psf2 file f e (subst (λ (k : Kind). same_kind Psf2 k ≡ true) (sym kind) (alike Psf2)))

        no_table : f.table ≡ false → sought_of xs len g v ≡ Err (refusal NoTable 0)
        no_table t = right ∙ sym (cases.bare file g v f t)

        module _ (marked : f.table ≡ true) where
          too_high : f.count ≤ g → sought_of xs len g v ≡ Err (refusal Ask 0)
          too_high h = right ∙ sym (cases.no_glyph file g v f marked h)

          unfit : g < f.count → Unfit v → sought_of xs len g v ≡ Err (refusal Ask 0)
          unfit l u = right ∙ sym (cases.no_value file g v f marked l (is_scalar v) refl (unfit_no v u))

          found : g < f.count → Scalar v → sought_of xs len g v ≡ sought_at f.end (mapping_of Utf8 g v (tail_of file f))
          found l p = right ∙ sym (cases.sought_at_lem file g v f marked l (is_scalar v) refl ((scalar_exactly v).1 p))

-- a value of UTF-8
pub scalar_value : (v : ℕ) → Scalar v → (Noncharacter v → ⊥) → ValueOf Utf8 v
unfolding ValueOf
scalar_value v p n = (p, n)

module _ (xs : List ℕ) (y : Bytes xs) (len g v : ℕ) where
  abbrev size : ℕ
  size = length (utf8_bytes v)

  -- a font and its descriptions that pass them
  editable : (w : len ≤ length xs) (f : Font) (e : check_of (take len xs) ≡ Ok f) → f.kind ≡ Psf2 → f.table ≡ true → g < f.count → Scalar v → (ds : List Desc) → Describes (take len xs) f f.table ds → Editable xs len g v ds
  editable w f e k t l p ds d =
      let q = subst (λ (b : Bool). Describes (take len xs) f b ds) t d in
      record {
        within = w;
        font = f;
        sound = e;
        kind = k;
        marked = t;
        low = l;
        scalar = p;
        count = q.0;
        values = subst (λ (x : Kind). Readable (coding_of x) ds) k q.1;
        same = subst (λ (x : Kind). tail_of (take len xs) f ≡ encode (coding_of x) ds) k q.2;
      }

  not_at_most : {a b : ℕ} → (a ≤ b → ⊥) → b < a
  not_at_most {a} {b} n = go (below b a)
    where
      go : (b < a) ⊎ (a ≤ b) → b < a
      go (inl h) = h
      go (inr h) = absurd (n h)

  -- the rows before the descriptions', for any answer that hands a refusal on
  edit_rows : {rest : List Desc → Said ℕ → Type 0} (answer : Result Mapping Refusal → Result ℕ Refusal) → ((r : Refusal) → answer (Err r) ≡ Err r) →
      ((ds : List Desc) → Editable xs len g v ds → Exact (says (answer (sought_of xs len g v))) (rest ds)) → Exact (says (answer (sought_of xs len g v))) (EditRows xs len g v rest)
  edit_rows answer hands goes =
      row (less (length xs) len) (λ h. said (far xs len g v h)) (λ h.
      let w : len ≤ length xs = omega arith in
      own_first (take len xs) (λ r e. said (own xs len g v w r e)) (λ f e.
      row (wrong_or f.kind Psf2) (λ n. said (other_kind xs len g v w f e n)) (λ n.
      let k = not_wrong f.kind Psf2 n in
      row (bare_or f.table) (λ t. said (no_table xs len g v w f e k t)) (λ m.
      let t = not_bare f.table m in
      row (either (at_most f.count g) (unfit_or v)) (λ u. said (asked w f e k t u)) (λ u.
      let l : g < f.count = not_at_most (λ q. u (inl q)) in
      reading_of (take len xs) f (described (take len xs) f (bytes_take len xs y) e) (λ ds d. goes ds (editable w f e k t l (fit_scalar v (λ q. u (inr q))) ds d)))))))
    where
      said : {r : Refusal} → sought_of xs len g v ≡ Err r → says (answer (sought_of xs len g v)) ≡ says (Err r)
      said {r} e = ap (λ (x : Result Mapping Refusal). says (answer x)) e ∙ ap says (hands r)

      asked : (w : len ≤ length xs) (f : Font) (e : check_of (take len xs) ≡ Ok f) (k : f.kind ≡ Psf2) (t : f.table ≡ true) → (f.count ≤ g) ⊎ Unfit v → sought_of xs len g v ≡ Err (refusal Ask 0)
      asked w f e k t (inl h) = too_high xs len g v w f e k t h
      asked w f e k t (inr u) = go (below g f.count)
        where
          go : (g < f.count) ⊎ (f.count ≤ g) → sought_of xs len g v ≡ Err (refusal Ask 0)
          go (inl l) = unfit xs len g v w f e k t l u
          go (inr h) = too_high xs len g v w f e k t h

  module _ (ds : List Desc) (a : Editable xs len g v ds) where
    abbrev s : List ℕ
    s = take len xs

    abbrev end : ℕ
    end = a.font.end

    placed_end : end ≤ length s
    placed_end = front_long s a.font (bytes_take len xs y) a.sound

    -- in it, glyph g lists v or does not
    pub either_way : Hole Utf8 v g ds ⊎ Gap Utf8 v g ds
    either_way = hole_or_gap Utf8 v g ds (let l = a.low in omega (arith, a.count)) a.values

    sought_as : (m : Mapping) → mapping_of Utf8 g v (encode Utf8 ds) ≡ m → sought_of xs len g v ≡ sought_at end m
    sought_as m e =
        found xs len g v a.within a.font a.sound a.kind a.marked a.low a.scalar
        ∙ ap (λ (x : List ℕ). sought_at end (mapping_of Utf8 g v x)) a.same ∙ ap (sought_at end) e

    module _ (h : Hole Utf8 v g ds) where
      abbrev from : ℕ
      from = end + length h.front

      sought_hole : sought_of xs len g v ≡ Ok (Listed from (from + size))
      sought_hole =
          let q : end + (length h.front + length (value_bytes Utf8 v)) ≡ from + size = omega (arith, ap length (utf8_value Utf8 v refl)) in
          sought_as (Listed (length h.front) (length h.front + length (value_bytes Utf8 v))) h.place ∙ ap (λ (m : ℕ). Ok (Listed from m)) q

      have : add_answer xs len g v ≡ Err (refusal Have 0)
      have = sym (cases.add_have xs len g v from (from + size) (sym sought_hole)).0

      less_by : from + size - from ≡ size
      less_by = omega arith

      taken : (Ok (len - (from + size - from)) ≡ drop_answer xs len g v) × (over (removed from (from + size - from) s ++ replicate (from + size - from) 0) xs ≡ drop_into xs len g v)
      taken = cases.drop_taken xs len g v from (from + size) (over (removed from (from + size - from) s ++ replicate (from + size - from) 0) xs) (sym sought_hole) refl

      pub drops : drop_answer xs len g v ≡ Ok (len - size)
      drops = sym taken.0 ∙ ap (λ (n : ℕ). Ok (len - n)) less_by

      pub drops_into : drop_into xs len g v ≡ over ((take end s ++ encode Utf8 (dropped v g ds)) ++ replicate size 0) xs
      drops_into =
          sym taken.1 ∙ ap (λ (n : ℕ). over (removed from n s ++ replicate n 0) xs) less_by
          ∙ ap (λ (x : List ℕ). over (x ++ replicate size 0) xs) (out ∙ ap (λ (x : List ℕ). take end s ++ x) (sym h.less))
        where
          out : removed from size s ≡ take end s ++ (h.front ++ h.back)
          out = removed_behind s h.front (utf8_bytes v) h.back end placed_end (a.same ∙ h.same ∙ ap (λ (x : List ℕ). h.front ++ (x ++ h.back)) (sym (utf8_value Utf8 v refl)))

    module _ (p : Gap Utf8 v g ds) where
      abbrev to : ℕ
      to = end + length p.front

      sought_gap : sought_of xs len g v ≡ Ok (Unlisted to)
      sought_gap = sought_as (Unlisted (length p.front)) p.place

      not_there : drop_answer xs len g v ≡ Err (refusal NotThere 0)
      not_there = sym (cases.drop_none xs len g v to (sym sought_gap)).0

      put : (r : Result ℕ Refusal) → r ≡ insert_answer (length xs) len v → (r ≡ add_answer xs len g v) × (left_by r (inserted to (utf8_bytes v) s) xs ≡ add_into xs len g v)
      put r e = cases.add_put xs len g v to r (left_by r (inserted to (utf8_bytes v) s) xs) (sym sought_gap) e refl

      asks : Noncharacter v → add_answer xs len g v ≡ Err (refusal Ask 0)
      asks o = sym (put (Err (refusal Ask 0)) (cases.asked (length xs) len v ((noncharacter_exactly v).1 o))).0

      -- of a value that is no noncharacter
      put_value : (Noncharacter v → ⊥) → (r : Result ℕ Refusal) → r ≡ fitted (length xs) (longer len v) → (r ≡ add_answer xs len g v) × (left_by r (inserted to (utf8_bytes v) s) xs ≡ add_into xs len g v)
      put_value o r e = put r (e ∙ cases.unasked (length xs) len v (no_noncharacter v o))

      too_large : (Noncharacter v → ⊥) → limit < len + size → add_answer xs len g v ≡ Err (refusal Size 0)
      too_large o h = sym (put_value o (Err (refusal Size 0)) (cases.over_limit (length xs) len v size refl h)).0

      no_room : (Noncharacter v → ⊥) → len + size ≤ limit → length xs < len + size → add_answer xs len g v ≡ Err (refusal Room (len + size))
      no_room o h k = sym (put_value o (Err (refusal Room (len + size))) (cases.no_room (length xs) len v size refl h k)).0

      adds : (Noncharacter v → ⊥) → len + size ≤ limit → len + size ≤ length xs → add_answer xs len g v ≡ Ok (len + size)
      adds o h k = sym (put_value o (Ok (len + size)) (cases.fits (length xs) len v size refl h k)).0

      pub adds_into : (Noncharacter v → ⊥) → len + size ≤ limit → len + size ≤ length xs → add_into xs len g v ≡ over (take end s ++ encode Utf8 (added v g ds)) xs
      adds_into o h k =
          sym (put_value o (Ok (len + size)) (cases.fits (length xs) len v size refl h k)).1
          ∙ ap (λ (x : List ℕ). over x xs)
          (inserted_behind s p.front (utf8_bytes v) p.back end placed_end (a.same ∙ p.same)
          ∙ ap (λ (x : List ℕ). take end s ++ x) (ap (λ (x : List ℕ). p.front ++ (x ++ p.back)) (utf8_value Utf8 v refl) ∙ sym p.more))

  -- all rows
  pub add_rows : Exact (says (add_answer xs len g v)) (AddRows xs len g v)
  unfolding add_answer
  add_rows = edit_rows (adding (length xs) len v) (λ r. refl) (λ ds a. go ds a (either_way ds a))
    where
      -- a glyph that lists v has it for a value
      listed : (ds : List Desc) (a : Editable xs len g v ds) → Hole Utf8 v g ds → Noncharacter v → ⊥
      listed ds a h = no_value Utf8 v (listed_value Utf8 ds a.values g h.listed.description h.listed.here v h.listed.lists)

      go : (ds : List Desc) (a : Editable xs len g v ds) → Hole Utf8 v g ds ⊎ Gap Utf8 v g ds → Exact (says (add_answer xs len g v)) (λ b. AddLast xs len g v ds b)
      go ds a (inl h) =
          row (inr (listed ds a h)) (λ o. absurd (listed ds a h o)) (λ o.
          row (inl h.listed) (λ l. ap says (have ds a h)) (λ n. absurd (n h.listed)))
      go ds a (inr p) =
          row (noncharacter_or v) (λ o. ap says (asks ds a p o)) (λ o.
          row (inr p.unlisted) (λ l. absurd (p.unlisted l)) (λ n.
          row (less limit (len + size)) (λ h. ap says (too_large ds a p o h)) (λ h.
          let small : len + size ≤ limit = omega arith in
          row (less (length xs) (len + size)) (λ k. ap says (no_room ds a p o small k)) (λ k.
          is _ _ (ap says (adds ds a p o small (omega arith)))))))

  pub drop_rows : Exact (says (drop_answer xs len g v)) (DropRows xs len g v)
  unfolding drop_answer
  drop_rows = edit_rows (dropping len) (λ r. refl) (λ ds a. go ds a (either_way ds a))
    where
      go : (ds : List Desc) (a : Editable xs len g v ds) → Hole Utf8 v g ds ⊎ Gap Utf8 v g ds → Exact (says (drop_answer xs len g v)) (λ b. DropLast len g v ds b)
      go ds a (inl h) = row (inr (λ n. n h.listed)) (λ n. absurd (n h.listed)) (λ n. is _ _ (ap says (drops ds a h)))
      go ds a (inr p) = row (inl p.unlisted) (λ n. ap says (not_there ds a p)) (λ n. absurd (n p.unlisted))

  -- an answer that gives a length comes from a font that could be edited
  pub record AddGood (n : ℕ) : Type 0 where
    pub reading : List Desc
    pub editable : Editable xs len g v reading
    pub gap : Gap Utf8 v g reading
    pub character : Noncharacter v → ⊥
    pub small : len + size ≤ limit
    pub room : len + size ≤ length xs
    pub grown : n ≡ len + size

  pub record DropGood (n : ℕ) : Type 0 where
    pub reading : List Desc
    pub editable : Editable xs len g v reading
    pub hole : Hole Utf8 v g reading
    pub shrunk : n ≡ len - size

  -- where an edit gives a length, its last rows do, of a font that could be edited
  last_rows : {rest : List Desc → Said ℕ → Type 0} (n : ℕ) → EditRows xs len g v rest (gives n) → (ds : List Desc) × Editable xs len g v ds × rest ds (gives n)
  last_rows n (given h q) = no_refusal_lem q
  last_rows n (skipped h (own_given r e q)) = no_refusal_lem q
  last_rows n (skipped h (sound-given f e (given k q))) = no_refusal_lem q
  last_rows n (skipped h (sound-given f e (skipped k (given t q)))) = no_refusal_lem q
  last_rows n (skipped h (sound-given f e (skipped k (skipped t (given u q))))) = no_refusal_lem q
  last_rows n (skipped h (sound-given f e (skipped k (skipped t (skipped u (reads ds d r)))))) =
      let w : len ≤ length xs = omega arith in
      (ds, editable w f e (not_wrong f.kind Psf2 k) (not_bare f.table t) (not_at_most (λ q. u (inl q))) (fit_scalar v (λ q. u (inr q))) ds d, r)

  pub add_good : (n : ℕ) → says (add_answer xs len g v) ≡ gives n → AddGood n
  add_good n e = let r = last_rows n ((add_rows (gives n)).0 e) in go r.0 r.1 r.2 (either_way r.0 r.1)
    where
      go : (ds : List Desc) (a : Editable xs len g v ds) → AddLast xs len g v ds (gives n) → Hole Utf8 v g ds ⊎ Gap Utf8 v g ds → AddGood n
      go ds a (given o q) b = no_refusal_lem q
      go ds a (skipped o (given l q)) b = no_refusal_lem q
      go ds a (skipped o (skipped l (given h q))) b = no_refusal_lem q
      go ds a (skipped o (skipped l (skipped h (given k q)))) b = no_refusal_lem q
      go ds a (skipped o (skipped l (skipped h (skipped k q)))) (inl p) = absurd (l p.listed)
      go ds a (skipped o (skipped l (skipped h (skipped k q)))) (inr p) =
          record { reading = ds; editable = a; gap = p; character = o; small = omega arith; room = omega arith; grown = given_same q }

  pub drop_good : (n : ℕ) → says (drop_answer xs len g v) ≡ gives n → DropGood n
  drop_good n e = let r = last_rows n ((drop_rows (gives n)).0 e) in go r.0 r.1 r.2 (either_way r.0 r.1)
    where
      go : (ds : List Desc) (a : Editable xs len g v ds) → DropLast len g v ds (gives n) → Hole Utf8 v g ds ⊎ Gap Utf8 v g ds → DropGood n
      go ds a (given l q) b = no_refusal_lem q
      go ds a (skipped l q) (inl h) = record { reading = ds; editable = a; hole = h; shrunk = given_same q }
      go ds a (skipped l q) (inr p) = absurd (l p.unlisted)

-- an answer that gives nothing is a refusal, and leaves the buffer
refused_said : (x : Result ℕ Refusal) (number p : ℕ) → says x ≡ refuses number p → (t xs : List ℕ) → left_by x t xs ≡ xs
refused_said (Ok n) number p e t xs = no_refusal_lem e
refused_said (Err r) number p e t xs = refl

module _ (xs : List ℕ) (len g v number p : ℕ) where
  pub add_untouched : says (add_answer xs len g v) ≡ refuses number p → add_into xs len g v ≡ xs
  unfolding add_into
  add_untouched e = refused_said (add_answer xs len g v) number p e (inserted_at v (take len xs) (sought_of xs len g v)) xs

  pub drop_untouched : says (drop_answer xs len g v) ≡ refuses number p → drop_into xs len g v ≡ xs
  unfolding drop_into
  drop_untouched e = refused_said (drop_answer xs len g v) number p e (removed_at (take len xs) (sought_of xs len g v)) xs

-- the lengths of the fonts
module _ (xs : List ℕ) (y : Bytes xs) (len g v : ℕ) (ds : List Desc) (a : Editable xs len g v ds) where
  abbrev stop : ℕ
  stop = a.font.end

  tabled : (es : List Desc) → (length (encode Utf8 ds) + stop ≡ len) × (length (take stop (take len xs) ++ encode Utf8 es) ≡ stop + length (encode Utf8 es))
  tabled es =
      let l = front_long (take len xs) a.font (bytes_take len xs y) a.sound in
      let m = length-take-le len xs a.within in (
        omega (arith, l, m, length-drop stop (take len xs), ap length a.same),
        length-append (take stop (take len xs)) (encode Utf8 es) ∙ ap (λ (x : ℕ). x + length (encode Utf8 es)) (length-take-le stop (take len xs) l),
      )

  pub longer_by : Gap Utf8 v g ds → length (take stop (take len xs) ++ encode Utf8 (added v g ds)) ≡ len + length (utf8_bytes v)
  longer_by p =
      let t = tabled (added v g ds) in
      omega (arith, t.0, t.1, ap length p.same, ap length p.more, length-append p.front p.back, length-append p.front (value_bytes Utf8 v ++ p.back), length-append (value_bytes Utf8 v) p.back, ap length (utf8_value Utf8 v refl))

  pub shorter_by : Hole Utf8 v g ds → (length (take stop (take len xs) ++ encode Utf8 (dropped v g ds)) ≡ len - length (utf8_bytes v)) × (length (utf8_bytes v) ≤ len)
  shorter_by h =
      let t = tabled (dropped v g ds) in
      let e = omega_of h in
      (omega (arith, t.0, t.1, e.0, e.1), omega (arith, t.0, e.0))
    where
      omega_of : Hole Utf8 v g ds → (length (encode Utf8 ds) ≡ length h.front + (length (utf8_bytes v) + length h.back)) × (length (encode Utf8 (dropped v g ds)) ≡ length h.front + length h.back)
      omega_of o = (
        omega (arith, ap length h.same, length-append h.front (value_bytes Utf8 v ++ h.back), length-append (value_bytes Utf8 v) h.back, ap length (utf8_value Utf8 v refl)),
        omega (arith, ap length h.less, length-append h.front h.back),
      )
