-- The cases of a search in a font and of an edit's answer, one law for each return, and what an edit leaves in the buffer.
use mathlib.Core.Path.{◌≡◌, sym, ◌∙◌, ap}
use mathlib.Core.Bool.{Bool, true, false}
use mathlib.Core.List.{List, ◌++◌}
use Prim.Native.Nat.{ℕ, ◌+◌, ◌-◌, ◌≤◌, ◌<◌}
use native.Mathlib.Omega.{arith}
use lib.ListN.{length, take, drop, replicate, length-drop}
use lib.Seq.{slice, length-take-le}
use borrow.Author.Tests.{lt-ltb, le-ltb, lt-leb, le-leb}
use Rattle.base.specs.Reading.{when, over}
use Rattle.refusal.specs.Meaning.{refusal}
use Rattle.refusal.specs.declared.Refusal.{Refusal}
use Rattle.refusal.specs.declared.Reason.TheVariants.{Ask, NoTable, Size, Room, Have, NotThere}
use Rattle.coding.specs.declared.Coding.TheVariants.{Utf8}
use Rattle.token.specs.Reading.{is_noncharacter}
use Rattle.utf8.specs.Meaning.{Scalar, utf8_bytes}
use Rattle.utf8.specs.Reading.{is_scalar}
use Rattle.utf8.proofs.Written.{scalar_exactly}
use Rattle.header.specs.declared.Kind.TheVariants.{Psf2}
use Rattle.header.specs.declared.Font.{Font}
use Rattle.header.specs.Meaning.{limit}
use Rattle.stages.specs.Meaning.{tail_of}
use Rattle.conversion.specs.Reading.{opened_of}
use Rattle.moves.specs.Reading.{laid, inserted, removed}
use Rattle.moves.proofs.Moves.{put_in}
use Rattle.mapping.specs.declared.Mapping.{Mapping}
use Rattle.mapping.specs.Reading.{mapping_of}
use Rattle.mapping.specs.Bounds.{MappingWithin}
use Rattle.edit.specs.Reading.{sought_at, sought_on, sought_in, sought_of, longer, fitted, insert_answer, left_by, add_answer, add_into, drop_answer, drop_into}
use Rattle.edit.specs.Bounds.{SoughtWithin, SoughtInside}
use Rattle.std.specs.Prelude.{Result, Err, Ok}
use Rattle.mapping.specs.declared.Mapping.TheVariants.{Listed, Unlisted}

-- a place within the table is one within the file
placed : (n e v : ℕ) → e ≤ n → n ≤ limit → Scalar v → (m : Mapping) → MappingWithin (n - e) m → SoughtWithin n v (sought_at e m)
placed n e v h l k (Listed at next) w = (omega (arith, w.0), omega (arith, w.1), l)
placed n e v h l k (Unlisted at) w = (omega (arith, w), l, k)

-- the tail's length
pub tail_length : (s : List ℕ) (f : Font) (tl : List ℕ) → tl ≡ tail_of s f → length tl ≡ length s - f.end
tail_length s f tl e = ap (λ (x : List ℕ). length x) e ∙ length-drop f.end s

-- 14, 13 for the glyph, 13 for the value; else what was found
module _ (s : List ℕ) (g v : ℕ) (f : Font) where
  pub bare : f.table ≡ false → Err (refusal NoTable 0) ≡ sought_on s g v f
  unfolding sought_on
  bare t = rw t

  pub no_glyph : f.table ≡ true → f.count ≤ g → Err (refusal Ask 0) ≡ sought_on s g v f
  unfolding sought_on when
  no_glyph t h = rw (t, le-leb f.count g h)

  module _ (t : f.table ≡ true) (h : g < f.count) (b : Bool) (e : b ≡ is_scalar v) where
    pub no_value : b ≡ false → Err (refusal Ask 0) ≡ sought_on s g v f
    unfolding sought_on when
    no_value q = rw (t, lt-leb f.count g h, sym e ∙ q)

    pub sought_at_lem : b ≡ true → sought_at f.end (mapping_of Utf8 g v (tail_of s f)) ≡ sought_on s g v f
    unfolding sought_on when
    sought_at_lem q = rw (t, lt-leb f.count g h, sym e ∙ q)

    pub found : (tl : List ℕ) → tl ≡ tail_of s f → b ≡ true → f.end ≤ length s → length s ≤ limit → (m : Mapping) →
        m ≡ mapping_of Utf8 g v tl → MappingWithin (length tl) m →
        (sought_at f.end m ≡ sought_on s g v f) × SoughtWithin (length s) v (sought_at f.end m)
    found tl e2 q p l m u w =
        let z : m ≡ mapping_of Utf8 g v (drop f.end s) = u ∙ ap (mapping_of Utf8 g v) e2 in
        let n : MappingWithin (length s - f.end) m = rw (tail_length s f tl e2) at w in
        (ap (sought_at f.end) z ∙ sought_at_lem q, placed (length s) f.end v p l ((scalar_exactly v).0 (sym e ∙ q)) m n)

-- what the check of the font hands on
pub checked_as : (s : List ℕ) (g v : ℕ) (a b : Result Font Refusal) → b ≡ opened_of Psf2 s → b ≡ a → sought_in s g v a ≡ sought_in s g v (opened_of Psf2 s)
checked_as s g v a b e q = ap (sought_in s g v) (sym q ∙ e)

-- 13 for a length beyond the buffer; else the font in its first bytes
module _ (xs : List ℕ) (len g v : ℕ) where
  pub too_long : length xs < len → Err (refusal Ask 0) ≡ sought_of xs len g v
  unfolding sought_of when
  too_long h = rw (lt-ltb (length xs) len h)

  pub in_buffer : len ≤ length xs → (r : Result Mapping Refusal) → r ≡ sought_in (take len xs) g v (opened_of Psf2 (take len xs)) → r ≡ sought_of xs len g v
  unfolding sought_of when
  in_buffer h r e = rw (le-ltb (length xs) len h) e

pub inside : (xs : List ℕ) (len v : ℕ) → len ≤ length xs → (r : Result Mapping Refusal) → SoughtWithin (length (take len xs)) v r → SoughtInside (length xs) len v r
inside xs len v h (Ok (Listed at next)) w = let l = length-take-le len xs h in (h, w.0, omega (arith, w.1), omega (arith, w.2))
inside xs len v h (Ok (Unlisted at)) w = let l = length-take-le len xs h in (h, omega (arith, w.0), omega (arith, w.1), w.2)
inside xs len v h (Err r) w = tt

-- 20, 21, and room enough
module _ (room len v n : ℕ) (e : n ≡ length (utf8_bytes v)) where
  pub over_limit : limit < len + n → Err (refusal Size 0) ≡ fitted room (longer len v)
  unfolding fitted when
  over_limit h = rw (← e, lt-ltb limit (len + n) h)

  pub no_room : len + n ≤ limit → room < len + n → Err (refusal Room (len + n)) ≡ fitted room (longer len v)
  unfolding fitted when
  no_room h k = rw (← e, le-ltb limit (len + n) h, lt-ltb room (len + n) k)

  pub fits : len + n ≤ limit → len + n ≤ room → Ok (len + n) ≡ fitted room (longer len v)
  unfolding fitted when
  fits h k = rw (← e, le-ltb limit (len + n) h, le-ltb room (len + n) k)

-- 13 for a noncharacter, and the rest
module _ (room len v : ℕ) where
  pub asked : is_noncharacter v ≡ true → Err (refusal Ask 0) ≡ insert_answer room len v
  unfolding insert_answer when
  asked e = rw e

  pub unasked : is_noncharacter v ≡ false → fitted room (longer len v) ≡ insert_answer room len v
  unfolding insert_answer when
  unasked e = rw e

-- what was moved up by the value's length, with its bytes put into the gap
pub put : (s w ys : List ℕ) (len at v n : ℕ) → at ≤ len → len + n ≤ length s → n ≡ length (utf8_bytes v) → w ≡ laid (at + n) (slice at len s) s →
    ys ≡ laid at (utf8_bytes v) w → ys ≡ over (inserted at (utf8_bytes v) (take len s)) s
put s w ys len at v n h k e m y =
    put_in s w ys (utf8_bytes v) len at h (omega arith) (m ∙ ap (λ (x : ℕ). laid (at + x) (slice at len s) s) e) y

-- the two edits, by what was sought
module _ (xs : List ℕ) (len g v : ℕ) where
  pub add_have : (at next : ℕ) → Ok (Listed at next) ≡ sought_of xs len g v → (Err (refusal Have 0) ≡ add_answer xs len g v) × (xs ≡ add_into xs len g v)
  unfolding add_answer add_into
  add_have at next e = (rw (sym e), rw (sym e))

  pub add_refused : (r : Refusal) → Err r ≡ sought_of xs len g v → (Err r ≡ add_answer xs len g v) × (xs ≡ add_into xs len g v)
  unfolding add_answer add_into
  add_refused r e = (rw (sym e), rw (sym e))

  pub add_put : (at : ℕ) (r : Result ℕ Refusal) (ys : List ℕ) → Ok (Unlisted at) ≡ sought_of xs len g v → r ≡ insert_answer (length xs) len v →
      ys ≡ left_by r (inserted at (utf8_bytes v) (take len xs)) xs → (r ≡ add_answer xs len g v) × (ys ≡ add_into xs len g v)
  unfolding add_answer add_into
  add_put at r ys e q u = (rw (sym e) q, rw (sym e) (u ∙ ap (λ (x : Result ℕ Refusal). left_by x (inserted at (utf8_bytes v) (take len xs)) xs) q))

  pub drop_none : (at : ℕ) → Ok (Unlisted at) ≡ sought_of xs len g v → (Err (refusal NotThere 0) ≡ drop_answer xs len g v) × (xs ≡ drop_into xs len g v)
  unfolding drop_answer drop_into
  drop_none at e = (rw (sym e), rw (sym e))

  pub drop_refused : (r : Refusal) → Err r ≡ sought_of xs len g v → (Err r ≡ drop_answer xs len g v) × (xs ≡ drop_into xs len g v)
  unfolding drop_answer drop_into
  drop_refused r e = (rw (sym e), rw (sym e))

  pub drop_taken : (at next : ℕ) (ys : List ℕ) → Ok (Listed at next) ≡ sought_of xs len g v →
      ys ≡ over (removed at (next - at) (take len xs) ++ replicate (next - at) 0) xs →
      (Ok (len - (next - at)) ≡ drop_answer xs len g v) × (ys ≡ drop_into xs len g v)
  unfolding drop_answer drop_into
  drop_taken at next ys e u = (rw (sym e), rw (sym e) u)
