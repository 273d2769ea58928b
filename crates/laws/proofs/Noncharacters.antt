-- Noncharacters (document 02, W6): "FDD0 to FDEF, and the last two of each plane .. A value, in either coding, may no longer be one." `Noncharacter`
-- (crates/token/specs/Meaning.antt) says which they are; `Utf8Value` and `Word` say what a value is in each coding. The demands' own statements
-- (Demands, Check, Tables, Questions, Conversions, Edits, Loading, Differences) stand over these; here is what they come to for a noncharacter v.
use mathlib.Core.Path.{◌≡◌, refl}
use mathlib.Core.Bool.{true}
use mathlib.Core.List.{List, ◌∷◌, ◌++◌}
use Prim.Native.Nat.{ℕ, ◌+◌, ◌-◌, ◌≤◌, ◌<◌}
use lib.ListN.{length, take}
use Rattle.base.specs.Meaning.{Bytes}
use Rattle.base.proofs.Parts.{bytes_drop}
use Rattle.token.specs.Meaning.{Noncharacter}
use Rattle.coding.specs.declared.Coding.{Coding}
use Rattle.coding.specs.Meaning.{ValueOf, value_bytes}
use Rattle.table.specs.declared.Item.{Item}
use Rattle.table.specs.Meaning.{Desc, items, bytes, Readable}
use Rattle.lookup.specs.Meaning.{Any}
use Rattle.header.specs.declared.Kind.TheVariants.{Psf2}
use Rattle.header.specs.declared.Font.{Font}
use Rattle.stages.specs.Meaning.{coding_of, tail_of}
use Rattle.stages.specs.Reading.{check_of}
use Rattle.edit.specs.Reading.{add_answer, drop_answer}
use Rattle.fonts.specs.Reading.{item_of, value_glyph, sequence_glyph}
use Rattle.laws.specs.Meaning.{gives, refuses, says, Holds, HasBytes, RowsTo9}
use Rattle.laws.proofs.Check.{sound_said}
use Rattle.laws.proofs.Tables.{bad_exactly}
use Rattle.laws.proofs.Listed as listed
use Rattle.laws.proofs.Unlisted as inner

-- "A value, in either coding, may no longer be one."
pub no_value : (c : Coding) (v : ℕ) → ValueOf c v → Noncharacter v → ⊥
no_value = listed.no_value

-- "places follow its own rule, so EF BF BE is bad at its third byte": a table that begins as n descriptions do, up to any of their items, and then has
-- the bytes of a noncharacter, whatever follows, is BAD at the last of these
pub bad_place : (s : List ℕ) → Bytes s → (f : Font) → RowsTo9 s (gives f) → f.table ≡ true →
    (ds : List Desc) (is : List Item) (i : Item) (js : List Item) → length ds ≡ f.count → Readable (coding_of f.kind) ds → items ds ≡ is ++ (i ∷ js) →
    (v : ℕ) → HasBytes (coding_of f.kind) v → Noncharacter v → (x : List ℕ) → tail_of s f ≡ bytes (coding_of f.kind) is ++ (value_bytes (coding_of f.kind) v ++ x) →
    says (check_of s) ≡ refuses 11 (f.end + (length (bytes (coding_of f.kind) is) + (length (value_bytes (coding_of f.kind) v) - 1)))
bad_place s y f passes marked ds is i js q o e v p n x t =
    let k = length (bytes (coding_of f.kind) is) + (length (value_bytes (coding_of f.kind) v) - 1) in
    (bad_exactly s y f passes marked (f.end + k)).1
    (k, refl, inner.bad_in_table (coding_of f.kind) f.count ds is i js q o e v p n (tail_of s f) x (bytes_drop f.end s y) t)

-- no walk gives one, on any bytes
pub walk_gives_none : (s : List ℕ) → Bytes s → (g k : ℕ) (i : Item) (v : ℕ) → says (item_of s g k) ≡ gives i → Holds v i → Noncharacter v → ⊥
walk_gives_none = inner.walk_none

-- "Looking one up is UNMAPPED": of an accepted font with a table, as a value or among those of a sequence
module _ (s : List ℕ) (y : Bytes s) (f : Font) (sound : says (check_of s) ≡ gives f) (marked : f.table ≡ true) where
  pub value_unmapped : (v : ℕ) → v ≤ 0x10FFFF → Noncharacter v → says (value_glyph s v) ≡ refuses 15 0
  value_unmapped = inner.value_none s y f (sound_said (check_of s) f sound) marked

  pub sequence_unmapped : (vs : List ℕ) → Any Noncharacter vs → (Any (λ (v : ℕ). 0x10FFFF < v) vs → ⊥) → says (sequence_glyph s vs) ≡ refuses 15 0
  sequence_unmapped = inner.sequence_none s y f (sound_said (check_of s) f sound) marked

-- "adding one is ASK", whatever the glyph; dropping one, as any value that the glyph does not list, is NOT THERE: of an accepted PSF2 font with a table
-- in the first len bytes of a buffer xs
module _ (xs : List ℕ) (y : Bytes xs) (len g v : ℕ) (within : len ≤ length xs) (f : Font) (sound : says (check_of (take len xs)) ≡ gives f) (kind : f.kind ≡ Psf2)
    (marked : f.table ≡ true) (n : Noncharacter v) where
  pub add_asks : says (add_answer xs len g v) ≡ refuses 13 0
  add_asks = inner.add_none xs y len g v within f (sound_said (check_of (take len xs)) f sound) kind marked n

  pub drop_not_there : g < f.count → v ≤ 0x10FFFF → says (drop_answer xs len g v) ≡ refuses 25 0
  drop_not_there = inner.drop_none xs y len g v within f (sound_said (check_of (take len xs)) f sound) kind marked n
