-- What descriptions list: the meaning that the walk and the lookups are held to.
use Rattle.std.specs.Prelude.{◌≡◌, ◌⊎◌, List, [], ◌∷◌, ℕ, zero, suc, ◌≤◌, ◌<◌}
use Rattle.table.specs.declared.Item.{Item}
use Rattle.table.specs.Meaning.{Seq, Desc, items_of}

-- y stands at place k of a list, counted from 0
abbrev pub Nth : {A : Type 0} → ℕ → List A → A → Type 0
Nth k [] y = ⊥
Nth zero (x ∷ xs) y = x ≡ y
Nth (suc k) (x ∷ xs) y = Nth k xs y

-- some element of a list has P
abbrev pub Any : {A : Type 0} → (A → Type 0) → List A → Type 0
Any P [] = ⊥
Any P (x ∷ xs) = P x ⊎ Any P xs

-- "Glyph g lists a value when its description has it as a single."
abbrev pub ListsValue : ℕ → Desc → Type 0
ListsValue v d = Any (λ (w : ℕ). w ≡ v) d.singles

-- "It lists a sequence when, after some start mark, the values up to the next start or end mark are exactly those, in that order."
abbrev pub ListsSequence : List ℕ → Desc → Type 0
ListsSequence vs d = Any (λ (q : Seq). q.first ∷ q.others ≡ vs) d.sequences

-- the lowest glyph from a number on; a lookup over all glyphs is from 0: glyph g is described with P, and no lower glyph from there on is
pub record Lowest (P : Desc → Type 0) (from : ℕ) (ds : List Desc) (g : ℕ) : Type 0 where
  pub description : Desc
  pub seen : from ≤ g
  pub here : Nth g ds description
  pub lists : P description
  pub lower : (j : ℕ) (d : Desc) → from ≤ j → j < g → Nth j ds d → P d → ⊥

-- no glyph from a number on is described with P
abbrev pub Nowhere : (Desc → Type 0) → ℕ → List Desc → Type 0
Nowhere P from ds = (g : ℕ) (d : Desc) → from ≤ g → Nth g ds d → P d → ⊥

-- item k of glyph g is i
pub record ItemIs (ds : List Desc) (g k : ℕ) (i : Item) : Type 0 where
  pub description : Desc
  pub here : Nth g ds description
  pub item : Nth k (items_of description) i
