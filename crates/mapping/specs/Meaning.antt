-- A single value added to a glyph's description or dropped from it (document 02, W4): "add a single value to a glyph as its last single, or
-- drop its first listing there as a single. Every other item of every description stays".
use Rattle.std.specs.Prelude.{List, [], ◌∷◌, ◌++◌, ℕ, zero, suc, ◌<◌, ◌≡◌, eqb}
use Rattle.base.specs.Meaning.{pick}
use Rattle.table.specs.Meaning.{Desc}
use Rattle.lookup.specs.Meaning.{Nth, Any, ListsValue}

-- glyph g lists v as a single
pub record Lists (v g : ℕ) (ds : List Desc) : Type 0 where
  pub description : Desc
  pub here : Nth g ds description
  pub lists : ListsValue v description

-- descriptions with glyph g's changed
unfoldable pub changed : (Desc → Desc) → ℕ → List Desc → List Desc
changed f g [] = []
changed f zero (d ∷ ds) = f d ∷ ds
changed f (suc g) (d ∷ ds) = d ∷ changed f g ds

-- a description with v as its last single
abbrev pub with_single : ℕ → Desc → Desc
with_single v d = record { singles = d.singles ++ (v ∷ []); sequences = d.sequences }

-- values without the first that is v
unfoldable pub without : ℕ → List ℕ → List ℕ
without v [] = []
without v (w ∷ vs) = pick (eqb w v) vs (w ∷ without v vs)

-- a description without the first listing of v as a single
abbrev pub without_single : ℕ → Desc → Desc
without_single v d = record { singles = without v d.singles; sequences = d.sequences }

-- the first v among values: nothing before it is v, and without it the others are left
pub record First (v : ℕ) (vs : List ℕ) : Type 0 where
  pub before : List ℕ
  pub after : List ℕ
  pub same : vs ≡ before ++ (v ∷ after)
  pub none : Any (λ (w : ℕ). w ≡ v) before → ⊥
  pub less : without v vs ≡ before ++ after

-- v added to glyph g, and dropped from it
abbrev pub added : ℕ → ℕ → List Desc → List Desc
added v g ds = changed (with_single v) g ds

abbrev pub dropped : ℕ → ℕ → List Desc → List Desc
dropped v g ds = changed (without_single v) g ds

-- the lowest glyph but g that is described with P
pub record LowestOther (P : Desc → Type 0) (g : ℕ) (ds : List Desc) (h : ℕ) : Type 0 where
  pub description : Desc
  pub here : Nth h ds description
  pub other : h ≡ g → ⊥
  pub lists : P description
  pub lower : (j : ℕ) (d : Desc) → (j ≡ g → ⊥) → j < h → Nth j ds d → P d → ⊥

-- no glyph but g is described with P
abbrev pub NoOther : (Desc → Type 0) → ℕ → List Desc → Type 0
NoOther P g ds = (h : ℕ) (d : Desc) → (h ≡ g → ⊥) → Nth h ds d → P d → ⊥
