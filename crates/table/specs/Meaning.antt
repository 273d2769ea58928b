-- The table as data, after the published grammar, its bytes in a coding, what a table is, and how far bytes are the start of one:
--   <unicodedescription> := <uc>*<seq>*<term>
--   <seq> := <ss><uc><uc>*
use Rattle.std.specs.Prelude.{List, [], ◌∷◌, ◌++◌, ℕ, suc, ◌≤◌, ◌<◌, length, take, ◌≡◌}
use Rattle.coding.specs.declared.Coding.{Coding}
use Rattle.coding.specs.Meaning.{ValueOf, value_bytes, start_bytes, end_bytes}
use Rattle.table.specs.declared.Item.{Item}
use Rattle.table.specs.declared.Item.TheVariants.{Single, Start, Value, End}
use Rattle.base.specs.Meaning.{Bytes}

-- a sequence has at least one value
pub record Seq : Type 0 where
  pub first : ℕ
  pub others : List ℕ

-- a glyph's description
pub record Desc : Type 0 where
  pub singles : List ℕ
  pub sequences : List Seq

-- <uc>*: values as items of one kind, in front of what follows
abbrev pub each : (ℕ → Item) → List ℕ → List Item → List Item
each f [] k = k
each f (v ∷ vs) k = f v ∷ each f vs k

-- <seq>*: each a start mark, its first value and the others, in front of what follows
abbrev pub seqs : List Seq → List Item → List Item
seqs [] k = k
seqs (q ∷ qs) k = Start ∷ Value q.first ∷ each Value q.others (seqs qs k)

-- <uc>*<seq>*<term>, in front of what follows
abbrev pub described : Desc → List Item → List Item
described d k = each Single d.singles (seqs d.sequences (End ∷ k))

-- the items of one description
abbrev pub items_of : Desc → List Item
items_of d = described d []

-- the items of descriptions, end to end
abbrev pub items : List Desc → List Item
items [] = []
items (d ∷ ds) = described d (items ds)

-- the bytes of an item
abbrev pub item_bytes : Coding → Item → List ℕ
item_bytes c (Single v) = value_bytes c v
item_bytes c Start = start_bytes c
item_bytes c (Value v) = value_bytes c v
item_bytes c End = end_bytes c

-- the bytes of items, end to end
abbrev pub bytes : Coding → List Item → List ℕ
bytes c [] = []
bytes c (i ∷ is) = item_bytes c i ++ bytes c is

-- every value among the items is one of the coding's
abbrev pub OfCoding : Coding → List Item → Type 0
OfCoding c [] = Unit {0}
OfCoding c (Single v ∷ is) = ValueOf c v × OfCoding c is
OfCoding c (Start ∷ is) = OfCoding c is
OfCoding c (Value v ∷ is) = ValueOf c v × OfCoding c is
OfCoding c (End ∷ is) = OfCoding c is

-- the bytes of descriptions
abbrev pub encode : Coding → List Desc → List ℕ
encode c ds = bytes c (items ds)

-- every value of the descriptions is one of the coding's
abbrev pub Readable : Coding → List Desc → Type 0
Readable c ds = OfCoding c (items ds)

-- where description g starts: behind the bytes of those before it
abbrev pub start_of : Coding → List Desc → ℕ → ℕ
start_of c ds g = length (encode c (take g ds))

-- "Bytes are a complete table when they are n descriptions end to end, nothing over."
pub record IsTable (c : Coding) (n : ℕ) (s : List ℕ) : Type 0 where
  pub reading : List Desc
  pub count : length reading ≡ n
  pub values : Readable c reading
  pub same : s ≡ encode c reading

-- "It could still be completed when some further bytes, or none, make it a complete table."
pub record Completable (c : Coding) (n : ℕ) (s : List ℕ) : Type 0 where
  pub more : List ℕ
  pub of : Bytes more
  pub table : IsTable c n (s ++ more)

-- the first k bytes are the longest start of a tail that could still be completed
pub record LongestStart (c : Coding) (n : ℕ) (s : List ℕ) (k : ℕ) : Type 0 where
  pub within : k ≤ length s
  pub completable : Completable c n (take k s)
  pub longest : (j : ℕ) → k < j → j ≤ length s → Completable c n (take j s) → ⊥

-- TABLE CUT: the tail could still be completed, and is not complete
abbrev pub Unfinished : Coding → ℕ → List ℕ → Type 0
Unfinished c n s = Completable c n s × (IsTable c n s → ⊥)

-- TABLE BAD at k: the longest start that could still be completed is shorter than the tail, and is not complete
abbrev pub BadAt : Coding → ℕ → List ℕ → ℕ → Type 0
BadAt c n s k = LongestStart c n s k × (k < length s) × (IsTable c n (take k s) → ⊥)

-- TRAILING at k: "bytes after a complete table"
abbrev pub TrailingAt : Coding → ℕ → List ℕ → ℕ → Type 0
TrailingAt c n s k = (k < length s) × IsTable c n (take k s)

-- up to place k the first g descriptions are complete, and not one more: the place stands in the description of glyph g
pub record InGlyph (c : Coding) (s : List ℕ) (k g : ℕ) : Type 0 where
  pub start : ℕ
  pub before : start ≤ k
  pub complete : IsTable c g (take start s)
  pub unended : (j : ℕ) → j ≤ k → IsTable c (suc g) (take j s) → ⊥
