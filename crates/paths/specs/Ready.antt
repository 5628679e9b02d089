-- What the functions that copy a path answer and require.
use Rattle.std.specs.Prelude.{◌≡◌, Bool, true, false, Option, Some, None, List, ℕ, zero, suc, ◌+◌, ◌*◌, ◌≤◌, ◌<◌, ltb, length, take, get_or}
use Rattle.meaning.specs.Limits.{node_cells, word_width}
use Rattle.meaning.specs.Shape.{bucket}
use Rattle.meaning.specs.WellFormed.{LegalBits}
use Rattle.records.specs.declared.NodeNo.{NodeNo}
use Rattle.store.specs.Store.{Store, node_count}
use Rattle.store.specs.Ready.{Sized, FreeOnTop, Room, AllBelow}
use Rattle.paths.specs.Paths.{Made, Source, source}

abbrev pub made_of : Store → (node : ℕ) → Made
made_of s n = record { store = s; node = n }

abbrev pub source_of : (cells : List ℕ) → (used : ℕ) → Source
source_of a u = record { cells = a; used = u }

-- the number of a node that is there; where none is, what is made does not depend on it
abbrev pub node_number : Option NodeNo → ℕ
node_number (Some n) = n.0
node_number None = 0

-- ---- one node

-- node n has a used number and cells
pub record HasCells (us cs : List ℕ) (n : ℕ) : Type 0 where
  pub used : n < length us
  pub cells : node_cells * n + node_cells ≤ length cs

-- a node can be made, with cell b changed
pub record CanMake (s : Store) (b : ℕ) : Type 0 where
  pub sized : Sized s
  pub top : FreeOnTop s
  pub cell : b < node_cells

-- the children in use are below n, and b is the place of one of them or the next
pub record Fork (n : ℕ) (c : Source) (b : ℕ) : Type 0 where
  pub few : c.used ≤ node_cells
  pub next : b ≤ c.used
  pub children : AllBelow n (take c.used c.cells)

-- a branch can be made that shares children of c
pub record CanShare (s : Store) (c : Source) (b : ℕ) : Type 0 where
  pub make : CanMake s b
  pub fork : Fork (node_count s) c b
  pub room : Room node_cells s.counts

-- ---- a way from a node of height h down to a leaf

-- the way to an index, as far as its nodes are there
unfoldable pub Way : Store → (bits h : ℕ) → (there : Bool) → (n index : ℕ) → Type 0
Way s bits zero there n index = there ≡ true → n < node_count s
Way s bits (suc h) there n index =
    let c = source s.nodes there n in
    let b = bucket bits (suc h) index in
    (there ≡ true → n < node_count s) × Fork (node_count s) c b × Way s bits h (ltb b c.used) (get_or c.cells b 0) index

-- a full root, and the way to the first index beyond it
abbrev pub WayBeyond : Store → (bits h root index : ℕ) → Type 0
WayBeyond s bits h root index = (root < node_count s) × Way s bits h false 0 index

-- the way to the last index, all of whose nodes are there
unfoldable pub WayToLast : Store → (bits h n last : ℕ) → Type 0
WayToLast s bits zero n last = n < node_count s
WayToLast s bits (suc h) n last =
    let c = source s.nodes true n in
    let b = bucket bits (suc h) last in
    (n < node_count s) × Fork (node_count s) c b × WayToLast s bits h (get_or c.cells b 0) last

-- a way of height h can be copied: there are free nodes enough, and each count has room for the links of the copies
pub record Ready (s : Store) (bits h : ℕ) (Way : Type 0) : Type 0 where
  pub legal : LegalBits bits
  pub shift : h * bits < word_width
  pub sized : Sized s
  pub enough : h < s.free
  pub most : s.free ≤ length s.order
  pub free : AllBelow (node_count s) (take s.free s.order)
  pub room : Room (node_cells * suc h) s.counts
  pub way : Way
