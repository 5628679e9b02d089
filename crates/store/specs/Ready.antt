-- What the functions of the store require.
use Rattle.std.specs.Prelude.{◌≡◌, List, ℕ, ◌+◌, ◌*◌, ◌^◌, ◌<◌, ◌≤◌, length, get_or}
use Rattle.meaning.specs.Limits.{node_cells, word_width}
use Rattle.meaning.specs.Lent.{Nodes}
use Rattle.store.specs.Store.{Store, node_count, top}

-- each list has one entry a node, but the cells, which have 32
pub record Sized (s : Store) : Type 0 where
  pub used : length s.nodes.used ≡ node_count s
  pub counts : length s.counts ≡ node_count s
  pub order : length s.order ≡ node_count s
  pub cells : length s.nodes.cells ≡ node_cells * node_count s

-- the free order is not empty, and what is on top of it is a node
pub record FreeOnTop (s : Store) : Type 0 where
  pub some : 0 < s.free
  pub most : s.free ≤ length s.order
  pub below : top s < node_count s

-- node n has its place in each list
pub record HasPlace (s : Nodes) (counts : List ℕ) (n : ℕ) : Type 0 where
  pub kind : n < length s.kinds
  pub used : n < length s.used
  pub count : n < length counts
  pub cells : node_cells * n + node_cells ≤ length s.cells

-- each count can rise by k
unfoldable pub Room : (k : ℕ) → (counts : List ℕ) → Type 0
Room k counts = (n : ℕ) → get_or counts n 0 + k < 2 ^ word_width

-- each of a list is below n
unfoldable pub AllBelow : (n : ℕ) → List ℕ → Type 0
AllBelow n ms = (i : ℕ) → i < length ms → get_or ms i 0 < n
