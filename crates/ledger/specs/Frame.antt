-- What a node is written with, and what reads the same before and after.
use Rattle.std.specs.Prelude.{◌≡◌, ◌≢◌, List, ℕ, ◌≤◌, ◌<◌, length, get_or}
use Rattle.meaning.specs.Limits.{node_cells, free_kind}
use Rattle.meaning.specs.Lent.{kind_of}
use Rattle.store.specs.Store.{Store, node_count}
use Rattle.store.specs.Frame.{Same}

-- 32 cells for a node, of which the first u are in use and the others 0
pub record Filled (u : ℕ) (a : List ℕ) : Type 0 where
  pub fits : u ≤ node_cells
  pub whole : length a ≡ node_cells
  pub spare : (i : ℕ) → u ≤ i → i < node_cells → get_or a i 0 ≡ 0

-- t has the nodes of s, some of them given back
pub record Remains (s t : Store) : Type 0 where
  pub size : node_count t ≡ node_count s
  pub order : length t.order ≡ length s.order
  pub cells : t.nodes.cells ≡ s.nodes.cells
  -- a node in use afterwards reads the same
  pub same : (n : ℕ) → kind_of t.nodes n ≢ free_kind → Same s.nodes t.nodes n
  pub more : s.free ≤ t.free
