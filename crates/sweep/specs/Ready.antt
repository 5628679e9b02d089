-- What the functions that lower counts are stated over, and what they require.
use Rattle.std.specs.Prelude.{List, ℕ, ◌+◌, ◌<◌, ◌≤◌, ltb, length, get_or}
use Rattle.meaning.specs.Limits.{node_cells}
use Rattle.meaning.specs.Counting.{how_many}
use Rattle.meaning.specs.Lent.{Nodes, child_count}
use Rattle.store.specs.Store.{Store, node_count, children_of}
use Rattle.store.specs.Ready.{Sized, AllBelow}

-- a store by what a lowered count changes of it, whatever its nodes
abbrev pub store_on : Nodes → (counts order : List ℕ) → (free : ℕ) → Store
store_on s c o f = record { nodes = s; counts = c; order = o; free = f }

-- how many nodes have a count
unfoldable pub live : (counts : List ℕ) → ℕ
live counts = how_many (length counts) (λ n. ltb 0 (get_or counts n 0))

-- a store in which counts can be lowered
pub record Whole (s : Store) : Type 0 where
  pub sized : Sized s
  -- the order has room for every node that has a count
  pub room : live s.counts + s.free ≤ length s.order
  -- what a branch holds are nodes
  pub few : (n : ℕ) → child_count s.nodes n ≤ node_cells
  pub children : (n : ℕ) → AllBelow (node_count s) (children_of s.nodes n)

-- a link to node n can be given up
pub record Releasable (s : Store) (n : ℕ) : Type 0 where
  pub whole : Whole s
  pub below : n < node_count s
