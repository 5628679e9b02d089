-- The node store as lists, and what its functions make of it.
use Rattle.std.specs.Prelude.{List, [], ◌∷◌, ℕ, ◌+◌, ◌-◌, length, take, get_or, set}
use Rattle.meaning.specs.Lent.{Nodes, child_count}
use Rattle.cells.specs.Cells.{cells_of, put_cells}

-- the lent slices, and the number of free nodes that is carried beside them
pub record Store : Type 0 where
  pub nodes : Nodes
  pub counts : List ℕ
  pub order : List ℕ
  pub free : ℕ

abbrev pub nodes_of : (kinds used cells : List ℕ) → Nodes
nodes_of k u c = record { kinds = k; used = u; cells = c }

-- from the slices in the order in which functions take them
abbrev pub store_of : (kinds used counts cells order : List ℕ) → (free : ℕ) → Store
store_of k u n c o f = record { nodes = nodes_of k u c; counts = n; order = o; free = f }

abbrev pub node_count : Store → ℕ
node_count s = length s.nodes.kinds

-- ---- one node

-- the children of a node: a branch's cells in use
unfoldable pub children_of : Nodes → (n : ℕ) → List ℕ
children_of s n = take (child_count s n) (cells_of s.cells n)

-- node n written whole
unfoldable pub write_node : Nodes → (n kind used : ℕ) → (cells : List ℕ) → Nodes
write_node s n k u a = nodes_of (set s.kinds n k) (set s.used n u) (put_cells s.cells n a)

-- the free node that is taken next: the last of the free order
unfoldable pub top : Store → ℕ
top s = get_or s.order (s.free - 1) 0

-- that node, taken and written, with a count of 1 for the link that its maker is about to store
unfoldable pub make : Store → (kind used : ℕ) → (cells : List ℕ) → Store
make s k u a = record { nodes = write_node s.nodes (top s) k u a; counts = set s.counts (top s) 1; order = s.order; free = s.free - 1 }

-- ---- counts

unfoldable pub raise : (counts : List ℕ) → (n : ℕ) → List ℕ
raise counts n = set counts n (get_or counts n 0 + 1)

-- each of the nodes of a list has one link more
unfoldable pub raises : (counts : List ℕ) → (ns : List ℕ) → List ℕ
raises counts [] = counts
raises counts (n ∷ ns) = raises (raise counts n) ns

abbrev pub raised : Store → (ns : List ℕ) → Store
raised s ns = record { nodes = s.nodes; counts = raises s.counts ns; order = s.order; free = s.free }
