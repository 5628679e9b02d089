-- Who links a node, and which nodes are reached.
use Rattle.std.specs.Prelude.{cond, List, [], ◌∷◌, ◌++◌, map, ℕ, ◌+◌, ◌≤◌, eqb}
use Rattle.meaning.specs.Counting.{sum_to, how_many, occurrences}
use Rattle.meaning.specs.Lent.{Nodes, cell_of, child_count, VersionRecord, WalkRecord, Lent, size, walk_records}

-- the roots of the live ones
unfoldable pub live_roots : List VersionRecord → List ℕ
live_roots [] = []
live_roots (v ∷ vs) = let rest = live_roots vs in cond (eqb v.live 1) (v.root ∷ rest) rest

-- the links from slots and walks: a walk links its version's root once
unfoldable pub roots : Lent → List ℕ
roots s = live_roots s.versions ++ live_roots (map (λ (w : WalkRecord). w.version) (walk_records s))

-- the links from the cells of node m to n
unfoldable pub cell_links : Nodes → (m n : ℕ) → ℕ
cell_links s m n = how_many (child_count s m) (λ i. eqb (cell_of s m i) n)

-- the links to n from slots, walks and cells. A node of kind branch is a reached one in a well-formed state, and no other has cells that link.
unfoldable pub links : Lent → (n : ℕ) → ℕ
links s n = occurrences n (roots s) + sum_to (size s) (λ m. cell_links s.nodes m n)

-- from those roots; a slot or walk links it, or a cell of a reached node
pub data Reached (s : Nodes) (rs : List ℕ) : ℕ → Type 0 where
  by_root : {n : ℕ} → 1 ≤ occurrences n rs → Reached s rs n
  by_cell : {m n : ℕ} → Reached s rs m → 1 ≤ cell_links s m n → Reached s rs n
