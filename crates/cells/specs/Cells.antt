-- The 32 cells of a node in the flat list of all cells.
use Rattle.std.specs.Prelude.{List, ◌++◌, ℕ, ◌+◌, ◌*◌, take, drop}
use Rattle.meaning.specs.Limits.{node_cells}

-- those of node n
unfoldable pub cells_of : (cells : List ℕ) → (n : ℕ) → List ℕ
cells_of cells n = take node_cells (drop (node_cells * n) cells)

-- all cells, with a in the place of those of node n
unfoldable pub put_cells : (cells : List ℕ) → (n : ℕ) → (a : List ℕ) → List ℕ
put_cells cells n a = take (node_cells * n) cells ++ (a ++ drop (node_cells * n + node_cells) cells)
