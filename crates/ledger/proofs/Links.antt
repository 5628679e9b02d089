-- The links from a node's cells: its children, and what becomes of all links when one node changes.
use mathlib.Core.Path.{◌≡◌, sym, ap, ◌∙◌}
use mathlib.Core.Logic.{◌≢◌}
use mathlib.Core.List.{List}
use Prim.Native.Nat.{ℕ, ◌+◌, ◌*◌, ◌≤◌, ◌<◌}
use native.Mathlib.Omega.{arith}
use lib.Dec.{eqb}
use lib.ListN.{length, take}
use lib.Seq.{get_or-set_same}
use Rattle.meaning.specs.Limits.{node_cells, free_kind, branch_kind}
use Rattle.meaning.specs.Counting.{sum_to, bit, how_many, occurrences}
use Rattle.meaning.specs.Lent.{Nodes, child_count}
use Rattle.meaning.specs.Links.{cell_links}
use Rattle.meaning.proofs.Lists.{sum_same}
use Rattle.cells.specs.Cells.{cells_of}
use Rattle.store.specs.Store.{children_of, write_node}
use Rattle.store.specs.Frame.{Same}
use Rattle.store.proofs.Making.{write_cell}
use Rattle.meaning.proofs.Sums.{sum_one, occurs-take}
use Rattle.cells.proofs.CellLaws.{cells-length, cells_at}

-- ---- one node

-- the links from a node are the occurrences among its children
pub links-children : (s : Nodes) (m n : ℕ) → child_count s m ≤ node_cells → node_cells * m + node_cells ≤ length s.cells
    → cell_links s m n ≡ occurrences n (children_of s m)
unfolding cell_links children_of how_many
links-children s m n l fits =
    sum_same (child_count s m) _ _ (λ i k. ap (λ (x : ℕ). bit (eqb x n)) (sym (cells_at s.cells m i (omega arith))))
    ∙ sym (occurs-take n (child_count s m) (cells_of s.cells m) (omega (arith, cells-length s.cells m fits)))

-- a node that reads the same links the same
pub links-same : (s t : Nodes) (m n : ℕ) → child_count s m ≤ node_cells → Same s t m → cell_links t m n ≡ cell_links s m n
unfolding cell_links child_count how_many
links-same s t m n l e =
    rw (e.kind, e.used) (sum_same (child_count s m) _ _ (λ i k. ap (λ (x : ℕ). bit (eqb x n)) (e.cells i (omega arith))))

-- ---- all nodes, of which one changes

-- every other node reads the same
pub sum-but : (s t : Nodes) (N m n : ℕ) → m < N → ((k : ℕ) → child_count s k ≤ node_cells) → ((k : ℕ) → k ≢ m → Same s t k)
    → sum_to N (λ k. cell_links t k n) + cell_links s m n ≡ sum_to N (λ k. cell_links s k n) + cell_links t m n
sum-but s t N m n l fits e =
    sum_one N (λ k. cell_links t k n) (λ k. cell_links s k n) m l (λ k _ f. links-same s t k n (fits k) (e k f))

-- ---- a node is written

module _ (s : Nodes) (m k u : ℕ) (a : List ℕ) (whole : length a ≡ node_cells) (fits : node_cells * m + node_cells ≤ length s.cells) where
  -- a branch links its first u cells
  pub write-links : (n : ℕ) → m < length s.kinds → m < length s.used → k ≡ branch_kind → u ≤ node_cells
      → cell_links (write_node s m k u a) m n ≡ occurrences n (take u a)
  unfolding cell_links child_count how_many write_node
  write-links n lk lu e lc =
      rw (get_or-set_same s.kinds m k free_kind lk, get_or-set_same s.used m u 0 lu, e)
      (sum_same u _ _ (λ i l. ap (λ (x : ℕ). bit (eqb x n)) (write_cell s m k u a whole fits i (omega arith))) ∙ sym (occurs-take n u a (omega arith)))
