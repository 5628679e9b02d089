-- What is right about a copied way, whatever it holds.
use Rattle.std.specs.Prelude.{◌≡◌, ◌≢◌, List, ℕ, ◌+◌, ◌<◌, get_or}
use Rattle.meaning.specs.Limits.{node_cells, free_kind}
use Rattle.meaning.specs.Lent.{Nodes, kind_of, used_of, cell_of}
use Rattle.cells.specs.Cells.{cells_of}
use Rattle.store.specs.Store.{Store}
use Rattle.paths.specs.Paths.{Made}
use Rattle.trees.specs.Stock.{Stock}
use Rattle.trees.specs.Extends.{Extends}

-- node n is what was written to it
pub record Written (s : Nodes) (n kind used : ℕ) (cells : List ℕ) : Type 0 where
  pub kinds : kind_of s n ≡ kind
  pub uses : used_of s n ≡ used
  pub whole : cells_of s.cells n ≡ cells
  pub cell : (i : ℕ) → i < node_cells → cell_of s n i ≡ get_or cells i 0

-- so many nodes of the stock are taken and written, the one that is answered last; k are left
pub record Copied (s : Store) (taken k : ℕ) (r : Made) : Type 0 where
  -- nothing that was in use is changed
  pub extends : Extends s.nodes r.store.nodes
  pub stock : Stock r.store k
  pub order : r.store.order ≡ s.order
  pub free : r.store.free + taken ≡ s.free
  -- the node was free, and is in use
  pub fresh : kind_of s.nodes r.node ≡ free_kind
  pub standing : kind_of r.store.nodes r.node ≢ free_kind
