-- Laws of a node made.
use mathlib.Core.Path.{◌≡◌}
use mathlib.Core.Logic.{◌≢◌}
use mathlib.Core.List.{List}
use Prim.Native.Nat.{ℕ, ◌+◌, ◌-◌, ◌*◌, ◌≤◌, ◌<◌}
use native.Mathlib.Omega.{arith}
use lib.ListN.{length, get_or, set}
use lib.Seq.{get_or-set_other}
use Rattle.meaning.specs.Limits.{node_cells, free_kind}
use Rattle.meaning.specs.Lent.{Nodes, cell_of}
use Rattle.cells.specs.Cells.{put_cells}
use Rattle.cells.proofs.CellLaws.{put-inside, put_other}
use Rattle.store.specs.Store.{Store, nodes_of, node_count, write_node, top, make}
use Rattle.store.specs.Ready.{Sized, FreeOnTop, HasPlace}
use Rattle.store.specs.Answers.{Written, Makes}
use Rattle.store.specs.Frame.{Same}

-- a number below the node count has its place
pub sized-place : (s : Store) (n : ℕ) → Sized s → n < node_count s → HasPlace s.nodes s.counts n
sized-place s n z l = record { kind = l; used = omega arith; count = omega arith; cells = omega arith }

pub top_below : (s : Store) (n : ℕ) → FreeOnTop s → n ≡ get_or s.order (s.free - 1) 0 → n < node_count s
unfolding top
top_below s n f e = rw e f.below

pub node-written : (s : Nodes) (n kind used : ℕ) (a cells' : List ℕ) → cells' ≡ put_cells s.cells n a
    → nodes_of (set s.kinds n kind) (set s.used n used) cells' ≡ write_node s n kind used a
unfolding write_node
node-written s n kind used a cells' e = rw e

-- the node on top, taken and written, is made
pub written-makes : (s : Store) (n kind used : ℕ) (a : List ℕ) (s' : Nodes) (counts' : List ℕ) → n ≡ get_or s.order (s.free - 1) 0
    → Written s.nodes s.counts n kind used a s' counts'
    → Makes s kind used a (record { nodes = s'; counts = counts'; order = s.order; free = s.free - 1 }) n
unfolding make top
written-makes s n kind used a s' counts' e w = record { made = cc; taken = e }

-- ---- what is read after a node was written

module _ (s : Nodes) (m k u : ℕ) (a : List ℕ) (whole : length a ≡ node_cells) (fits : node_cells * m + node_cells ≤ length s.cells) where
  pub write_same : (n : ℕ) → n ≢ m → Same s (write_node s m k u a) n
  unfolding write_node
  write_same n f = record {
    kind = get_or-set_other s.kinds m n k free_kind f;
    used = get_or-set_other s.used m n u 0 f;
    cells = λ i l. put_other s.cells m a fits whole n i f l;
  }

  pub write_cell : (i : ℕ) → i < node_cells → cell_of (write_node s m k u a) m i ≡ get_or a i 0
  unfolding write_node
  write_cell i l = put-inside s.cells m a fits whole i l
