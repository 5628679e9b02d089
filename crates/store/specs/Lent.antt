-- The store of the code as the lists that its slices hold.
use Rattle.std.specs.Prelude.{◌≡◌, List, ℕ, length}
use Rattle.std.specs.Borrow.{MutBor}
use Rattle.meaning.specs.Limits.{leaf_kind, branch_kind}
use Rattle.meaning.specs.Lent.{Nodes}
use Rattle.store.specs.Store.{Store, nodes_of, store_of}
use Rattle.store.specs.declared.Store as code
use Rattle.store.specs.declared.NodeKind.{NodeKind}
use Rattle.store.specs.declared.NodeKind.TheVariants.{Leaf, Branch}

-- with the cells and the order that are lent beside it
abbrev pub nodes_with : code.Store → (cells : List ℕ) → Nodes
nodes_with s cells = nodes_of s.kinds.now s.used.now cells

abbrev pub held : code.Store → (cells order : List ℕ) → Store
held s cells order = store_of s.kinds.now s.used.now s.counts.now cells order s.free

-- the same lent slice, whatever it holds
pub record SameSlice (r q : MutBor (List ℕ)) : Type 0 where
  pub name : q.ghost_name ≡ r.ghost_name
  pub length : length q.now ≡ length r.now

-- both are over the same lent slices
pub record SameSlices (s t : code.Store) : Type 0 where
  pub kinds : SameSlice s.kinds t.kinds
  pub used : SameSlice s.used t.used
  pub counts : SameSlice s.counts t.counts

-- the byte of a kind
abbrev pub kind_byte : NodeKind → ℕ
kind_byte Leaf = leaf_kind
kind_byte Branch = branch_kind
