-- A copied way as the steps up that make it, each with what counts of links have to know of it.
use Rattle.std.specs.Prelude.{◌≡◌, ◌≢◌, ℕ, suc, ◌+◌, ◌≤◌, ◌<◌, length, get_or}
use Rattle.meaning.specs.Limits.{node_cells, free_kind}
use Rattle.meaning.specs.Lent.{Nodes, kind_of}
use Rattle.store.specs.Store.{Store}
use Rattle.paths.specs.Paths.{Made, Source, leaf_with, branch_with, leaf_cut, branch_cut}
use Rattle.trees.specs.Sources.{Spare, Tidy}

-- the cells that a step at cell b copies
pub record Step (s : Nodes) (c : Source) (b : ℕ) : Type 0 where
  pub whole : length c.cells ≡ node_cells
  pub room : c.used ≤ node_cells
  pub small : b < node_cells
  pub spare : Tidy s → Spare c.cells c.used

-- the children of a branch are in use
abbrev pub Linked : Nodes → Source → Type 0
Linked s c = (i : ℕ) → i < c.used → kind_of s (get_or c.cells i 0) ≢ free_kind

-- what is made of a store by taking so many nodes
pub data Climb (s : Store) : (taken : ℕ) → Made → Type 0 where
  -- at a cell in use or at the next
  leaf_put : (c : Source) (b v : ℕ) → Step s.nodes c b → b ≤ c.used → Climb s 1 (leaf_with s c b v)
  branch_put : {taken : ℕ} {r : Made} (c : Source) (b : ℕ) → Climb s taken r → Step s.nodes c b → b ≤ c.used → Linked s.nodes c → Climb s (suc taken) (branch_with c b r)
  -- at the last cell in use, or at none
  leaf_less : (c : Source) (b : ℕ) → Step s.nodes c b → c.used ≤ b + 1 → Climb s 1 (leaf_cut s c b)
  branch_less : (c : Source) (b : ℕ) → Step s.nodes c b → c.used ≡ b + 1 → Linked s.nodes c → Climb s 1 (branch_cut s c b)
