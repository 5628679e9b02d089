-- Path copying: the nodes from a root to one leaf made anew, bottom up, and everything beside them shared.
use Rattle.std.specs.Prelude.{Bool, true, false, cond, List, ◌∷◌, ℕ, zero, suc, ◌+◌, ◌-◌, ◌^◌, max, ltb, get_or, set, replicate}
use Rattle.std.proofs.Math.Seq.{slice}
use Rattle.meaning.specs.Limits.{node_cells, leaf_kind, branch_kind}
use Rattle.meaning.specs.Counting.{divides}
use Rattle.meaning.specs.Lent.{Nodes, used_of}
use Rattle.meaning.specs.Shape.{degree, bucket}
use Rattle.cells.specs.Cells.{cells_of}
use Rattle.store.specs.Store.{Store, top, make, raised}
use Rattle.store.specs.Answers.{others}

-- a store, and the node that was made in it last
pub record Made : Type 0 where
  pub store : Store
  pub node : ℕ

-- ---- the node that is copied

pub record Source : Type 0 where
  pub cells : List ℕ
  pub used : ℕ

-- node n, or a new one of which nothing is used yet
unfoldable pub source : Nodes → (there : Bool) → (n : ℕ) → Source
source s there n = cond there (record { cells = cells_of s.cells n; used = used_of s n }) (record { cells = replicate node_cells 0; used = 0 })

-- a leaf with value v in cell b, which is one of its own or the next
unfoldable pub leaf_with : Store → Source → (b v : ℕ) → Made
leaf_with s c b v = record { store = make s leaf_kind (max c.used (b + 1)) (set c.cells b v); node = top s }

-- a branch with the node made last in cell b, sharing its other children
unfoldable pub branch_with : Source → (b : ℕ) → Made → Made
branch_with c b r =
    record {
      store = make (raised r.store (others c.cells c.used b)) branch_kind (max c.used (b + 1)) (set c.cells b r.node);
      node = top r.store;
    }

-- ---- set and push

-- the way to an index below node n of height h, copied with value v there; a node that is not there is made
unfoldable pub assoc : Store → (bits h : ℕ) → (there : Bool) → (n index v : ℕ) → Made
assoc s bits zero there n index v = leaf_with s (source s.nodes there n) (bucket bits 0 index) v
assoc s bits (suc h) there n index v =
    let c = source s.nodes there n in
    let b = bucket bits (suc h) index in
    branch_with c b (assoc s bits h (ltb b c.used) (get_or c.cells b 0) index v)

-- a new root over a full one of height h, with the way to the first index beyond it
unfoldable pub grow : Store → (bits h root index v : ℕ) → Made
grow s bits h root index v =
    branch_with (record { cells = root ∷ replicate (node_cells - 1) 0; used = 1 }) 1 (assoc s bits h false 0 index v)

-- ---- drop

-- a leaf of the first b values
unfoldable pub leaf_cut : Store → Source → (b : ℕ) → Made
leaf_cut s c b = record { store = make s leaf_kind b (set c.cells b 0); node = top s }

-- a branch over the first b children, which are shared
unfoldable pub branch_cut : Store → Source → (b : ℕ) → Made
branch_cut s c b = record { store = make (raised s (slice 0 b c.cells)) branch_kind b (set c.cells b 0); node = top s }

-- the way to the last index below node n of height h, copied without it; a child that would be empty is left out
unfoldable pub drop_last : Store → (bits h n last : ℕ) → Made
drop_last s bits zero n last = leaf_cut s (source s.nodes true n) (bucket bits 0 last)
drop_last s bits (suc h) n last =
    let c = source s.nodes true n in
    let b = bucket bits (suc h) last in
    cond (divides (degree bits ^ suc h) last) (branch_cut s c b) (branch_with c b (drop_last s bits h (get_or c.cells b 0) last))
