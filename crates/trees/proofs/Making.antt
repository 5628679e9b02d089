-- A node is taken and written: what is read back, and what is left.
use mathlib.Core.Path.{◌≡◌, refl, sym, ap, ◌∙◌}
use mathlib.Core.Logic.{◌≢◌}
use mathlib.Core.List.{List}
use Prim.Native.Nat.{ℕ, zero, suc, ◌+◌, ◌*◌, ◌≤◌, ◌<◌}
use native.Mathlib.Nat.{lt_irrefl}
use native.Mathlib.Decide.{ℕ_discrete}
use native.Mathlib.Omega.{arith}
use lib.ListN.{length, get_or, length-set}
use lib.Seq.{get_or-set_same, get_or-set_other}
use Rattle.meaning.specs.Limits.{node_cells, free_kind}
use Rattle.meaning.specs.Lent.{Nodes, kind_of, used_of, cell_of}
use Rattle.store.specs.Store.{Store, node_count, write_node, top, make, raised}
use Rattle.trees.specs.Stock.{waiting, Stock}
use Rattle.store.specs.Frame.{Same}
use Rattle.store.proofs.Raising.{raises-length}
use Rattle.store.proofs.Making.{sized-place, write_same, write_cell}
use Rattle.trees.specs.Extends.{Extends}
use Rattle.trees.specs.Sources.{Spare, Tidy}
use Rattle.trees.specs.Copied.{Written, Copied}
use Rattle.cells.proofs.CellLaws.{put-length, put_same}

-- ---- the node that is taken

pub top-waits : (s : Store) → top s ≡ waiting s 0
unfolding top waiting
top-waits s = refl

pub top-node : (s : Store) (k : ℕ) → Stock s (suc k) → top s < node_count s
top-node s k z = rw (top-waits s) (z.node 0 (omega arith))

pub top-free : (s : Store) (k : ℕ) → Stock s (suc k) → kind_of s.nodes (top s) ≡ free_kind
top-free s k z = rw (top-waits s) (z.kind 0 (omega arith))

pub use-apart : (s : Store) (k n : ℕ) → Stock s (suc k) → kind_of s.nodes n ≢ free_kind → n ≢ top s
use-apart s k n z f e = f (ap (kind_of s.nodes) e ∙ top-free s k z)

-- ---- the node that is written

module _ (s : Store) (k kind used : ℕ) (a : List ℕ) (z : Stock s (suc k)) (whole : length a ≡ node_cells) where
  fits : node_cells * top s + node_cells ≤ length s.nodes.cells
  fits = (sized-place s (top s) z.sizes (top-node s k z)).cells

  pub make-writes : Written (make s kind used a).nodes (top s) kind used a
  unfolding make write_node
  make-writes = record {
    kinds = get_or-set_same s.nodes.kinds (top s) kind free_kind (top-node s k z);
    uses = get_or-set_same s.nodes.used (top s) used 0 (omega (arith, z.sizes.used, top-node s k z));
    whole = put_same s.nodes.cells (top s) a fits whole;
    cell = write_cell s.nodes (top s) kind used a whole fits;
  }

  -- and no other is
  pub make-keeps : (n : ℕ) → n ≢ top s → Same s.nodes (make s kind used a).nodes n
  unfolding make
  make-keeps n f = write_same s.nodes (top s) kind used a whole fits n f

  pub make-extends : Extends s.nodes (make s kind used a).nodes
  unfolding make write_node
  make-extends = record { size = length-set s.nodes.kinds (top s) kind; same = λ n f. make-keeps n (use-apart s k n z f) }

  pub make-frees : (make s kind used a).free + 1 ≡ s.free
  unfolding make
  make-frees = omega (arith, z.enough)

  later : (j : ℕ) → waiting (make s kind used a) j ≡ waiting s (suc j)
  unfolding make waiting
  later j = ap (λ x. get_or s.order x 0) (omega arith)

  pub make-stocks : Stock (make s kind used a) k
  unfolding make write_node
  make-stocks =
      let size = length-set s.nodes.kinds (top s) kind in
      record {
        sizes = record {
          used = simp length-set z.sizes.used;
          cells = put-length s.nodes.cells (top s) a fits whole ∙ rw size z.sizes.cells;
          counts = simp length-set z.sizes.counts;
          order = rw size z.sizes.order;
        };
        enough = omega (arith, z.enough);
        within = omega (arith, z.within);
        node = λ j l. rw (later j, size) (z.node (suc j) (omega arith));
        kind = λ j l.
            rw (later j)
            (get_or-set_other s.nodes.kinds (top s) (waiting s (suc j)) kind free_kind
            (λ e. lt_irrefl zero (omega (arith, z.apart (suc j) 0 (omega arith) (omega arith) (e ∙ top-waits s))))
            ∙ z.kind (suc j) (omega arith));
        apart = λ i j l m e.
            omega (arith, z.apart (suc i) (suc j) (omega arith) (omega arith) (sym (later i) ∙ e ∙ later j));
      }

  pub make-copies : kind ≢ free_kind → Copied s 1 k (record { store = make s kind used a; node = top s })
  unfolding make write_node
  make-copies f = record {
    extends = make-extends;
    stock = make-stocks;
    order = refl;
    free = make-frees;
    fresh = top-free s k z;
    standing = rw make-writes.kinds f;
  }

  pub make-tidies : Tidy s.nodes → Spare a used → Tidy (make s kind used a).nodes
  make-tidies tidy spare n i = pick (ℕ_discrete n (top s))
    where
      t : Nodes
      t = (make s kind used a).nodes

      pick : Dec (n ≡ top s) → kind_of t n ≢ free_kind → used_of t n ≤ i → i < node_cells → cell_of t n i ≡ 0
      pick (yes e) f l m =
          let l₂ : used ≤ i = rw (e, make-writes.uses) at l in
          rw e (make-writes.cell i m ∙ spare i l₂ m)
      pick (no d) f l m =
          let same = make-keeps n d in
          same.cells i m ∙ tidy n i (rw same.kind at f) (rw same.used at l) m

-- ---- counts

-- counts are no part of the stock
pub raised-stocks : (s : Store) (k : ℕ) (ns : List ℕ) → Stock s k → Stock (raised s ns) k
unfolding waiting
raised-stocks s k ns z = record {
  sizes = record {
    used = z.sizes.used;
    cells = z.sizes.cells;
    counts = raises-length s.counts ns ∙ z.sizes.counts;
    order = z.sizes.order;
  };
  enough = z.enough;
  within = z.within;
  node = z.node;
  kind = z.kind;
  apart = z.apart;
}

-- fewer are there too
pub stock-lessens : (s : Store) (k j : ℕ) → j ≤ k → Stock s k → Stock s j
stock-lessens s k j l z = record {
  sizes = z.sizes;
  enough = omega (arith, z.enough);
  within = z.within;
  node = λ i m. z.node i (omega arith);
  kind = λ i m. z.kind i (omega arith);
  apart = λ i i₂ m m₂. z.apart i i₂ (omega arith) (omega arith);
}
