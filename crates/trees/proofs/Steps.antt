-- One step up the way: a leaf, or a branch over the node made last.
use mathlib.Core.Path.{◌≡◌, ◌∙◌}
use mathlib.Core.Logic.{◌≢◌}
use Prim.Native.Nat.{ℕ, zero, suc, ◌+◌, ◌-◌, ◌*◌, ◌^◌, ◌≤◌, ◌<◌, min, max}
use native.Mathlib.Decide.{ℕ_discrete}
use native.Mathlib.Nat.{lt_irrefl}
use native.Mathlib.Omega.{arith}
use lib.ListN.{length, get_or, set, length-set}
use lib.Seq.{slice, get_or-set_same, get_or-set_other}
use Rattle.meaning.specs.Limits.{node_cells, leaf_kind, branch_kind}
use Rattle.meaning.specs.Lent.{cell_of}
use Rattle.meaning.specs.Shape.{degree, bucket}
use Rattle.meaning.specs.Trees.{Shaped, element}
use Rattle.meaning.specs.WellFormed.{LegalBits}
use Rattle.store.specs.Store.{Store, top, raised}
use Rattle.store.specs.Answers.{others}
use Rattle.paths.specs.Paths.{Made, Source, leaf_with, branch_with, leaf_cut, branch_cut}
use Rattle.shape.proofs.Powers.{degree-most}
use Rattle.shape.proofs.Buckets.{bucket-below}
use Rattle.trees.specs.Stock.{Stock}
use Rattle.trees.specs.Extends.{Extends}
use Rattle.trees.specs.Copied.{Written, Copied}
use Rattle.trees.specs.Elements.{inside}
use Rattle.trees.proofs.Framing.{extends-trans, free_was, shape-stays, element-stays}
use Rattle.trees.proofs.Making.{make-writes, make-copies, raised-stocks}

-- ---- leaves

module _ (s : Store) (c : Source) (b v k : ℕ) (z : Stock s (suc k)) (whole : length c.cells ≡ node_cells) where
  pub leaf-writes : Written (leaf_with s c b v).store.nodes (leaf_with s c b v).node leaf_kind (max c.used (b + 1)) (set c.cells b v)
  unfolding leaf_with
  leaf-writes = make-writes s k leaf_kind (max c.used (b + 1)) (set c.cells b v) z (length-set c.cells b v ∙ whole)

  pub leaf-copies : Copied s 1 k (leaf_with s c b v)
  unfolding leaf_with
  leaf-copies = make-copies s k leaf_kind (max c.used (b + 1)) (set c.cells b v) z (length-set c.cells b v ∙ whole) (λ e. lt_irrefl zero (omega arith))

module _ (s : Store) (c : Source) (b k : ℕ) (z : Stock s (suc k)) (whole : length c.cells ≡ node_cells) where
  pub leaf-cut-writes : Written (leaf_cut s c b).store.nodes (leaf_cut s c b).node leaf_kind b (set c.cells b 0)
  unfolding leaf_cut
  leaf-cut-writes = make-writes s k leaf_kind b (set c.cells b 0) z (length-set c.cells b 0 ∙ whole)

  pub leaf-cut-copies : Copied s 1 k (leaf_cut s c b)
  unfolding leaf_cut
  leaf-cut-copies = make-copies s k leaf_kind b (set c.cells b 0) z (length-set c.cells b 0 ∙ whole) (λ e. lt_irrefl zero (omega arith))

  pub branch-cut-writes : Written (branch_cut s c b).store.nodes (branch_cut s c b).node branch_kind b (set c.cells b 0)
  unfolding branch_cut top
  branch-cut-writes =
      make-writes (raised s (slice 0 b c.cells)) k branch_kind b (set c.cells b 0) (raised-stocks s (suc k) (slice 0 b c.cells) z) (length-set c.cells b 0 ∙ whole)

  pub branch-cut-copies : Copied s 1 k (branch_cut s c b)
  unfolding branch_cut top
  branch-cut-copies =
      let p = make-copies (raised s (slice 0 b c.cells)) k branch_kind b (set c.cells b 0) (raised-stocks s (suc k) (slice 0 b c.cells) z) (length-set c.cells b 0 ∙ whole) (λ e. lt_irrefl zero (omega arith)) in
      record { extends = p.extends; stock = p.stock; order = p.order; free = p.free; fresh = p.fresh; standing = p.standing }

-- ---- a branch over the node made last

module _ (r : Made) (c : Source) (b k : ℕ) (z : Stock r.store (suc k)) (whole : length c.cells ≡ node_cells) where
  shared : Store
  shared = raised r.store (others c.cells c.used b)

  stocked : Stock shared (suc k)
  unfolding shared
  stocked = raised-stocks r.store (suc k) (others c.cells c.used b) z

  pub branch-writes : Written (branch_with c b r).store.nodes (branch_with c b r).node branch_kind (max c.used (b + 1)) (set c.cells b r.node)
  unfolding branch_with top shared
  branch-writes = make-writes shared k branch_kind (max c.used (b + 1)) (set c.cells b r.node) stocked (length-set c.cells b r.node ∙ whole)

  made : Copied shared 1 k (branch_with c b r)
  unfolding branch_with top shared
  made = make-copies shared k branch_kind (max c.used (b + 1)) (set c.cells b r.node) stocked (length-set c.cells b r.node ∙ whole) (λ e. lt_irrefl zero (omega arith))

  pub branch-extends : Extends r.store.nodes (branch_with c b r).store.nodes
  unfolding shared
  branch-extends = made.extends

  pub branch-copies : (s : Store) (taken : ℕ) → Copied s taken (suc k) r → Copied s (suc taken) k (branch_with c b r)
  unfolding shared
  branch-copies s taken p =
      let q = made in
      record {
        extends = extends-trans s.nodes r.store.nodes _ p.extends q.extends;
        stock = q.stock;
        order = q.order ∙ p.order;
        free = omega (arith, p.free, q.free);
        fresh = free_was s.nodes r.store.nodes (branch_with c b r).node p.extends q.fresh;
        standing = q.standing;
      }

module _ (r : Made) (c : Source) (bits b k : ℕ) (legal : LegalBits bits) (z : Stock r.store (suc k)) (whole : length c.cells ≡ node_cells) (small : b < degree bits) where
  cell_same : cell_of (branch_with c b r).store.nodes (branch_with c b r).node b ≡ r.node
  cell_same =
      let most = degree-most bits legal.most in
      (branch-writes r c b k z whole).cell b (omega arith) ∙ get_or-set_same c.cells b r.node 0 (omega arith)

  cell_other : (i : ℕ) → i < degree bits → i ≢ b → cell_of (branch_with c b r).store.nodes (branch_with c b r).node i ≡ get_or c.cells i 0
  cell_other i l f =
      let most = degree-most bits legal.most in
      (branch-writes r c b k z whole).cell i (omega arith) ∙ get_or-set_other c.cells b i r.node 0 f

  -- the shape of the branch from those of its children
  pub branch-shape : (h m : ℕ) → b ≤ c.used → max c.used (b + 1) ≤ degree bits
      → m ≤ max c.used (b + 1) * degree bits ^ suc h → max c.used (b + 1) * degree bits ^ suc h < m + degree bits ^ suc h
      → Shaped r.store.nodes bits h (min (degree bits ^ suc h) (m - b * degree bits ^ suc h)) r.node
      → ((i : ℕ) → i < c.used → i ≢ b → Shaped r.store.nodes bits h (min (degree bits ^ suc h) (m - i * degree bits ^ suc h)) (get_or c.cells i 0))
      → Shaped (branch_with c b r).store.nodes bits (suc h) m (branch_with c b r).node
  unfolding Shaped
  branch-shape h m next room enough needed new old =
      let w = branch-writes r c b k z whole in
      record {
        kind = w.kinds;
        room = rw w.uses room;
        enough = rw w.uses enough;
        needed = rw w.uses needed;
        children = λ i l. pick i (rw w.uses at l) (ℕ_discrete i b);
      }
    where
      stays : (x n : ℕ) → Shaped r.store.nodes bits h x n → Shaped (branch_with c b r).store.nodes bits h x n
      stays x n = shape-stays r.store.nodes (branch_with c b r).store.nodes bits h x n legal (branch-extends r c b k z whole)

      pick : (i : ℕ) → i < max c.used (b + 1) → Dec (i ≡ b)
          → Shaped (branch_with c b r).store.nodes bits h (min (degree bits ^ suc h) (m - i * degree bits ^ suc h)) (cell_of (branch_with c b r).store.nodes (branch_with c b r).node i)
      pick i l (yes e) = rw (e, cell_same) (stays _ r.node new)
      pick i l (no f) = rw (cell_other i (omega arith) f) (stays _ (get_or c.cells i 0) (old i (omega arith) f))

  pub branch-new-element : (h m i : ℕ) → bucket bits (suc h) i ≡ b → Shaped r.store.nodes bits h m r.node → inside bits h i < m
      → element (branch_with c b r).store.nodes bits (suc h) (branch_with c b r).node i ≡ element r.store.nodes bits h r.node i
  unfolding element
  branch-new-element h m i e p l = rw (e, cell_same) (element-stays r.store.nodes _ bits h m r.node i legal (branch-extends r c b k z whole) p l)

  pub branch-old-element : (h m i : ℕ) → bucket bits (suc h) i ≢ b → Shaped r.store.nodes bits h m (get_or c.cells (bucket bits (suc h) i) 0) → inside bits h i < m
      → element (branch_with c b r).store.nodes bits (suc h) (branch_with c b r).node i ≡ element r.store.nodes bits h (get_or c.cells (bucket bits (suc h) i) 0) i
  unfolding element
  branch-old-element h m i f p l =
      rw (cell_other (bucket bits (suc h) i) (bucket-below bits (suc h) i) f)
      (element-stays r.store.nodes _ bits h m (get_or c.cells (bucket bits (suc h) i) 0) i legal (branch-extends r c b k z whole) p l)
