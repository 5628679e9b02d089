-- A node is made: links that its maker held move into its cells, and one link to it is held instead.
use mathlib.Core.Path.{◌≡◌, refl, sym, ap, ◌∙◌}
use mathlib.Core.Logic.{◌≢◌}
use mathlib.Core.Bool.{cond}
use mathlib.Core.List.{List, [], ◌∷◌, ◌++◌}
use Prim.Native.Nat.{ℕ, zero, suc, ◌+◌, ◌-◌, ◌*◌, ◌≤◌, ◌<◌}
use native.Mathlib.Nat.{lt_irrefl}
use native.Mathlib.Decide.{ℕ_discrete}
use native.Mathlib.Omega.{arith}
use lib.Dec.{eqb}
use lib.ListN.{get_or, take, length-set}
use lib.Seq.{get_or-set_same, get_or-set_other}
use borrow.Author.Tests.{eq-eqb, ne_eqb}
use Rattle.meaning.specs.Limits.{node_cells, free_kind, leaf_kind, branch_kind}
use Rattle.meaning.specs.Counting.{sum_to, bit, occurrences}
use Rattle.meaning.specs.Lent.{kind_of, used_of, cell_of, is_free}
use Rattle.meaning.specs.Links.{cell_links}
use Rattle.meaning.proofs.Lists.{occurs-append}
use Rattle.store.specs.Store.{Store, node_count, top, write_node, make, raised}
use Rattle.ledger.specs.Kept.{Kept, count_in, links_in}
use Rattle.store.specs.Ready.{Sized}
use Rattle.store.specs.Frame.{Same}
use Rattle.store.proofs.Making.{sized-place, write_cell, write_same}
use Rattle.ledger.specs.Frame.{Filled}
use Rattle.meaning.proofs.Sums.{term-le, bit-same, bit-other, occurs-none, occurs-cons}
use Rattle.meaning.proofs.Nodes.{free-linkless, other-linkless, same_bit, used-bit, used-inside}
use Rattle.cells.proofs.CellLaws.{put-length}
use Rattle.ledger.proofs.Links.{links-same, sum-but, write-links}
use Rattle.ledger.proofs.Facts.{children-le, free-unlinked, order-once}
use Rattle.ledger.proofs.Taking.{order-top, top-inside, top-free, top-unrooted, used-not-top}
use Rattle.ledger.proofs.Raising.{raised_keeps}

module _ {s : Store} (kind : ℕ) {u : ℕ} {a old : List ℕ} (k : Kept s old) (some : 0 < s.free) (filled : Filled u a) where
  abbrev made : Store
  made = make s kind u a

  inside : top s < node_count s
  inside = top-inside k some

  -- every other node stays as it was
  pub make_same : (n : ℕ) → n ≢ top s → Same s.nodes (make s kind u a).nodes n
  unfolding make
  make_same n f = write_same s.nodes (top s) kind u a filled.whole (sized-place s (top s) k.sized inside).cells n f

  make-size : node_count made ≡ node_count s
  unfolding make write_node
  make-size = length-set s.nodes.kinds (top s) kind

  make-sized : Sized made
  unfolding make write_node
  make-sized = record {
    used = length-set s.nodes.used (top s) u ∙ k.sized.used ∙ sym make-size;
    cells = put-length s.nodes.cells (top s) a (sized-place s (top s) k.sized inside).cells filled.whole ∙ k.sized.cells ∙ ap (λ (n : ℕ). node_cells * n) (sym make-size);
    counts = length-set s.counts (top s) 1 ∙ k.sized.counts ∙ sym make-size;
    order = k.sized.order ∙ sym make-size;
  }

  pub make-kind : kind_of (make s kind u a).nodes (top s) ≡ kind
  unfolding make write_node
  make-kind = get_or-set_same s.nodes.kinds (top s) kind free_kind inside

  pub make-used : used_of (make s kind u a).nodes (top s) ≡ u
  unfolding make write_node
  make-used = get_or-set_same s.nodes.used (top s) u 0 (omega (arith, inside, k.sized.used))

  pub make-cell : (i : ℕ) → i < node_cells → cell_of (make s kind u a).nodes (top s) i ≡ get_or a i 0
  unfolding make
  make-cell i l = write_cell s.nodes (top s) kind u a filled.whole (sized-place s (top s) k.sized inside).cells i l

  make-count : count_in made (top s) ≡ 1
  unfolding make
  make-count = get_or-set_same s.counts (top s) 1 0 (omega (arith, inside, k.sized.counts))

  other-count : (n : ℕ) → n ≢ top s → count_in made n ≡ count_in s n
  unfolding make
  other-count n f = get_or-set_other s.counts (top s) n 1 0 f

  make-linked : (m n : ℕ) → m ≢ top s → cell_links made.nodes m n ≡ cell_links s.nodes m n
  make-linked m n f = links-same s.nodes made.nodes m n (children-le k m) (make_same m f)

  make-links : (n : ℕ) → links_in made n ≡ links_in s n + cell_links made.nodes (top s) n
  make-links n =
      rw make-size
      (omega (arith, sum-but s.nodes made.nodes (node_count s) (top s) n inside (children-le k) make_same, free-linkless s.nodes (top s) n (top-free k some)))

  -- a branch links its first u cells
  pub branch-links : kind ≡ branch_kind → (n : ℕ) → cell_links made.nodes (top s) n ≡ occurrences n (take u a)
  unfolding make
  branch-links e n =
      write-links s.nodes (top s) kind u a filled.whole (sized-place s (top s) k.sized inside).cells n inside (omega (arith, inside, k.sized.used)) e filled.fits

  stays-used : (n : ℕ) → kind_of s.nodes n ≢ free_kind → kind_of made.nodes n ≢ free_kind
  stays-used n f e = f (sym (make_same n (used-not-top k some n f)).kind ∙ e)

  -- one law for leaves and branches: cs are the children, whose links were held
  module _ (used : kind ≢ free_kind) (cs roots : List ℕ) (links : (n : ℕ) → cell_links (make s kind u a).nodes (top s) n ≡ occurrences n cs)
      (moved : (n : ℕ) → occurrences n old ≡ occurrences n cs + occurrences n roots) where
    was-used : (m n : ℕ) → 1 ≤ cell_links made.nodes m n → kind_of s.nodes n ≢ free_kind
    was-used m n l = pick (ℕ_discrete m (top s))
      where
        pick : Dec (m ≡ top s) → kind_of s.nodes n ≢ free_kind
        pick (yes e) = k.rooted n (omega (arith, moved n, links n, rw e at l))
        pick (no f) = k.celled m n (omega (arith, make-linked m n f))

    higher : ℕ → ℕ
    higher n = cond (eqb n (top s)) (suc (sum_to (node_count s) k.rank)) (k.rank n)

    higher-top : higher (top s) ≡ suc (sum_to (node_count s) k.rank)
    unfolding higher
    higher-top = rw (eq-eqb (top s) (top s) refl)

    higher-other : (n : ℕ) → n ≢ top s → higher n ≡ k.rank n
    unfolding higher
    higher-other n f = rw (ne_eqb n (top s) f)

    higher-falls : (m n : ℕ) → 1 ≤ cell_links made.nodes m n → higher n < higher m
    higher-falls m n l = pick (ℕ_discrete m (top s))
      where
        low : higher n ≡ k.rank n
        low = higher-other n (used-not-top k some n (was-used m n l))

        pick : Dec (m ≡ top s) → higher n < higher m
        pick (yes e) = rw e (omega (arith, low, higher-top, term-le (node_count s) k.rank n (used-inside s.nodes n (was-used m n l))))
        pick (no f) = omega (arith, low, higher-other m f, k.falls m n (omega (arith, make-linked m n f)))

    counted : (n : ℕ) → n < node_count s → Dec (n ≡ top s) → count_in made n ≡ occurrences n (top s ∷ roots) + links_in made n
    counted n l (yes e) =
        let none = free-unlinked k (top s) (top-free k some) in
        rw e (omega (arith, make-count, occurs-cons (top s) (top s) roots, bit-same (top s), make-links (top s), links (top s), moved (top s), top-unrooted k some))
    counted n l (no f) =
        omega (arith, other-count n f, k.counted n l, occurs-cons n (top s) roots, bit-other (top s) n (λ e. f (sym e)), make-links n, links n, moved n)

    ordered : (n : ℕ) → Dec (n ≡ top s) → occurrences n (take (s.free - 1) s.order) ≡ bit (is_free made.nodes n) + occurrences n []
    ordered n (yes e) =
        let taken = used-bit made.nodes (top s) (λ d. used (sym make-kind ∙ d)) in
        rw e (omega (arith, order-top k some (top s), order-once k (top s), bit-same (top s), occurs-none (top s)))
    ordered n (no f) =
        omega (arith, order-top k some n, k.ordered n, bit-other (top s) n (λ e. f (sym e)), same_bit s.nodes made.nodes n make-size (make_same n f).kind)

    rooted : (n : ℕ) → 1 ≤ occurrences n (top s ∷ roots) → Dec (n ≡ top s) → kind_of made.nodes n ≢ free_kind
    rooted n l (yes e) = rw e (λ d. used (sym make-kind ∙ d))
    rooted n l (no f) = stays-used n (k.rooted n (omega (arith, moved n, occurs-cons n (top s) roots, bit-other (top s) n (λ e. f (sym e)))))

    -- the clauses on a node in use, and on a free one
    in_use : (n : ℕ) → kind_of made.nodes n ≢ free_kind → Dec (n ≡ top s)
        → (1 ≤ count_in made n + occurrences n []) × (used_of made.nodes n ≤ node_cells) × ((i : ℕ) → used_of made.nodes n ≤ i → i < node_cells → cell_of made.nodes n i ≡ 0)
    in_use n g (yes e) =
        rw e (omega (arith, make-count), omega (arith, make-used, filled.fits), λ i l b. make-cell i b ∙ filled.spare i (omega (arith, make-used)) b)
    in_use n g (no f) =
        let e = make_same n f in
        let h : kind_of s.nodes n ≢ free_kind = λ d. g (e.kind ∙ d) in
        (omega (arith, other-count n f, k.linked n h), omega (arith, e.used, k.fits n h), λ i l b. e.cells i b ∙ k.spare n i h (omega (arith, e.used)) b)

    when-free : (n : ℕ) → kind_of made.nodes n ≡ free_kind → Dec (n ≡ top s) → (used_of made.nodes n ≡ 0) × (count_in made n ≡ 0)
    when-free n g (yes e) = absurd (used (sym make-kind ∙ rw e at g))
    when-free n g (no f) =
        let e = make_same n f in
        (e.used ∙ k.free_used n (sym e.kind ∙ g), other-count n f ∙ k.free_count n (sym e.kind ∙ g))

    pub make-keeps : Kept (make s kind u a) (top s ∷ roots)
    unfolding make
    make-keeps = record {
      sized = make-sized;
      counted = λ n l. counted n (rw make-size at l) (ℕ_discrete n (top s));
      room = omega (arith, k.room);
      ordered = λ n. ordered n (ℕ_discrete n (top s));
      linked = λ n f. (in_use n f (ℕ_discrete n (top s))).0;
      rooted = λ n l. rooted n l (ℕ_discrete n (top s));
      celled = λ m n l. stays-used n (was-used m n l);
      fits = λ n f. (in_use n f (ℕ_discrete n (top s))).1;
      spare = λ n i f. (in_use n f (ℕ_discrete n (top s))).2 i;
      free_used = λ n e. (when-free n e (ℕ_discrete n (top s))).0;
      free_count = λ n e. (when-free n e (ℕ_discrete n (top s))).1;
      pending_used = λ n l. absurd (lt_irrefl zero (omega (arith, occurs-none n)));
      pending_once = λ n. omega (arith, occurs-none n);
      pending_count = λ n l. absurd (lt_irrefl zero (omega (arith, occurs-none n)));
      rank = higher;
      falls = higher-falls;
    }

-- ---- leaves and branches

pub make-leaf : {s : Store} {u : ℕ} {a roots : List ℕ} → Kept s roots → 0 < s.free → Filled u a → Kept (make s leaf_kind u a) (top s ∷ roots)
make-leaf {s} {u} {a} {roots} k some filled =
    make-keeps leaf_kind k some filled (λ e. lt_irrefl zero (omega arith)) [] roots none (λ n. omega (arith, occurs-none n))
  where
    none : (n : ℕ) → cell_links (make s leaf_kind u a).nodes (top s) n ≡ occurrences n []
    none n =
        other-linkless (make s leaf_kind u a).nodes (top s) n (λ e. lt_irrefl zero (omega (arith, make-kind leaf_kind k some filled))) ∙ sym (occurs-none n)

-- xs: children whose links the maker held; ys: children whose counts are raised for it
pub make-branch : {s : Store} {u : ℕ} {a : List ℕ} (xs ys roots : List ℕ) → Kept s (xs ++ roots) → 0 < s.free → Filled u a
    → ((n : ℕ) → occurrences n (take u a) ≡ occurrences n xs + occurrences n ys) → ((n : ℕ) → 1 ≤ occurrences n ys → kind_of s.nodes n ≢ free_kind)
    → Kept (make (raised s ys) branch_kind u a) (top s ∷ roots)
unfolding top
make-branch {s} {u} {a} xs ys roots k some filled split used =
    make-keeps branch_kind up some filled (λ e. lt_irrefl zero (omega arith)) (take u a) roots (branch-links branch_kind up some filled refl)
    (λ n. omega (arith, occurs-append n ys (xs ++ roots), occurs-append n xs roots, split n))
  where
    up : Kept (raised s ys) (ys ++ (xs ++ roots))
    up = raised_keeps ys k used
