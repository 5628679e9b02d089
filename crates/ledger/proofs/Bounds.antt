-- Nothing overflows: no count comes near the end of a word, every child is a node, and the free order has room for whatever loses its last link.
use mathlib.Core.Path.{◌≡◌}
use mathlib.Core.Logic.{◌≢◌}
use mathlib.Core.List.{List}
use Prim.Native.Nat.{ℕ, zero, ◌+◌, ◌*◌, ◌^◌, ◌≤◌, ◌<◌}
use native.Mathlib.Nat.{lt_irrefl}
use native.Mathlib.Decide.{ℕ_discrete}
use native.Mathlib.Omega.{arith}
use lib.Dec.{ltb}
use lib.ListN.{length, take}
use borrow.Author.Tests.{lt-ltb}
use Rattle.meaning.specs.Limits.{max_nodes, node_cells, free_kind, branch_kind, word_width}
use Rattle.meaning.specs.Counting.{bit, how_many, occurrences}
use Rattle.meaning.specs.Lent.{kind_of, used_of, cell_of}
use Rattle.store.specs.Store.{Store, node_count}
use Rattle.ledger.specs.Kept.{Keeping, count_in, links_in}
use Rattle.meaning.proofs.Sums.{sum-add, sum-le, many-one, occurs-le}
use Rattle.meaning.proofs.Nodes.{child-linked, links-le, used-inside}
use Rattle.ledger.proofs.Facts.{children-le, counted-links, order-sum, order-once, counted-used, counted-unordered}

module _ {s : Store} {roots pending : List ℕ} (k : Keeping s roots pending) where
  -- no count exceeds 32 N and the number of roots
  pub count-bound : (n : ℕ) → count_in s n ≤ node_cells * node_count s + length roots
  count-bound n =
      let cells : links_in s n ≤ node_cells * node_count s = sum-le (node_count s) node_cells _ (λ m _. omega (arith, links-le s.nodes m n, children-le k m)) in
      omega (arith, counted-links k n, occurs-le n roots)

  -- so a count can rise by one in its word, of any state that can be lent and with more roots than there are slots and walks
  pub count-rises : (n : ℕ) → node_count s ≤ max_nodes → length roots ≤ max_nodes → count_in s n + 1 < 2 ^ word_width
  count-rises n size few = omega (arith, count-bound n)

  -- ---- branches

  pub branch_fits : (m : ℕ) → kind_of s.nodes m ≡ branch_kind → used_of s.nodes m ≤ node_cells
  branch_fits m e = k.fits m (λ d. lt_irrefl zero (omega arith))

  pub child-used : (m i : ℕ) → kind_of s.nodes m ≡ branch_kind → i < used_of s.nodes m → kind_of s.nodes (cell_of s.nodes m i) ≢ free_kind
  child-used m i e l = k.celled m (cell_of s.nodes m i) (child-linked s.nodes m i e l)

  pub child-inside : (m i : ℕ) → kind_of s.nodes m ≡ branch_kind → i < used_of s.nodes m → cell_of s.nodes m i < node_count s
  child-inside m i e l = used-inside s.nodes (cell_of s.nodes m i) (child-used m i e l)

  -- ---- room on the free order

  counted-off : (n : ℕ) → occurrences n (take s.free s.order) + bit (ltb 0 (count_in s n)) ≤ 1
  counted-off n = pick (ℕ_discrete (count_in s n) 0)
    where
      pick : Dec (count_in s n ≡ 0) → occurrences n (take s.free s.order) + bit (ltb 0 (count_in s n)) ≤ 1
      pick (yes e) = rw e (omega (arith, order-once k n))
      pick (no f) = rw (lt-ltb 0 (count_in s n) (omega arith)) (omega (arith, counted-unordered k n (omega arith)))

  -- what is linked and what is on the free order are apart
  pub linked-room : how_many (node_count s) (λ n. ltb 0 (count_in s n)) + s.free ≤ length s.order
  unfolding how_many
  linked-room =
      let both = sum-add (node_count s) (λ n. occurrences n (take s.free s.order)) (λ n. bit (ltb 0 (count_in s n))) in
      omega (arith, both, order-sum k, sum-le (node_count s) 1 _ (λ n _. counted-off n), k.sized.order)

  -- so the free order has room for a node that is linked
  pub room-left : (n : ℕ) → 1 ≤ count_in s n → s.free < length s.order
  room-left n l =
      let one = many-one (node_count s) (λ m. ltb 0 (count_in s m)) n (used-inside s.nodes n (counted-used k n l))
      (lt-ltb 0 (count_in s n) l) in
      omega (arith, one, linked-room)
