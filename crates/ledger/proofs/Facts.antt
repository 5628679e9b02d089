-- What the clauses say together: where node numbers lie, and how much room the free order has.
use mathlib.Core.Path.{◌≡◌, ◌∙◌}
use mathlib.Core.Logic.{◌≢◌, ◌⊎◌, inl, inr}
use mathlib.Core.List.{List}
use Prim.Native.Nat.{ℕ, zero, ◌+◌, ◌≤◌, ◌<◌}
use native.Mathlib.Nat.{lt_irrefl, eq-zero-or-pos}
use native.Mathlib.Decide.{ℕ_discrete, dec_lt}
use native.Mathlib.Omega.{arith}
use lib.ListN.{take, get_or-eq_default}
use lib.Seq.{length-take-le}
use Rattle.meaning.specs.Limits.{node_cells, free_kind, branch_kind}
use Rattle.meaning.specs.Counting.{sum_to, occurrences}
use Rattle.meaning.specs.Lent.{kind_of, is_free, child_count}
use Rattle.meaning.specs.Links.{cell_links}
use Rattle.meaning.proofs.Lists.{sum-none}
use Rattle.store.specs.Store.{Store, node_count}
use Rattle.ledger.specs.Kept.{Keeping, count_in, links_in}
use Rattle.meaning.proofs.Sums.{occurs-sum, bit_le}
use Rattle.meaning.proofs.Nodes.{branch-count, other-count, past-bit, past-free, used-bit}

module _ {s : Store} {roots pending : List ℕ} (k : Keeping s roots pending) where
  -- ---- nodes

  pub children-le : (m : ℕ) → child_count s.nodes m ≤ node_cells
  children-le m = pick (ℕ_discrete (kind_of s.nodes m) branch_kind)
    where
      pick : Dec (kind_of s.nodes m ≡ branch_kind) → child_count s.nodes m ≤ node_cells
      pick (yes e) = omega (arith, branch-count s.nodes m e, k.fits m (λ d. lt_irrefl zero (omega arith)))
      pick (no f) = omega (arith, other-count s.nodes m f)

  -- nothing links a free node, nor a number that is no node's
  pub free-unrooted : (n : ℕ) → kind_of s.nodes n ≡ free_kind → occurrences n roots ≡ 0
  free-unrooted n e = pick (eq-zero-or-pos (occurrences n roots))
    where
      pick : (occurrences n roots ≡ 0) ⊎ (0 < occurrences n roots) → occurrences n roots ≡ 0
      pick (inl q) = q
      pick (inr q) = absurd (k.rooted n q e)

  pub free-uncelled : (m n : ℕ) → kind_of s.nodes n ≡ free_kind → cell_links s.nodes m n ≡ 0
  free-uncelled m n e = pick (eq-zero-or-pos (cell_links s.nodes m n))
    where
      pick : (cell_links s.nodes m n ≡ 0) ⊎ (0 < cell_links s.nodes m n) → cell_links s.nodes m n ≡ 0
      pick (inl q) = q
      pick (inr q) = absurd (k.celled m n q e)

  pub free-unlinked : (n : ℕ) → kind_of s.nodes n ≡ free_kind → links_in s n ≡ 0
  free-unlinked n e = sum-none (node_count s) _ (λ m _. free-uncelled m n e)

  pub count_past : (n : ℕ) → node_count s ≤ n → count_in s n ≡ 0
  count_past n l = get_or-eq_default s.counts 0 (omega (arith, k.sized.counts))

  -- of a number that is no node's too
  pub counted-links : (n : ℕ) → count_in s n ≡ occurrences n roots + links_in s n
  counted-links n = pick (dec_lt n (node_count s))
    where
      pick : Dec (n < node_count s) → count_in s n ≡ occurrences n roots + links_in s n
      pick (yes l) = k.counted n l
      pick (no g) =
          let e = past-free s.nodes n (omega arith) in omega (arith, count_past n (omega arith), free-unrooted n e, free-unlinked n e)

  -- ---- the free order

  pub order-past : (n : ℕ) → node_count s ≤ n → occurrences n (take s.free s.order) ≡ 0
  order-past n l = pick (eq-zero-or-pos (occurrences n pending))
    where
      pick : (occurrences n pending ≡ 0) ⊎ (0 < occurrences n pending) → occurrences n (take s.free s.order) ≡ 0
      pick (inl e) = omega (arith, k.ordered n, past-bit s.nodes n l)
      pick (inr q) = absurd (k.pending_used n q (past-free s.nodes n l))

  -- the entries of the free order, counted node by node
  pub order-sum : sum_to (node_count s) (λ n. occurrences n (take s.free s.order)) ≡ s.free
  order-sum = occurs-sum (node_count s) (take s.free s.order) order-past ∙ length-take-le s.free s.order k.room

  pub order-once : (n : ℕ) → occurrences n (take s.free s.order) ≤ 1
  order-once n = pick (eq-zero-or-pos (occurrences n pending))
    where
      pick : (occurrences n pending ≡ 0) ⊎ (0 < occurrences n pending) → occurrences n (take s.free s.order) ≤ 1
      pick (inl e) = omega (arith, k.ordered n, bit_le (is_free s.nodes n))
      pick (inr q) = omega (arith, k.ordered n, used-bit s.nodes n (k.pending_used n q), k.pending_once n)

  -- a node that is linked is in use, neither pending nor on the free order
  pub counted-used : (n : ℕ) → 1 ≤ count_in s n → kind_of s.nodes n ≢ free_kind
  counted-used n l e = lt_irrefl zero (omega (arith, k.free_count n e))

  pub counted-settled : (n : ℕ) → 1 ≤ count_in s n → occurrences n pending ≡ 0
  counted-settled n l = pick (eq-zero-or-pos (occurrences n pending))
    where
      pick : (occurrences n pending ≡ 0) ⊎ (0 < occurrences n pending) → occurrences n pending ≡ 0
      pick (inl e) = e
      pick (inr q) = absurd (lt_irrefl zero (omega (arith, k.pending_count n q)))

  pub counted-unordered : (n : ℕ) → 1 ≤ count_in s n → occurrences n (take s.free s.order) ≡ 0
  counted-unordered n l = omega (arith, k.ordered n, counted-settled n l, used-bit s.nodes n (counted-used n l))
