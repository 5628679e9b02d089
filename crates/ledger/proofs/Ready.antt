-- What the code of the store and of a release requires holds in every kept state: no call above them has more to show.
use mathlib.Core.Path.{◌≡◌}
use mathlib.Core.Logic.{◌≢◌}
use mathlib.Core.List.{List}
use Prim.Native.Nat.{ℕ, zero, ◌^◌, ◌≤◌, ◌<◌, min}
use native.Mathlib.Nat.{lt_irrefl}
use native.Mathlib.Decide.{ℕ_discrete, dec_lt}
use native.Mathlib.Omega.{arith}
use lib.ListN.{length, get_or, take, length-take}
use lib.Seq.{get_or-take}
use Rattle.meaning.specs.Limits.{max_nodes, free_kind, branch_kind}
use Rattle.meaning.specs.Lent.{kind_of, used_of, cell_of, child_count}
use Rattle.meaning.proofs.Sums.{occurs-at}
use Rattle.meaning.proofs.Nodes.{branch-count, other-count, used-inside}
use Rattle.cells.specs.Cells.{cells_of}
use Rattle.store.specs.Store.{Store, node_count, children_of}
use Rattle.store.specs.Ready.{FreeOnTop, Room, AllBelow}
use Rattle.sweep.specs.Ready.{live, Whole, Releasable}
use Rattle.ledger.specs.Kept.{Kept}
use Rattle.cells.proofs.CellLaws.{cells_at}
use Rattle.ledger.proofs.Facts.{children-le, order-past}
use Rattle.ledger.proofs.Bounds.{count-bound, child-inside, linked-room}
use Rattle.ledger.proofs.Taking.{top-inside}

module _ {s : Store} {roots : List ℕ} (k : Kept s roots) where
  -- what stands on the free order are nodes
  pub order_below : AllBelow (node_count s) (take s.free s.order)
  unfolding AllBelow
  order_below i l = pick (dec_lt (get_or (take s.free s.order) i 0) (node_count s))
    where
      pick : Dec (get_or (take s.free s.order) i 0 < node_count s) → get_or (take s.free s.order) i 0 < node_count s
      pick (yes y) = y
      pick (no f) = absurd (lt_irrefl zero (omega (arith, occurs-at (take s.free s.order) i l, order-past k (get_or (take s.free s.order) i 0) (omega arith))))

  pub free-on-top : 0 < s.free → FreeOnTop s
  free-on-top l = record { some = l; most = k.room; below = top-inside k l }

  -- each count can rise by as much as any call raises it
  pub counts-room : node_count s ≤ max_nodes → length roots ≤ max_nodes → (j : ℕ) → j ≤ 2 ^ 31 → Room j s.counts
  unfolding Room
  counts-room size few j l n = omega (arith, count-bound k n)

  children-below : (n : ℕ) → AllBelow (node_count s) (children_of s.nodes n)
  unfolding AllBelow children_of
  children-below n i l = pick (ℕ_discrete (kind_of s.nodes n) branch_kind)
    where
      cs : List ℕ
      cs = cells_of s.nodes.cells n

      short : i < min (child_count s.nodes n) (length cs)
      short = rw length-take at l

      pick : Dec (kind_of s.nodes n ≡ branch_kind) → get_or (take (child_count s.nodes n) cs) i 0 < node_count s
      pick (yes e) =
          let u : i < used_of s.nodes n = omega (arith, short, branch-count s.nodes n e) in
          let inside : n < node_count s = used-inside s.nodes n (λ d. lt_irrefl zero (omega arith)) in
          let at : get_or cs i 0 ≡ cell_of s.nodes n i = cells_at s.nodes.cells n i (omega (arith, short, children-le k n)) in
          rw (get_or-take (child_count s.nodes n) cs i 0 (omega (arith, short)), at) (child-inside k n i e u)
      pick (no f) = absurd (lt_irrefl zero (omega (arith, short, other-count s.nodes n f)))

  pub whole : Whole s
  unfolding live
  whole = record { sized = k.sized; room = rw k.sized.counts (linked-room k); few = children-le k; children = children-below }

  -- a link to a node in use can be given up
  pub releasable : (n : ℕ) → kind_of s.nodes n ≢ free_kind → Releasable s n
  releasable n f = record { whole = whole; below = used-inside s.nodes n f }
