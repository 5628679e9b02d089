-- The node that is taken next: it is free, and nothing links it.
use mathlib.Core.Path.{◌≡◌, ap, ◌∙◌}
use mathlib.Core.Logic.{◌≢◌}
use mathlib.Core.List.{List, [], ◌∷◌}
use Prim.Native.Nat.{ℕ, suc, ◌+◌, ◌-◌, ◌≤◌, ◌<◌}
use native.Mathlib.Omega.{arith}
use lib.Dec.{eqb}
use lib.ListN.{get_or, take}
use lib.Seq.{take-suc}
use Rattle.meaning.specs.Limits.{free_kind}
use Rattle.meaning.specs.Counting.{bit, occurrences}
use Rattle.meaning.specs.Lent.{kind_of, is_free}
use Rattle.meaning.specs.Links.{cell_links}
use Rattle.meaning.proofs.Lists.{occurs-append}
use Rattle.store.specs.Store.{Store, node_count, top}
use Rattle.ledger.specs.Kept.{Kept, count_in}
use Rattle.meaning.proofs.Sums.{bit-same, occurs-one, occurs-none}
use Rattle.meaning.proofs.Nodes.{bit-free}
use Rattle.ledger.proofs.Facts.{free-unrooted, free-uncelled}

module _ {s : Store} {roots : List ℕ} (k : Kept s roots) (some : 0 < s.free) where
  -- it is the last of the free order
  pub order-top : (n : ℕ) → occurrences n (take s.free s.order) ≡ occurrences n (take (s.free - 1) s.order) + bit (eqb (top s) n)
  unfolding top
  order-top n =
      let e : suc (s.free - 1) ≡ s.free = omega arith in
      let last = rw e at (take-suc s.order (s.free - 1) 0 (omega (arith, k.room))) in
      ap (occurrences n) last ∙ occurs-append n (take (s.free - 1) s.order) (get_or s.order (s.free - 1) 0 ∷ [])
      ∙ ap (λ (x : ℕ). occurrences n (take (s.free - 1) s.order) + x) (occurs-one n (get_or s.order (s.free - 1) 0))

  top_bit : 1 ≤ bit (is_free s.nodes (top s))
  top_bit = omega (arith, order-top (top s), bit-same (top s), k.ordered (top s), occurs-none (top s))

  pub top-inside : top s < node_count s
  top-inside = (bit-free s.nodes (top s) top_bit).0

  pub top-free : kind_of s.nodes (top s) ≡ free_kind
  top-free = (bit-free s.nodes (top s) top_bit).1

  pub top-unrooted : occurrences (top s) roots ≡ 0
  top-unrooted = free-unrooted k (top s) top-free

  pub top-uncelled : (m : ℕ) → cell_links s.nodes m (top s) ≡ 0
  top-uncelled m = free-uncelled k m (top s) top-free

  pub top_count : count_in s (top s) ≡ 0
  top_count = k.free_count (top s) top-free

  pub used-not-top : (n : ℕ) → kind_of s.nodes n ≢ free_kind → n ≢ top s
  used-not-top n f e = f (ap (kind_of s.nodes) e ∙ top-free)
