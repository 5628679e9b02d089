-- A result shares nodes with its source alone: whatever it reaches is fresh, or the source reached it before.
use mathlib.Core.Path.{◌≡◌, refl}
use mathlib.Core.Logic.{◌≢◌, ◌⊎◌, inl, inr}
use mathlib.Core.List.{List, [], ◌∷◌, ◌++◌}
use Prim.Native.Nat.{ℕ, zero, ◌≤◌, ◌<◌}
use native.Mathlib.Nat.{lt_irrefl}
use native.Mathlib.Decide.{ℕ_discrete}
use native.Mathlib.Omega.{arith}
use lib.ListN.{take}
use Rattle.meaning.specs.Limits.{leaf_kind, branch_kind, free_kind}
use Rattle.meaning.specs.Counting.{occurrences}
use Rattle.meaning.specs.Lent.{Nodes, kind_of}
use Rattle.meaning.specs.Links.{cell_links, Reached, by_root, by_cell}
use Rattle.meaning.proofs.Sums.{each-occurs}
use Rattle.meaning.proofs.Nodes.{other-linkless}
use Rattle.store.specs.Store.{Store, top, make, raised}
use Rattle.ledger.specs.Kept.{Kept}
use Rattle.ledger.specs.Frame.{Filled}
use Rattle.ledger.proofs.Links.{links-same}
use Rattle.ledger.proofs.Facts.{children-le}
use Rattle.ledger.proofs.Raising.{raised_keeps}
use Rattle.ledger.proofs.Making.{make_same, make-kind, branch-links}

-- what a fresh node links is fresh too, or in P
abbrev pub Within : (P : ℕ → Type 0) → (s t : Nodes) → Type 0
Within P s t = (x m : ℕ) → kind_of s x ≡ free_kind → 1 ≤ cell_links t x m → (kind_of s m ≡ free_kind) ⊎ P m

-- ---- one node made, of a store q that came from s

module _ (P : ℕ → Type 0) (s : Nodes) (q : Store) (rs ns : List ℕ) (k : Kept q rs) (some : 0 < q.free) (u : ℕ) (a : List ℕ) (filled : Filled u a)
    (used : (n : ℕ) → 1 ≤ occurrences n ns → kind_of q.nodes n ≢ free_kind) (so_far : Within P s q.nodes) where
  up : Kept (raised q ns) (ns ++ rs)
  up = raised_keeps ns k used

  -- every node but the one made links what it linked
  old-links : (kind x m : ℕ) → x ≢ top q → kind_of s x ≡ free_kind → 1 ≤ cell_links (make (raised q ns) kind u a).nodes x m → (kind_of s m ≡ free_kind) ⊎ P m
  unfolding top
  old-links kind x m f e l =
      so_far x m e (omega (arith, links-same q.nodes (make (raised q ns) kind u a).nodes x m (children-le k x) (make_same kind up some filled x f)))

  pub leaf-within : Within P s (make (raised q ns) leaf_kind u a).nodes
  unfolding top
  leaf-within x m e l = pick (ℕ_discrete x (top q))
    where
      pick : Dec (x ≡ top q) → (kind_of s m ≡ free_kind) ⊎ P m
      pick (yes d) =
          let none : cell_links (make (raised q ns) leaf_kind u a).nodes (top q) m ≡ 0 =
          other-linkless (make (raised q ns) leaf_kind u a).nodes (top q) m (λ z. lt_irrefl zero (omega (arith, make-kind leaf_kind up some filled))) in
          absurd (lt_irrefl zero (omega (arith, rw d at l)))
      pick (no f) = old-links leaf_kind x m f e l

  pub branch-within : ((m : ℕ) → 1 ≤ occurrences m (take u a) → (kind_of s m ≡ free_kind) ⊎ P m) → Within P s (make (raised q ns) branch_kind u a).nodes
  unfolding top
  branch-within kids x m e l = pick (ℕ_discrete x (top q))
    where
      pick : Dec (x ≡ top q) → (kind_of s m ≡ free_kind) ⊎ P m
      pick (yes d) = kids m (omega (arith, rw d at l, branch-links branch_kind up some filled refl m))
      pick (no f) = old-links branch_kind x m f e l

-- ---- from a root

-- from a node that was free or is in P, all that is reached was free or is in P
pub within-reaches : (P : ℕ → Type 0) (s t : Nodes) → ((x m : ℕ) → P x → 1 ≤ cell_links t x m → P m) → Within P s t
    → {r n : ℕ} → (kind_of s r ≡ free_kind) ⊎ P r → Reached t (r ∷ []) n → (kind_of s n ≡ free_kind) ⊎ P n
within-reaches P s t closed w {r} {n} h (by_root l) = each-occurs (λ x. (kind_of s x ≡ free_kind) ⊎ P x) (r ∷ []) n (h, tt) l
within-reaches P s t closed w {r} {n} h (by_cell {m = m} c l) = step (within-reaches P s t closed w h c)
  where
    step : (kind_of s m ≡ free_kind) ⊎ P m → (kind_of s n ≡ free_kind) ⊎ P n
    step (inl e) = w m n e l
    step (inr p) = inr (closed m n p l)
