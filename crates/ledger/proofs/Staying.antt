-- What stays: nodes in use keep their contents and stay reached when a node is made, counts are raised, or a link is given up.
use mathlib.Core.Path.{◌≡◌, refl, sym, ◌∙◌}
use mathlib.Core.Logic.{◌≢◌}
use mathlib.Core.List.{List, ◌∷◌, ◌++◌}
use Prim.Native.Nat.{ℕ, ◌+◌, ◌-◌, ◌≤◌, ◌<◌}
use native.Mathlib.Omega.{arith}
use lib.ListN.{get_or, take}
use Rattle.meaning.specs.Limits.{node_cells, free_kind, leaf_kind, branch_kind}
use Rattle.meaning.specs.Counting.{occurrences}
use Rattle.meaning.specs.Lent.{Nodes, kind_of, used_of, cell_of}
use Rattle.meaning.specs.Links.{cell_links, Reached, by_root, by_cell}
use Rattle.store.specs.Store.{Store, top, make, raised}
use Rattle.ledger.specs.Kept.{Kept}
use Rattle.store.specs.Frame.{Same}
use Rattle.ledger.specs.Frame.{Remains, Filled}
use Rattle.ledger.proofs.Links.{links-same}
use Rattle.ledger.proofs.Facts.{children-le}
use Rattle.ledger.proofs.Reaching.{used-reached, reached-used}
use Rattle.ledger.proofs.Taking.{used-not-top}
use Rattle.ledger.proofs.Making.{make_same, make-kind, make-used, make-cell, make-leaf, make-branch}

pub same_refl : (s : Nodes) (n : ℕ) → Same s s n
same_refl s n = record { kind = refl; used = refl; cells = λ i l. refl }

pub same-trans : (s t u : Nodes) (n : ℕ) → Same s t n → Same t u n → Same s u n
same-trans s t u n d e = record { kind = e.kind ∙ d.kind; used = e.used ∙ d.used; cells = λ i l. e.cells i l ∙ d.cells i l }

-- ---- more nodes in use

-- a node in use reads the same when another is made
pub make-stays : {s : Store} {u : ℕ} {a roots : List ℕ} (kind n : ℕ) → Kept s roots → 0 < s.free → Filled u a
    → kind_of s.nodes n ≢ free_kind → Same s.nodes (make s kind u a).nodes n
make-stays kind n k some filled f = make_same kind k some filled n (used-not-top k some n f)

-- and when the counts of the new node's children are raised first
pub branch-stays : {s : Store} {u : ℕ} {a roots : List ℕ} (kind n : ℕ) (ys : List ℕ) → Kept s roots → 0 < s.free → Filled u a
    → kind_of s.nodes n ≢ free_kind → Same s.nodes (make (raised s ys) kind u a).nodes n
unfolding make top
branch-stays kind n ys k some filled f = make-stays kind n k some filled f

-- the new node reads as it was written
pub branch-reads : {s : Store} {u : ℕ} {a roots : List ℕ} (kind : ℕ) (ys : List ℕ) → Kept s roots → 0 < s.free → Filled u a
    → (kind_of (make (raised s ys) kind u a).nodes (top s) ≡ kind) × (used_of (make (raised s ys) kind u a).nodes (top s) ≡ u)
    × ((i : ℕ) → i < node_cells → cell_of (make (raised s ys) kind u a).nodes (top s) i ≡ get_or a i 0)
unfolding make top
branch-reads kind ys k some filled = (make-kind kind k some filled, make-used kind k some filled, make-cell kind k some filled)

pub make-free : (s : Store) (kind u : ℕ) (a : List ℕ) → (make s kind u a).free ≡ s.free - 1
unfolding make
make-free s kind u a = refl

-- counts are no part of a node's contents
pub raised-stays : (s : Store) (n : ℕ) (ns : List ℕ) → Same s.nodes (raised s ns).nodes n
raised-stays s n ns = same_refl s.nodes n

-- where all nodes in use stay, what was reached still is
pub reached-stays : {s t : Store} {n : ℕ} {roots roots' : List ℕ} → Kept s roots → Kept t roots'
    → ((m : ℕ) → kind_of s.nodes m ≢ free_kind → Same s.nodes t.nodes m)
    → Reached s.nodes roots n → Reached t.nodes roots' n × Same s.nodes t.nodes n
reached-stays {n = n} k k' same r =
    let f = reached-used k r in
    let e = same n f in
    (used-reached k' n (λ d. f (sym e.kind ∙ d)), e)

pub leaf-reached : {s : Store} {u n : ℕ} {a roots : List ℕ} → Kept s roots → 0 < s.free → Filled u a
    → Reached s.nodes roots n → Reached (make s leaf_kind u a).nodes (top s ∷ roots) n × Same s.nodes (make s leaf_kind u a).nodes n
leaf-reached k some filled r = reached-stays k (make-leaf k some filled) (λ m f. make-stays leaf_kind m k some filled f) r

pub branch-reached : {s : Store} {u n : ℕ} {a : List ℕ} (xs ys roots : List ℕ) → Kept s (xs ++ roots) → 0 < s.free → Filled u a
    → ((m : ℕ) → occurrences m (take u a) ≡ occurrences m xs + occurrences m ys) → ((m : ℕ) → 1 ≤ occurrences m ys → kind_of s.nodes m ≢ free_kind)
    → Reached s.nodes (xs ++ roots) n
    → Reached (make (raised s ys) branch_kind u a).nodes (top s ∷ roots) n × Same s.nodes (make (raised s ys) branch_kind u a).nodes n
branch-reached xs ys roots k some filled split used r =
    reached-stays k (make-branch xs ys roots k some filled split used) (λ m f. branch-stays branch_kind m ys k some filled f) r

-- ---- fewer nodes in use

-- where all nodes in use afterwards were so before, those reached from the roots that are left are the same, with the same contents
module _ {s t : Store} {old roots : List ℕ} (k : Kept s old) (k' : Kept t roots) (remains : Remains s t) where
  remains-links : (m n : ℕ) → kind_of t.nodes m ≢ free_kind → cell_links t.nodes m n ≡ cell_links s.nodes m n
  remains-links m n f = links-same s.nodes t.nodes m n (children-le k m) (remains.same m f)

  pub reached-remains : {n : ℕ} → Reached s.nodes roots n → Reached t.nodes roots n
  reached-remains (by_root l) = by_root l
  reached-remains {n} (by_cell {m = m} r l) =
      let q = reached-remains r in by_cell {n = n} q (omega (arith, remains-links m n (reached-used k' q)))

  pub reached-before : {n : ℕ} → Reached t.nodes roots n → Reached s.nodes roots n
  reached-before (by_root l) = by_root l
  reached-before {n} (by_cell {m = m} r l) = by_cell {n = n} (reached-before r) (omega (arith, remains-links m n (reached-used k' r)))

  pub reached-same : {n : ℕ} → Reached s.nodes roots n → Same s.nodes t.nodes n
  reached-same {n} r = remains.same n (reached-used k' (reached-remains r))
