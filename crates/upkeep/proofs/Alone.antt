-- A result shares nodes with its source alone, for every call that makes one.
use mathlib.Core.Path.{◌≡◌, refl}
use mathlib.Core.Logic.{◌≢◌, ◌⊎◌, inl, inr}
use mathlib.Core.Bool.{Bool, true, false, cond, false≢true}
use mathlib.Core.List.{List, [], ◌∷◌}
use Prim.Native.Nat.{ℕ, zero, suc, ◌+◌, ◌-◌, ◌^◌, ◌≤◌, ◌<◌}
use native.Mathlib.Nat.{mod-le, le_trans}
use native.Mathlib.Omega.{arith}
use lib.Dec.{eqb}
use lib.ListN.{get_or, replicate}
use borrow.Author.Tests.{eqb-false}
use Rattle.meaning.specs.Limits.{free_kind, node_cells}
use Rattle.meaning.specs.Lent.{Nodes, kind_of, VersionRecord}
use Rattle.meaning.specs.Shape.{degree, is_root_full}
use Rattle.meaning.specs.Trees.{Shaped, height_of}
use Rattle.meaning.specs.Costs.{loses_root}
use Rattle.meaning.proofs.Shapes.{root-children}
use Rattle.cells.specs.Cells.{cells_of}
use Rattle.meaning.specs.Links.{cell_links, Reached, by_root, by_cell}
use Rattle.meaning.specs.WellFormed.{Live}
use Rattle.meaning.proofs.Lists.{many-le, replicate-at}
use Rattle.meaning.proofs.Sums.{occurs-first, each-occurs}
use Rattle.meaning.proofs.Reaching.{shaped-used}
use Rattle.store.specs.Store.{Store, raises}
use Rattle.ledger.specs.Kept.{Kept}
use Rattle.ledger.proofs.Links.{links-same}
use Rattle.ledger.proofs.Facts.{children-le}
use Rattle.paths.specs.Paths.{Made, source, assoc, grow, drop_last}
use Rattle.paths.specs.Edits.{empty_leaf, set_edit, push_edit, first_child, drop_edit}
use Rattle.shape.proofs.Capacity.{full-exactly, height-holds}
use Rattle.trees.specs.Extends.{Extends}
use Rattle.trees.specs.Climbs.{Climb}
use Rattle.trees.specs.Copied.{Copied}
use Rattle.trees.specs.Elements.{inside, undivided}
use Rattle.trees.proofs.Climbs.{climb-copies}
use Rattle.trees.proofs.Climbing.{assoc-climbs, grow-climbs, empty-climbs, drop-climbs}
use Rattle.trees.proofs.Digits.{inside_is}
use Rattle.upkeep.proofs.Climbs.{kept-stocks}
use Rattle.upkeep.proofs.Within.{Within, leaf-within, within-reaches}
use Rattle.upkeep.proofs.Shares.{at_first, none-raised, source-within, assoc-within, grow-within, drop-within}

-- what a node of t reaches was free in s, or the source reached it
abbrev pub Alone : (s t : Nodes) → (source result : ℕ) → Type 0
Alone s t source result = (n : ℕ) → Reached t (result ∷ []) n → (kind_of s n ≡ free_kind) ⊎ Reached s (source ∷ []) n

module _ (s : Store) (rs : List ℕ) (k : Kept s rs) (v : VersionRecord) (live : Live s.nodes v) where
  abbrev P : ℕ → Type 0
  P n = Reached s.nodes (v.root ∷ []) n

  root_in : P v.root
  root_in = by_root (occurs-first v.root [])

  root-used : kind_of s.nodes v.root ≢ free_kind
  root-used = shaped-used s.nodes v.bits (height_of v) v.length v.root live.shape

  reached-used : {n : ℕ} → P n → kind_of s.nodes n ≢ free_kind
  reached-used {n} (by_root l) = each-occurs (λ x. kind_of s.nodes x ≢ free_kind) (v.root ∷ []) n (root-used, tt) l
  reached-used (by_cell {m = m} r l) = k.celled m _ l

  closed : (x m : ℕ) → P x → 1 ≤ cell_links s.nodes x m → P m
  closed x m p l = by_cell p l

  still-closed : (t : Nodes) → Extends s.nodes t → (x m : ℕ) → P x → 1 ≤ cell_links t x m → P m
  still-closed t e x m p l =
      let linked : 1 ≤ cell_links s.nodes x m = omega (arith, links-same s.nodes t x m (children-le k x) (e.same x (reached-used p))) in by_cell p linked

  -- a way copied within P, to a fresh node
  climb-alone : (taken : ℕ) (r : Made) → Climb s taken r → taken ≤ s.free → Within P s.nodes r.store.nodes → Alone s.nodes r.store.nodes v.root r.node
  climb-alone taken r climb enough w n reached =
      let copied : Copied s taken 0 r = climb-copies s 0 climb (kept-stocks k (taken + 0) (omega arith)) in
      within-reaches P s.nodes r.store.nodes (still-closed r.store.nodes copied.extends) w (inl copied.fresh) reached

  to-index : (i : ℕ) → i ≤ v.length → inside v.bits (height_of v) i ≤ v.length
  to-index i l = le_trans (mod-le i (degree v.bits ^ suc (height_of v))) l

  assoc-alone : (i x : ℕ) → i ≤ v.length → suc (height_of v) ≤ s.free
      → Alone s.nodes (assoc s v.bits (height_of v) true v.root i x).store.nodes v.root (assoc s v.bits (height_of v) true v.root i x).node
  assoc-alone i x l enough =
      climb-alone (suc (height_of v)) _ (assoc-climbs s v.bits (height_of v) true v.length v.root i x live.bits k.sized live.shape (to-index i l)) enough
      (assoc-within P s closed rs k v.bits (height_of v) true v.length v.root i x live.bits live.shape (to-index i l) enough (λ e. root_in))

  pub set-alone : (i x : ℕ) → i < v.length → suc (height_of v) ≤ s.free → Alone s.nodes (set_edit s v i x).store.nodes v.root (set_edit s v i x).version.root
  unfolding set_edit
  set-alone i x l enough = assoc-alone i x (omega arith) enough

  pub push-alone : (x : ℕ) → suc (suc (height_of v)) ≤ s.free → Alone s.nodes (push_edit s v x).store.nodes v.root (push_edit s v x).version.root
  unfolding push_edit
  push-alone x enough = pick (is_root_full v.bits v.length) refl
    where
      pick : (full : Bool) → is_root_full v.bits v.length ≡ full
          → Alone s.nodes (cond full (grow s v.bits (height_of v) v.root v.length x) (assoc s v.bits (height_of v) true v.root v.length x)).store.nodes v.root
          (cond full (grow s v.bits (height_of v) v.root v.length x) (assoc s v.bits (height_of v) true v.root v.length x)).node
      pick true e =
          let at = (full-exactly v.bits v.length).0 e in
          climb-alone (suc (suc (height_of v))) _ (grow-climbs s v.bits (height_of v) v.root v.length x live.bits k.sized root-used at) enough
          (grow-within P s closed rs k v.bits (height_of v) v.root v.length x live.bits root-used root_in at enough)
      pick false e = assoc-alone v.length x (omega arith) (omega arith)

  -- a drop that copies a way
  cut-alone : 2 ≤ v.length → suc (height_of v) ≤ s.free
      → Alone s.nodes (drop_last s v.bits (height_of v) v.root (v.length - 1)).store.nodes v.root (drop_last s v.bits (height_of v) v.root (v.length - 1)).node
  cut-alone two enough =
      let h = height_of v in
      let holds = height-holds v.bits v.length live.bits.least (omega (arith, live.length)) in
      let at : inside v.bits h (v.length - 1) ≡ v.length - 1 = inside_is v.bits h (v.length - 1) (omega arith) in
      let whole : inside v.bits h (v.length - 1) + 1 ≡ v.length = omega arith in
      let few : undivided v.bits h (v.length - 1) ≤ h + 1 = many-le (h + 1) _ in
      let room : undivided v.bits h (v.length - 1) ≤ s.free = omega arith in
      climb-alone (undivided v.bits h (v.length - 1)) _ (drop-climbs s v.bits h v.root (v.length - 1) live.bits k.sized (rw whole live.shape) (omega arith)) room
      (drop-within P s closed rs k v.bits h v.root (v.length - 1) live.bits (rw whole live.shape) (omega arith) room root_in)

  -- one that leaves an empty leaf
  empty-alone : 0 < s.free → Alone s.nodes (empty_leaf s).store.nodes v.root (empty_leaf s).node
  unfolding empty_leaf raises
  empty-alone some =
      climb-alone 1 (empty_leaf s) (empty-climbs s) some
      (leaf-within P s.nodes s rs [] k some 0 (replicate node_cells 0) (record { fits = omega arith; whole = refl; spare = λ i l m. replicate-at node_cells i 0 })
      (none-raised P s closed rs k) (at_first P s closed rs k))

  -- one that leaves the root's first child
  child-in : (h : ℕ) → Shaped s.nodes v.bits (suc h) v.length v.root → P (get_or (cells_of s.nodes.cells v.root) 0 0)
  unfolding Shaped source
  child-in h p =
      let two = root-children s.nodes v live p.kind in
      source-within P s closed rs k v.bits h true v.length v.root live.bits p (λ e. root_in) 0 (omega arith)

  first_alone : loses_root v.bits v.length ≡ true → Alone s.nodes (first_child s v.root).store.nodes v.root (first_child s v.root).node
  unfolding first_child
  first_alone e n reached = within-reaches P s.nodes s.nodes closed (at_first P s closed rs k) (inr (pick (height_of v) refl live.shape)) reached
    where
      pick : (h : ℕ) → height_of v ≡ h → Shaped s.nodes v.bits h v.length v.root → P (get_or (cells_of s.nodes.cells v.root) 0 0)
      pick zero d p = absurd (false≢true (rw d at e))
      pick (suc h) d p = child-in h p

  pub drop-alone : 1 ≤ v.length → suc (height_of v) ≤ s.free → Alone s.nodes (drop_edit s v).store.nodes v.root (drop_edit s v).version.root
  unfolding drop_edit
  drop-alone some enough = pick (eqb v.length 1) (loses_root v.bits v.length) refl refl
    where
      chosen : (one loses : Bool) → Made
      chosen one loses = cond one (empty_leaf s) (cond loses (first_child s v.root) (drop_last s v.bits (height_of v) v.root (v.length - 1)))

      pick : (one loses : Bool) → eqb v.length 1 ≡ one → loses_root v.bits v.length ≡ loses
          → Alone s.nodes (chosen one loses).store.nodes v.root (chosen one loses).node
      pick true loses e d = empty-alone (omega arith)
      pick false true e d = first_alone d
      pick false false e d = let f = eqb-false v.length 1 e in cut-alone (omega arith) enough
