-- The same state with one thing wrong is not well-formed.
use mathlib.Core.Path.{◌≡◌, refl, ap}
use mathlib.Core.Logic.{inl, inr}
use mathlib.Core.List.{List}
use Prim.Native.Nat.{ℕ, zero, ◌+◌, ◌*◌, ◌≤◌, ◌<◌}
use native.Mathlib.Nat.{lt_irrefl}
use native.Mathlib.Omega.{arith}
use native.Mathlib.Decide.{dec_lt}
use lib.Dec.{eqb, lit≤}
use lib.IntN.{ℤ, pos}
use lib.ListN.{get_or, set, get_or-eq_default}
use Rattle.meaning.specs.Limits.{node_cells, free_kind, leaf_kind, walk_levels}
use Rattle.meaning.specs.Lent.{Level, no_level, WalkRecord, Lent, walk_record}
use Rattle.meaning.specs.Links.{roots, cell_links, Reached, by_root, by_cell}
use Rattle.meaning.specs.WellFormed.{LegalWalk, WellFormed}
use borrow.Author.Tests.{eqb-true}
use Rattle.meaning.proofs.Lists.{many-each}
use Rattle.meaning.proofs.Shared.{some_kinds, some_counts, some_cells, some_order, some_indices, state, opened}

-- one count off by one: leaf 0 has two links
pub miscounted : WellFormed (state some_kinds (set some_counts 0 3) some_cells some_order some_indices) → ⊥
unfolding opened
miscounted w = let e : ◌≡◌ {A = ℕ} 3 2 = w.counted 0 (lit≤ tt) in absurd (lt_irrefl zero (omega arith))

-- one link doubled: the longer list's branch links leaf 0 twice, and has the shape still
pub doubled : WellFormed (state some_kinds some_counts (set some_cells (4 * node_cells + 1) 0) some_order some_indices) → ⊥
unfolding opened
doubled w = let e : ◌≡◌ {A = ℕ} 2 3 = w.counted 0 (lit≤ tt) in absurd (lt_irrefl zero (omega arith))

-- one node missing from the free order, and another there twice
pub missing : WellFormed (state some_kinds some_counts some_cells (set some_order 1 6) some_indices) → ⊥
unfolding opened
missing w = let e : ◌≡◌ {A = ℕ} 0 1 = w.once 5 in absurd (lt_irrefl zero (omega arith))

-- one non-zero cell above used: leaf 1 has one element
pub trailing : WellFormed (state some_kinds some_counts (set some_cells (1 * node_cells + 1) 5) some_order some_indices) → ⊥
unfolding opened
trailing w = let e : ◌≡◌ {A = ℕ} 5 0 = w.spare 1 1 (λ f. omega arith) (lit≤ tt) (lit≤ tt) in absurd (lt_irrefl zero (omega arith))

-- a node leaked: 5 is a leaf, and nothing reaches it
abbrev leaky : Lent
leaky = state (set some_kinds 5 leaf_kind) some_counts some_cells some_order some_indices

no-link : (m : ℕ) → cell_links leaky.nodes m 5 ≡ 0
unfolding opened
no-link m = pick (dec_lt m 7)
  where
    pick : Dec (m < 7) → cell_links leaky.nodes m 5 ≡ 0
    pick (yes l) = eqb-true _ _ (many-each 7 (λ k. eqb (cell_links leaky.nodes k 5) 0) refl m l)
    pick (no f) = let past : 7 ≤ m = omega arith in rw (get_or-eq_default (set some_kinds 5 leaf_kind) free_kind past)

not-reached : {n : ℕ} → Reached leaky.nodes (roots leaky) n → n ≡ 5 → ⊥
unfolding opened
not-reached (by_root l) e = let z : ◌≤◌ 1 0 = rw e at l in omega arith
not-reached (by_cell {m = m} r l) e = omega (arith, rw e at l, no-link m)

pub leaked : WellFormed leaky → ⊥
unfolding opened
leaked w = not-reached ((w.reached 5).0 (λ e. omega arith)) refl

-- a walk whose record disagrees: one value is taken, and the leaf's index is 0
unfoldable pub straying : List ℤ
straying = set some_indices (10 * walk_levels) (pos 0)

leaf_index : List Level → ℤ
leaf_index ls = (get_or ls 0 no_level).index

pub strayed : WellFormed (state some_kinds some_counts some_cells some_order straying) → ⊥
unfolding opened straying leaf_index
strayed w = pick w.walks.1.1.1.1.1.0
  where
    astray : WalkRecord
    astray = walk_record (state some_kinds some_counts some_cells some_order straying).walks 5

    pick : LegalWalk (state some_kinds some_counts some_cells some_order straying).nodes astray → ⊥
    pick (inl e) = let z : ◌≡◌ {A = ℕ} 1 0 = ap (λ (x : WalkRecord). x.version.live) e in omega arith
    pick (inr k) = let z : pos 0 ≡ pos 1 = ap leaf_index k.forward in let y : ◌≡◌ {A = ℕ} 0 1 = cc in omega arith
