-- What is copied: a node that stands, or none.
use mathlib.Core.Path.{◌≡◌, refl, sym, ◌∙◌}
use mathlib.Core.Logic.{◌≢◌}
use mathlib.Core.Bool.{Bool, true, false}
use Prim.Native.Nat.{ℕ, zero, suc, ◌+◌, ◌-◌, ◌*◌, ◌^◌, ◌<◌, min}
use native.Mathlib.Nat.{lt_irrefl, mul-le-mul_right}
use native.Mathlib.Omega.{arith}
use lib.Dec.{ltb}
use lib.ListN.{length, get_or, replicate, length-replicate}
use borrow.Author.Tests.{ltb-true, ltb-false}
use Rattle.meaning.specs.Limits.{node_cells, free_kind}
use Rattle.meaning.specs.Lent.{Nodes, kind_of, used_of, cell_of}
use Rattle.meaning.specs.Shape.{degree, bucket}
use Rattle.meaning.specs.Trees.{Shaped}
use Rattle.meaning.specs.WellFormed.{LegalBits}
use Rattle.meaning.proofs.Lists.{replicate-at}
use Rattle.meaning.proofs.Reaching.{shaped-used}
use Rattle.meaning.proofs.Nodes.{used-inside}
use Rattle.cells.specs.Cells.{cells_of}
use Rattle.store.specs.Store.{Store}
use Rattle.paths.specs.Paths.{Source, source}
use Rattle.shape.proofs.Powers.{degree-most, power-positive}
use Rattle.store.specs.Ready.{Sized}
use Rattle.trees.specs.Sources.{Spare, Tidy, Found, LeafSource, BranchSource}
use Rattle.trees.specs.Elements.{inside}
use Rattle.trees.proofs.Digits.{inside-splits, inside-below}
use Rattle.trees.proofs.Numbers.{cut-used}
use Rattle.cells.proofs.CellLaws.{cells_at, cells-length}
use Rattle.store.proofs.Making.{sized-place}

use-whole : (s : Store) (n : ℕ) → Sized s → kind_of s.nodes n ≢ free_kind → length (cells_of s.nodes.cells n) ≡ node_cells
use-whole s n z f = cells-length s.nodes.cells n (sized-place s n z (used-inside s.nodes n f)).cells

-- spare cells of a node that stands, and of none
stands-spare : (s : Nodes) (n : ℕ) → kind_of s n ≢ free_kind → Tidy s → Spare (cells_of s.cells n) (used_of s n)
stands-spare s n f tidy i l m = cells_at s.cells n i m ∙ tidy n i f l m

pub blank-spare : (u : ℕ) → Spare (replicate node_cells 0) u
blank-spare u i l m = replicate-at node_cells i 0

pub leaf-source : (s : Store) (bits : ℕ) (there : Bool) (m n : ℕ) → LegalBits bits → Sized s → Found s.nodes bits 0 there m n
    → LeafSource s.nodes bits m n (source s.nodes there n)
unfolding Shaped source
leaf-source s bits true m n legal z p = record {
  whole = use-whole s n z (shaped-used s.nodes bits 0 m n p);
  uses = p.used;
  room = p.room;
  cell = λ i l. cells_at s.nodes.cells n i (omega (arith, p.room, degree-most bits legal.most));
  spare = stands-spare s.nodes n (shaped-used s.nodes bits 0 m n p);
}
leaf-source s bits false m n legal z p = record {
  whole = length-replicate {A = ℕ} node_cells 0;
  uses = sym p;
  room = omega arith;
  cell = λ i l. absurd (lt_irrefl zero (omega arith));
  spare = λ tidy. blank-spare 0;
}

pub branch-source : (s : Store) (bits h : ℕ) (there : Bool) (m n : ℕ) → LegalBits bits → Sized s → Found s.nodes bits (suc h) there m n
    → BranchSource s.nodes bits h m n (source s.nodes there n)
unfolding Shaped source
branch-source s bits h true m n legal z p =
    let at : (i : ℕ) → i < used_of s.nodes n → get_or (cells_of s.nodes.cells n) i 0 ≡ cell_of s.nodes n i =
    λ i l. cells_at s.nodes.cells n i (omega (arith, p.room, degree-most bits legal.most)) in
    record {
      whole = use-whole s n z (shaped-used s.nodes bits (suc h) m n p);
      room = p.room;
      enough = p.enough;
      needed = p.needed;
      cell = at;
      children = λ i l. rw (at i l) (p.children i l);
      spare = stands-spare s.nodes n (shaped-used s.nodes bits (suc h) m n p);
    }
branch-source s bits h false m n legal z p = record {
  whole = length-replicate {A = ℕ} node_cells 0;
  room = omega arith;
  enough = omega arith;
  needed = omega (arith, power-positive bits (suc h));
  cell = λ i l. absurd (lt_irrefl zero (omega arith));
  children = λ i l. absurd (lt_irrefl zero (omega arith));
  spare = λ tidy. blank-spare 0;
}

-- the child that a way goes through: there if it is one of those in use, and empty if not
pub child-found : (s : Nodes) (bits h m n b : ℕ) (c : Source) → BranchSource s bits h m n c
    → Found s bits h (ltb b c.used) (min (degree bits ^ suc h) (m - b * degree bits ^ suc h)) (get_or c.cells b 0)
child-found s bits h m n b c p = pick (ltb b c.used) refl
  where
    pick : (there : Bool) → ltb b c.used ≡ there → Found s bits h there (min (degree bits ^ suc h) (m - b * degree bits ^ suc h)) (get_or c.cells b 0)
    pick true e = p.children b (ltb-true b c.used e)
    pick false e = omega (arith, p.enough, mul-le-mul_right (degree bits ^ suc h) (ltb-false b c.used e))

-- ---- what a branch over one element more than an index says of the index

module _ (s : Nodes) (bits h n last : ℕ) (c : Source) (q : BranchSource s bits h (inside bits (suc h) last + 1) n c) where
  pub last-used : c.used ≡ bucket bits (suc h) last + 1
  last-used =
      let splits = inside-splits bits h last in
      cut-used (degree bits ^ suc h) c.used (bucket bits (suc h) last) (inside bits h last) (inside-below bits h last)
      (omega (arith, q.enough)) (omega (arith, q.needed))

  -- its child holds one element more than the index there
  pub last-child : Shaped s bits h (inside bits h last + 1) (get_or c.cells (bucket bits (suc h) last) 0)
  last-child =
      let splits = inside-splits bits h last in
      let below = inside-below bits h last in
      let k : min (degree bits ^ suc h) (inside bits (suc h) last + 1 - bucket bits (suc h) last * degree bits ^ suc h) ≡ inside bits h last + 1 = omega arith in
      rw k at (q.children (bucket bits (suc h) last) (omega (arith, last-used)))

  -- and every child before it is full
  pub full-child : (i : ℕ) → i < bucket bits (suc h) last → Shaped s bits h (degree bits ^ suc h) (get_or c.cells i 0)
  full-child i l =
      let splits = inside-splits bits h last in
      let k : min (degree bits ^ suc h) (inside bits (suc h) last + 1 - i * degree bits ^ suc h) ≡ degree bits ^ suc h = omega (arith, mul-le-mul_right (degree bits ^ suc h) l) in
      rw k at (q.children i (omega (arith, last-used)))
