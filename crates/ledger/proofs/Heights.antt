-- The height of a node is its own: every shape that has the node says the same, and it falls along links.
use mathlib.Core.Path.{◌≡◌, refl, ap}
use Prim.Native.Nat.{ℕ, zero, suc, ◌+◌, ◌-◌, ◌*◌, ◌^◌, ◌≤◌, ◌<◌, min}
use native.Mathlib.Nat.{lt_irrefl, le_trans, one-le-pow, mul-le-mul_right, pow-le-pow_right}
use native.Mathlib.Omega.{arith}
use lib.Dec.{lit≤}
use Rattle.meaning.specs.Limits.{node_cells}
use Rattle.meaning.specs.Lent.{Nodes, used_of, cell_of}
use Rattle.meaning.specs.Shape.{degree}
use Rattle.meaning.specs.Trees.{Shaped}
use Rattle.meaning.specs.Links.{cell_links}
use Rattle.meaning.proofs.Reaching.{SomeShape}
use Rattle.meaning.proofs.Nodes.{links-cell}

-- ---- children

full : (bits h : ℕ) → 1 ≤ degree bits ^ h
unfolding degree
full bits h = one-le-pow h (2 ^ bits) (one-le-pow bits 2 (lit≤ tt))

-- no child is empty
child-full : (u c m i : ℕ) → 1 ≤ c → u * c < m + c → i < u → 1 ≤ min c (m - i * c)
child-full u c m i l needed b = omega (arith, mul-le-mul_right c b)

-- what a branch links stands one lower, and is not empty
child-shape : (s : Nodes) (bits h m p n : ℕ) → Shaped s bits (suc h) m p → 1 ≤ cell_links s p n → (e : ℕ) × (1 ≤ e) × Shaped s bits h e n
unfolding Shaped
child-shape s bits h m p n q l =
    let c = links-cell s p n l in
    (_, child-full (used_of s p) (degree bits ^ suc h) m c.place (full bits (suc h)) q.needed c.below, rw c.is at (q.children c.place c.below))

some-child : (u c m : ℕ) → 1 ≤ m → m ≤ u * c → 1 ≤ u
some-child zero c m l enough = omega arith
some-child (suc u) c m l enough = omega arith

-- two shapes of one node that is not empty are of one height
heights-agree : (s : Nodes) (bits h m bits' h' m' n : ℕ) → 1 ≤ m → Shaped s bits h m n → Shaped s bits' h' m' n → h ≡ h'
unfolding Shaped
heights-agree s bits zero m bits' zero m' n l p q = refl
heights-agree s bits zero m bits' (suc h') m' n l p q = absurd (lt_irrefl zero (omega (arith, p.kind, q.kind)))
heights-agree s bits (suc h) m bits' zero m' n l p q = absurd (lt_irrefl zero (omega (arith, p.kind, q.kind)))
heights-agree s bits (suc h) m bits' (suc h') m' n l p q =
    let b : 0 < used_of s n = some-child (used_of s n) (degree bits ^ suc h) m l p.enough in
    ap suc
    (heights-agree s bits h _ bits' h' _ (cell_of s n 0) (child-full (used_of s n) (degree bits ^ suc h) m 0 (full bits (suc h)) p.needed b) (p.children 0 b) (q.children 0 b))

-- ---- what is reached

pub shape-falls : (s : Nodes) (p n : ℕ) (d : SomeShape s p) (e : SomeShape s n) → 1 ≤ cell_links s p n → e.height < d.height
unfolding Shaped
shape-falls s p n d e l = go d.height d.shape
  where
    go : (h : ℕ) → Shaped s d.bits h d.elements p → e.height < h
    go zero q = absurd (lt_irrefl zero (omega (arith, q.kind, (links-cell s p n l).branch)))
    go (suc h) q =
        let c = child-shape s d.bits h d.elements p n q l in
        omega (arith, heights-agree s d.bits h c.0 e.bits e.height e.elements n c.1 c.2 e.shape)

pub shape-fits : (s : Nodes) (n : ℕ) → SomeShape s n → used_of s n ≤ node_cells
unfolding Shaped degree
shape-fits s n d = go d.height d.shape
  where
    most : 2 ^ d.bits ≤ 32
    most = pow-le-pow_right (lit≤ tt) d.legal.most

    go : (h : ℕ) → Shaped s d.bits h d.elements n → used_of s n ≤ node_cells
    go zero q = omega (arith, most, q.used, q.room)
    go (suc h) q = le_trans q.room most
