-- What the shape of a version says in document 01's own words.
use mathlib.Core.Path.{◌≡◌, refl}
use Prim.Native.Nat.{ℕ, zero, suc, ◌*◌, ◌^◌, ◌≤◌, ◌<◌}
use native.Mathlib.Nat.{lt_irrefl, lt_of_not-le, mul-le-mul_right}
use native.Mathlib.Omega.{arith}
use Rattle.meaning.specs.Limits.{leaf_kind, branch_kind, max_length}
use Rattle.meaning.specs.Lent.{Nodes, kind_of, used_of, VersionRecord}
use Rattle.meaning.specs.Shape.{degree, height}
use Rattle.meaning.specs.Trees.{Leaf, Shaped, height_of, HasShape}
use Rattle.meaning.specs.WellFormed.{Live}
use Rattle.meaning.proofs.Heights.{height-fits}

-- the empty version is one empty leaf
pub empty_leaf : (s : Nodes) (v : VersionRecord) → HasShape s v → v.length ≡ 0 → (kind_of s v.root ≡ leaf_kind) × (used_of s v.root ≡ 0)
unfolding Shaped height
empty_leaf s v p e =
    let q : Leaf s v.bits 0 v.root = rw e at p in (q.kind, q.used)

-- a length of two or more, where the height is not 0
above-one : (bits n h : ℕ) → height bits n ≡ suc h → 2 ≤ n
unfolding height
above-one bits zero h e = absurd (lt_irrefl zero (omega arith))
above-one bits (suc zero) h e = absurd (lt_irrefl zero (omega arith))
above-one bits (suc (suc n)) h e = omega arith

-- more than c, and no more than u times c
at-least-two : (u c n : ℕ) → c < n → n ≤ u * c → 2 ≤ u
at-least-two u c n l m = lt_of_not-le (λ (g : u ≤ 1). let p : u * c ≤ 1 * c = mul-le-mul_right c g in lt_irrefl zero (omega arith))

leaf-root : (s : Nodes) (bits m n : ℕ) → Shaped s bits 0 m n → kind_of s n ≡ branch_kind → 2 ≤ used_of s n
unfolding Shaped
leaf-root s bits m n p k = absurd (lt_irrefl zero (omega (arith, p.kind)))

branch-root : (s : Nodes) (bits h m n : ℕ) → 1 ≤ bits → m ≤ max_length → height bits m ≡ suc h → Shaped s bits (suc h) m n → 2 ≤ used_of s n
unfolding Shaped
branch-root s bits h m n b l e p =
    let fits = height-fits bits m b (above-one bits m h e) (omega arith) in
    at-least-two (used_of s n) (degree bits ^ suc h) m (rw e at fits.above) p.enough

-- a branch root has two children or more
pub root-children : (s : Nodes) (v : VersionRecord) → Live s v → kind_of s v.root ≡ branch_kind → 2 ≤ used_of s v.root
root-children s v l k = pick (height_of v) refl l.shape
  where
    pick : (h : ℕ) → height_of v ≡ h → Shaped s v.bits h v.length v.root → 2 ≤ used_of s v.root
    pick zero e p = leaf-root s v.bits v.length v.root p k
    pick (suc h) e p = branch-root s v.bits h v.length v.root l.bits.least l.length e p
