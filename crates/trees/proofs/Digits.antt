-- An index, level by level.
use mathlib.Core.Path.{◌≡◌, sym}
use Prim.Native.Nat.{ℕ, suc, ◌+◌, ◌-◌, ◌*◌, ◌^◌, ◌<◌, min}
use native.Mathlib.Nat.{suc-mul, pow-zero, pow-suc, one-mul, mod-eq_of_lt, lt_of_mul-lt-mul_right}
use native.Mathlib.Omega.{arith}
use lib.Pow.{mod-pow-add}
use Rattle.meaning.specs.Lent.{Nodes, used_of}
use Rattle.meaning.specs.Shape.{degree, bucket}
use Rattle.meaning.specs.Trees.{Shaped}
use Rattle.shape.proofs.Powers.{degree-power}
use Rattle.shape.proofs.Buckets.{bucket-leaf, rest_below}
use Rattle.trees.specs.Elements.{inside}

-- the children before the bucket, and the index as the child counts it
pub inside-splits : (bits h i : ℕ) → bucket bits (suc h) i * degree bits ^ suc h + inside bits h i ≡ inside bits (suc h) i
unfolding bucket degree
inside-splits bits h i =
    let e : suc (suc h) * bits ≡ bits + suc h * bits = omega (arith, suc-mul (suc h) bits) in
    rw (degree-power bits (suc h), degree-power bits (suc (suc h)), e) (sym (mod-pow-add i bits (suc h * bits)))

pub inside-leaf : (bits i : ℕ) → bucket bits 0 i ≡ inside bits 0 i
inside-leaf bits i = rw (bucket-leaf bits i, pow-suc, pow-zero, one-mul)

pub inside-below : (bits h i : ℕ) → inside bits h i < degree bits ^ suc h
inside-below bits h i = rest_below bits (suc h) i

-- an index that a tree of the height has room for
pub inside_is : (bits h i : ℕ) → i < degree bits ^ suc h → inside bits h i ≡ i
inside_is bits h i l = mod-eq_of_lt l

-- an index below m is in a child, and there below what that child holds
pub index-descends : (s : Nodes) (bits h m n i : ℕ) → Shaped s bits (suc h) m n → inside bits (suc h) i < m
    → (bucket bits (suc h) i < used_of s n) × (inside bits h i < min (degree bits ^ suc h) (m - bucket bits (suc h) i * degree bits ^ suc h))
unfolding Shaped
index-descends s bits h m n i p l =
    let e = inside-splits bits h i in
    let below = inside-below bits h i in (
      lt_of_mul-lt-mul_right (degree bits ^ suc h) (omega (arith, p.enough)),
      omega arith,
    )
