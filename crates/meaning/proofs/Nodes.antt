-- What a node's kind says: whether the node is there and free, and what its cells link.
use mathlib.Core.Path.{◌≡◌, refl}
use mathlib.Core.Logic.{◌≢◌}
use Prim.Native.Nat.{ℕ, zero, ◌≤◌, ◌<◌}
use native.Mathlib.Nat.{lt_irrefl}
use native.Mathlib.Decide.{ℕ_discrete, dec_lt}
use native.Mathlib.Omega.{arith}
use lib.Dec.{eqb}
use lib.ListN.{length, get_or-eq_default}
use borrow.Author.Tests.{eqb-true, eq-eqb, ne_eqb, lt-ltb, le-ltb}
use Rattle.meaning.specs.Limits.{free_kind, branch_kind}
use Rattle.meaning.specs.Counting.{bit}
use Rattle.meaning.specs.Lent.{Nodes, kind_of, used_of, cell_of, is_free, child_count}
use Rattle.meaning.specs.Links.{cell_links}
use Rattle.meaning.proofs.Lists.{many-none, many-le, many-some}
use Rattle.meaning.proofs.Sums.{many-one}

-- ---- free

pub past-free : (s : Nodes) (n : ℕ) → length s.kinds ≤ n → kind_of s n ≡ free_kind
past-free s n l = get_or-eq_default s.kinds free_kind l

-- what is in use is a node
pub used-inside : (s : Nodes) (n : ℕ) → kind_of s n ≢ free_kind → n < length s.kinds
used-inside s n f = pick (dec_lt n (length s.kinds))
  where
    pick : Dec (n < length s.kinds) → n < length s.kinds
    pick (yes l) = l
    pick (no g) = absurd (f (past-free s n (omega arith)))

pub used-bit : (s : Nodes) (n : ℕ) → kind_of s n ≢ free_kind → bit (is_free s n) ≡ 0
unfolding is_free
used-bit s n f = rw (lt-ltb n (length s.kinds) (used-inside s n f), ne_eqb (kind_of s n) free_kind f)

pub free-bit : (s : Nodes) (n : ℕ) → n < length s.kinds → kind_of s n ≡ free_kind → bit (is_free s n) ≡ 1
unfolding is_free
free-bit s n l e = rw (lt-ltb n (length s.kinds) l, e)

pub past-bit : (s : Nodes) (n : ℕ) → length s.kinds ≤ n → bit (is_free s n) ≡ 0
unfolding is_free
past-bit s n l = rw (le-ltb n (length s.kinds) l)

pub bit-free : (s : Nodes) (n : ℕ) → 1 ≤ bit (is_free s n) → (n < length s.kinds) × (kind_of s n ≡ free_kind)
bit-free s n l = (inside (dec_lt n (length s.kinds)), free (ℕ_discrete (kind_of s n) free_kind))
  where
    inside : Dec (n < length s.kinds) → n < length s.kinds
    inside (yes q) = q
    inside (no g) = absurd (lt_irrefl zero (omega (arith, past-bit s n (omega arith))))

    free : Dec (kind_of s n ≡ free_kind) → kind_of s n ≡ free_kind
    free (yes e) = e
    free (no g) = absurd (lt_irrefl zero (omega (arith, used-bit s n g)))

-- a node that reads the same kind is free in both or in neither
pub same_bit : (s t : Nodes) (n : ℕ) → length t.kinds ≡ length s.kinds → kind_of t n ≡ kind_of s n → bit (is_free t n) ≡ bit (is_free s n)
unfolding is_free
same_bit s t n e k = rw (e, k)

-- ---- links

pub branch-count : (s : Nodes) (m : ℕ) → kind_of s m ≡ branch_kind → child_count s m ≡ used_of s m
unfolding child_count
branch-count s m e = rw e

pub other-count : (s : Nodes) (m : ℕ) → kind_of s m ≢ branch_kind → child_count s m ≡ 0
unfolding child_count
other-count s m f = rw (ne_eqb (kind_of s m) branch_kind f)

-- only a branch links
pub other-linkless : (s : Nodes) (m n : ℕ) → kind_of s m ≢ branch_kind → cell_links s m n ≡ 0
unfolding cell_links
other-linkless s m n f = many-none _ _ (other-count s m f)

pub free-linkless : (s : Nodes) (m n : ℕ) → kind_of s m ≡ free_kind → cell_links s m n ≡ 0
free-linkless s m n e = other-linkless s m n (λ d. lt_irrefl zero (omega arith))

pub links-le : (s : Nodes) (m n : ℕ) → cell_links s m n ≤ child_count s m
unfolding cell_links
links-le s m n = many-le _ _

-- a child is linked
pub child-linked : (s : Nodes) (m i : ℕ) → kind_of s m ≡ branch_kind → i < used_of s m → 1 ≤ cell_links s m (cell_of s m i)
unfolding cell_links
child-linked s m i e l = many-one (child_count s m) (λ j. eqb (cell_of s m j) (cell_of s m i)) i (omega (arith, branch-count s m e)) (eq-eqb (cell_of s m i) (cell_of s m i) refl)

-- a cell that links n
pub record CellLink (s : Nodes) (m n : ℕ) : Type 0 where
  pub branch : kind_of s m ≡ branch_kind
  pub place : ℕ
  pub below : place < used_of s m
  pub is : cell_of s m place ≡ n

-- and what is linked is a child
pub links-cell : (s : Nodes) (m n : ℕ) → 1 ≤ cell_links s m n → CellLink s m n
unfolding cell_links
links-cell s m n l = pick (ℕ_discrete (kind_of s m) branch_kind)
  where
    pick : Dec (kind_of s m ≡ branch_kind) → CellLink s m n
    pick (yes e) =
        let c = many-some (child_count s m) (λ i. eqb (cell_of s m i) n) l in
        record { branch = e; place = c.0; below = omega (arith, c.1, branch-count s m e); is = eqb-true _ _ c.2 }
    pick (no f) = absurd (lt_irrefl zero (omega (arith, many-le (child_count s m) (λ i. eqb (cell_of s m i) n), other-count s m f)))

pub linking-used : (s : Nodes) (m n : ℕ) → 1 ≤ cell_links s m n → kind_of s m ≢ free_kind
linking-used s m n l e = lt_irrefl zero (omega (arith, (links-cell s m n l).branch))
