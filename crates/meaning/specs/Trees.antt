-- "Shape of a version", in nodes: which nodes are a version of a given length, and where its elements stand.
use Rattle.std.specs.Prelude.{◌≡◌, List, ℕ, zero, suc, ◌+◌, ◌-◌, ◌*◌, ◌^◌, ◌≤◌, ◌<◌, min}
use Rattle.meaning.specs.Limits.{leaf_kind, branch_kind}
use Rattle.meaning.specs.Counting.{rows}
use Rattle.meaning.specs.Lent.{Nodes, kind_of, used_of, cell_of, VersionRecord}
use Rattle.meaning.specs.Shape.{degree, height, bucket}

-- ---- shape

-- node n is a leaf of m elements
pub record Leaf (s : Nodes) (bits m n : ℕ) : Type 0 where
  pub kind : kind_of s n ≡ leaf_kind
  pub used : used_of s n ≡ m
  pub room : m ≤ degree bits

-- node n is a branch over m elements, whose children hold c each when they are full
pub record Branch (s : Nodes) (bits c m n : ℕ) (Child : (m n : ℕ) → Type 0) : Type 0 where
  pub kind : kind_of s n ≡ branch_kind
  pub room : used_of s n ≤ degree bits
  -- its children have room for m elements
  pub enough : m ≤ used_of s n * c
  -- and one child fewer has not: no child is empty
  pub needed : used_of s n * c < m + c
  -- packed to the left: every child is full but the last, which holds the rest
  pub children : (i : ℕ) → i < used_of s n → Child (min c (m - i * c)) (cell_of s n i)

-- node n is a tree of height h that holds m elements
unfoldable pub Shaped : Nodes → (bits h m n : ℕ) → Type 0
Shaped s bits zero m n = Leaf s bits m n
Shaped s bits (suc h) m n = Branch s bits (degree bits ^ suc h) m n (Shaped s bits h)

abbrev pub height_of : VersionRecord → ℕ
height_of v = height v.bits v.length

-- the empty version is one empty leaf; a branch root has two children or more, since its height is the least at which the length fits
abbrev pub HasShape : Nodes → VersionRecord → Type 0
HasShape s v = Shaped s v.bits (height_of v) v.length v.root

-- ---- elements

-- the element at an index below node n of height h: in the cell of its bucket, at every height
unfoldable pub element : Nodes → (bits h n index : ℕ) → ℕ
element s bits zero n index = cell_of s n (bucket bits 0 index)
element s bits (suc h) n index = element s bits h (cell_of s n (bucket bits (suc h) index)) index

-- the list of values that a version record stands for
unfoldable pub contents : Nodes → VersionRecord → List ℕ
unfolding rows
contents s v = rows v.length (element s v.bits (height_of v) v.root)
