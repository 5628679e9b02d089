-- What a step copies: a node that stands, or none.
use Rattle.std.specs.Prelude.{◌≡◌, ◌≢◌, Bool, true, false, List, ℕ, suc, ◌+◌, ◌-◌, ◌*◌, ◌^◌, ◌≤◌, ◌<◌, min, length, get_or}
use Rattle.meaning.specs.Limits.{node_cells, free_kind}
use Rattle.meaning.specs.Lent.{Nodes, kind_of, used_of, cell_of}
use Rattle.meaning.specs.Shape.{degree}
use Rattle.meaning.specs.Trees.{Shaped}
use Rattle.paths.specs.Paths.{Source}

-- cells from used upwards are 0
abbrev pub Spare : (cells : List ℕ) → (used : ℕ) → Type 0
Spare a u = (i : ℕ) → u ≤ i → i < node_cells → get_or a i 0 ≡ 0

-- those of every leaf and branch are
abbrev pub Tidy : Nodes → Type 0
Tidy s = (n i : ℕ) → kind_of s n ≢ free_kind → used_of s n ≤ i → i < node_cells → cell_of s n i ≡ 0

-- node n of height h holds m elements, or is not there and holds none
abbrev pub Found : Nodes → (bits h : ℕ) → (there : Bool) → (m n : ℕ) → Type 0
Found s bits h true m n = Shaped s bits h m n
Found s bits h false m n = m ≡ 0

-- what is copied of a leaf of m elements
pub record LeafSource (s : Nodes) (bits m n : ℕ) (c : Source) : Type 0 where
  pub whole : length c.cells ≡ node_cells
  pub uses : c.used ≡ m
  pub room : m ≤ degree bits
  pub cell : (i : ℕ) → i < m → get_or c.cells i 0 ≡ cell_of s n i
  pub spare : Tidy s → Spare c.cells c.used

-- what is copied of a branch of height h + 1 over m elements
pub record BranchSource (s : Nodes) (bits h m n : ℕ) (c : Source) : Type 0 where
  pub whole : length c.cells ≡ node_cells
  pub room : c.used ≤ degree bits
  pub enough : m ≤ c.used * degree bits ^ suc h
  pub needed : c.used * degree bits ^ suc h < m + degree bits ^ suc h
  pub cell : (i : ℕ) → i < c.used → get_or c.cells i 0 ≡ cell_of s n i
  pub children : (i : ℕ) → i < c.used → Shaped s bits h (min (degree bits ^ suc h) (m - i * degree bits ^ suc h)) (get_or c.cells i 0)
  pub spare : Tidy s → Spare c.cells c.used
