-- What a copied way holds.
use Rattle.std.specs.Prelude.{◌≡◌, ◌≢◌, not, ℕ, suc, ◌+◌, ◌%◌, ◌^◌, ◌<◌, max}
use Rattle.meaning.specs.Counting.{how_many, divides}
use Rattle.meaning.specs.Lent.{Nodes}
use Rattle.meaning.specs.Shape.{degree}
use Rattle.meaning.specs.Trees.{Shaped, element}
use Rattle.paths.specs.Paths.{Made}

-- an index as a tree of height h counts it
abbrev pub inside : (bits h index : ℕ) → ℕ
inside bits h i = i % degree bits ^ suc h

-- what was node n of m elements, with value v at an index of its own or the next
pub record Put (s : Nodes) (bits h m n index v : ℕ) (r : Made) : Type 0 where
  pub shape : Shaped r.store.nodes bits h (max m (inside bits h index + 1)) r.node
  pub there : element r.store.nodes bits h r.node index ≡ v
  pub others : (i : ℕ) → inside bits h i < m → inside bits h i ≢ inside bits h index → element r.store.nodes bits h r.node i ≡ element s bits h n i

-- a new root over a full one: value v at the first index beyond it
pub record Grown (s : Nodes) (bits h root index v : ℕ) (r : Made) : Type 0 where
  pub shape : Shaped r.store.nodes bits (suc h) (index + 1) r.node
  pub there : element r.store.nodes bits (suc h) r.node index ≡ v
  pub others : (i : ℕ) → i < index → element r.store.nodes bits (suc h) r.node i ≡ element s bits h root i

-- what was node n, with the elements below an index alone
pub record Cut (s : Nodes) (bits h n index : ℕ) (r : Made) : Type 0 where
  pub shape : Shaped r.store.nodes bits h (inside bits h index) r.node
  pub others : (i : ℕ) → inside bits h i < inside bits h index → element r.store.nodes bits h r.node i ≡ element s bits h n i

-- the number of k in 0 to h for which d ^ (k + 1) doesn't divide an index
abbrev pub undivided : (bits h index : ℕ) → ℕ
undivided bits h i = how_many (h + 1) (λ k. not (divides (degree bits ^ (k + 1)) i))
