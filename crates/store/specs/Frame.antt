-- What reads the same before and after.
use Rattle.std.specs.Prelude.{◌≡◌, ℕ, ◌<◌}
use Rattle.meaning.specs.Limits.{node_cells}
use Rattle.meaning.specs.Lent.{Nodes, kind_of, used_of, cell_of}

-- node n is the same in both
pub record Same (s t : Nodes) (n : ℕ) : Type 0 where
  pub kind : kind_of t n ≡ kind_of s n
  pub used : used_of t n ≡ used_of s n
  pub cells : (i : ℕ) → i < node_cells → cell_of t n i ≡ cell_of s n i
