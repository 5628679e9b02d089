-- One set of nodes holds all that another holds.
use Rattle.std.specs.Prelude.{◌≡◌, ◌≢◌, ℕ, length}
use Rattle.meaning.specs.Limits.{free_kind}
use Rattle.meaning.specs.Lent.{Nodes, kind_of}
use Rattle.store.specs.Frame.{Same}

-- every node in use in s is the same in t
pub record Extends (s t : Nodes) : Type 0 where
  -- t has as many nodes
  pub size : length t.kinds ≡ length s.kinds
  pub same : (n : ℕ) → kind_of s n ≢ free_kind → Same s t n
