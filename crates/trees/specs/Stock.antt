-- The free nodes that the next steps take.
use Rattle.std.specs.Prelude.{◌≡◌, ℕ, suc, ◌-◌, ◌≤◌, ◌<◌, length, get_or}
use Rattle.meaning.specs.Limits.{free_kind}
use Rattle.meaning.specs.Lent.{kind_of}
use Rattle.store.specs.Store.{Store, node_count}
use Rattle.store.specs.Ready.{Sized}

-- the free node that is taken when j others have been
unfoldable pub waiting : Store → (j : ℕ) → ℕ
waiting s j = get_or s.order (s.free - suc j) 0

-- the next k free nodes are there to be taken
pub record Stock (s : Store) (k : ℕ) : Type 0 where
  pub sizes : Sized s
  pub enough : k ≤ s.free
  pub within : s.free ≤ length s.order
  -- each of them is a node
  pub node : (j : ℕ) → j < k → waiting s j < node_count s
  -- is free
  pub kind : (j : ℕ) → j < k → kind_of s.nodes (waiting s j) ≡ free_kind
  -- and is none of the others
  pub apart : (i j : ℕ) → i < k → j < k → waiting s i ≡ waiting s j → i ≡ j
