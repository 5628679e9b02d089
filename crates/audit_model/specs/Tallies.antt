-- The tallies: links and places in the free order, counted into one list.
use Rattle.std.specs.Prelude.{cond, List, ℕ, zero, suc, ◌+◌, eqb, get_or, set}
use Rattle.meaning.specs.Lent.{Nodes, cell_of, child_count, VersionRecord}

unfoldable pub raise : List ℕ → (n : ℕ) → List ℕ
raise t n = set t n (get_or t n 0 + 1)

-- one more for each of f 0 to f (k - 1)
unfoldable pub raise_to : (k : ℕ) → (ℕ → ℕ) → List ℕ → List ℕ
raise_to zero f t = t
raise_to (suc k) f t = raise (raise_to k f t) (f k)

unfoldable pub raise_root : VersionRecord → List ℕ → List ℕ
raise_root v t = cond (eqb v.live 1) (raise t v.root) t

-- one more for the root of each live one
unfoldable pub roots_tally : (k : ℕ) → (ℕ → VersionRecord) → List ℕ → List ℕ
roots_tally zero f t = t
roots_tally (suc k) f t = raise_root (f k) (roots_tally k f t)

unfoldable pub node_tally : Nodes → (m : ℕ) → List ℕ → List ℕ
node_tally s m t = raise_to (child_count s m) (cell_of s m) t

-- one more for each link from the cells of the nodes below k
unfoldable pub nodes_tally : Nodes → (k : ℕ) → List ℕ → List ℕ
nodes_tally s zero t = t
nodes_tally s (suc m) t = node_tally s m (nodes_tally s m t)
