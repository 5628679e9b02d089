-- What a node store keeps through every operation: clauses on each node by itself and the links to it. Which nodes are reached, and how many are free, follows.
use Rattle.std.specs.Prelude.{◌≡◌, ◌≢◌, List, [], ℕ, ◌+◌, ◌≤◌, ◌<◌, length, get_or, take}
use Rattle.meaning.specs.Limits.{node_cells, free_kind}
use Rattle.meaning.specs.Counting.{sum_to, bit, occurrences}
use Rattle.meaning.specs.Lent.{kind_of, used_of, cell_of, is_free, Lent, free_nodes}
use Rattle.meaning.specs.Links.{cell_links}
use Rattle.store.specs.Store.{Store, node_count}
use Rattle.store.specs.Ready.{Sized}

abbrev pub count_in : Store → (n : ℕ) → ℕ
count_in s n = get_or s.counts n 0

-- the links to n from cells
abbrev pub links_in : Store → (n : ℕ) → ℕ
links_in s n = sum_to (node_count s) (λ m. cell_links s.nodes m n)

-- roots: the links from slots and walks, and those that a caller is about to store.
-- pending: the nodes that have lost their last link and stand on the free order, but are yet to be scanned.
pub record Keeping (s : Store) (roots pending : List ℕ) : Type 0 where
  pub sized : Sized s
  -- each node's count is the links to it
  pub counted : (n : ℕ) → n < node_count s → count_in s n ≡ occurrences n roots + links_in s n
  -- the free order has each free node once, each pending one, and nothing else
  pub room : s.free ≤ length s.order
  pub ordered : (n : ℕ) → occurrences n (take s.free s.order) ≡ bit (is_free s.nodes n) + occurrences n pending
  -- a node in use is linked, or pending
  pub linked : (n : ℕ) → kind_of s.nodes n ≢ free_kind → 1 ≤ count_in s n + occurrences n pending
  -- what is linked is in use
  pub rooted : (n : ℕ) → 1 ≤ occurrences n roots → kind_of s.nodes n ≢ free_kind
  pub celled : (m n : ℕ) → 1 ≤ cell_links s.nodes m n → kind_of s.nodes n ≢ free_kind
  -- a node in use has at most 32 cells in use, and its others are 0
  pub fits : (n : ℕ) → kind_of s.nodes n ≢ free_kind → used_of s.nodes n ≤ node_cells
  pub spare : (n i : ℕ) → kind_of s.nodes n ≢ free_kind → used_of s.nodes n ≤ i → i < node_cells → cell_of s.nodes n i ≡ 0
  -- used and count of a free node are 0
  pub free_used : (n : ℕ) → kind_of s.nodes n ≡ free_kind → used_of s.nodes n ≡ 0
  pub free_count : (n : ℕ) → kind_of s.nodes n ≡ free_kind → count_in s n ≡ 0
  -- a pending node is in use, pending once, and has no link
  pub pending_used : (n : ℕ) → 1 ≤ occurrences n pending → kind_of s.nodes n ≢ free_kind
  pub pending_once : (n : ℕ) → occurrences n pending ≤ 1
  pub pending_count : (n : ℕ) → 1 ≤ occurrences n pending → count_in s n ≡ 0
  -- something falls along links, as the height does
  pub rank : ℕ → ℕ
  pub falls : (m n : ℕ) → 1 ≤ cell_links s.nodes m n → rank n < rank m

-- nothing is pending: so it is between operations
abbrev pub Kept : Store → (roots : List ℕ) → Type 0
Kept s roots = Keeping s roots []

-- the store of a lent state, with its number of free nodes counted
abbrev pub store_in : Lent → Store
store_in s = record { nodes = s.nodes; counts = s.counts; order = s.order; free = free_nodes s.nodes }
