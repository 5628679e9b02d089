-- What a lowered count makes of the store: what nothing reaches any longer goes to the free order, which is its own queue.
use Rattle.std.specs.Prelude.{cond, List, [], ◌∷◌, ℕ, zero, suc, ◌+◌, ◌-◌, ltb, length, get_or, set}
use Rattle.meaning.specs.Limits.{free_kind}
use Rattle.store.specs.Store.{Store, nodes_of, children_of}

-- a node of that count loses a link; with its last it goes on the free order, to be scanned there
unfoldable pub lower_from : (count : ℕ) → Store → (n : ℕ) → Store
lower_from zero s n = s
lower_from (suc zero) s n = record { nodes = s.nodes; counts = set s.counts n 0; order = set s.order s.free n; free = s.free + 1 }
lower_from (suc (suc c)) s n = record { nodes = s.nodes; counts = set s.counts n (suc c); order = s.order; free = s.free }

unfoldable pub lower : Store → (n : ℕ) → Store
lower s n = lower_from (get_or s.counts n 0) s n

unfoldable pub lowers : Store → (ns : List ℕ) → Store
lowers s [] = s
lowers s (n ∷ ns) = lowers (lower s n) ns

-- a node becomes free: kind free, used 0 (its count is 0 by then)
unfoldable pub vacate : Store → (n : ℕ) → Store
vacate s n = record { nodes = nodes_of (set s.nodes.kinds n free_kind) (set s.nodes.used n 0) s.nodes.cells; counts = s.counts; order = s.order; free = s.free }

-- a node on the free order is scanned: it becomes free, and its children lose a link each
unfoldable pub scan : Store → (n : ℕ) → Store
scan s n = lowers (vacate s n) (children_of s.nodes n)

-- the places of the free order from `at` upwards are scanned, those that come on meanwhile too
unfoldable pub sweep : (fuel : ℕ) → Store → (at : ℕ) → Store
sweep zero s at = s
sweep (suc k) s at = cond (ltb at s.free) (sweep k (scan s (get_or s.order at 0)) (at + 1)) s

-- a link to node n is given up
unfoldable pub release : Store → (n : ℕ) → Store
release s n = sweep (length s.order - s.free) (lower s n) s.free
