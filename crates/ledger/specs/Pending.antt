-- What is pending while a link is given up: the free order is the queue of what is yet to be scanned.
use Rattle.std.specs.Prelude.{List, [], ◌∷◌, ◌++◌, ℕ, zero, suc, take, drop}
use Rattle.store.specs.Store.{Store}
use Rattle.sweep.specs.Sweep.{lower}
use Rattle.ledger.specs.Kept.{count_in}

-- the free order from a place upwards: what is pending when those below have been scanned
abbrev pub waiting : Store → (at : ℕ) → List ℕ
waiting s at = drop at (take s.free s.order)

-- what comes on the free order when a node of that count loses a link
unfoldable pub fallen : (count n : ℕ) → List ℕ
fallen zero n = []
fallen (suc zero) n = n ∷ []
fallen (suc (suc c)) n = []

-- and when each node of a list loses one, in turn
unfoldable pub all_fallen : Store → (ns : List ℕ) → List ℕ
all_fallen s [] = []
all_fallen s (n ∷ ns) = fallen (count_in s n) n ++ all_fallen (lower s n) ns
