-- One step of a stack of levels, the leaf's first, as the original takes it: `advance`, with its `dig`.
use Rattle.std.specs.Prelude.{Bool, true, false, cond, List, [], ◌∷◌, ℕ, zero, suc, ◌+◌, ◌*◌, get_or}
use Rattle.meaning.specs.Limits.{node_cells}
use Rattle.meaning.specs.Lent.{Level, no_level}
use Rattle.index.specs.Index.{first, advanced, finished, place}

-- a stack after a step, and whether any level is left
pub record Moved : Type 0 where
  pub stack : List Level
  pub on : Bool

abbrev pub moves : List Level → Bool → Moved
moves st t = record { stack = st; on = t }

-- the cell that the first level is at
unfoldable pub current : (cells : List ℕ) → List Level → ℕ
current cs [] = 0
current cs (l ∷ ls) = get_or cs (node_cells * l.node + place l.index) 0

-- a level at a node, where it begins
abbrev pub begun : (used : List ℕ) → (back : Bool) → (node : ℕ) → Level
begun us b n = record { node = n; index = first b (get_or us n 0) }

-- k levels more, each at the node that the one above it is at
unfoldable pub digging : (cells used : List ℕ) → (back : Bool) → (k : ℕ) → List Level → List Level
digging cs us b zero st = st
digging cs us b (suc k) st = digging cs us b k (begun us b (current cs st) ∷ st)

-- k levels more, all 0
unfoldable pub emptied : (k : ℕ) → List Level → List Level
emptied zero st = st
emptied (suc k) st = emptied k (no_level ∷ st)

-- k levels that have finished, above them a stack that has moved
unfoldable pub renewing : (cells used : List ℕ) → (back : Bool) → (k : ℕ) → Moved → Moved
renewing cs us b k r = cond r.on (moves (digging cs us b k r.stack) true) (moves (emptied k r.stack) false)

unfoldable pub advancing : (cells used : List ℕ) → (back : Bool) → List Level → Moved
advancing cs us b [] = moves [] false
advancing cs us b (l ∷ ls) =
    let z = advanced b l.index in
    cond (finished b (get_or us l.node 0) z) (renewing cs us b 1 (advancing cs us b ls)) (moves (record { node = l.node; index = z } ∷ ls) true)
