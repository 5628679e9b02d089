-- What the code does to the levels. A level's place is k; the level above it, nearer to the root, stands at k + 1.
use Rattle.std.specs.Prelude.{Bool, List, ℕ, ◌+◌, ◌*◌, get_or, set, ℤ, pos}
use Rattle.meaning.specs.Limits.{node_cells}
use Rattle.index.specs.Index.{first, advanced, finished, place, along, Stays}
use Rattle.level.specs.declared.Levels.{Levels}

abbrev pub levels : List ℕ → List ℤ → Levels
levels ns is = record { nodes = ns; indices = is }

-- the cell that a level is at
unfoldable pub current_at : (cells : List ℕ) → Levels → (k : ℕ) → ℕ
current_at cs w k = get_or cs (node_cells * get_or w.nodes k 0 + place (get_or w.indices k (pos 0))) 0

unfoldable pub pushed : (used : List ℕ) → (back : Bool) → Levels → (k node : ℕ) → Levels
pushed us b w k n = levels (set w.nodes k n) (set w.indices k (first b (get_or us n 0)))

unfoldable pub popped : Levels → (k : ℕ) → Levels
popped w k = levels (set w.nodes k 0) (set w.indices k (pos 0))

unfoldable pub dug : (cells used : List ℕ) → (back : Bool) → Levels → (k : ℕ) → Levels
dug cs us b w k = pushed us b w k (current_at cs w (k + 1))

unfoldable pub index_after : (back : Bool) → Levels → (k : ℕ) → ℤ
index_after b w k = advanced b (get_or w.indices k (pos 0))

unfoldable pub stepped_at : (back : Bool) → Levels → (k : ℕ) → Levels
stepped_at b w k = levels w.nodes (set w.indices k (index_after b w k))

-- the level has finished after the step
unfoldable pub ended_at : (used : List ℕ) → (back : Bool) → Levels → (k : ℕ) → Bool
ended_at us b w k = finished b (get_or us (get_or w.nodes k 0) 0) (index_after b w k)

-- ---- so many steps at once

-- the cell of its node that a level is at
unfoldable pub place_at : (indices : List ℤ) → (k : ℕ) → ℕ
place_at is k = place (get_or is k (pos 0))

-- m steps of a level stay in its node
unfoldable pub StaysAt : (used : List ℕ) → (back : Bool) → Levels → (k m : ℕ) → Type 0
StaysAt us b w k m = Stays b (get_or us (get_or w.nodes k 0) 0) (get_or w.indices k (pos 0)) m

-- the indices after m steps of a level that stay in its node
unfoldable pub passed_at : (back : Bool) → (indices : List ℤ) → (k m : ℕ) → List ℤ
passed_at b is k m = set is k (pos (along b (place_at is k) m))
