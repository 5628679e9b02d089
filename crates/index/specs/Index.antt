-- The signed index of a walk's level: where it begins, how it moves, when it has finished, and the cell that it names.
use Rattle.std.specs.Prelude.{◌≡◌, Bool, true, false, cond, ℕ, ◌+◌, ◌-◌, ◌≤◌, ◌<◌, ℤ, pos, negsuc, ◌+ℤ◌, ◌-ℤ◌}
use Rattle.std.specs.Int.Signed.{lt_z, le_z}
use Rattle.meaning.specs.Limits.{node_cells}

-- at 0, or from the back at the last of `used` cells, which is -1 where there is none
unfoldable pub first : (back : Bool) → (used : ℕ) → ℤ
first false u = pos 0
first true u = pos u -ℤ pos 1

-- one up, held past the last cell; or one down, stopped at -1
unfoldable pub advanced : (back : Bool) → ℤ → ℤ
advanced false z = cond (lt_z z (pos node_cells)) (z +ℤ pos 1) (pos node_cells)
advanced true z = cond (lt_z z (pos 0)) (negsuc 0) (z -ℤ pos 1)

-- none of the cells in use
unfoldable pub finished : (back : Bool) → (used : ℕ) → ℤ → Bool
finished false u z = le_z (pos u) z
finished true u z = lt_z z (pos 0)

-- 0 below zero
unfoldable pub place : ℤ → ℕ
place (pos n) = n
place (negsuc n) = 0

-- ---- so many steps at once

-- the cell that m steps from cell i lead to
unfoldable pub along : (back : Bool) → (i m : ℕ) → ℕ
along false i m = i + m
along true i m = i - m

-- they pass no end of a node
unfoldable pub Within : (back : Bool) → (i m : ℕ) → Type 0
Within false i m = i + m < node_cells
Within true i m = (m ≤ i) × (i < node_cells)

-- nor the last cell in use
unfoldable pub InUse : (back : Bool) → (used i m : ℕ) → Type 0
InUse false u i m = i + m < u
InUse true u i m = m ≤ i

-- an index names a cell past the first, and m steps from there stay among the cells in use
pub record Stays (back : Bool) (used : ℕ) (z : ℤ) (m : ℕ) : Type 0 where
  pub cell : z ≡ pos (place z)
  pub past : 0 < place z
  pub within : Within back (place z) m
  pub in_use : InUse back used (place z) m
